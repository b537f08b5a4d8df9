-- The keys of two codes are taken away.
use Rattle.std.proofs.Common.{◌≡◌, ℕ, ◌<◌, ◌≤◌, Bool, true, false, not, cond, ◌&&◌, ◌||◌, eqb, ltb, List, length, get_or, set, get_or-set_same, get_or-set_other, ◌⊎◌, inl, inr, refl, sym, ap, ◌∙◌, arith}
use Rattle.std.proofs.lemmas.Bool.{eq-eqb, eqb-true, true≢false, false≢true}
use Rattle.f2_algebra.proofs.Chains.Tables.{◌⊻◌, same}
use Rattle.sparse_complex.specs.declared.links.Links.{Links}
use Rattle.sparse_complex.specs.Inner.Graph.{AreListed, width, has_arrow, IsFilled, IsCleared}
use Rattle.sparse_complex.specs.Inner.Stored.{no_key, key_of, is_live}
use Rattle.sparse_complex.proofs.StoredLemmas.{past}

pub key_of-set : (keys : List ℕ) (c k d : ℕ) → c < length keys
    → key_of (set keys c k) d ≡ cond (eqb d c) k (key_of keys d)
unfolding key_of
key_of-set keys c k d l = by (eqb d c) refl
  where
    by : (b : Bool) → eqb d c ≡ b → get_or (set keys c k) d no_key ≡ cond b k (get_or keys d no_key)
    by true e = ap (λ i. get_or (set keys c k) i no_key) (eqb-true d c e) ∙ get_or-set_same keys c k no_key l
    by false e = get_or-set_other keys c d k no_key (λ q. true≢false (sym (eq-eqb d c q) ∙ e))

-- a live code is below the number of keys
pub live-below : (keys : List ℕ) (c : ℕ) → is_live keys c ≡ true → c < length keys
live-below keys c l = by (lt_or_ge c (length keys))
  where
    lt_or_ge : (a b : ℕ) → (a < b) ⊎ (b ≤ a)
    lt_or_ge a b = le_or (ltb a b) refl
      where
        le_or : (t : Bool) → ltb a b ≡ t → (a < b) ⊎ (b ≤ a)
        le_or true e = inl (grind (arith, e))
        le_or false e = inr (grind (arith, e))

    by : (c < length keys) ⊎ (length keys ≤ c) → c < length keys
    by (inl h) = h
    by (inr h) = absurd (true≢false (sym l ∙ ap (λ k. not (eqb k no_key)) (past keys c h)))

-- the arrows after one key and then another are cut off
pub record IsCut (p q : ℕ) (old new : Links) : Type 0 where
  pub listed : AreListed new
  pub width : width new ≡ width old
  pub arrows : (s t : ℕ)
      → has_arrow new s t
      ≡ ((has_arrow old s t ⊻ ((has_arrow old s q && not (eqb s p)) && (has_arrow old p t && not (eqb t q))))
      && (not (eqb s p || eqb s q) && not (eqb t p || eqb t q)))

pub IsCut-cleared : (p q : ℕ) (l0 l1 l2 l3 l4 l5 : Links) → IsFilled p q l0 l1 → IsCleared (λ s _. eqb s p) l1 l2
    → IsCleared (λ _ t. eqb t p) l2 l3 → IsCleared (λ s _. eqb s q) l3 l4 → IsCleared (λ _ t. eqb t q) l4 l5
    → IsCut p q l0 l5
IsCut-cleared p q l0 l1 l2 l3 l4 l5 f a b c d = record {
  listed = d.listed;
  width = d.width ∙ c.width ∙ b.width ∙ a.width ∙ f.width;
  arrows = λ s t.
      d.arrows s t
      ∙ ap (λ h. h && not (eqb t q))
      (c.arrows s t
      ∙ ap (λ h. h && not (eqb s q))
      (b.arrows s t ∙ ap (λ h. h && not (eqb t p)) (a.arrows s t ∙ ap (λ h. h && not (eqb s p)) (f.arrows s t))))
      ∙ same 5 (λ h sp sq tp tq. (((h && not sp) && not tp) && not sq) && not tq)
      (λ h sp sq tp tq. h && (not (sp || sq) && not (tp || tq))) refl
      (has_arrow l0 s t ⊻ ((has_arrow l0 s q && not (eqb s p)) && (has_arrow l0 p t && not (eqb t q)))) (eqb s p)
      (eqb s q) (eqb t p) (eqb t q);
}

pub xor_cases : (a b c : Bool) → (a ⊻ (b && c)) ≡ true → (a ≡ true) ⊎ ((b ≡ true) × (c ≡ true))
xor_cases true b c h = inl refl
xor_cases false true true h = inr (refl, refl)
xor_cases false true false h = absurd (false≢true h)
xor_cases false false c h = absurd (false≢true h)
