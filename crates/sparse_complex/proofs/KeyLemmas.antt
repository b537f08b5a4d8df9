-- Keys.
use Rattle.std.proofs.Common.{◌≡◌, ℕ, zero, suc, ℤ, ◌+◌, ◌<◌, ◌≤◌, Bool, true, false, not, cond, eqb, List, length, set, length-set, replicate, ◌⊎◌, inl, inr, refl, sym, ap, subst, ◌∙◌, arith}
use Rattle.std.proofs.lemmas.List.{length-replicate}
use Rattle.std.proofs.lemmas.Bool.{eq-eqb, eqb-true, ne_eqb, true≢false}
use Rattle.f2_algebra.specs.Complex.{Complex}
use Rattle.sparse_complex.specs.declared.slices.Cell.{Cell}
use Rattle.sparse_complex.specs.Inner.Graph.{code_at}
use Rattle.sparse_complex.specs.Inner.Stored.{no_key, most_keys, key_of, is_live}
use Rattle.sparse_complex.specs.Inner.Built.{AreCells, AreKeys}
use Rattle.sparse_complex.proofs.ArrowChangeLemmas.{lt_or_eq}
use Rattle.sparse_complex.proofs.TakenKeyLemmas.{key_of-set}
use Rattle.sparse_complex.proofs.BuildLemmas.{code-below, once}

-- the cells before the place i have their keys
pub record KeysPlace (n : ℕ) (cells : List Cell) (i : ℕ) (keys : List ℕ) : Type 0 where
  pub long : length keys ≡ n
  pub placed : (k : ℕ) → k < i → key_of keys (code_at cells k) ≡ k
  pub live : (c : ℕ) → is_live keys c ≡ true → (key_of keys c < i) × (code_at cells (key_of keys c) ≡ c)

key_of-replicate : (n c : ℕ) → key_of (replicate n no_key) c ≡ no_key
unfolding key_of
key_of-replicate zero c = refl
key_of-replicate (suc n) zero = refl
key_of-replicate (suc n) (suc c) = key_of-replicate n c

pub keys-start : (n : ℕ) (cells : List Cell) (keys : List ℕ) → keys ≡ replicate n no_key → KeysPlace n cells 0 keys
keys-start n cells keys e = record {
  long = ap length e ∙ length-replicate n no_key;
  placed = λ k l. absurd (omega arith);
  live = λ c l. absurd (true≢false (sym l ∙ ap (λ ks. is_live ks c) e
      ∙ ap (λ k. not (eqb k no_key)) (key_of-replicate n c)));
}

pub keys-step : (D : Complex ℤ) (n : ℕ) (cells : List Cell) (s : AreCells D n cells) (i : ℕ) → i < length cells
    → length cells ≤ most_keys → (keys : List ℕ) → KeysPlace n cells i keys
    → KeysPlace n cells (i + 1) (set keys (code_at cells i) i)
keys-step D n cells s i l small keys p = record {
  long = length-set keys (code_at cells i) i ∙ p.long;
  placed = λ k m. new (code_at cells k) ∙ by k (lt_or_eq k i m);
  live = λ c h. live' c (eqb c (code_at cells i)) refl (sym (ap (λ k. not (eqb k no_key)) (new c)) ∙ h);
}
  where
    in_keys : code_at cells i < length keys
    in_keys = subst (λ m. code_at cells i < m) (sym p.long) (code-below D n cells s i l)

    new : (c : ℕ) → key_of (set keys (code_at cells i) i) c ≡ cond (eqb c (code_at cells i)) i (key_of keys c)
    new c = key_of-set keys (code_at cells i) i c in_keys

    by : (k : ℕ) → (k < i) ⊎ (k ≡ i)
        → cond (eqb (code_at cells k) (code_at cells i)) i (key_of keys (code_at cells k)) ≡ k
    by k (inl less) =
        ap (λ b. cond b i (key_of keys (code_at cells k)))
        (ne_eqb (code_at cells k) (code_at cells i)
        (λ e. let q = once D n cells s k i (omega arith) l e in omega arith))
        ∙ p.placed k less
    by k (inr is) =
        ap (λ b. cond b i (key_of keys (code_at cells k)))
        (eq-eqb (code_at cells k) (code_at cells i) (ap (code_at cells) is)) ∙ sym is

    live' : (c : ℕ) (b : Bool) → eqb c (code_at cells i) ≡ b
        → not (eqb (cond (eqb c (code_at cells i)) i (key_of keys c)) no_key) ≡ true
        → (key_of (set keys (code_at cells i) i) c < i + 1)
        × (code_at cells (key_of (set keys (code_at cells i) i) c) ≡ c)
    live' c true e h =
        let is : key_of (set keys (code_at cells i) i) c ≡ i = new c ∙ ap (λ b. cond b i (key_of keys c)) e in
        (omega arith, ap (code_at cells) is ∙ sym (eqb-true c (code_at cells i) e))
    live' c false e h =
        let is : key_of (set keys (code_at cells i) i) c ≡ key_of keys c =
        new c ∙ ap (λ b. cond b i (key_of keys c)) e in
        let was = p.live c (sym (ap (λ b. not (eqb (cond b i (key_of keys c)) no_key)) e) ∙ h) in
        let below = was.0 in
        (omega arith, ap (code_at cells) is ∙ was.1)

pub keys-end : (n : ℕ) (cells : List Cell) (keys : List ℕ) → length cells ≤ most_keys
    → KeysPlace n cells (length cells) keys → AreKeys keys cells
keys-end n cells keys small p = record { small = small; placed = p.placed; live = p.live }
