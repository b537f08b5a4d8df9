-- Lists that have the codes that pass a test, each once, and the sets of their codes.
use Rattle.std.proofs.Common.{◌≡◌, ◌≢◌, ℕ, Bool, true, false, not, ◌&&◌, ◌||◌, eqb, List, [], ◌∷◌, Contains, refl, sym, ap, ◌∙◌, inl, inr}
use Rattle.std.specs.List.{filter}
use Rattle.std.proofs.lemmas.Bool.{eq-eqb, eqb-true, and_from, and_parts}
use Rattle.std.proofs.lemmas.Map.Views.{Contains-from_any}
use Rattle.f2_algebra.specs.Chain.{holds, of_codes}
use Rattle.f2_algebra.proofs.Chains.Sets.{any, holds-of_codes}
use Rattle.state_rank.proofs.MemberLemmas.{member_cases, no_member, member_of_filter, Contains-filter, pairs_filter}
use Rattle.sparse_complex.specs.Slices.{ListsOnce}

-- without x the list has the codes other than x
pub ListsOnce-without : (xs : List ℕ) (test : ℕ → Bool) (x : ℕ) → ListsOnce xs test
    → ListsOnce (filter (λ s. not (eqb s x)) xs) (λ s. test s && not (eqb s x))
ListsOnce-without xs test x l = record {
  each = λ c. (
    (λ m. let (stood, other) = member_of_filter (λ s. not (eqb s x)) xs c m in
        and_from (test c) (not (eqb c x)) ((l.each c).0 stood) other),
    (λ e. let (passes, other) = and_parts (test c) (not (eqb c x)) e in
        Contains-filter (λ s. not (eqb s x)) xs c ((l.each c).1 passes) other),
  );
  once = pairs_filter (λ b c. b ≢ c) (λ s. not (eqb s x)) xs l.once;
}

-- what is in a list is found there
pub any-Contains : (xs : List ℕ) (s : ℕ) → Contains xs s → any s xs ≡ true
any-Contains [] s m = absurd (no_member s m)
any-Contains (x ∷ xs) s m = elim (member_cases x xs s m) [
  | inl e ↦ ap (λ b. b || any s xs) (eq-eqb s x (sym e))
  | inr t ↦ ap (λ b. eqb s x || b) (any-Contains xs s t) ∙ either (eqb s x)
]
  where
    either : (b : Bool) → (b || true) ≡ true
    either true = refl
    either false = refl

-- the set of the list has exactly the codes that pass the test
pub holds-listed : (xs : List ℕ) (test : ℕ → Bool) → ListsOnce xs test → (s : ℕ) → holds (of_codes xs) s ≡ test s
holds-listed xs test l s =
    holds-of_codes xs s
    ∙ both (any s xs) (test s) (λ e. (l.each s).0 (Contains-from_any (λ a b. eqb-true a b) s xs e))
    (λ e. any-Contains xs s ((l.each s).1 e))
  where
    both : (a b : Bool) → (a ≡ true → b ≡ true) → (b ≡ true → a ≡ true) → a ≡ b
    both true b f g = sym (f refl)
    both false true f g = g refl
    both false false f g = refl
