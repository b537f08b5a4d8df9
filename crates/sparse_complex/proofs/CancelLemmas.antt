-- Cancelling an arrow: when the arrows from sources to targets are toggled, and those of the two keys are
-- taken out, the slice is the cancelled one.
use Rattle.std.proofs.Common.{◌≡◌, ℕ, suc, ℤ, ◌*◌, ◌≤◌, Bool, true, false, not, cond, ◌&&◌, eqb, List, [], ◌∷◌, map, length, Option, Some, None, is_some, refl, sym, ap, ap₂, ◌∙◌, arith}
use Rattle.std.specs.FinMap as fin
use Rattle.std.proofs.lemmas.Bool.{eq-eqb, eqb-true, false≢true}
use Rattle.f2_algebra.specs.Chain.{Chain, holds, codes, of_codes}
use Rattle.f2_algebra.specs.Complex.{arrow}
use Rattle.f2_algebra.specs.Cancel.{IsEntry}
use Rattle.f2_algebra.specs.Slice.{Slice, slice_complex, targets_in}
use Rattle.f2_algebra.proofs.Chains.Tables.{same, same_test}
use Rattle.f2_algebra.proofs.Chains.Sets.{any, any-is, any-filter, holds-of_codes, holds-nothing, holds-where_code, same_chain, IsApart}
use Rattle.sparse_complex.specs.declared.links.Links.{Links}
use Rattle.sparse_complex.specs.declared.slices.Cell.{Cell}
use Rattle.sparse_complex.specs.Slices.{other_sources, other_targets, fill}
use Rattle.sparse_complex.specs.Inner.Lists.{among, AreDistinct}
use Rattle.sparse_complex.specs.Inner.Graph.{targets, sources, others, code_at}
use Rattle.sparse_complex.specs.Inner.Stored.{no_key, key_of, is_live, slice_of, IsLiveKey, IsStoredByKey}
use Rattle.sparse_complex.proofs.ListLemmas.{in_head, in_tail, AreDistinct-filter}
use Rattle.sparse_complex.proofs.GraphLemmas.{has_arrow-sources, has_arrow-targets}
use Rattle.sparse_complex.proofs.StoredLemmas.{same_key, no_arrow-from, no_arrow-to}
use Rattle.sparse_complex.proofs.QueryLemmas.{distinct-source_codes, distinct-target_codes, among-source_codes, among-target_codes}
use Rattle.f2_algebra.proofs.Chains.Cardinality.{cardinality, cardinality-length, cardinality-of_codes}

-- ---- an entry of a slice
-- a code that has an arrow is a key of the map
key_of_arrow : (s : Slice) (p t : ℕ) → arrow (slice_complex s) p t ≡ true → fin.contains_key s p ≡ true
key_of_arrow s p t h = by (fin.get s p) refl h
  where
    by : (o : Option (ℤ × Chain)) → fin.get s p ≡ o → holds (targets_in o) t ≡ true → is_some o ≡ true
    by None e h = absurd (false≢true (sym (holds-nothing t) ∙ h))
    by (Some v) e h = refl

-- the other sources of y
holds-other_sources : (s : Slice) (x y p : ℕ)
    → holds (other_sources s x y) p ≡ (arrow (slice_complex s) p y && not (eqb p x))
unfolding other_sources holds codes
holds-other_sources s x y p =
    holds-of_codes _ p ∙ any-filter p (λ p. arrow (slice_complex s) p y && not (eqb p x)) (fin.keys s)
    ∙ by (arrow (slice_complex s) p y) (key_of_arrow s p y)
  where
    by : (a : Bool) → (a ≡ true → fin.contains_key s p ≡ true)
        → (any p (fin.keys s) && (a && not (eqb p x))) ≡ (a && not (eqb p x))
    by true h =
        ap (λ k. k && (true && not (eqb p x))) (sym (any-is p (fin.keys s)) ∙ sym (fin.contains_key-keys s p) ∙ h refl)
    by false h = same 1 (λ k. k && false) (λ k. false) refl (any p (fin.keys s))

-- the other targets of x
holds-other_targets : (s : Slice) (x y t : ℕ)
    → holds (other_targets s x y) t ≡ (arrow (slice_complex s) x t && not (eqb t y))
unfolding other_targets
holds-other_targets s x y t = holds-where_code (λ q. not (eqb q y)) ((slice_complex s).targets x) t

-- an arrow with its other sources and targets fits the complex of the slice
pub IsEntry-of_arrow : (s : Slice) (x y : ℕ) → arrow (slice_complex s) x y ≡ true
    → IsEntry (slice_complex s) (record { x = x; y = y; sources = other_sources s x y; targets = other_targets s x y })
IsEntry-of_arrow s x y h =
    record { arrows = h; other_sources = holds-other_sources s x y; other_targets = holds-other_targets s x y }

-- ---- the number of toggles
distinct-same : (xs : List ℕ) → AreDistinct xs → IsApart xs
distinct-same [] a = tt
distinct-same (x ∷ xs) a = (a.0, distinct-same xs a.1)

-- a chain with the elements of a list that are apart has as many codes
count-codes : (z : Chain) (xs : List ℕ) → AreDistinct xs → ((c : ℕ) → holds z c ≡ among c xs)
    → length (codes z) ≡ length xs
count-codes z xs a h = sym (cardinality-length z)
    ∙ ap cardinality (same_chain z (of_codes xs) (λ c. h c ∙ sym (holds-of_codes xs c)))
    ∙ cardinality-of_codes xs (distinct-same xs a)

pub among-others : (t y : ℕ) (ks : List ℕ) → among t (others y ks) ≡ (among t ks && not (eqb t y))
among-others t y ks = any-filter t (λ j. not (eqb j y)) ks

-- as many codes other than c as keys other than k
length-others : (cells : List Cell) (c k : ℕ) (ks : List ℕ)
    → ((j : ℕ) → among j ks ≡ true → eqb (code_at cells j) c ≡ eqb j k)
    → length (others c (map (code_at cells) ks)) ≡ length (others k ks)
length-others cells c k [] h = refl
length-others cells c k (j ∷ ks) h =
    by (eqb j k) (h j (in_head j ks)) (length-others cells c k ks (λ i m. h i (in_tail i j ks m)))
  where
    by : (b : Bool) → eqb (code_at cells j) c ≡ b → length (others c (map (code_at cells) ks)) ≡ length (others k ks)
        → length (cond (not (eqb (code_at cells j) c)) (code_at cells j ∷ others c (map (code_at cells) ks))
        (others c (map (code_at cells) ks))) ≡ length (cond (not b) (j ∷ others k ks) (others k ks))
    by true e r =
        ap (λ b. length (cond (not b) (code_at cells j ∷ others c (map (code_at cells) ks))
        (others c (map (code_at cells) ks)))) e ∙ r
    by false e r =
        ap (λ b. length (cond (not b) (code_at cells j ∷ others c (map (code_at cells) ks))
        (others c (map (code_at cells) ks)))) e ∙ ap suc r

module _ (keys : List ℕ) (cells : List Cell) (links : Links) (s : IsStoredByKey keys cells links) where
  -- a code is that of a live key if the key is that of the code
  pub code-test : (c k : ℕ) → is_live keys c ≡ true → IsLiveKey keys cells k
      → eqb (code_at cells k) c ≡ eqb k (key_of keys c)
  code-test c k l e = same_test _ _
      (λ h. eq-eqb k (key_of keys c) (sym e ∙ ap (key_of keys) (eqb-true (code_at cells k) c h)))
      (λ h. eq-eqb (code_at cells k) c (ap (code_at cells) (eqb-true k (key_of keys c) h) ∙ (s.keyed c l).1))

  -- codes are equal if their keys are
  pub key-test : (c d : ℕ) → is_live keys c ≡ true → is_live keys d ≡ true
      → eqb (key_of keys c) (key_of keys d) ≡ eqb c d
  key-test c d l m = same_test _ _
      (λ h. eq-eqb c d (same_key keys cells links s c d l m (eqb-true (key_of keys c) (key_of keys d) h)))
      (λ h. eq-eqb (key_of keys c) (key_of keys d) (ap (key_of keys) (eqb-true c d h)))

  pub fill-stored : (x y : ℕ) → is_live keys x ≡ true → is_live keys y ≡ true
      → fill (slice_of keys cells links) x y
      ≡ length (others (key_of keys x) (sources links (key_of keys y)))
      * length (others (key_of keys y) (targets links (key_of keys x)))
  fill-stored x y l m =
      let p = key_of keys x in
      let q = key_of keys y in
      ap₂ (λ a b. a * b)
      (count-codes (other_sources (slice_of keys cells links) x y) (others x (map (code_at cells) (sources links q)))
      (AreDistinct-filter (λ j. not (eqb j x)) _ (distinct-source_codes keys cells links s q))
      (λ c. holds-other_sources (slice_of keys cells links) x y c
      ∙ ap (λ b. b && not (eqb c x)) (sym (among-source_codes keys cells links s y m c))
      ∙ sym (among-others c x (map (code_at cells) (sources links q))))
      ∙ length-others cells x p (sources links q)
      (λ j i. code-test x j l (s.ends j q (sym (has_arrow-sources links s.listed j q) ∙ i)).0))
      (count-codes (other_targets (slice_of keys cells links) x y) (others y (map (code_at cells) (targets links p)))
      (AreDistinct-filter (λ j. not (eqb j y)) _ (distinct-target_codes keys cells links s p))
      (λ c. holds-other_targets (slice_of keys cells links) x y c
      ∙ ap (λ b. b && not (eqb c y)) (sym (among-target_codes keys cells links s x l c))
      ∙ sym (among-others c y (map (code_at cells) (targets links p))))
      ∙ length-others cells y q (targets links p)
      (λ j i. code-test y j m (s.ends p j (sym (has_arrow-targets links s.listed p j) ∙ i)).1))

  -- with no source, or no target, there is nothing to toggle
  no_fill-from : (x y : ℕ) → key_of keys x ≡ no_key → fill (slice_of keys cells links) x y ≡ 0
  no_fill-from x y e = ap (λ n. length (codes (other_sources (slice_of keys cells links) x y)) * n)
      (count-codes (other_targets (slice_of keys cells links) x y) [] tt
      (λ c. holds-other_targets (slice_of keys cells links) x y c
      ∙ ap (λ b. b && not (eqb c y)) (no_arrow-from keys cells links s x c e)))
      ∙ omega arith

  no_fill-to : (x y : ℕ) → key_of keys y ≡ no_key → fill (slice_of keys cells links) x y ≡ 0
  no_fill-to x y e = ap (λ n. n * length (codes (other_targets (slice_of keys cells links) x y)))
      (count-codes (other_sources (slice_of keys cells links) x y) [] tt
      (λ c. holds-other_sources (slice_of keys cells links) x y c
      ∙ ap (λ b. b && not (eqb c x)) (no_arrow-to keys cells links s c y e)))
      ∙ omega arith

  pub room-from : (x y n : ℕ) → key_of keys x ≡ no_key → fill (slice_of keys cells links) x y ≤ n
  room-from x y n e = let z = no_fill-from x y e in omega arith

  pub room-to : (x y n : ℕ) → key_of keys y ≡ no_key → fill (slice_of keys cells links) x y ≤ n
  room-to x y n e = let z = no_fill-to x y e in omega arith
