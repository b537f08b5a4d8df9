-- The lists that the queries answer.
use Rattle.std.proofs.Common.{◌≡◌, ◌≢◌, ℕ, ◌≤◌, Bool, true, false, ◌+◌, ◌<◌, List, [], ◌∷◌, ◌++◌, map, length, length-append, get_or, Contains, AllPairs, refl, sym, ap, ap₂, subst, ◌∙◌, arith, inl, inr}
use Rattle.std.proofs.lemmas.Bool.{true≢false, false≢true}
use Rattle.std.specs.declared.result.Result.{Result}
use Rattle.std.specs.declared.result.Result.TheVariants.{Ok, Err}
use Rattle.std.specs.Result.{OnErr}
use Rattle.std.proofs.lemmas.List.{get_or_append_left}
use Rattle.std.proofs.lemmas.List.Elements.{Contains-get_or, Contains-append_left}
use Rattle.f2_algebra.specs.Complex.{arrow}
use Rattle.f2_algebra.specs.Slice.{slice_complex}
use Rattle.state_rank.proofs.MemberLemmas.{member_cases, member_head, member_tail, no_member, pairs_cons}
use Rattle.sparse_complex.specs.declared.links.Links.{Links}
use Rattle.sparse_complex.specs.declared.slices.Cell.{Cell}
use Rattle.sparse_complex.specs.Slices.{ListsOnce, ListsSome}
use Rattle.sparse_complex.specs.Inner.Lists.{among, AreDistinct}
use Rattle.sparse_complex.specs.Inner.Graph.{width, targets, sources, has_arrow, code_at, IsPrefix}
use Rattle.sparse_complex.specs.Inner.Stored.{key_of, is_live, slice_of, IsStoredByKey, IsFirst}
use Rattle.sparse_complex.proofs.ListLemmas.{in_head, in_tail, in_cases}
use Rattle.sparse_complex.proofs.GraphLemmas.{among-map, among-of_map, AreDistinct-map, has_arrow-targets, has_arrow-sources, has_arrow-from, distinct-targets, distinct-sources}
use Rattle.sparse_complex.proofs.StoredLemmas.{arrow-keys, ends-live}
use Rattle.f2_algebra.proofs.Chains.Tables.{same_test}

-- ---- membership in two spellings
pub Contains-among : (xs : List ℕ) (c : ℕ) → among c xs ≡ true → Contains xs c
Contains-among [] c h = absurd (false≢true h)
Contains-among (x ∷ xs) c h = elim (in_cases c x xs h) [
  | inl e ↦ subst (λ d. Contains (x ∷ xs) d) (sym e) (member_head x xs)
  | inr t ↦ member_tail x xs c (Contains-among xs c t)
]

pub among-Contains : (xs : List ℕ) (c : ℕ) → Contains xs c → among c xs ≡ true
among-Contains [] c m = absurd (no_member c m)
among-Contains (x ∷ xs) c m = elim (member_cases x xs c m) [
  | inl e ↦ ap (λ d. among d (x ∷ xs)) (sym e) ∙ in_head x xs
  | inr t ↦ in_tail c x xs (among-Contains xs c t)
]

pub pairs_distinct : (xs : List ℕ) → AreDistinct xs → AllPairs (λ b c. b ≢ c) xs
pairs_distinct [] a = λ i j d l m. absurd (omega arith)
pairs_distinct (x ∷ xs) a =
    pairs_cons (λ b c. b ≢ c) x xs (λ y m e. true≢false (sym (ap (λ z. among z xs) e ∙ among-Contains xs y m) ∙ a.0))
    (pairs_distinct xs a.1)

pub ListsOnce-distinct : (xs : List ℕ) (test : ℕ → Bool) → AreDistinct xs → ((c : ℕ) → among c xs ≡ test c)
    → ListsOnce xs test
ListsOnce-distinct xs test a same =
    record {
      each = λ c. ((λ m. sym (same c) ∙ among-Contains xs c m), (λ h. Contains-among xs c (same c ∙ h)));
      once = pairs_distinct xs a;
    }

pub ListsOnce-none : (test : ℕ → Bool) → ((c : ℕ) → test c ≡ false) → ListsOnce [] test
ListsOnce-none test none = ListsOnce-distinct [] test tt (λ c. sym (none c))

-- ---- sources and targets
module _ (keys : List ℕ) (cells : List Cell) (links : Links) (s : IsStoredByKey keys cells links) where
  -- keys that have arrows differ if their codes are one
  codes-distinct : (ks : List ℕ) → ((k : ℕ) → among k ks ≡ true → key_of keys (code_at cells k) ≡ k) → AreDistinct ks
      → AreDistinct (map (code_at cells) ks)
  codes-distinct ks live a =
      AreDistinct-map (code_at cells) ks (λ p q m n e. sym (live p m) ∙ ap (key_of keys) e ∙ live q n) a

  pub distinct-source_codes : (q : ℕ) → AreDistinct (map (code_at cells) (sources links q))
  distinct-source_codes q =
      codes-distinct (sources links q) (λ p m. (s.ends p q (sym (has_arrow-sources links s.listed p q) ∙ m)).0)
      (distinct-sources links s.listed q)

  pub distinct-target_codes : (p : ℕ) → AreDistinct (map (code_at cells) (targets links p))
  distinct-target_codes p =
      codes-distinct (targets links p) (λ q m. (s.ends p q (sym (has_arrow-targets links s.listed p q) ∙ m)).1)
      (distinct-targets links s.listed p)

  pub among-source_codes : (y : ℕ) → is_live keys y ≡ true → (c : ℕ)
      → among c (map (code_at cells) (sources links (key_of keys y)))
      ≡ arrow (slice_complex (slice_of keys cells links)) c y
  among-source_codes y l c = same_test _ _ forth back
    where
      forth : among c (map (code_at cells) (sources links (key_of keys y))) ≡ true
          → arrow (slice_complex (slice_of keys cells links)) c y ≡ true
      forth m =
          let (p, in_sources, is) = among-of_map (code_at cells) (sources links (key_of keys y)) c m in
          let h : has_arrow links p (key_of keys y) ≡ true =
          sym (has_arrow-sources links s.listed p (key_of keys y)) ∙ in_sources in
          ap₂ (arrow (slice_complex (slice_of keys cells links))) (sym is) (sym (s.keyed y l).1)
          ∙ arrow-keys keys cells links s p (key_of keys y) h

      back : arrow (slice_complex (slice_of keys cells links)) c y ≡ true
          → among c (map (code_at cells) (sources links (key_of keys y))) ≡ true
      back h =
          let e = ends-live keys cells links s c y h in
          ap (λ k. among k (map (code_at cells) (sources links (key_of keys y)))) (sym (s.keyed c e.0).1)
          ∙ among-map (code_at cells) (sources links (key_of keys y)) (key_of keys c)
          (has_arrow-sources links s.listed (key_of keys c) (key_of keys y) ∙ e.2)

  pub among-target_codes : (x : ℕ) → is_live keys x ≡ true → (c : ℕ)
      → among c (map (code_at cells) (targets links (key_of keys x)))
      ≡ arrow (slice_complex (slice_of keys cells links)) x c
  among-target_codes x l c = same_test _ _ forth back
    where
      forth : among c (map (code_at cells) (targets links (key_of keys x))) ≡ true
          → arrow (slice_complex (slice_of keys cells links)) x c ≡ true
      forth m =
          let (q, in_targets, is) = among-of_map (code_at cells) (targets links (key_of keys x)) c m in
          let h : has_arrow links (key_of keys x) q ≡ true =
          sym (has_arrow-targets links s.listed (key_of keys x) q) ∙ in_targets in
          ap₂ (arrow (slice_complex (slice_of keys cells links))) (sym (s.keyed x l).1) (sym is)
          ∙ arrow-keys keys cells links s (key_of keys x) q h

      back : arrow (slice_complex (slice_of keys cells links)) x c ≡ true
          → among c (map (code_at cells) (targets links (key_of keys x))) ≡ true
      back h =
          let e = ends-live keys cells links s x c h in
          ap (λ k. among k (map (code_at cells) (targets links (key_of keys x)))) (sym (s.keyed c e.1).1)
          ∙ among-map (code_at cells) (targets links (key_of keys x)) (key_of keys c)
          (has_arrow-targets links s.listed (key_of keys x) (key_of keys c) ∙ e.2)

  pub ListsOnce-sources : (y : ℕ) → is_live keys y ≡ true
      → ListsOnce (map (code_at cells) (sources links (key_of keys y)))
      (λ c. arrow (slice_complex (slice_of keys cells links)) c y)
  ListsOnce-sources y l = ListsOnce-distinct _ _ (distinct-source_codes (key_of keys y)) (among-source_codes y l)

  pub ListsOnce-targets : (x : ℕ) → is_live keys x ≡ true
      → ListsOnce (map (code_at cells) (targets links (key_of keys x)))
      (arrow (slice_complex (slice_of keys cells links)) x)
  ListsOnce-targets x l = ListsOnce-distinct _ _ (distinct-target_codes (key_of keys x)) (among-target_codes x l)

  -- if the cursor is past all keys there is no arrow
  pub none_left : (cursor : ℕ) → IsFirst links cursor → width links ≤ cursor → (c d : ℕ)
      → arrow (slice_complex (slice_of keys cells links)) c d ≡ false
  none_left cursor f l c d = by (arrow (slice_complex (slice_of keys cells links)) c d) refl
    where
      by : (b : Bool) → arrow (slice_complex (slice_of keys cells links)) c d ≡ b → b ≡ false
      by true h =
          let e = ends-live keys cells links s c d h in
          let k_in = has_arrow-from links s.listed (key_of keys c) (key_of keys d) e.2 in
          absurd (true≢false (sym e.2 ∙ f.none_before (key_of keys c) (key_of keys d) (omega arith)))
      by false h = refl

-- ---- a list that is not whole
-- what holds is left after an error too
pub on_err-from : {T E P : Type 0} (r : Result T E) → P → OnErr r P
on_err-from (Ok v) p = tt
on_err-from (Err e) p = p

pub ListsSome-prefix : (xs ys : List ℕ) (test : ℕ → Bool) → IsPrefix xs ys → ListsOnce ys test → ListsSome xs test
ListsSome-prefix xs ys test p l = record {
  each = λ k d low. (l.each (get_or xs k d)).0
      (subst (λ zs. Contains zs (get_or xs k d)) p.1
      (Contains-append_left xs p.0 (get_or xs k d) (Contains-get_or xs k d low)));
  once = λ i j d below low.
      let lower : i < length xs = omega arith in
      let more : length (xs ++ p.0) ≡ length xs + length p.0 = length-append xs p.0 in
      let in_ys : j < length ys = subst (λ zs. j < length zs) p.1 (omega arith) in
      subst (λ (t : ℕ × ℕ). t.0 ≢ t.1) (λ k. (place i d lower k, place j d low k)) (l.once i j d below in_ys);
}
  where
    place : (i d : ℕ) → i < length xs → get_or ys i d ≡ get_or xs i d
    place i d low = ap (λ zs. get_or zs i d) (sym p.1) ∙ get_or_append_left xs p.0 d i low
