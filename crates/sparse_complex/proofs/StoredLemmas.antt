-- What the keys, the cells and the arrows between keys say of the degrees and arrows of a slice.
use Rattle.std.proofs.Common.{◌≡◌, ℕ, zero, suc, ℤ, ◌<◌, ◌≤◌, Bool, true, false, not, cond, ◌&&◌, eqb, ltb, nat_cmp, List, [], ◌∷◌, map, length, get_or, Option, Some, None, refl, sym, ap, ap₂, subst, ◌∙◌, arith}
use Rattle.std.specs.Cmp.{nat_cmp_total, unsigned_tied}
use Rattle.std.specs.FinMap as fin
use Rattle.std.specs.FinMap.Entries.{find}
use Rattle.std.proofs.lemmas.Bool.{eqb-true, ne_eqb, eq-eqb, and_parts, and_from}
use Rattle.f2_algebra.specs.Chain.{Chain, holds, of_codes}
use Rattle.f2_algebra.specs.Complex.{arrow}
use Rattle.f2_algebra.specs.Slice.{slice_complex, IsSlice, degree_in, targets_in}
use Rattle.f2_algebra.proofs.Chains.Sets.{holds-of_codes, holds-nothing}
use Rattle.sparse_complex.specs.declared.links.Links.{Links}
use Rattle.sparse_complex.specs.declared.slices.Cell.{Cell}
use Rattle.sparse_complex.specs.Inner.Lists.{no_id, among, node_at, head_at, outs}
use Rattle.sparse_complex.specs.Inner.Graph.{width, targets, has_arrow, no_cell, code_at}
use Rattle.sparse_complex.specs.Inner.Stored.{no_key, most_keys, key_of, is_live, maslov_at, target_codes, entry_of, entries_below, slice_of, IsLiveKey, IsStoredByKey, IsStored}
use Rattle.sparse_complex.proofs.WriteLemmas.{AreInLists-same}
use Rattle.sparse_complex.proofs.GraphLemmas.{among-map, among-of_map, has_arrow-targets, has_arrow-from, has_arrow-to}
use Rattle.f2_algebra.proofs.Chains.Tables.{same_test}

-- ---- the entries of live codes
find-below : (keys : List ℕ) (cells : List Cell) (links : Links) (n c : ℕ)
    → find nat_cmp c (entries_below keys cells links n)
    ≡ cond (ltb c n && is_live keys c)
    (Some (maslov_at cells (key_of keys c), target_codes cells links (key_of keys c))) None
find-below keys cells links zero c =
    ap (λ b. cond (b && is_live keys c)
    (Some (maslov_at cells (key_of keys c), target_codes cells links (key_of keys c))) None) (sym (none c))
  where
    none : (c : ℕ) → ltb c 0 ≡ false
    none c = grind arith
find-below keys cells links (suc n) c = by (is_live keys n) refl (eqb c n) refl (find-below keys cells links n c)
  where
    value : Option (ℤ × Chain)
    value = Some (maslov_at cells (key_of keys c), target_codes cells links (key_of keys c))

    below : (c n : ℕ) → eqb c n ≡ false → ltb c (suc n) ≡ ltb c n
    below c n e = grind arith

    here : (c n : ℕ) → eqb c n ≡ true → ltb c (suc n) ≡ true
    here c n e = grind arith

    not_below : (c n : ℕ) → eqb c n ≡ true → ltb c n ≡ false
    not_below c n e = grind arith

    by : (b : Bool) → is_live keys n ≡ b → (d : Bool) → eqb c n ≡ d
        → find nat_cmp c (entries_below keys cells links n)
        ≡ cond (ltb c n && is_live keys c)
        (Some (maslov_at cells (key_of keys c), target_codes cells links (key_of keys c))) None
        → find nat_cmp c (cond b (entry_of keys cells links n ∷ entries_below keys cells links n)
        (entries_below keys cells links n))
        ≡ cond (ltb c (suc n) && is_live keys c)
        (Some (maslov_at cells (key_of keys c), target_codes cells links (key_of keys c))) None
    by true l true e r =
        ap (λ t. cond t (Some (maslov_at cells (key_of keys n), target_codes cells links (key_of keys n)))
        (find nat_cmp c (entries_below keys cells links n))) (unsigned_tied c n ∙ e)
        ∙ ap (λ k. Some (maslov_at cells (key_of keys k), target_codes cells links (key_of keys k)))
        (sym (eqb-true c n e))
        ∙ sym (ap (λ t. cond t value None) (ap₂ (λ a b. a && b) (here c n e) (ap (is_live keys) (eqb-true c n e) ∙ l)))
    by true l false e r =
        ap (λ t. cond t (Some (maslov_at cells (key_of keys n), target_codes cells links (key_of keys n)))
        (find nat_cmp c (entries_below keys cells links n))) (unsigned_tied c n ∙ e)
        ∙ r ∙ ap (λ t. cond (t && is_live keys c) value None) (sym (below c n e))
    by false l true e r =
        r ∙ ap (λ t. cond (t && is_live keys c) value None) (not_below c n e)
        ∙ sym (ap (λ t. cond t value None) (ap₂ (λ a b. a && b) (here c n e) (ap (is_live keys) (eqb-true c n e) ∙ l)))
    by false l false e r = r ∙ ap (λ t. cond (t && is_live keys c) value None) (sym (below c n e))

-- a code past the keys is not live
pub past : (keys : List ℕ) (c : ℕ) → length keys ≤ c → key_of keys c ≡ no_key
unfolding key_of
past [] c l = refl
past (k ∷ keys) zero l = absurd (omega arith)
past (k ∷ keys) (suc c) l = past keys c (omega arith)

live_below : (keys : List ℕ) (c : ℕ) → (ltb c (length keys) && is_live keys c) ≡ is_live keys c
live_below keys c = by (ltb c (length keys)) refl
  where
    not_below : (c n : ℕ) → ltb c n ≡ false → n ≤ c
    not_below c n e = grind arith

    by : (b : Bool) → ltb c (length keys) ≡ b → (b && is_live keys c) ≡ is_live keys c
    by true e = refl
    by false e = sym (ap (λ k. not (eqb k no_key)) (past keys c (not_below c (length keys) e)))

module _ (keys : List ℕ) (cells : List Cell) (links : Links) where
  get-slice_of : (c : ℕ)
      → fin.get (slice_of keys cells links) c
      ≡ cond (is_live keys c) (Some (maslov_at cells (key_of keys c), target_codes cells links (key_of keys c))) None
  unfolding slice_of
  get-slice_of c =
      fin.get-from_entries nat_cmp_total (entries_below keys cells links (length keys)) c
      ∙ find-below keys cells links (length keys) c
      ∙ ap (λ b. cond b (Some (maslov_at cells (key_of keys c), target_codes cells links (key_of keys c))) None)
      (live_below keys c)

  -- the degree of a code in the slice
  pub degree-slice_of : (c : ℕ)
      → (slice_complex (slice_of keys cells links)).degree c
      ≡ cond (is_live keys c) (Some (maslov_at cells (key_of keys c))) None
  degree-slice_of c = ap degree_in (get-slice_of c) ∙ by (is_live keys c)
    where
      by : (b : Bool)
          → degree_in (cond b (Some (maslov_at cells (key_of keys c), target_codes cells links (key_of keys c))) None)
          ≡ cond b (Some (maslov_at cells (key_of keys c))) None
      by true = refl
      by false = refl

  -- its arrows
  pub arrow-slice_of : (c d : ℕ)
      → arrow (slice_complex (slice_of keys cells links)) c d
      ≡ (is_live keys c && among d (map (code_at cells) (targets links (key_of keys c))))
  arrow-slice_of c d = ap (λ o. holds (targets_in o) d) (get-slice_of c) ∙ by (is_live keys c)
    where
      by : (b : Bool)
          → holds (targets_in (cond b (Some (
            maslov_at cells (key_of keys c),
            target_codes cells links (key_of keys c),
          )) None)) d
          ≡ (b && among d (map (code_at cells) (targets links (key_of keys c))))
      by true = holds-of_codes (map (code_at cells) (targets links (key_of keys c))) d
      by false = holds-nothing d

-- ---- what is kept
module _ (keys : List ℕ) (cells : List Cell) (links : Links) (s : IsStoredByKey keys cells links) where
  -- a key that leads back to itself is the key of a live code
  pub live-code : (p : ℕ) → p < width links → IsLiveKey keys cells p → is_live keys (code_at cells p) ≡ true
  live-code p l e = let sm = s.small in ap not (ap (λ k. eqb k no_key) e ∙ ne_eqb p no_key (λ h. omega arith))

  -- the arrows of the slice are those between the keys
  pub arrow-stored : (c d : ℕ)
      → arrow (slice_complex (slice_of keys cells links)) c d
      ≡ ((is_live keys c && is_live keys d) && has_arrow links (key_of keys c) (key_of keys d))
  arrow-stored c d = arrow-slice_of keys cells links c d ∙ by (is_live keys c) refl
    where
      forth : is_live keys c ≡ true → among d (map (code_at cells) (targets links (key_of keys c))) ≡ true
          → (is_live keys d && has_arrow links (key_of keys c) (key_of keys d)) ≡ true
      forth l m =
          let (q, in_targets, is) = among-of_map (code_at cells) (targets links (key_of keys c)) d m in
          let h : has_arrow links (key_of keys c) q ≡ true =
          sym (has_arrow-targets links s.listed (key_of keys c) q) ∙ in_targets in
          let back : key_of keys d ≡ q = ap (key_of keys) (sym is) ∙ (s.ends (key_of keys c) q h).1 in
          and_from (is_live keys d) (has_arrow links (key_of keys c) (key_of keys d))
          (ap (is_live keys) (sym is)
          ∙ live-code q (has_arrow-to links s.listed (key_of keys c) q h) (s.ends (key_of keys c) q h).1)
          (ap (has_arrow links (key_of keys c)) back ∙ h)

      back : (is_live keys d && has_arrow links (key_of keys c) (key_of keys d)) ≡ true
          → among d (map (code_at cells) (targets links (key_of keys c))) ≡ true
      back h =
          let p = and_parts (is_live keys d) (has_arrow links (key_of keys c) (key_of keys d)) h in
          ap (λ k. among k (map (code_at cells) (targets links (key_of keys c)))) (sym (s.keyed d p.0).1)
          ∙ among-map (code_at cells) (targets links (key_of keys c)) (key_of keys d)
          (has_arrow-targets links s.listed (key_of keys c) (key_of keys d) ∙ p.1)

      by : (b : Bool) → is_live keys c ≡ b
          → (b && among d (map (code_at cells) (targets links (key_of keys c))))
          ≡ ((b && is_live keys d) && has_arrow links (key_of keys c) (key_of keys d))
      by true e = same_test _ _ (forth e) back
      by false e = refl

  -- an arrow between keys is an arrow between their codes
  pub arrow-keys : (p q : ℕ) → has_arrow links p q ≡ true
      → arrow (slice_complex (slice_of keys cells links)) (code_at cells p) (code_at cells q) ≡ true
  arrow-keys p q h =
      let e = s.ends p q h in
      arrow-stored (code_at cells p) (code_at cells q)
      ∙ and_from (is_live keys (code_at cells p) && is_live keys (code_at cells q))
      (has_arrow links (key_of keys (code_at cells p)) (key_of keys (code_at cells q)))
      (and_from (is_live keys (code_at cells p)) (is_live keys (code_at cells q))
      (live-code p (has_arrow-from links s.listed p q h) e.0) (live-code q (has_arrow-to links s.listed p q h) e.1))
      (ap₂ (has_arrow links) e.0 e.1 ∙ h)

  -- of live codes
  pub arrow-live : (c d : ℕ) → is_live keys c ≡ true → is_live keys d ≡ true
      → arrow (slice_complex (slice_of keys cells links)) c d ≡ has_arrow links (key_of keys c) (key_of keys d)
  arrow-live c d l m = arrow-stored c d
      ∙ ap (λ b. b && has_arrow links (key_of keys c) (key_of keys d)) (and_from (is_live keys c) (is_live keys d) l m)

  -- both ends of an arrow are live
  pub ends-live : (c d : ℕ) → arrow (slice_complex (slice_of keys cells links)) c d ≡ true
      → (is_live keys c ≡ true) × (is_live keys d ≡ true) × (has_arrow links (key_of keys c) (key_of keys d) ≡ true)
  ends-live c d h =
      let p = and_parts (is_live keys c && is_live keys d) (has_arrow links (key_of keys c) (key_of keys d))
      (sym (arrow-stored c d) ∙ h) in
      let q = and_parts (is_live keys c) (is_live keys d) p.0 in
      (q.0, q.1, p.1)

  -- a code that is not live has no arrow
  pub no_arrow-from : (c d : ℕ) → key_of keys c ≡ no_key → arrow (slice_complex (slice_of keys cells links)) c d ≡ false
  no_arrow-from c d e = arrow-stored c d
      ∙ ap (λ b. (not b && is_live keys d) && has_arrow links (key_of keys c) (key_of keys d))
      (eq-eqb (key_of keys c) no_key e)

  pub no_arrow-to : (c d : ℕ) → key_of keys d ≡ no_key → arrow (slice_complex (slice_of keys cells links)) c d ≡ false
  no_arrow-to c d e = arrow-stored c d
      ∙ ap (λ b. (is_live keys c && not b) && has_arrow links (key_of keys c) (key_of keys d))
      (eq-eqb (key_of keys d) no_key e) ∙ none (is_live keys c) (has_arrow links (key_of keys c) (key_of keys d))
    where
      none : (a b : Bool) → ((a && false) && b) ≡ false
      none true b = refl
      none false b = refl

  -- live codes with one key are one code
  pub same_key : (c d : ℕ) → is_live keys c ≡ true → is_live keys d ≡ true → key_of keys c ≡ key_of keys d → c ≡ d
  same_key c d l m e = sym (s.keyed c l).1 ∙ ap (code_at cells) e ∙ (s.keyed d m).1

-- what the code reads
pub live_is : (keys : List ℕ) (c : ℕ) → (key_of keys c ≡ no_key → ⊥) → is_live keys c ≡ true
live_is keys c ne = ap not (ne_eqb (key_of keys c) no_key ne)

pub key_read : (keys : List ℕ) (c k : ℕ) → c < length keys → k ≡ get_or keys c k → k ≡ key_of keys c
unfolding key_of
key_read keys c k l e = e ∙ default keys c k no_key l
  where
    default : (keys : List ℕ) (c d e : ℕ) → c < length keys → get_or keys c d ≡ get_or keys c e
    default [] c d e l = absurd (omega arith)
    default (x ∷ keys) zero d e l = refl
    default (x ∷ keys) (suc c) d e l = default keys c d e (omega arith)

pub maslov_read : (cells : List Cell) (k : ℕ) (x : Cell) → k < length cells → x ≡ get_or cells k x
    → maslov_at cells k ≡ x.maslov
unfolding maslov_at
maslov_read cells k x l e = ap (λ (z : Cell). z.maslov) (default cells k no_cell x l ∙ sym e)
  where
    default : (cells : List Cell) (k : ℕ) (d e : Cell) → k < length cells → get_or cells k d ≡ get_or cells k e
    default [] k d e l = absurd (omega arith)
    default (y ∷ cells) zero d e l = refl
    default (y ∷ cells) (suc k) d e l = default cells k d e (omega arith)

-- the degree of a code that is live, and of one that is not
pub degree-live : (keys : List ℕ) (cells : List Cell) (links : Links) (c : ℕ) → is_live keys c ≡ true
    → (slice_complex (slice_of keys cells links)).degree c ≡ Some (maslov_at cells (key_of keys c))
degree-live keys cells links c l =
    degree-slice_of keys cells links c ∙ ap (λ b. cond b (Some (maslov_at cells (key_of keys c))) None) l

pub degree-none : (keys : List ℕ) (cells : List Cell) (links : Links) (c : ℕ) → key_of keys c ≡ no_key
    → (slice_complex (slice_of keys cells links)).degree c ≡ None
degree-none keys cells links c e = degree-slice_of keys cells links c
    ∙ ap (λ b. cond (not b) (Some (maslov_at cells (key_of keys c))) None) (eq-eqb (key_of keys c) no_key e)

-- ---- room for more arrows changes nothing
module _ (old new : Links) (nodes : new.pool.nodes ≡ old.pool.nodes) (heads : new.heads.items ≡ old.heads.items) where
  targets-reserved : (k : ℕ) → targets new k ≡ targets old k
  targets-reserved k = λ i. map (λ j. (node_at (nodes i) j).to) (outs (nodes i) (heads i) k)

  pub has_arrow-reserved : (p q : ℕ) → has_arrow new p q ≡ has_arrow old p q
  unfolding has_arrow
  has_arrow-reserved p q = ap (among q) (targets-reserved p)

pub slice_of-reserved : (keys : List ℕ) (cells : List Cell) (old new : Links) → new.pool.nodes ≡ old.pool.nodes
    → new.heads.items ≡ old.heads.items → slice_of keys cells new ≡ slice_of keys cells old
unfolding slice_of
slice_of-reserved keys cells old new nodes heads = ap fin.from_entries (entries (length keys))
  where
    entries : (n : ℕ) → entries_below keys cells new n ≡ entries_below keys cells old n
    entries zero = refl
    entries (suc n) = by (is_live keys n) (entries n)
      where
        by : (b : Bool) → entries_below keys cells new n ≡ entries_below keys cells old n
            → cond b (entry_of keys cells new n ∷ entries_below keys cells new n) (entries_below keys cells new n)
            ≡ cond b (entry_of keys cells old n ∷ entries_below keys cells old n) (entries_below keys cells old n)
        by true e =
            λ i. (
              n,
              (
                maslov_at cells (key_of keys n),
                of_codes (map (code_at cells) (targets-reserved old new nodes heads (key_of keys n) i)),
              ),
            ) ∷ e i
        by false e = e

pub stored-reserved : (keys : List ℕ) (cells : List Cell) (old new : Links) (cursor : ℕ)
    → new.pool.nodes ≡ old.pool.nodes
    → new.heads.items ≡ old.heads.items → IsStored keys cells old cursor → IsStored keys cells new cursor
stored-reserved keys cells old new cursor nodes heads k = record {
  by_key = record {
    listed = AreInLists-same _ _ _ _ nodes heads k.by_key.listed;
    small = subst (λ hs. length hs ≤ most_keys) (sym heads) k.by_key.small;
    whole = k.by_key.whole ∙ ap length (sym heads);
    keyed = λ c l. subst (λ hs. (key_of keys c < length hs) × (code_at cells (key_of keys c) ≡ c)) (sym heads)
        (k.by_key.keyed c l);
    ends = λ p q h. k.by_key.ends p q (sym (has_arrow-reserved old new nodes heads p q) ∙ h);
  };
  first = record {
    within = subst (λ hs. cursor ≤ length hs) (sym heads) k.first.within;
    none_before = λ p q l. has_arrow-reserved old new nodes heads p q ∙ k.first.none_before p q l;
    some_here =
        subst (λ hs. cursor < length hs → eqb (head_at hs cursor).first_out no_id ≡ false)
        (sym heads) k.first.some_here;
  };
  rules = subst IsSlice (sym (slice_of-reserved keys cells old new nodes heads)) k.rules;
}

pub key_read_zero : (keys : List ℕ) (c : ℕ) → c < length keys → get_or keys c 0 ≡ key_of keys c
unfolding key_of
key_read_zero [] c l = absurd (omega arith)
key_read_zero (x ∷ keys) zero l = refl
key_read_zero (x ∷ keys) (suc c) l = key_read_zero keys c (omega arith)
