-- The cancelled slice.
use Rattle.std.proofs.Common.{◌≡◌, ℕ, ◌*◌, ◌<◌, ◌≤◌, Bool, true, false, not, cond, ◌&&◌, ◌||◌, eqb, ltb, List, length, set, length-set, Some, None, ◌⊎◌, inl, inr, refl, sym, ap, ap₂, subst, ◌∙◌, arith}
use Rattle.std.proofs.lemmas.Bool.{true≢false, and_parts, and_from, not-true}
use Rattle.f2_algebra.specs.Complex.{arrow, IsComplex}
use Rattle.f2_algebra.specs.Cancel.{is_one_of, cancelled}
use Rattle.f2_algebra.specs.Slice.{slice_complex}
use Rattle.f2_algebra.proofs.Chains.Tables.{◌⊻◌, same, neither}
use Rattle.f2_algebra.proofs.Cancelling.Cancellation.{arrow-cancelled, cancelled_IsComplex}
use Rattle.f2_algebra.proofs.Cancelling.Slice.{same_complex}
use Rattle.sparse_complex.specs.declared.links.Links.{Links}
use Rattle.sparse_complex.specs.declared.slices.Cell.{Cell}
use Rattle.sparse_complex.specs.Slices.{fill}
use Rattle.sparse_complex.specs.Inner.Lists.{no_id, head_at}
use Rattle.sparse_complex.specs.Inner.Graph.{AreListed, width, targets, sources, has_arrow, others, code_at}
use Rattle.sparse_complex.specs.Inner.Stored.{no_key, most_keys, key_of, is_live, maslov_at, slice_of, IsLiveKey, IsStoredByKey, IsFirst, IsStored}
use Rattle.sparse_complex.proofs.ClearLemmas.{no_out}
use Rattle.sparse_complex.proofs.StoredLemmas.{degree-slice_of, arrow-stored, ends-live}
use Rattle.sparse_complex.proofs.CancelLemmas.{IsEntry-of_arrow, code-test, fill-stored, key-test}
use Rattle.sparse_complex.proofs.TakenKeyLemmas.{IsCut, key_of-set, live-below, xor_cases}

-- the keys without those of two codes
abbrev keys_without : List ℕ → ℕ → ℕ → List ℕ
keys_without keys x y = set (set keys x no_key) y no_key

module _ (keys : List ℕ) (cells : List Cell) (links : Links) (s : IsStoredByKey keys cells links) (x y : ℕ)
    (l : is_live keys x ≡ true) (m : is_live keys y ≡ true)
    (new : Links) (cut : IsCut (key_of keys x) (key_of keys y) links new) where
  key-without : (c : ℕ)
      → key_of (keys_without keys x y) c ≡ cond (eqb c y) no_key (cond (eqb c x) no_key (key_of keys c))
  key-without c =
      key_of-set (set keys x no_key) y no_key c
      (subst (λ n. y < n) (sym (length-set keys x no_key)) (live-below keys y m))
      ∙ ap (λ k. cond (eqb c y) no_key k) (key_of-set keys x no_key c (live-below keys x l))

  live-without : (c : ℕ) → is_live (keys_without keys x y) c ≡ (is_live keys c && not (is_one_of x y c))
  live-without c = ap (λ k. not (eqb k no_key)) (key-without c) ∙ by (eqb c x) (eqb c y) (is_live keys c) refl
    where
      by : (a b d : Bool) → is_live keys c ≡ d
          → not (eqb (cond b no_key (cond a no_key (key_of keys c))) no_key) ≡ (is_live keys c && not (a || b))
      by true true d e = sym (ap (λ h. h && false) e ∙ none d)
        where
          none : (d : Bool) → (d && false) ≡ false
          none true = refl
          none false = refl
      by true false d e = sym (ap (λ h. h && false) e ∙ none d)
        where
          none : (d : Bool) → (d && false) ≡ false
          none true = refl
          none false = refl
      by false true d e = sym (ap (λ h. h && false) e ∙ none d)
        where
          none : (d : Bool) → (d && false) ≡ false
          none true = refl
          none false = refl
      by false false d e = e ∙ sym (ap (λ h. h && true) e ∙ all d)
        where
          all : (d : Bool) → (d && true) ≡ d
          all true = refl
          all false = refl

  key-stays : (c : ℕ) → is_one_of x y c ≡ false → key_of (keys_without keys x y) c ≡ key_of keys c
  key-stays c e = key-without c ∙ by (eqb c x) (eqb c y) e
    where
      by : (a b : Bool) → (a || b) ≡ false → cond b no_key (cond a no_key (key_of keys c)) ≡ key_of keys c
      by true b e = absurd (true≢false e)
      by false true e = absurd (true≢false e)
      by false false e = refl

  -- the arrows that are left have ends that stay
  cut-parts : (a b : ℕ) → has_arrow new a b ≡ true
      → ((has_arrow links a b ≡ true)
      ⊎ ((has_arrow links a (key_of keys y) ≡ true) × (has_arrow links (key_of keys x) b ≡ true)))
      × ((eqb a (key_of keys x) ≡ false) × (eqb a (key_of keys y) ≡ false))
      × ((eqb b (key_of keys x) ≡ false) × (eqb b (key_of keys y) ≡ false))
  cut-parts a b h =
      let p = key_of keys x in
      let q = key_of keys y in
      let w = and_parts (has_arrow links a b ⊻ ((has_arrow links a (key_of keys y) && not (eqb a (key_of keys x)))
      && (has_arrow links (key_of keys x) b && not (eqb b (key_of keys y)))))
      (not (eqb a (key_of keys x) || eqb a (key_of keys y)) && not (eqb b (key_of keys x) || eqb b (key_of keys y)))
      (sym (cut.arrows a b) ∙ h) in
      let u = and_parts (not (eqb a (key_of keys x) || eqb a (key_of keys y)))
      (not (eqb b (key_of keys x) || eqb b (key_of keys y))) w.1 in (
        either (xor_cases (has_arrow links a b) (has_arrow links a (key_of keys y) && not (eqb a (key_of keys x)))
            (has_arrow links (key_of keys x) b && not (eqb b (key_of keys y))) w.0),
        neither (eqb a (key_of keys x)) (eqb a (key_of keys y)) u.0,
        neither (eqb b (key_of keys x)) (eqb b (key_of keys y)) u.1,
      )
    where
      either : (has_arrow links a b ≡ true)
          ⊎ (((has_arrow links a (key_of keys y) && not (eqb a (key_of keys x))) ≡ true)
          × ((has_arrow links (key_of keys x) b && not (eqb b (key_of keys y))) ≡ true))
          → (has_arrow links a b ≡ true)
          ⊎ ((has_arrow links a (key_of keys y) ≡ true) × (has_arrow links (key_of keys x) b ≡ true))
      either (inl h) = inl h
      either (inr r) =
          inr (
            (and_parts (has_arrow links a (key_of keys y)) (not (eqb a (key_of keys x))) r.0).0,
            (and_parts (has_arrow links (key_of keys x) b) (not (eqb b (key_of keys y))) r.1).0,
          )

  -- a live key that is none of the two is still live
  still-live : (k : ℕ) → IsLiveKey keys cells k → (eqb k (key_of keys x) ≡ false) × (eqb k (key_of keys y) ≡ false)
      → IsLiveKey (keys_without keys x y) cells k
  still-live k e n =
      key-stays (code_at cells k) (ap₂ (λ a b. a || b) (code-test keys cells links s x k l e ∙ n.0)
      (code-test keys cells links s y k m e ∙ n.1)) ∙ e

  stored-left : IsStoredByKey (keys_without keys x y) cells new
  stored-left = record {
    listed = cut.listed;
    small = subst (λ w. w ≤ most_keys) (sym cut.width) s.small;
    whole = s.whole ∙ sym cut.width;
    keyed = λ c h.
        let p = and_parts (is_live keys c) (not (is_one_of x y c)) (sym (live-without c) ∙ h) in
        let k = key-stays c (not-true (is_one_of x y c) p.1) in
        let was = s.keyed c p.0 in
        (subst (λ (t : ℕ × ℕ). t.0 < t.1) (λ i. (sym k i, sym cut.width i)) was.0, ap (code_at cells) k ∙ was.1);
    ends = λ a b h.
        let r = cut-parts a b h in
        elim r.0 [
          | inl old ↦ let e = s.ends a b old in (still-live a e.0 r.1, still-live b e.1 r.2)
          | inr both ↦ (
            still-live a (s.ends a (key_of keys y) both.0).0 r.1,
            still-live b (s.ends (key_of keys x) b both.1).1 r.2,
          )
        ];
  }

  degree-left : (c : ℕ)
      → (slice_complex (slice_of (keys_without keys x y) cells new)).degree c
      ≡ (cancelled (slice_complex (slice_of keys cells links)) x y).degree c
  degree-left c =
      degree-slice_of (keys_without keys x y) cells new c
      ∙ ap (λ b. cond b (Some (maslov_at cells (key_of (keys_without keys x y) c))) None) (live-without c)
      ∙ by (is_one_of x y c) refl (is_live keys c) refl
      ∙ ap (λ d. cond (is_one_of x y c) None d) (sym (degree-slice_of keys cells links c))
    where
      by : (a : Bool) → is_one_of x y c ≡ a → (b : Bool) → is_live keys c ≡ b
          → cond (is_live keys c && not (is_one_of x y c))
          (Some (maslov_at cells (key_of (keys_without keys x y) c))) None
          ≡ cond (is_one_of x y c) None (cond (is_live keys c) (Some (maslov_at cells (key_of keys c))) None)
      by true e true f =
          ap₂ (λ u v. cond (u && not v) (Some (maslov_at cells (key_of (keys_without keys x y) c))) None) f e
          ∙ sym (ap (λ v. cond v None (cond (is_live keys c) (Some (maslov_at cells (key_of keys c))) None)) e)
      by true e false f =
          ap₂ (λ u v. cond (u && not v) (Some (maslov_at cells (key_of (keys_without keys x y) c))) None) f e
          ∙ sym (ap (λ v. cond v None (cond (is_live keys c) (Some (maslov_at cells (key_of keys c))) None)) e)
      by false e true f =
          ap₂ (λ u v. cond (u && not v) (Some (maslov_at cells (key_of (keys_without keys x y) c))) None) f e
          ∙ ap (λ k. Some (maslov_at cells k)) (key-stays c e)
          ∙ sym (ap₂ (λ u v. cond v None (cond u (Some (maslov_at cells (key_of keys c))) None)) f e)
      by false e false f =
          ap₂ (λ u v. cond (u && not v) (Some (maslov_at cells (key_of (keys_without keys x y) c))) None) f e
          ∙ sym (ap₂ (λ u v. cond v None (cond u (Some (maslov_at cells (key_of keys c))) None)) f e)

  abbrev old_arrow : ℕ → ℕ → Bool
  old_arrow c d = arrow (slice_complex (slice_of keys cells links)) c d

  -- of codes that were live
  both-live : (c d : ℕ) → is_live keys c ≡ true → is_live keys d ≡ true
      → has_arrow new (key_of keys c) (key_of keys d)
      ≡ (not (is_one_of x y c) && ((old_arrow c d ⊻ (old_arrow c y && old_arrow x d)) && not (is_one_of x y d)))
  both-live c d u v =
      cut.arrows (key_of keys c) (key_of keys d)
      ∙ (λ i. (old c d u v i
      ⊻ ((old c y u m i && not (key-test keys cells links s c x u l i))
      && (old x d l v i && not (key-test keys cells links s d y v m i))))
      && (not (key-test keys cells links s c x u l i || key-test keys cells links s c y u m i)
      && not (key-test keys cells links s d x v l i || key-test keys cells links s d y v m i)))
      ∙ same 7 (λ h a b cx cy dx dy. (h ⊻ ((a && not cx) && (b && not dy))) && (not (cx || cy) && not (dx || dy)))
      (λ h a b cx cy dx dy. not (cx || cy) && ((h ⊻ (a && b)) && not (dx || dy))) refl
      (old_arrow c d) (old_arrow c y) (old_arrow x d) (eqb c x) (eqb c y) (eqb d x) (eqb d y)
    where
      old : (c d : ℕ) → is_live keys c ≡ true → is_live keys d ≡ true
          → has_arrow links (key_of keys c) (key_of keys d) ≡ arrow (slice_complex (slice_of keys cells links)) c d
      old c d u v =
          sym (arrow-stored keys cells links s c d
          ∙ ap (λ b. b && has_arrow links (key_of keys c) (key_of keys d))
          (and_from (is_live keys c) (is_live keys d) u v))

  -- a code that was not live has no arrow before or after
  not-live : (c d : ℕ) → (is_live keys c && is_live keys d) ≡ false
      → (old_arrow c d ⊻ (old_arrow c y && old_arrow x d)) ≡ false
  not-live c d e =
      (λ i. arrow-stored keys cells links s c d i
      ⊻ (arrow-stored keys cells links s c y i && arrow-stored keys cells links s x d i))
      ∙ by (is_live keys c) (is_live keys d) (is_live keys x) (is_live keys y)
      (has_arrow links (key_of keys c) (key_of keys d)) (has_arrow links (key_of keys c) (key_of keys y))
      (has_arrow links (key_of keys x) (key_of keys d)) e
    where
      by : (c d x y h a b : Bool) → (c && d) ≡ false → (((c && d) && h) ⊻ (((c && y) && a) && ((x && d) && b))) ≡ false
      by true true x y h a b e = absurd (true≢false e)
      by true false true y h a b e = none ((y && a))
        where
          none : (z : Bool) → (z && false) ≡ false
          none true = refl
          none false = refl
      by true false false y h a b e = none ((y && a))
        where
          none : (z : Bool) → (z && false) ≡ false
          none true = refl
          none false = refl
      by false d x y h a b e = refl

  arrow-left : (c d : ℕ)
      → arrow (slice_complex (slice_of (keys_without keys x y) cells new)) c d
      ≡ (not (is_one_of x y c) && ((old_arrow c d ⊻ (old_arrow c y && old_arrow x d)) && not (is_one_of x y d)))
  arrow-left c d = arrow-stored (keys_without keys x y) cells new stored-left c d
      ∙ (λ i. (live-without c i && live-without d i)
      && has_arrow new (key_of (keys_without keys x y) c) (key_of (keys_without keys x y) d))
      ∙ by (is_one_of x y c) refl (is_one_of x y d) refl (is_live keys c) refl (is_live keys d) refl
    where
      none : (z : Bool) → (z && false) ≡ false
      none true = refl
      none false = refl

      none_left : (z h : Bool) → ((z && false) && h) ≡ false
      none_left true h = refl
      none_left false h = refl

      by : (a : Bool) → is_one_of x y c ≡ a → (b : Bool) → is_one_of x y d ≡ b → (u : Bool) → is_live keys c ≡ u
          → (v : Bool) → is_live keys d ≡ v
          → (((is_live keys c && not (is_one_of x y c)) && (is_live keys d && not (is_one_of x y d)))
          && has_arrow new (key_of (keys_without keys x y) c) (key_of (keys_without keys x y) d))
          ≡ (not (is_one_of x y c) && ((old_arrow c d ⊻ (old_arrow c y && old_arrow x d)) && not (is_one_of x y d)))
      by true e b f u g v h =
          ap (λ a. ((is_live keys c && not a) && (is_live keys d && not (is_one_of x y d)))
          && has_arrow new (key_of (keys_without keys x y) c) (key_of (keys_without keys x y) d)) e
          ∙ ap (λ z. (z && (is_live keys d && not (is_one_of x y d)))
          && has_arrow new (key_of (keys_without keys x y) c) (key_of (keys_without keys x y) d))
          (none (is_live keys c))
          ∙ sym (ap (λ a. not a && ((old_arrow c d ⊻ (old_arrow c y && old_arrow x d)) && not (is_one_of x y d))) e)
      by false e true f u g v h =
          ap (λ b. ((is_live keys c && not (is_one_of x y c)) && (is_live keys d && not b))
          && has_arrow new (key_of (keys_without keys x y) c) (key_of (keys_without keys x y) d)) f
          ∙ ap (λ z. ((is_live keys c && not (is_one_of x y c)) && z)
          && has_arrow new (key_of (keys_without keys x y) c) (key_of (keys_without keys x y) d))
          (none (is_live keys d))
          ∙ none_left (is_live keys c && not (is_one_of x y c))
          (has_arrow new (key_of (keys_without keys x y) c) (key_of (keys_without keys x y) d))
          ∙ sym (ap₂ (λ a b. not a && ((old_arrow c d ⊻ (old_arrow c y && old_arrow x d)) && not b)) e f
          ∙ none (old_arrow c d ⊻ (old_arrow c y && old_arrow x d)))
      by false e false f true g true h =
          (λ i. ((g i && not (e i)) && (h i && not (f i))) && has_arrow new (key-stays c e i) (key-stays d f i))
          ∙ both-live c d g h
      by false e false f true g false h =
          (λ i. ((g i && not (e i)) && (h i && not (f i))) && has_arrow new (key-stays c e i) (key-stays d f i))
          ∙ sym (ap₂ (λ a b. not a && ((old_arrow c d ⊻ (old_arrow c y && old_arrow x d)) && not b)) e f
          ∙ ap (λ z. z && true) (not-live c d (ap₂ (λ u v. u && v) g h)))
      by false e false f false g v h =
          (λ i. ((g i && not (e i)) && (is_live keys d && not (f i)))
          && has_arrow new (key-stays c e i) (key-stays d f i))
          ∙ sym (ap₂ (λ a b. not a && ((old_arrow c d ⊻ (old_arrow c y && old_arrow x d)) && not b)) e f
          ∙ ap (λ z. z && true) (not-live c d (ap (λ u. u && is_live keys d) g)))

  module _ (rules : IsComplex (slice_complex (slice_of keys cells links)))
      (is : arrow (slice_complex (slice_of keys cells links)) x y ≡ true) where
    rules-left : IsComplex (cancelled (slice_complex (slice_of keys cells links)) x y)
    rules-left =
        cancelled_IsComplex (slice_complex (slice_of keys cells links)) rules _
        (IsEntry-of_arrow (slice_of keys cells links) x y is)

    -- what is left is the cancelled slice
    left-is : slice_complex (slice_of (keys_without keys x y) cells new)
        ≡ cancelled (slice_complex (slice_of keys cells links)) x y
    left-is =
        same_complex _ _ refl degree-left
        (λ c d. arrow-left c d
        ∙ sym (arrow-cancelled (slice_complex (slice_of keys cells links)) rules _
        (IsEntry-of_arrow (slice_of keys cells links) x y is) c d))

  -- the cursor has only to move on
  first-left : (cursor next : ℕ) → IsFirst links cursor → next ≤ width new
      → ((k : ℕ) → cursor ≤ k → k < next → (head_at new.heads.items k).first_out ≡ no_id)
      → (next < width new → eqb (head_at new.heads.items next).first_out no_id ≡ false) → IsFirst new next
  first-left cursor next f within none some = record {
    within = within;
    none_before = λ a b h. by a b h (ltb a cursor) refl;
    some_here = some;
  }
    where
      below : (a c : ℕ) → ltb a c ≡ true → a < c
      below a c e = grind (arith, e)

      above : (a c : ℕ) → ltb a c ≡ false → c ≤ a
      above a c e = grind (arith, e)

      nothing : (a b z : Bool) → ((false ⊻ ((false && a) && b)) && z) ≡ false
      nothing a b z = refl

      by : (a b : ℕ) → a < next → (t : Bool) → ltb a cursor ≡ t → has_arrow new a b ≡ false
      by a b h true e =
          let z = f.none_before a in
          cut.arrows a b
          ∙ ap₂ (λ u v. (u ⊻ ((v && not (eqb a (key_of keys x)))
          && (has_arrow links (key_of keys x) b && not (eqb b (key_of keys y)))))
          && (not (eqb a (key_of keys x) || eqb a (key_of keys y))
          && not (eqb b (key_of keys x) || eqb b (key_of keys y))))
          (z b (below a cursor e)) (z (key_of keys y) (below a cursor e))
      by a b h false e = no_out new cut.listed a (head_at new.heads.items a) refl (none a (above a cursor e) h) b

-- ---- for the code
pub record CanCancel (keys : List ℕ) (links : Links) (x y p q fills : ℕ) : Type 0 where
  pub x_live : is_live keys x ≡ true
  y_live : is_live keys y ≡ true
  pub p_in : p < width links
  pub q_in : q < width links
  pub x_in : x < length keys
  pub y_in : y < length keys
  pub room : length (others p (sources links q)) * length (others q (targets links p)) ≡ fills

pub can_cancel : (keys : List ℕ) (cells : List Cell) (links : Links) (s : IsStoredByKey keys cells links) (x y p q : ℕ)
    → arrow (slice_complex (slice_of keys cells links)) x y ≡ true → p ≡ key_of keys x → q ≡ key_of keys y
    → CanCancel keys links x y p q (fill (slice_of keys cells links) x y)
can_cancel keys cells links s x y p q is e f =
    let l = ends-live keys cells links s x y is in
    record {
      x_live = l.0;
      y_live = l.1;
      p_in = subst (λ k. k < width links) (sym e) (s.keyed x l.0).0;
      q_in = subst (λ k. k < width links) (sym f) (s.keyed y l.1).0;
      x_in = live-below keys x l.0;
      y_in = live-below keys y l.1;
      room = (λ i. length (others (e i) (sources links (f i))) * length (others (f i) (targets links (e i))))
          ∙ sym (fill-stored keys cells links s x y l.0 l.1);
    }

pub stored_after : (keys : List ℕ) (cells : List Cell) (links new : Links) (cursor next : ℕ)
    (k : IsStored keys cells links cursor) (x y : ℕ) (is : arrow (slice_complex (slice_of keys cells links)) x y ≡ true)
    → IsCut (key_of keys x) (key_of keys y) links new
    → next ≤ width new → ((j : ℕ) → cursor ≤ j → j < next → (head_at new.heads.items j).first_out ≡ no_id)
    → (next < width new → eqb (head_at new.heads.items next).first_out no_id ≡ false)
    → IsStored (keys_without keys x y) cells new next
stored_after keys cells links new cursor next k x y is cut within none some =
    let l = ends-live keys cells links k.by_key x y is in
    record {
      by_key = stored-left keys cells links k.by_key x y l.0 l.1 new cut;
      first = first-left keys cells links k.by_key x y l.0 l.1 new cut cursor next k.first within none some;
      rules = subst IsComplex (sym (left-is keys cells links k.by_key x y l.0 l.1 new cut k.rules is))
          (rules-left keys cells links k.by_key x y l.0 l.1 new cut k.rules is);
    }

pub cancelled_after : (keys : List ℕ) (cells : List Cell) (links new : Links) (cursor : ℕ)
    (k : IsStored keys cells links cursor) (x y : ℕ) (is : arrow (slice_complex (slice_of keys cells links)) x y ≡ true)
    → IsCut (key_of keys x) (key_of keys y) links new
    → slice_complex (slice_of (keys_without keys x y) cells new)
    ≡ cancelled (slice_complex (slice_of keys cells links)) x y
cancelled_after keys cells links new cursor k x y is cut = let l = ends-live keys cells links k.by_key x y is in
    left-is keys cells links k.by_key x y l.0 l.1 new cut k.rules is

pub rules_after : (keys : List ℕ) (cells : List Cell) (links : Links) (cursor : ℕ)
    (k : IsStored keys cells links cursor)
    (x y : ℕ) (is : arrow (slice_complex (slice_of keys cells links)) x y ≡ true)
    → IsComplex (cancelled (slice_complex (slice_of keys cells links)) x y)
rules_after keys cells links cursor k x y is =
    cancelled_IsComplex (slice_complex (slice_of keys cells links)) k.rules _
    (IsEntry-of_arrow (slice_of keys cells links) x y is)

-- the cursor at the start
pub first-begin : (links : Links) (t : AreListed links) (next : ℕ) → next ≤ width links
    → ((k : ℕ) → 0 ≤ k → k < next → (head_at links.heads.items k).first_out ≡ no_id)
    → (next < width links → eqb (head_at links.heads.items next).first_out no_id ≡ false) → IsFirst links next
first-begin links t next within none some = record {
  within = within;
  none_before = λ p q l. no_out links t p (head_at links.heads.items p) refl (none p (omega arith) l) q;
  some_here = some;
}
