-- The lists of all keys.
use Rattle.std.proofs.Common.{◌≡◌, ℕ, ◌<◌, Bool, true, false, not, cond, ◌&&◌, ◌||◌, eqb, List, ◌∷◌, inl, inr, refl, sym, ap, ap₂, subst, ◌∙◌}
use Rattle.std.proofs.lemmas.Bool.{eqb-true, ne_eqb, eq-eqb, true≢false, and_parts, and_from}
use Rattle.f2_algebra.proofs.Chains.Sets.{any-filter}
use Rattle.sparse_complex.specs.Inner.Lists.{no_id, among, AreDistinct, IsList, AreLists}
use Rattle.sparse_complex.proofs.ListLemmas.{AreDistinct-filter, IsList-at, follows, leads, leave_out, list-linked, list-same, list-unlinked, precedes}
use Rattle.f2_algebra.proofs.Chains.Tables.{same_test, eqb_comm}

module _ (live : ℕ → Bool) (key next prev : ℕ → ℕ) (width : ℕ) (head : ℕ → ℕ) (lists : ℕ → List ℕ)
    (t : AreLists live key next prev width head lists) (ids : (i : ℕ) → live i ≡ true → eqb i no_id ≡ false) where
  -- an id of a list has its key, and is live
  pub member-live : (k i : ℕ) → among i (lists k) ≡ true → (live i ≡ true) × (key i ≡ k)
  member-live k i m = let h = and_parts (live i) (eqb (key i) k) (sym (t.members k i) ∙ m) in
      (h.0, eqb-true (key i) k h.1)

  -- a live id is in the list of its key
  pub live-member : (i : ℕ) → live i ≡ true → among i (lists (key i)) ≡ true
  live-member i l = t.members (key i) i ∙ and_from (live i) (eqb (key i) (key i)) l (eq-eqb (key i) (key i) refl)

  pub not_no : (i : ℕ) → live i ≡ true → i ≡ no_id → ⊥
  not_no i l e = true≢false (sym (eq-eqb i no_id e) ∙ ids i l)

  -- what a live id or a head leads to is live, or no id
  pub next-live : (i : ℕ) → live i ≡ true → eqb (next i) no_id ≡ false → live (next i) ≡ true
  next-live i l e =
      elim (follows next prev (lists (key i)) no_id (head (key i)) (t.linked (key i)) i (live-member i l)) [
        | inl none ↦ absurd (true≢false (sym (eq-eqb (next i) no_id none) ∙ e))
        | inr r ↦ (member-live (key i) (next i) r.0).0
      ]

  pub prev-live : (i : ℕ) → live i ≡ true → eqb (prev i) no_id ≡ false → live (prev i) ≡ true
  prev-live i l e =
      elim (precedes next prev (lists (key i)) no_id (head (key i)) (t.linked (key i)) i (live-member i l)) [
        | inl r ↦ absurd (true≢false (sym (eq-eqb (prev i) no_id r.0) ∙ e))
        | inr r ↦ (member-live (key i) (prev i) r.0).0
      ]

  pub head-live : (k : ℕ) → eqb (head k) no_id ≡ false → (live (head k) ≡ true) × (key (head k) ≡ k)
  head-live k e =
      member-live k (head k) (leads next prev (lists k) no_id (head k) (t.linked k)
      (λ h. true≢false (sym (eq-eqb (head k) no_id h) ∙ e))).0

  -- two ids of a list are apart from no id
  pub members-ids : (k i : ℕ) → among i (lists k) ≡ true → eqb i no_id ≡ false
  members-ids k i m = ids i (member-live k i m).0

  module _ (id : ℕ) (here : live id ≡ true) where
    -- who leads to a live id, forwards, backwards, and from the head
    next-led : (x : ℕ) → live x ≡ true → eqb (next x) id ≡ eqb x (prev id)
    next-led x l = same_test _ _ forth back
      where
        forth : eqb (next x) id ≡ true → eqb x (prev id) ≡ true
        forth h =
            let is = eqb-true (next x) id h in
            elim (follows next prev (lists (key x)) no_id (head (key x)) (t.linked (key x)) x (live-member x l)) [
              | inl none ↦ absurd (not_no id here (sym is ∙ none))
              | inr r ↦ eq-eqb x (prev id) (sym (ap prev (sym is) ∙ r.1))
            ]

        back : eqb x (prev id) ≡ true → eqb (next x) id ≡ true
        back h =
            let is = eqb-true x (prev id) h in
            elim (precedes next prev (lists (key id)) no_id (head (key id)) (t.linked (key id)) id
            (live-member id here)) [
              | inl r ↦ absurd (not_no x l (is ∙ r.0))
              | inr r ↦ eq-eqb (next x) id (ap next is ∙ r.1)
            ]

    prev-led : (x : ℕ) → live x ≡ true → eqb (prev x) id ≡ eqb x (next id)
    prev-led x l = same_test _ _ forth back
      where
        forth : eqb (prev x) id ≡ true → eqb x (next id) ≡ true
        forth h =
            let is = eqb-true (prev x) id h in
            elim (precedes next prev (lists (key x)) no_id (head (key x)) (t.linked (key x)) x (live-member x l)) [
              | inl r ↦ absurd (not_no id here (sym is ∙ r.0))
              | inr r ↦ eq-eqb x (next id) (sym (ap next (sym is) ∙ r.1))
            ]

        back : eqb x (next id) ≡ true → eqb (prev x) id ≡ true
        back h =
            let is = eqb-true x (next id) h in
            elim (follows next prev (lists (key id)) no_id (head (key id)) (t.linked (key id)) id
            (live-member id here)) [
              | inl none ↦ absurd (not_no x l (is ∙ none))
              | inr r ↦ eq-eqb (prev x) id (ap prev is ∙ r.1)
            ]

    head-led : (k : ℕ) → eqb (head k) id ≡ (eqb (prev id) no_id && eqb k (key id))
    head-led k = same_test _ _ forth back
      where
        forth : eqb (head k) id ≡ true → (eqb (prev id) no_id && eqb k (key id)) ≡ true
        forth h =
            let is = eqb-true (head k) id h in
            let r = leads next prev (lists k) no_id (head k) (t.linked k) (λ e. not_no id here (sym is ∙ e)) in
            and_from _ _ (eq-eqb (prev id) no_id (ap prev (sym is) ∙ r.1))
            (eq-eqb k (key id) (sym (member-live k id (ap (λ i. among i (lists k)) (sym is) ∙ r.0)).1))

        back : (eqb (prev id) no_id && eqb k (key id)) ≡ true → eqb (head k) id ≡ true
        back h =
            let p = and_parts (eqb (prev id) no_id) (eqb k (key id)) h in
            let is = eqb-true k (key id) p.1 in
            elim (precedes next prev (lists (key id)) no_id (head (key id)) (t.linked (key id)) id
            (live-member id here)) [
              | inl r ↦ eq-eqb (head k) id (ap head is ∙ r.1)
              | inr r ↦ absurd (not_no (prev id) (member-live (key id) (prev id) r.0).0 (eqb-true (prev id) no_id p.0))
            ]

    -- the id taken out
    pub thread-unlinked : (live' : ℕ → Bool) (key' next' prev' : ℕ → ℕ) (head' : ℕ → ℕ)
        → ((i : ℕ) → live' i ≡ (live i && not (eqb i id)))
        → ((i : ℕ) → live' i ≡ true → key' i ≡ key i)
        → ((i : ℕ) → live' i ≡ true → next' i ≡ cond (eqb i (prev id)) (next id) (next i))
        → ((i : ℕ) → live' i ≡ true → prev' i ≡ cond (eqb i (next id)) (prev id) (prev i))
        → ((k : ℕ) → head' k ≡ cond (eqb (prev id) no_id && eqb k (key id)) (next id) (head k))
        → AreLists live' key' next' prev' width head' (λ k. leave_out id (lists k))
    thread-unlinked live' key' next' prev' head' gone keys nexts prevs heads = record {
      bounded = λ i l. subst (λ k. k < width) (sym (keys i l)) (t.bounded i (was i l));
      members =
          λ k i. any-filter i (λ j. not (eqb j id)) (lists k) ∙ ap (λ b. b && not (eqb i id)) (t.members k i)
          ∙ members' k i (live' i) refl;
      distinct = λ k. AreDistinct-filter (λ j. not (eqb j id)) (lists k) (t.distinct k);
      linked = λ k. IsList-at next' prev' (leave_out id (lists k)) _ _ _ _
          (ap (λ b. cond b (prev id) no_id) (eqb_comm no_id id ∙ ids id here))
          (ap (λ b. cond b (next id) (head k)) (head-led k) ∙ sym (heads k))
          (list-unlinked next prev next' prev' id (ids id here) (lists k) no_id (head k)
          (λ i m e. let l = (member-live k i m).0 in
          nexts i (is i l e) ∙ ap (λ b. cond b (next id) (next i)) (sym (next-led i l)))
          (λ i m e. let l = (member-live k i m).0 in
          prevs i (is i l e) ∙ ap (λ b. cond b (prev id) (prev i)) (sym (prev-led i l)))
          (t.linked k));
    }
      where
        was : (i : ℕ) → live' i ≡ true → live i ≡ true
        was i l = (and_parts (live i) (not (eqb i id)) (sym (gone i) ∙ l)).0

        is : (i : ℕ) → live i ≡ true → eqb i id ≡ false → live' i ≡ true
        is i l e = gone i ∙ and_from (live i) (not (eqb i id)) l (ap not e)

        shift : (a b c : Bool) → ((a && b) && c) ≡ ((a && c) && b)
        shift true b c = swap b c
          where
            swap : (b c : Bool) → (b && c) ≡ (c && b)
            swap true true = refl
            swap true false = refl
            swap false true = refl
            swap false false = refl
        shift false b c = refl

        members' : (k i : ℕ) (b : Bool) → live' i ≡ b
            → ((live i && eqb (key i) k) && not (eqb i id)) ≡ (live' i && eqb (key' i) k)
        members' k i true l = shift (live i) (eqb (key i) k) (not (eqb i id))
            ∙ ap (λ b. b && eqb (key i) k) (sym (gone i)) ∙ ap (λ j. live' i && eqb j k) (sym (keys i l))
        members' k i false l = shift (live i) (eqb (key i) k) (not (eqb i id))
            ∙ ap (λ b. b && eqb (key i) k) (sym (gone i) ∙ l) ∙ sym (ap (λ b. b && eqb (key' i) k) l)

  -- an id put in at the head of the list of a key
  module _ (id : ℕ) (fresh : live id ≡ false) (is_id : eqb id no_id ≡ false) (at : ℕ) (at_key : at < width) where
    not_id : (i : ℕ) → live i ≡ true → eqb i id ≡ false
    not_id i l = ne_eqb i id (λ e. true≢false (sym l ∙ ap live e ∙ fresh))

    pub thread-linked : (live' : ℕ → Bool) (key' next' prev' : ℕ → ℕ) (head' : ℕ → ℕ)
        → ((i : ℕ) → live' i ≡ (eqb i id || live i))
        → (key' id ≡ at) → (next' id ≡ head at) → (prev' id ≡ no_id)
        → ((i : ℕ) → live i ≡ true → key' i ≡ key i)
        → ((i : ℕ) → live i ≡ true → next' i ≡ next i)
        → ((i : ℕ) → live i ≡ true → prev' i ≡ cond (eqb i (head at)) id (prev i))
        → ((k : ℕ) → head' k ≡ cond (eqb k at) id (head k))
        → AreLists live' key' next' prev' width head' (λ k. cond (eqb k at) (id ∷ lists k) (lists k))
    thread-linked live' key' next' prev' head' more key_id next_id prev_id keys nexts prevs heads = record {
      bounded = λ i l. bounded' i (eqb i id) refl (sym (more i) ∙ l);
      members = λ k i. members' k i (eqb i id) refl (eqb k at) refl;
      distinct = λ k. distinct' k (eqb k at) refl;
      linked = λ k. linked' k (eqb k at) refl;
    }
      where
        bounded' : (i : ℕ) (b : Bool) → eqb i id ≡ b → (b || live i) ≡ true → key' i < width
        bounded' i true e l = subst (λ k. k < width) (sym (ap key' (eqb-true i id e) ∙ key_id)) at_key
        bounded' i false e l = subst (λ k. k < width) (sym (keys i l)) (t.bounded i l)

        old_members : (k i : ℕ) → eqb i id ≡ false → (b : Bool) → live i ≡ b
            → among i (lists k) ≡ (live' i && eqb (key' i) k)
        old_members k i e true l =
            t.members k i ∙ ap₂ (λ a j. a && eqb j k) (sym (more i ∙ ap (λ b. b || live i) e)) (sym (keys i l))
        old_members k i e false l = t.members k i ∙ ap (λ a. a && eqb (key i) k) l
            ∙ sym (ap (λ a. a && eqb (key' i) k) (more i ∙ ap₂ (λ a b. a || b) e l))

        not_in : (k : ℕ) → among id (lists k) ≡ false
        not_in k = t.members k id ∙ ap (λ b. b && eqb (key id) k) fresh

        members' : (k i : ℕ) (b : Bool) → eqb i id ≡ b → (c : Bool) → eqb k at ≡ c
            → among i (cond (eqb k at) (id ∷ lists k) (lists k)) ≡ (live' i && eqb (key' i) k)
        members' k i true e true f =
            ap (λ c. among i (cond c (id ∷ lists k) (lists k))) f ∙ ap (λ b. b || among i (lists k)) e
            ∙ sym (ap₂ (λ a j. a && eqb j k) (more i ∙ ap (λ b. b || live i) e) (ap key' (eqb-true i id e) ∙ key_id)
            ∙ eqb_comm at k ∙ f)
        members' k i true e false f =
            ap (λ c. among i (cond c (id ∷ lists k) (lists k))) f ∙ ap (λ j. among j (lists k)) (eqb-true i id e)
            ∙ not_in k
            ∙ sym (ap₂ (λ a j. a && eqb j k) (more i ∙ ap (λ b. b || live i) e) (ap key' (eqb-true i id e) ∙ key_id)
            ∙ eqb_comm at k ∙ f)
        members' k i false e true f = ap (λ c. among i (cond c (id ∷ lists k) (lists k))) f
            ∙ ap (λ b. b || among i (lists k)) e ∙ old_members k i e (live i) refl
        members' k i false e false f =
            ap (λ c. among i (cond c (id ∷ lists k) (lists k))) f ∙ old_members k i e (live i) refl

        distinct' : (k : ℕ) (c : Bool) → eqb k at ≡ c → AreDistinct (cond (eqb k at) (id ∷ lists k) (lists k))
        distinct' k true f = subst (λ c. AreDistinct (cond c (id ∷ lists k) (lists k))) (sym f) (not_in k, t.distinct k)
        distinct' k false f = subst (λ c. AreDistinct (cond c (id ∷ lists k) (lists k))) (sym f) (t.distinct k)

        linked' : (k : ℕ) (c : Bool) → eqb k at ≡ c
            → IsList next' prev' no_id (head' k) (cond (eqb k at) (id ∷ lists k) (lists k))
        linked' k true f =
            let k_is = eqb-true k at f in
            subst (λ c. IsList next' prev' no_id (head' k) (cond c (id ∷ lists k) (lists k))) (sym f) (
              heads k ∙ ap (λ b. cond b id (head k)) f,
              prev_id,
              IsList-at next' prev' (lists k) _ _ _ _ (ap (λ b. cond b id no_id) (eq-eqb no_id no_id refl))
                  (ap head k_is ∙ sym next_id)
                  (list-linked next prev next' prev' id (lists k) no_id (head k)
                  (λ i m. nexts i (member-live k i m).0)
                  (λ i m. ids i (member-live k i m).0)
                  (λ i m.
                  let l = member-live k i m in
                  prevs i l.0
                  ∙ ap (λ b. cond b id (prev i))
                  (eqb_comm i (head at) ∙ head-led i l.0 at
                  ∙ ap (λ b. eqb (prev i) no_id && b) (eq-eqb at (key i) (sym (l.1 ∙ k_is)))
                  ∙ and_true (eqb (prev i) no_id)))
                  (t.linked k)),
            )
          where
            and_true : (b : Bool) → (b && true) ≡ b
            and_true true = refl
            and_true false = refl
        linked' k false f =
            subst (λ c. IsList next' prev' no_id (head' k) (cond c (id ∷ lists k) (lists k))) (sym f)
            (IsList-at next' prev' (lists k) _ _ _ _ refl (sym (heads k ∙ ap (λ b. cond b id (head k)) f))
            (list-same next prev next' prev' (lists k) no_id (head k)
            (λ i m. nexts i (member-live k i m).0)
            (λ i m.
            let l = member-live k i m in
            prevs i l.0
            ∙ ap (λ b. cond b id (prev i))
            (eqb_comm i (head at) ∙ head-led i l.0 at
            ∙ ap (λ j. eqb (prev i) no_id && eqb at j) l.1 ∙ ap (λ b. eqb (prev i) no_id && b) (eqb_comm at k ∙ f)
            ∙ and_false (eqb (prev i) no_id)))
            (t.linked k)))
          where
            and_false : (b : Bool) → (b && false) ≡ false
            and_false true = refl
            and_false false = refl

-- lists that are told to be others
pub AreLists-lists : (live : ℕ → Bool) (key next prev : ℕ → ℕ) (width width' : ℕ) (head : ℕ → ℕ)
    (lists lists' : ℕ → List ℕ) → width ≡ width' → ((k : ℕ) → lists' k ≡ lists k)
    → AreLists live key next prev width head lists → AreLists live key next prev width' head lists'
AreLists-lists live key next prev width width' head lists lists' w same t = record {
  bounded = λ i l. subst (λ n. key i < n) w (t.bounded i l);
  members = λ k i. ap (among i) (same k) ∙ t.members k i;
  distinct = λ k. subst AreDistinct (sym (same k)) (t.distinct k);
  linked = λ k. subst (λ is. IsList next prev no_id (head k) is) (sym (same k)) (t.linked k);
}
