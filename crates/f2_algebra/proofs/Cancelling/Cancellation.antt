-- What cancelling one arrow keeps. With rest and lift for the maps of its entry:
--     cancelled_IsComplex    the two rules
--     lift-border, rest-border    lift and rest carry borders to borders
--     rest-lift              the rest of a lift of a chain without x and y is the chain
--     lift-rest              the lift of the rest of a chain differs from it by a border and by x if its border
--                            holds y
use Rattle.std.proofs.Common.{◌≡◌, ℕ, Bool, true, false, not, cond, ◌&&◌, ◌||◌, ◌≢◌, eqb, Some, None, refl, sym, ap, ap₂, subst, ◌∙◌, arith}
use Rattle.std.proofs.lemmas.Bool.{eqb-true, ne_eqb, eq-eqb, true≢false, false≢true}
use Rattle.f2_algebra.specs.Chain.{Chain, holds, nothing, single, ◌⊕◌, sum_over, pairs_oddly}
use Rattle.f2_algebra.specs.Complex.{Complex, arrow, border, IsComplex, IsAbove}
use Rattle.f2_algebra.specs.Cancel.{is_one_of, without, cancelled, Entry, IsEntry, rest_of_one, lift_of_one}
use Rattle.f2_algebra.proofs.Chains.Tables.{◌⊻◌, and-false, and-true, xor-false, xor_self, eqb_comm}
use Rattle.f2_algebra.proofs.Chains.Sets.{same_chain, holds-nothing, holds-single, holds-add, holds-where_code, weight-xor, weight-same, weight-at, pairs_oddly-weight}
use Rattle.f2_algebra.proofs.Chains.Sums.{add_assoc, add_self, add-nothing, add_swap, holds-when, when-xor, IsLinear, linear-nothing, linear-when, holds-sum_over, sum_over-add, sum_over-single, sum_over-same, linear-sum_over, where_code-add, pairs_oddly-add}
use Rattle.std.proofs.Math.Bool.{or-true}

-- the values of two equal options are equal
pub same_some : {G : Type 0} (m n : G) → Some m ≡ Some n → m ≡ n
same_some m n e = cc

-- the border of a sum is the sum of the borders
pub complex_border-add : {G : Type 0} (C : Complex G) (z w : Chain) → border C (z ⊕ w) ≡ border C z ⊕ border C w
complex_border-add C z w = sum_over-add z w C.targets

-- the border of a chain taken once or not at all
pub border-when : {G : Type 0} (C : Complex G) (b : Bool) (z : Chain)
    → border C (cond b z nothing) ≡ cond b (border C z) nothing
border-when C b z = linear-when (border C) (complex_border-add C) b z

-- the border of a single code is its targets
pub border-single : {G : Type 0} (C : Complex G) (s : ℕ) → border C (single s) ≡ C.targets s
border-single C s = sum_over-single s C.targets

-- the border of the empty chain is empty
pub border-nothing : {G : Type 0} (C : Complex G) → border C nothing ≡ nothing
border-nothing C = linear-nothing (border C) (complex_border-add C)

-- the border of a border is empty
pub complex_border-border : {G : Type 0} (C : Complex G) → IsComplex C → (z : Chain) → border C (border C z) ≡ nothing
complex_border-border C laws z =
    linear-sum_over (border C) (complex_border-add C) z C.targets
    ∙ sum_over-same z _ (λ s. nothing) (λ s _. laws.squares s)
    ∙ sym (linear-sum_over (λ u. nothing) (λ z w. sym (add_self nothing)) z single)

-- a sum of empty chains is empty
pub sum_over-nothing : (z : Chain) → sum_over z (λ s. nothing) ≡ nothing
sum_over-nothing z = sym (linear-sum_over (λ u. nothing) (λ z w. sym (add_self nothing)) z single)

-- a complex without arrows has no borders
pub border-no_arrow : {G : Type 0} (C : Complex G) → ((s : ℕ) → C.targets s ≡ nothing) → (z : Chain)
    → border C z ≡ nothing
border-no_arrow C bare z = sum_over-same z C.targets (λ s. nothing) (λ s _. bare s) ∙ sum_over-nothing z

-- no code has an arrow to itself
pub no_loop : {G : Type 0} (C : Complex G) → IsComplex C → (s : ℕ) → arrow C s s ≡ false
no_loop C laws s = at_test (arrow C s s) refl
  where
    at_test : (b : Bool) → arrow C s s ≡ b → b ≡ false
    at_test true e = let (m, above, below) = laws.lowers s s e in
        absurd (laws.up_other m (same_some _ _ (sym above ∙ below)))
    at_test false e = refl

without-linear : (x y : ℕ) → IsLinear (without x y)
without-linear x y z w = where_code-add _ z w

-- the rest by one entry of a sum is the sum of the rests
pub rest_of_one-linear : (e : Entry) → IsLinear (rest_of_one e)
rest_of_one-linear e z w =
    ap₂ ◌⊕◌ (without-linear e.x e.y z w)
    (ap (λ b. cond b e.targets nothing) (holds-add z w e.y) ∙ when-xor (holds z e.y) (holds w e.y) e.targets)
    ∙ add_swap _ _ _ _

-- the lift by one entry of a sum is the sum of the lifts
pub lift_of_one-linear : (e : Entry) → IsLinear (lift_of_one e)
lift_of_one-linear e z w =
    ap (λ c. (z ⊕ w) ⊕ c) (ap (λ b. cond b (single e.x) nothing) (pairs_oddly-add z w e.sources)
    ∙ when-xor (pairs_oddly z e.sources) (pairs_oddly w e.sources) (single e.x))
    ∙ add_swap _ _ _ _

module _ {G : Type 0} (C : Complex G) (laws : IsComplex C) (e : Entry) (fits : IsEntry C e) where
  -- x is not y
  pub ends_differ : e.x ≢ e.y
  ends_differ same = true≢false (sym fits.arrows ∙ ap (arrow C e.x) (sym same) ∙ no_loop C laws e.x)

  -- a chain without x and y holds its other codes
  pub holds-without : (z : Chain) (q : ℕ) → holds (without e.x e.y z) q ≡ (holds z q && not (is_one_of e.x e.y q))
  holds-without z q = holds-where_code _ z q

  source_test : (s : ℕ) (a b : Bool) → (eqb s e.x ≡ true → a ≡ true) → eqb s e.x ≡ b → (a && not b) ≡ (a ⊻ b)
  source_test s true true h e = refl
  source_test s true false h e = refl
  source_test s false true h e = absurd (false≢true (h e))
  source_test s false false h e = refl

  pairs-sources : (z : Chain) → pairs_oddly z e.sources ≡ (holds (border C z) e.y ⊻ holds z e.x)
  pairs-sources z =
      pairs_oddly-weight z e.sources
      ∙ weight-same _ _ z (λ s _. fits.other_sources s ∙ source_test s (arrow C s e.y) (eqb s e.x)
      (λ same. ap (λ t. arrow C t e.y) (eqb-true s e.x same) ∙ fits.arrows) refl
      ∙ ap (λ b. arrow C s e.y ⊻ b) (eqb_comm s e.x))
      ∙ weight-xor _ _ z
      ∙ ap₂ ◌⊻◌ (sym (holds-sum_over z C.targets e.y)) (weight-at z e.x)

  -- z with the targets of x added if it holds y
  changed : Chain → Chain
  changed z = z ⊕ cond (holds z e.y) (C.targets e.x) nothing

  target_test : (t : ℕ) (a b c : Bool) → (c ≡ true → a ≡ false) → (a && not b) ≡ (a && not (c || b))
  target_test t true b true h = absurd (true≢false (h refl))
  target_test t true b false h = refl
  target_test t false b c h = refl

  targets-without : e.targets ≡ without e.x e.y (C.targets e.x)
  targets-without = same_chain _ _ (λ t. fits.other_targets t
      ∙ target_test t (arrow C e.x t) (eqb t e.y) (eqb t e.x)
      (λ same. ap (arrow C e.x) (eqb-true t e.x same) ∙ no_loop C laws e.x)
      ∙ sym (holds-without _ t))

  rest-changed : (z : Chain) → rest_of_one e z ≡ without e.x e.y (changed z)
  unfolding changed
  rest-changed z =
      ap (λ c. without e.x e.y z ⊕ c)
      (ap (λ c. cond (holds z e.y) c nothing) targets-without
      ∙ sym (linear-when _ (without-linear e.x e.y) (holds z e.y) _))
      ∙ sym (without-linear e.x e.y z _)

  -- a chain without x and y
  abbrev pub Free : Chain → Type 0
  Free z = (holds z e.x ≡ false) × (holds z e.y ≡ false)

  one_of_x : is_one_of e.x e.y e.x ≡ true
  one_of_x = ap (λ b. b || eqb e.x e.y) (eq-eqb e.x e.x refl)

  one_of_y : is_one_of e.x e.y e.y ≡ true
  one_of_y = ap (λ b. eqb e.y e.x || b) (eq-eqb e.y e.y refl) ∙ or-true _

  -- it has neither x nor y
  pub without-free : (z : Chain) → Free (without e.x e.y z)
  without-free z = (
    holds-without z e.x ∙ ap (λ b. holds z e.x && not b) one_of_x ∙ and-false _,
    holds-without z e.y ∙ ap (λ b. holds z e.y && not b) one_of_y ∙ and-false _,
  )

  -- a rest has neither x nor y
  pub rest-free : (z : Chain) → Free (rest_of_one e z)
  rest-free z = subst Free (sym (rest-changed z)) (without-free _)

  free_test : (b : Bool) (z : Chain) (q : ℕ) → is_one_of e.x e.y q ≡ b → Free z → (holds z q && not b) ≡ holds z q
  free_test false z q e free = and-true _
  free_test true z q is free = and-false _ ∙ sym (at_test (eqb q e.x) (eqb q e.y) refl refl is)
    where
      at_test : (a b : Bool) → eqb q e.x ≡ a → eqb q e.y ≡ b → (a || b) ≡ true → holds z q ≡ false
      at_test true b s t o = ap (holds z) (eqb-true q e.x s) ∙ free.0
      at_test false true s t o = ap (holds z) (eqb-true q e.y t) ∙ free.1
      at_test false false s t o = absurd (false≢true o)

  -- a chain that has neither is left as it is
  pub without-of_free : (z : Chain) → Free z → without e.x e.y z ≡ z
  without-of_free z free = same_chain _ _ (λ q. holds-without z q ∙ free_test (is_one_of e.x e.y q) z q refl free)

  -- a chain without y is its part without x and y, and x if it holds x
  split_test : (q : ℕ) (h hx a b : Bool) → (a ≡ true → h ≡ hx) → (b ≡ true → h ≡ false)
      → h ≡ ((h && not (a || b)) ⊻ (hx && a))
  split_test q true true true b f g = refl
  split_test q true false true b f g = f refl
  split_test q false true true b f g = f refl
  split_test q false false true b f g = refl
  split_test q true hx false true f g = absurd (true≢false (g refl))
  split_test q false true false true f g = refl
  split_test q false false false true f g = refl
  split_test q true true false false f g = refl
  split_test q true false false false f g = refl
  split_test q false true false false f g = refl
  split_test q false false false false f g = refl

  split : (z : Chain) → holds z e.y ≡ false → z ≡ without e.x e.y z ⊕ cond (holds z e.x) (single e.x) nothing
  split z no_y = same_chain _ _ (λ q.
      split_test q (holds z q) (holds z e.x) (eqb q e.x) (eqb q e.y) (λ s. ap (holds z) (eqb-true q e.x s))
      (λ s. ap (holds z) (eqb-true q e.y s) ∙ no_y)
      ∙ sym (holds-add _ _ q
      ∙ ap₂ ◌⊻◌ (holds-without z q) (holds-when (holds z e.x) (single e.x) q
      ∙ ap (λ b. holds z e.x && b) (holds-single e.x q))))

  changed-y : (z : Chain) → holds (changed z) e.y ≡ false
  unfolding changed
  changed-y z = holds-add z _ e.y
      ∙ ap (λ b. holds z e.y ⊻ b) (holds-when (holds z e.y) _ e.y ∙ ap (λ b. holds z e.y && b) fits.arrows ∙ and-true _)
      ∙ xor_self (holds z e.y)

  changed-x : (z : Chain) → holds (changed z) e.x ≡ holds z e.x
  unfolding changed
  changed-x z = holds-add z _ e.x
      ∙ ap (λ b. holds z e.x ⊻ b) (holds-when (holds z e.y) _ e.x ∙ ap (λ b. holds z e.y && b) (no_loop C laws e.x)
      ∙ and-false _) ∙ xor-false _

  changed-split : (z : Chain) → changed z ≡ rest_of_one e z ⊕ cond (holds z e.x) (single e.x) nothing
  changed-split z = split (changed z) (changed-y z)
      ∙ ap₂ ◌⊕◌ (sym (rest-changed z)) (ap (λ b. cond b (single e.x) nothing) (changed-x z))

  border-changed : (z : Chain) → border C (changed z) ≡ border C z
  unfolding changed
  border-changed z = complex_border-add C z _
      ∙ ap (λ c. border C z ⊕ c) (border-when C (holds z e.y) _
      ∙ ap (λ c. cond (holds z e.y) c nothing) (laws.squares e.x) ∙ same_branch (holds z e.y)) ∙ add-nothing _
    where
      same_branch : (b : Bool) → cond b nothing nothing ≡ nothing
      same_branch true = refl
      same_branch false = refl

  border-split : (z : Chain) → border C z ≡ border C (rest_of_one e z) ⊕ cond (holds z e.x) (C.targets e.x) nothing
  border-split z =
      sym (border-changed z) ∙ ap (border C) (changed-split z) ∙ complex_border-add C _ _
      ∙ ap (λ c. border C (rest_of_one e z) ⊕ c)
      (border-when C (holds z e.x) _ ∙ ap (λ c. cond (holds z e.x) c nothing) (border-single C e.x))

  kept_true : (h b : Bool) → (h && not b) ≡ h → h ≡ true → b ≡ false
  kept_true h true e is = absurd (false≢true (sym (and-false h) ∙ e ∙ is))
  kept_true h false e is = refl

  -- a code of such a chain is neither
  pub free_code : (z : Chain) → Free z → (s : ℕ) → holds z s ≡ true → is_one_of e.x e.y s ≡ false
  free_code z free s is = kept_true (holds z s) (is_one_of e.x e.y s) (free_test (is_one_of e.x e.y s) z s refl free) is

  -- the targets of another code are the rest of its targets
  pub cancelled-targets : (s : ℕ) → is_one_of e.x e.y s ≡ false
      → (cancelled C e.x e.y).targets s ≡ rest_of_one e (C.targets s)
  unfolding changed
  cancelled-targets s is =
      ap (λ b. cond b nothing (without e.x e.y (C.targets s ⊕ cond (arrow C s e.y) (C.targets e.x) nothing))) is
      ∙ sym (rest-changed (C.targets s))

  -- a free chain's border in the complex without x and y
  pub border-free : (z : Chain) → Free z → border (cancelled C e.x e.y) z ≡ rest_of_one e (border C z)
  border-free z free =
      sum_over-same z _ _ (λ s h. cancelled-targets s (free_code z free s h))
      ∙ sym (linear-sum_over (rest_of_one e) (rest_of_one-linear e) z C.targets)

  -- whether the rest of z pairs oddly with the sources
  pairs-rest : (z : Chain) → pairs_oddly (rest_of_one e z) e.sources ≡ (holds z e.x ⊻ holds (border C z) e.y)
  pairs-rest z =
      let at_y : holds (border C z) e.y ≡ (holds (border C (rest_of_one e z)) e.y ⊻ holds z e.x) =
      ap (λ c. holds c e.y) (border-split z) ∙ holds-add _ _ e.y
      ∙ ap (λ b. holds (border C (rest_of_one e z)) e.y ⊻ b)
      (holds-when (holds z e.x) _ e.y ∙ ap (λ b. holds z e.x && b) fits.arrows ∙ and-true _)
      in
      pairs-sources (rest_of_one e z)
      ∙ ap (λ b. holds (border C (rest_of_one e z)) e.y ⊻ b) ((rest-free z).0) ∙ xor-false _
      ∙ xor_solve _ _ _ at_y
    where
      xor_solve : (a b c : Bool) → a ≡ (b ⊻ c) → b ≡ (c ⊻ a)
      xor_solve a b c e = grind arith

  -- the lift of a rest, whatever the chain
  pub lift-rest : (z : Chain)
      → lift_of_one e (rest_of_one e z)
      ≡ (z ⊕ cond (holds z e.y) (C.targets e.x) nothing) ⊕ cond (holds (border C z) e.y) (single e.x) nothing
  unfolding changed
  lift-rest z =
      ap (λ c. rest_of_one e z ⊕ c) (ap (λ b. cond b (single e.x) nothing) (pairs-rest z)
      ∙ when-xor (holds z e.x) (holds (border C z) e.y) (single e.x))
      ∙ sym (add_assoc _ _ _)
      ∙ ap (λ c. c ⊕ cond (holds (border C z) e.y) (single e.x) nothing) (sym (changed-split z))

  -- the border of a lift is the lift of the border in the complex without x and y
  pub lift-border : (z : Chain) → Free z → border C (lift_of_one e z) ≡ lift_of_one e (border (cancelled C e.x e.y) z)
  lift-border z free =
      complex_border-add C z _
      ∙ ap (λ c. border C z ⊕ c) (border-when C _ _ ∙ ap₂ (λ b c. cond b c nothing)
      (pairs-sources z ∙ ap (λ b. holds (border C z) e.y ⊻ b) free.0 ∙ xor-false _) (border-single C e.x))
      ∙ sym (ap (lift_of_one e) (border-free z free)
      ∙ lift-rest (border C z)
      ∙ ap (λ c. (border C z ⊕ cond (holds (border C z) e.y) (C.targets e.x) nothing) ⊕ c)
      (ap (λ b. cond b (single e.x) nothing)
      (ap (λ c. holds c e.y) (complex_border-border C laws z) ∙ holds-nothing e.y))
      ∙ add-nothing _)

  only_x : (a b : Bool) → (a && not (a || b)) ≡ false
  only_x true b = refl
  only_x false b = refl

  rest-x : rest_of_one e (single e.x) ≡ nothing
  rest-x =
      ap₂ ◌⊕◌
      (same_chain (without e.x e.y (single e.x)) nothing
      (λ q. holds-without _ q ∙ ap (λ b. b && not (is_one_of e.x e.y q)) (holds-single e.x q)
      ∙ only_x (eqb q e.x) (eqb q e.y) ∙ sym (holds-nothing q)))
      (ap (λ b. cond b e.targets nothing) (holds-single e.x e.y ∙ ne_eqb e.y e.x (λ s. ends_differ (sym s))))
      ∙ add-nothing nothing

  -- the rest of a lift is the chain
  pub rest-lift : (z : Chain) → Free z → rest_of_one e (lift_of_one e z) ≡ z
  rest-lift z free =
      rest_of_one-linear e z _
      ∙ ap₂ ◌⊕◌
      (ap₂ ◌⊕◌ (without-of_free z free) (ap (λ b. cond b e.targets nothing) free.1) ∙ add-nothing z)
      (linear-when (rest_of_one e) (rest_of_one-linear e) _ (single e.x)
      ∙ ap (λ c. cond (pairs_oddly z e.sources) c nothing) rest-x ∙ either_nothing _)
      ∙ add-nothing z
    where
      either_nothing : (b : Bool) → cond b nothing nothing ≡ nothing
      either_nothing true = refl
      either_nothing false = refl

  rest-targets : rest_of_one e (C.targets e.x) ≡ nothing
  unfolding changed
  rest-targets =
      rest-changed (C.targets e.x)
      ∙ ap (without e.x e.y) (ap (λ b. C.targets e.x ⊕ cond b (C.targets e.x) nothing) fits.arrows ∙ add_self _)
      ∙ linear-nothing (without e.x e.y) (without-linear e.x e.y)

  -- the rest of a border is the border of the rest
  pub rest-border : (z : Chain) → rest_of_one e (border C z) ≡ border (cancelled C e.x e.y) (rest_of_one e z)
  rest-border z =
      ap (rest_of_one e) (border-split z)
      ∙ rest_of_one-linear e _ _
      ∙ ap (λ c. rest_of_one e (border C (rest_of_one e z)) ⊕ c)
      (linear-when (rest_of_one e) (rest_of_one-linear e) (holds z e.x) _
      ∙ ap (λ c. cond (holds z e.x) c nothing) rest-targets ∙ either_nothing _)
      ∙ add-nothing _
      ∙ sym (border-free (rest_of_one e z) (rest-free z))
    where
      either_nothing : (b : Bool) → cond b nothing nothing ≡ nothing
      either_nothing true = refl
      either_nothing false = refl

  -- ---- the toggled arrows
  holds-cond : (b : Bool) (z : Chain) (q : ℕ) → holds (cond b nothing z) q ≡ (not b && holds z q)
  holds-cond true z q = holds-nothing q
  holds-cond false z q = refl

  -- an arrow from s to t between other codes is toggled if s has one to y and x has one to t
  pub arrow-cancelled : (s t : ℕ)
      → arrow (cancelled C e.x e.y) s t
      ≡ (not (is_one_of e.x e.y s) && ((arrow C s t ⊻ (arrow C s e.y && arrow C e.x t)) && not (is_one_of e.x e.y t)))
  arrow-cancelled s t =
      holds-cond (is_one_of e.x e.y s) _ t
      ∙ ap (λ b. not (is_one_of e.x e.y s) && b)
      (holds-without _ t
      ∙ ap (λ b. b && not (is_one_of e.x e.y t)) (holds-add _ _ t ∙ ap (λ b. arrow C s t ⊻ b) (holds-when _ _ t)))

  through : (s t : ℕ) → arrow C s e.y ≡ true → arrow C e.x t ≡ true → IsAbove C s t
  through s t a b =
      let (m, s_above, y_below) = laws.lowers s e.y a in
      let (k, x_above, t_below) = laws.lowers e.x t b in
      let (j, x_up, y_down) = laws.lowers e.x e.y fits.arrows in
      let same_m : m ≡ j = same_some _ _ (sym y_below ∙ y_down) in
      let same_k : k ≡ j = laws.up_one _ _ (same_some _ _ (sym x_above ∙ x_up)) in
      (m, s_above, t_below ∙ ap Some (same_k ∙ sym same_m))

  -- other codes keep their degrees
  pub degree-cancelled : (s : ℕ) → is_one_of e.x e.y s ≡ false → (cancelled C e.x e.y).degree s ≡ C.degree s
  degree-cancelled s is = ap (λ b. cond b None (C.degree s)) is

  kept : (s t : ℕ) → is_one_of e.x e.y s ≡ false → is_one_of e.x e.y t ≡ false → IsAbove C s t
      → IsAbove (cancelled C e.x e.y) s t
  kept s t es et l = (l.0, degree-cancelled s es ∙ l.1, degree-cancelled t et ∙ l.2)

  lowers_by : (s t : ℕ) (os ot a b c : Bool) → is_one_of e.x e.y s ≡ os → is_one_of e.x e.y t ≡ ot → arrow C s t ≡ a
      → arrow C s e.y ≡ b → arrow C e.x t ≡ c
      → (not os && ((a ⊻ (b && c)) && not ot)) ≡ true → IsAbove (cancelled C e.x e.y) s t
  lowers_by s t true ot a b c es et ea eb ec h = absurd (false≢true h)
  lowers_by s t false true a b c es et ea eb ec h = absurd (false≢true (sym (and-false _) ∙ h))
  lowers_by s t false false true false c es et ea eb ec h = kept s t es et (laws.lowers s t ea)
  lowers_by s t false false true true false es et ea eb ec h = kept s t es et (laws.lowers s t ea)
  lowers_by s t false false true true true es et ea eb ec h = absurd (false≢true h)
  lowers_by s t false false false true true es et ea eb ec h = kept s t es et (through s t eb ec)
  lowers_by s t false false false true false es et ea eb ec h = absurd (false≢true h)
  lowers_by s t false false false false c es et ea eb ec h = absurd (false≢true h)

  squares_by : (s : ℕ) (b : Bool) → is_one_of e.x e.y s ≡ b
      → border (cancelled C e.x e.y) ((cancelled C e.x e.y).targets s) ≡ nothing
  squares_by s true is =
      ap (border (cancelled C e.x e.y))
      (ap (λ b. cond b nothing (without e.x e.y (C.targets s ⊕ cond (arrow C s e.y) (C.targets e.x) nothing))) is)
      ∙ border-nothing (cancelled C e.x e.y)
  squares_by s false is =
      ap (border (cancelled C e.x e.y)) (cancelled-targets s is)
      ∙ sym (rest-border (C.targets s))
      ∙ ap (rest_of_one e) (laws.squares s)
      ∙ linear-nothing (rest_of_one e) (rest_of_one-linear e)

  -- both rules of a complex are kept
  pub cancelled_IsComplex : IsComplex (cancelled C e.x e.y)
  cancelled_IsComplex = record {
    up_one = laws.up_one;
    up_other = laws.up_other;
    lowers = λ s t a. lowers_by s t _ _ _ _ _ refl refl refl refl refl (sym (arrow-cancelled s t) ∙ a);
    squares = λ s. squares_by s _ refl;
  }
