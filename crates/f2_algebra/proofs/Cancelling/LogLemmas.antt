-- The laws of a log of cancelled arrows.
use Rattle.std.proofs.Common.{◌≡◌, ℕ, Bool, true, false, not, cond, ◌&&◌, ◌||◌, eqb, List, [], ◌∷◌, ◌++◌, Option, Some, None, is_some, inl, inr, refl, sym, ap, ap₂, ◌∙◌}
use Rattle.std.proofs.lemmas.Bool.{eqb-true, ne_eqb, eq-eqb, true≢false, false≢true, and_parts}
use Rattle.f2_algebra.specs.Chain.{Chain, holds, nothing, single, ◌⊕◌, pairs_oddly}
use Rattle.f2_algebra.specs.Complex.{Complex, arrow, border, IsComplex, IsAbove, AllCells}
use Rattle.f2_algebra.specs.Cancel.{is_one_of, without, cancelled, Entry, IsEntry, IsLog, after, rest_of_one, rest, lift_of_one, lift, correction_after, correction, IsPull, pull_of_one, pull}
use Rattle.f2_algebra.proofs.Chains.Tables.{◌⊻◌, and_comm}
use Rattle.f2_algebra.proofs.Chains.Sets.{same_chain, holds-nothing, holds-single, holds-add, holds-where_code, weight, weight-some, weight-add, weight-xor, weight-same, weight-single, weight-where, weight-none, xor-true, pairs_oddly-weight}
use Rattle.f2_algebra.proofs.Chains.Sums.{add_comm, add_assoc, add_self, add-nothing, holds-when, weight-when, weight-singles, pairs_oddly-single, IsLinear, linear-nothing, linear-when}
use Rattle.f2_algebra.proofs.Cancelling.Cancellation.{same_some, no_loop, complex_border-add, border-when, border-single, border-nothing, holds-without, rest_of_one-linear, lift_of_one-linear, Free, lift-rest, lift-border, rest-lift, rest-border, degree-cancelled, cancelled_IsComplex}

-- the correction, from the first entry on: x if the chain holds y, and the lift of the correction of what is left
abbrev pub correction_by : List Entry → Chain → Chain
correction_by [] z = nothing
correction_by (e ∷ log) z =
    cond (holds z e.y) (single e.x) nothing ⊕ lift_of_one e (correction_by log (rest_of_one e z))

-- ---- where the codes of rests, lifts and corrections come from
dead : {A : Type 0} {G : Type 0} (C : Complex G) (x y s : ℕ) → is_one_of x y s ≡ true
    → is_some ((cancelled C x y).degree s) ≡ true → A
dead {G = G} C x y s one live =
    absurd (false≢true (sym (ap (λ b. is_some (cond {A = Option G} b None (C.degree s))) one) ∙ live))

-- a cell that is left is neither x nor y
pub live_code : {G : Type 0} (C : Complex G) (x y s : ℕ) → is_some ((cancelled C x y).degree s) ≡ true
    → is_one_of x y s ≡ false
live_code C x y s live = at_test (is_one_of x y s) refl
  where
    at_test : (b : Bool) → is_one_of x y s ≡ b → b ≡ false
    at_test true e = dead C x y s e live
    at_test false e = refl

-- a test that cannot hold is false
pub none_where : (b : Bool) → (b ≡ true → ⊥) → b ≡ false
none_where true h = absurd (h refl)
none_where false h = refl

module _ {G : Type 0} (C : Complex G) (laws : IsComplex C) (e : Entry) (fits : IsEntry C e) where
  abbrev D : Complex G
  D = cancelled C e.x e.y

  -- a chain of cells that are left has neither x nor y
  pub cells-free : (z : Chain) → AllCells D z → Free C laws e fits z
  cells-free z cells = (
    none_where (holds z e.x) (λ h. dead C e.x e.y e.x (ap (λ b. b || eqb e.x e.y) (eq-eqb e.x e.x refl)) (cells e.x h)),
    none_where (holds z e.y) (λ h. dead C e.x e.y e.y (one (eqb e.y e.x)) (cells e.y h)),
  )
    where
      one : (b : Bool) → (b || eqb e.y e.y) ≡ true
      one true = refl
      one false = eq-eqb e.y e.y refl

  -- the targets of x have one degree
  pub same_targets : (t : ℕ) → arrow C e.x t ≡ true → C.degree e.y ≡ C.degree t
  same_targets t a =
      let (j, x_up, y_down) = laws.lowers e.x e.y fits.arrows in
      let (k, x_above, t_below) = laws.lowers e.x t a in
      y_down ∙ ap Some (laws.up_one j k (same_some _ _ (sym x_up ∙ x_above))) ∙ sym t_below

  same_sources : (s : ℕ) → arrow C s e.y ≡ true → C.degree e.x ≡ C.degree s
  same_sources s a =
      let (j, x_up, y_down) = laws.lowers e.x e.y fits.arrows in
      let (k, s_above, y_below) = laws.lowers s e.y a in
      x_up ∙ ap (λ m. Some (C.up m)) (same_some _ _ (sym y_down ∙ y_below)) ∙ sym s_above

  -- a test whose negation holds is false
  pub not_one : (s : ℕ) (b : Bool) → not b ≡ true → b ≡ false
  not_one s true h = absurd (false≢true h)
  not_one s false h = refl

  rest_origin : (z : Chain) (s : ℕ) → holds (rest_of_one e z) s ≡ true
      → (t : ℕ) × (holds z t ≡ true) × (C.degree t ≡ D.degree s)
  rest_origin z s h =
      elim (xor-true (holds (without e.x e.y z) s) (holds (cond (holds z e.y) e.targets nothing) s)
      (sym (holds-add _ _ s) ∙ h)) [
        | inl a ↦
            let (in_z, free) =
            and_parts (holds z s) (not (is_one_of e.x e.y s)) (sym (holds-without C laws e fits z s) ∙ a) in
            (s, in_z, sym (degree-cancelled C laws e fits s (not_one s _ free)))
        | inr b ↦
            let (y_in, in_targets) =
            and_parts (holds z e.y) (holds e.targets s) (sym (holds-when (holds z e.y) e.targets s) ∙ b) in
            let (x_to_s, not_y) =
            and_parts (arrow C e.x s) (not (eqb s e.y)) (sym (fits.other_targets s) ∙ in_targets) in
            let not_x : eqb s e.x ≡ false =
            ne_eqb s e.x (λ same. true≢false (sym x_to_s ∙ ap (arrow C e.x) same ∙ no_loop C laws e.x)) in (
              e.y,
              y_in,
              same_targets s x_to_s ∙ sym (degree-cancelled C laws e fits s (ap₂ ◌||◌ not_x (not_one s _ not_y))),
            )
      ]

  -- each code of a lift has the degree of a code of the chain
  pub lift_origin : (z : Chain) → AllCells D z → (s : ℕ) → holds (lift_of_one e z) s ≡ true
      → (t : ℕ) × (holds z t ≡ true) × (C.degree s ≡ D.degree t)
  lift_origin z cells s h =
      elim (xor-true (holds z s) (holds (cond (pairs_oddly z e.sources) (single e.x) nothing) s)
      (sym (holds-add _ _ s) ∙ h)) [
        | inl a ↦ (s, a, sym (degree-cancelled C laws e fits s (live_code C e.x e.y s (cells s a))))
        | inr b ↦
            let (pairs, is_x) =
            and_parts (pairs_oddly z e.sources) (holds (single e.x) s) (sym (holds-when _ (single e.x) s) ∙ b) in
            let (t, in_z, in_sources) =
            weight-some (holds e.sources) z (sym (pairs_oddly-weight z e.sources) ∙ pairs) in
            let (t_to_y, _) = and_parts (arrow C t e.y) (not (eqb t e.x)) (sym (fits.other_sources t) ∙ in_sources) in (
              t,
              in_z,
              ap C.degree (eqb-true s e.x (sym (holds-single e.x s) ∙ is_x)) ∙ same_sources t t_to_y
                  ∙ sym (degree-cancelled C laws e fits t (live_code C e.x e.y t (cells t in_z))),
            )
      ]

  -- a cell that is left keeps its degree
  pub live_below : (s : ℕ) → is_some (D.degree s) ≡ true → D.degree s ≡ C.degree s
  live_below s live = degree-cancelled C laws e fits s (live_code C e.x e.y s live)

-- a chain all of whose codes share a degree with a cell is a chain of cells
cells_from : {G : Type 0} (C D : Complex G) (z w : Chain) → AllCells D w
    → ((s : ℕ) → holds z s ≡ true → (t : ℕ) × (holds w t ≡ true) × (C.degree s ≡ D.degree t)) → AllCells C z
cells_from C D z w cells from s h = let (t, in_w, same) = from s h in ap is_some same ∙ cells t in_w

-- ---- the log
-- what is left after a log is a complex
pub after_IsComplex : {G : Type 0} (C : Complex G) → IsComplex C → (log : List Entry) → IsLog C log
    → IsComplex (after C log)
after_IsComplex C laws [] stands = laws
after_IsComplex C laws (e ∷ log) stands =
    after_IsComplex (cancelled C e.x e.y) (cancelled_IsComplex C laws e stands.0) log stands.1

-- what is live at last was live at first, with the same degree
pub live_at_first : {G : Type 0} (C : Complex G) → IsComplex C → (log : List Entry) → IsLog C log → (s : ℕ)
    → is_some ((after C log).degree s) ≡ true → (after C log).degree s ≡ C.degree s
live_at_first C laws [] stands s live = refl
live_at_first C laws (e ∷ log) stands s live =
    let below = live_at_first (cancelled C e.x e.y) (cancelled_IsComplex C laws e stands.0) log stands.1 s live in
    below ∙ live_below C laws e stands.0 s (sym (ap is_some below) ∙ live)

-- each code of a rest has, in the last complex, the degree that a code of the chain has in the first
pub rest_degrees : {G : Type 0} (C : Complex G) → IsComplex C → (log : List Entry) → IsLog C log → (z : Chain) (s : ℕ)
    → holds (rest log z) s ≡ true
    → (t : ℕ) × (holds z t ≡ true) × (C.degree t ≡ (after C log).degree s)
rest_degrees C laws [] stands z s h = (s, h, refl)
rest_degrees C laws (e ∷ log) stands z s h =
    let (u, in_rest, same) =
    rest_degrees (cancelled C e.x e.y) (cancelled_IsComplex C laws e stands.0) log stands.1 (rest_of_one e z) s h in
    let (t, in_z, too) = rest_origin C laws e stands.0 z u in_rest in
    (t, in_z, too ∙ same)

-- each code of a lift has, in the first complex, the degree that a code of the chain has in the last
pub lift_degrees : {G : Type 0} (C : Complex G) → IsComplex C → (log : List Entry) → IsLog C log → (z : Chain)
    → AllCells (after C log) z → (s : ℕ) → holds (lift log z) s ≡ true
    → (t : ℕ) × (holds z t ≡ true) × (C.degree s ≡ (after C log).degree t)
lift_degrees C laws [] stands z cells s h = (s, h, refl)
lift_degrees C laws (e ∷ log) stands z cells s h =
    let D = cancelled C e.x e.y in
    let later = lift_degrees D (cancelled_IsComplex C laws e stands.0) log stands.1 z cells in
    let (u, in_lift, same) =
    lift_origin C laws e stands.0 (lift log z) (cells_from D (after D log) (lift log z) z cells later) s h in
    let (t, in_z, too) = later u in_lift in
    (t, in_z, same ∙ too)

-- the lift of cells has cells alone
pub lift_cells : {G : Type 0} (C : Complex G) → IsComplex C → (log : List Entry) → IsLog C log → (z : Chain)
    → AllCells (after C log) z → AllCells C (lift log z)
lift_cells C laws log stands z cells =
    cells_from C (after C log) (lift log z) z cells (lift_degrees C laws log stands z cells)

-- each code of a correction has the degree above that of a code of the chain
pub correction_degrees : {G : Type 0} (C : Complex G) → IsComplex C → (log : List Entry) → IsLog C log
    → (z : Chain) (s : ℕ) → holds (correction_by log z) s ≡ true
    → (t : ℕ) × (holds z t ≡ true) × IsAbove C s t
correction_degrees C laws [] stands z s h = absurd (false≢true (sym (holds-nothing s) ∙ h))
correction_degrees C laws (e ∷ log) stands z s h =
    let D = cancelled C e.x e.y in
    let later = correction_degrees D (cancelled_IsComplex C laws e stands.0) log stands.1 (rest_of_one e z) in
    elim (xor-true (holds (cond (holds z e.y) (single e.x) nothing) s)
    (holds (lift_of_one e (correction_by log (rest_of_one e z))) s) (sym (holds-add _ _ s) ∙ h)) [
      | inl a ↦
          let (y_in, is_x) =
          and_parts (holds z e.y) (holds (single e.x) s) (sym (holds-when (holds z e.y) (single e.x) s) ∙ a) in
          let (m, x_above, y_below) = laws.lowers e.x e.y stands.0.arrows in
          (e.y, y_in, (m, ap C.degree (eqb-true s e.x (sym (holds-single e.x s) ∙ is_x)) ∙ x_above, y_below))
      | inr b ↦
          let cells : AllCells D (correction_by log (rest_of_one e z)) =
          λ u i. let (v, _, (m, above, _)) = later u i in ap is_some above in
          let (u, in_later, same) = lift_origin C laws e stands.0 _ cells s b in
          let (v, in_rest, (m, above, below)) = later u in_later in
          let (t, in_z, too) = rest_origin C laws e stands.0 z v in_rest in
          (t, in_z, (m, same ∙ above, too ∙ below))
    ]

-- ---- the laws
-- the border of the lift of cells of the last complex is the lift of their border there
pub border-lift : {G : Type 0} (C : Complex G) → IsComplex C → (log : List Entry) → IsLog C log → (z : Chain)
    → AllCells (after C log) z → border C (lift log z) ≡ lift log (border (after C log) z)
border-lift C laws [] stands z cells = refl
border-lift C laws (e ∷ log) stands z cells =
    let next = cancelled_IsComplex C laws e stands.0 in
    lift-border C laws e stands.0 (lift log z)
    (cells-free C laws e stands.0 _ (lift_cells (cancelled C e.x e.y) next log stands.1 z cells))
    ∙ ap (lift_of_one e) (border-lift (cancelled C e.x e.y) next log stands.1 z cells)

-- the rest of a border is the border, in the last complex, of the rest
pub rest_border : {G : Type 0} (C : Complex G) → IsComplex C → (log : List Entry) → IsLog C log → (z : Chain)
    → rest log (border C z) ≡ border (after C log) (rest log z)
rest_border C laws [] stands z = refl
rest_border C laws (e ∷ log) stands z =
    ap (rest log) (rest-border C laws e stands.0 z)
    ∙ rest_border (cancelled C e.x e.y) (cancelled_IsComplex C laws e stands.0) log stands.1 (rest_of_one e z)

-- the rest of a lift of cells of the last complex is these cells
pub rest_lift : {G : Type 0} (C : Complex G) → IsComplex C → (log : List Entry) → IsLog C log → (z : Chain)
    → AllCells (after C log) z → rest log (lift log z) ≡ z
rest_lift C laws [] stands z cells = refl
rest_lift C laws (e ∷ log) stands z cells =
    let next = cancelled_IsComplex C laws e stands.0 in
    ap (rest log) (rest-lift C laws e stands.0 (lift log z)
    (cells-free C laws e stands.0 _ (lift_cells (cancelled C e.x e.y) next log stands.1 z cells)))
    ∙ rest_lift (cancelled C e.x e.y) next log stands.1 z cells

-- the lift of a sum is the sum of the lifts
pub lift-linear : (log : List Entry) → IsLinear (lift log)
lift-linear [] z w = refl
lift-linear (e ∷ log) z w = ap (lift_of_one e) (lift-linear log z w) ∙ lift_of_one-linear e (lift log z) (lift log w)

-- the rest of a sum is the sum of the rests
pub rest-linear : (log : List Entry) → IsLinear (rest log)
rest-linear [] z w = refl
rest-linear (e ∷ log) z w =
    ap (rest log) (rest_of_one-linear e z w) ∙ rest-linear log (rest_of_one e z) (rest_of_one e w)

regroup : (l p q : Chain) → (l ⊕ p) ⊕ q ≡ l ⊕ (q ⊕ p)
regroup l p q = add_assoc l p q ∙ ap (λ c. l ⊕ c) (add_comm p q)

-- a cycle is the sum of the lift of its rest and the border of its correction
pub cycle_law : {G : Type 0} (C : Complex G) → IsComplex C → (log : List Entry) → IsLog C log → (z : Chain)
    → border C z ≡ nothing → z ≡ lift log (rest log z) ⊕ border C (correction_by log z)
cycle_law C laws [] stands z cycle = sym (ap (λ c. z ⊕ c) (border-nothing C) ∙ add-nothing z)
cycle_law C laws (e ∷ log) stands z cycle =
    let D = cancelled C e.x e.y in
    let next = cancelled_IsComplex C laws e stands.0 in
    let r = rest_of_one e z in
    let c = correction_by log r in
    let r_cycle : border D r ≡ nothing = sym (rest-border C laws e stands.0 z) ∙ ap (rest_of_one e) cycle
    ∙ linear-nothing (rest_of_one e) (rest_of_one-linear e) in
    let c_free : Free C laws e stands.0 c =
    cells-free C laws e stands.0 c
    (λ u i. let (v, _, (m, above, _)) = correction_degrees D next log stands.1 r u i in ap is_some above) in
    let lifted : lift_of_one e r ≡ lift_of_one e (lift log (rest log r)) ⊕ border C (lift_of_one e c) =
    ap (lift_of_one e) (cycle_law (cancelled C e.x e.y) next log stands.1 r r_cycle)
    ∙ lift_of_one-linear e (lift log (rest log r)) (border D c)
    ∙ ap (λ u. lift_of_one e (lift log (rest log r)) ⊕ u) (sym (lift-border C laws e stands.0 c c_free))
    in
    let toggled : lift_of_one e r ≡ z ⊕ border C (cond (holds z e.y) (single e.x) nothing) =
    lift-rest C laws e stands.0 z
    ∙ ap (λ u. (z ⊕ cond (holds z e.y) (C.targets e.x) nothing) ⊕ u)
    (ap (λ b. cond b (single e.x) nothing) (ap (λ u. holds u e.y) cycle ∙ holds-nothing e.y))
    ∙ add-nothing _
    ∙ ap (λ u. z ⊕ u) (sym (border-when C (holds z e.y) (single e.x)
    ∙ ap (λ u. cond (holds z e.y) u nothing) (border-single C e.x)))
    in
    moved z _ _ _ (sym toggled ∙ lifted)
    ∙ ap (λ u. lift_of_one e (lift log (rest log r)) ⊕ u)
    (sym (complex_border-add C (cond (holds z e.y) (single e.x) nothing) (lift_of_one e c)))
  where
    moved : (z q l p : Chain) → z ⊕ q ≡ l ⊕ p → z ≡ l ⊕ (q ⊕ p)
    moved z q l p same =
        sym (add_assoc z q q ∙ ap (λ c. z ⊕ c) (add_self q) ∙ add-nothing z) ∙ ap (λ c. c ⊕ q) same ∙ regroup l p q

-- ---- pulls
-- a pull of one entry pairs with a chain as the cochain does with its rest
pub pairs-rest_of_one : (e : Entry) (z f : Chain) → pairs_oddly (rest_of_one e z) f ≡ pairs_oddly z (pull_of_one e f)
pairs-rest_of_one e z f =
    pairs_oddly-weight _ f ∙ weight-add (holds f) (without e.x e.y z) _
    ∙ ap₂ ◌⊻◌
    (weight-where (λ s. not (is_one_of e.x e.y s)) (holds f) z
    ∙ weight-same _ _ z (λ s _. and_comm _ (holds f s) ∙ sym (holds-where_code _ f s)))
    (weight-when (holds f) (holds z e.y) e.targets ∙ ap (λ b. holds z e.y && b) (sym (pairs_oddly-weight e.targets f))
    ∙ at_y (pairs_oddly e.targets f))
    ∙ sym (weight-xor _ _ z)
    ∙ weight-same _ _ z (λ s _. sym (holds-add _ _ s))
    ∙ sym (pairs_oddly-weight z _)
  where
    at_y : (b : Bool) → (holds z e.y && b) ≡ weight (λ s. holds (cond b (single e.y) nothing) s) z
    at_y true = and_comm (holds z e.y) true ∙ sym (weight-singles e.y z)
    at_y false =
        and_comm (holds z e.y) false ∙ sym (weight-same _ (λ s. false) z (λ s _. holds-nothing s) ∙ weight-none z)

-- a pull pairs with a chain as the cochain does with its rest
pub pairs-pull : (log : List Entry) (f z : Chain) → pairs_oddly z (pull log f) ≡ pairs_oddly (rest log z) f
pairs-pull [] f z = refl
pairs-pull (e ∷ log) f z = sym (pairs-rest_of_one e z (pull log f)) ∙ pairs-pull log f (rest_of_one e z)

-- the pull of s pairs oddly with exactly the chains whose rest holds s
pub pairs-pull_single : (log : List Entry) (s : ℕ) (z : Chain)
    → pairs_oddly z (pull log (single s)) ≡ holds (rest log z) s
pairs-pull_single log s z = pairs-pull log (single s) z ∙ pairs_oddly-single s (rest log z)

-- the pull of s is one
pub pull_IsPull : (log : List Entry) (s : ℕ) → IsPull log s (pull log (single s))
pull_IsPull log s t = sym (weight-single (holds (pull log (single s))) t)
    ∙ sym (pairs_oddly-weight (single t) (pull log (single s))) ∙ pairs-pull_single log s (single t)

-- there is one pull of s
pub one_pull : (log : List Entry) (s : ℕ) (f g : Chain) → IsPull log s f → IsPull log s g → f ≡ g
one_pull log s f g a b = same_chain f g (λ t. a t ∙ sym (b t))

-- a pull of a code has that code's degree
pub pull_degrees : {G : Type 0} (C : Complex G) → IsComplex C → (log : List Entry) → IsLog C log → (s : ℕ) (f : Chain)
    → IsPull log s f → (t : ℕ) → holds f t ≡ true → C.degree t ≡ (after C log).degree s
pull_degrees C laws log stands s f is t h =
    let (u, in_t, same) = rest_degrees C laws log stands (single t) s (sym (is t) ∙ h) in
    ap C.degree (sym (eqb-true u t (sym (holds-single t u) ∙ in_t))) ∙ same

-- ---- one more entry at the end
-- the rest by one more entry at the end
pub rest-push : (log : List Entry) (e : Entry) (z : Chain) → rest (log ++ e ∷ []) z ≡ rest_of_one e (rest log z)
rest-push [] e z = refl
rest-push (f ∷ log) e z = rest-push log e (rest_of_one f z)

-- the lift by one more entry at the end
pub lift-push : (log : List Entry) (e : Entry) (z : Chain) → lift (log ++ e ∷ []) z ≡ lift log (lift_of_one e z)
lift-push [] e z = refl
lift-push (f ∷ log) e z = ap (lift_of_one f) (lift-push log e z)

correction_after-lift : (done log : List Entry) (z : Chain)
    → correction_after done log z ≡ lift done (correction_by log (rest done z))
correction_after-lift done [] z = sym (linear-nothing (lift done) (lift-linear done))
correction_after-lift done (e ∷ log) z =
    ap₂ ◌⊕◌
    (sym (linear-when (lift done) (lift-linear done) (holds (rest done z) e.y) (single e.x)))
    (correction_after-lift (done ++ e ∷ []) log z ∙ lift-push done e _
    ∙ ap (λ u. lift done (lift_of_one e (correction_by log u))) (rest-push done e z))
    ∙ sym (lift-linear done _ _)

-- the correction, from the first entry on
pub correction-by : (log : List Entry) (z : Chain) → correction log z ≡ correction_by log z
correction-by log z = correction_after-lift [] log z
