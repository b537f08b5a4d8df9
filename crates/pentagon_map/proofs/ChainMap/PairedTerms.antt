-- The twelve terms with weights: they cancel if the weights agree in pairs. Then the weights that pentagons have.
use Rattle.std.proofs.Common.{Bool, ap₂, cond, false, not, refl, sym, true, ◌&&◌, ◌∙◌, ◌≡◌}
use mathlib.Core.Bool.{beq}
use mathlib.Core.Path.{fun_ext}
use Rattle.f2_algebra.proofs.Chains.Tables.{Same, Table, and-false, same, xor-false, xor_comm, ◌⊻◌}
use Rattle.rectangles.proofs.Square.CyclicOrder.{Place, first, next, second, third}
use Rattle.rectangles.proofs.Square.ThreeColumns.{along, nine, shared_term}

abbrev pub Weight : Type 0
Weight = Place → Bool → Bool → Bool

abbrev pub weighted : Bool → Bool → (Place → Place → Bool) → Weight → Place → Bool
weighted u v g S m =
    ((shared_term u v g m true true && S m true true) ⊻ (shared_term u v g m true false && S m true false))
    ⊻ ((shared_term u v g m false true && S m false true) ⊻ (shared_term u v g m false false && S m false false))

-- the signs of the two terms that stay at a place
abbrev pub sign1 : Bool → Bool → Bool
sign1 u v = cond (beq u v) u (not u)

abbrev pub sign2 : Bool → Bool → Bool
sign2 u v = cond (beq u v) (not u) u

-- the two terms that are equal have one pair_weight
abbrev pub IsPaired : Bool → Bool → Weight → Type 0
IsPaired u v S = (m : Place) → S m (sign1 u v) u ≡ S (next m) u (sign2 u v)

stay : (u v : Bool) (g : Place → Place → Bool) (S : Weight) (m : Place)
    → weighted u v g S m
    ≡ (shared_term u v g m (sign1 u v) u && S m (sign1 u v) u)
    ⊻ (shared_term u v g m u (sign2 u v) && S m u (sign2 u v))
stay true true g S m = xor-false _
stay false false g S m =
    xor_comm (shared_term false false g m false true && S m false true)
    (shared_term false false g m false false && S m false false)
stay true false g S m =
    (λ i. ((shared_term true false g m true true && S m true true) ⊻ (gone true i && S m true false))
    ⊻ ((shared_term true false g m false true && S m false true) ⊻ (gone false i && S m false false)))
    ∙ same 2 (λ x y. (x ⊻ false) ⊻ (y ⊻ false)) (λ x y. y ⊻ x) refl
    (shared_term true false g m true true && S m true true)
    (shared_term true false g m false true && S m false true)
  where
    gone : (s : Bool) → shared_term true false g m s false ≡ false
    gone s = and-false _
stay false true g S m =
    (λ i. ((gone true i && S m true true) ⊻ (shared_term false true g m true false && S m true false))
    ⊻ ((gone false i && S m false true) ⊻ (shared_term false true g m false false && S m false false)))
  where
    gone : (s : Bool) → shared_term false true g m s true ≡ false
    gone s = and-false _

twin_left : Bool → Bool → Place → Table 9
twin_left u v m a b c d e f g h i = shared_term u v (nine a b c d e f g h i) m (sign1 u v) u

twin_right : Bool → Bool → Place → Table 9
twin_right u v m a b c d e f g h i = shared_term u v (nine a b c d e f g h i) (next m) u (sign2 u v)

twins_table : (u v : Bool) (m : Place) → Same 9 (twin_left u v m) (twin_right u v m)
unfolding twin_left twin_right
twins_table true true first = same 9 (twin_left true true first) (twin_right true true first) refl
twins_table true true second = same 9 (twin_left true true second) (twin_right true true second) refl
twins_table true true third = same 9 (twin_left true true third) (twin_right true true third) refl
twins_table true false first = same 9 (twin_left true false first) (twin_right true false first) refl
twins_table true false second = same 9 (twin_left true false second) (twin_right true false second) refl
twins_table true false third = same 9 (twin_left true false third) (twin_right true false third) refl
twins_table false true first = same 9 (twin_left false true first) (twin_right false true first) refl
twins_table false true second = same 9 (twin_left false true second) (twin_right false true second) refl
twins_table false true third = same 9 (twin_left false true third) (twin_right false true third) refl
twins_table false false first = same 9 (twin_left false false first) (twin_right false false first) refl
twins_table false false second = same 9 (twin_left false false second) (twin_right false false second) refl
twins_table false false third = same 9 (twin_left false false third) (twin_right false false third) refl

twins : (u v : Bool) (g : Place → Place → Bool) (m : Place)
    → shared_term u v g m (sign1 u v) u ≡ shared_term u v g (next m) u (sign2 u v)
unfolding twin_left twin_right
twins u v g first =
    twins_table u v first (g first first) (g first second) (g first third) (g second first) (g second second)
    (g second third) (g third first) (g third second) (g third third)
twins u v g second =
    twins_table u v second (g first first) (g first second) (g first third) (g second first) (g second second)
    (g second third) (g third first) (g third second) (g third third)
twins u v g third =
    twins_table u v third (g first first) (g first second) (g first third) (g second first) (g second second)
    (g second third) (g third first) (g third second) (g third third)

pub weighted_cancel : (u v : Bool) (g : Place → Place → Bool) (S : Weight) → IsPaired u v S
    → weighted u v g S first ⊻ (weighted u v g S second ⊻ weighted u v g S third) ≡ false
weighted_cancel u v g S h =
    (λ i. stay u v g S first i ⊻ (stay u v g S second i ⊻ stay u v g S third i))
    ∙ (λ i. (one first ⊻ link third i) ⊻ ((one second ⊻ link first i) ⊻ (one third ⊻ link second i)))
    ∙ same 3 (λ x y z. (x ⊻ z) ⊻ ((y ⊻ x) ⊻ (z ⊻ y))) (λ x y z. false) refl (one first) (one second) (one third)
  where
    one : Place → Bool
    one m = shared_term u v g m (sign1 u v) u && S m (sign1 u v) u

    link : (m : Place) → (shared_term u v g (next m) u (sign2 u v) && S (next m) u (sign2 u v)) ≡ one m
    link m = sym (ap₂ (λ x y. x && y) (twins u v g m) (h m))

-- ---- the weights of pentagons at the first column of three
-- whether the column right of the first circle is in a range of columns, and the column left of it
abbrev pub has_right : Bool → Place → Bool → Bool
has_right u first s = s
has_right u second s = not (beq u s)
has_right u third s = not s

abbrev pub has_left : Bool → Place → Bool → Bool
has_left u first s = not s
has_left u second s = not (beq u s)
has_left u third s = s

-- a range of columns has a corner on the first circle
abbrev pub has_corner : Place → Bool
has_corner first = true
has_corner second = false
has_corner third = true

-- of two arcs that a long range of rows has: the lower one
abbrev pub lower_arc : Bool → Place → Place
lower_arc v m = cond v (next m) (next (next m))

abbrev pub upper : Bool → Place → Place
upper v m = cond v (next (next m)) (next m)

abbrev pub is_same_place : Place → Place → Bool
is_same_place first first = true
is_same_place second second = true
is_same_place third third = true
is_same_place first second = false
is_same_place first third = false
is_same_place second first = false
is_same_place second third = false
is_same_place third first = false
is_same_place third second = false

-- the rows of a pentagon: w is in the arc y; L and R say of each arc that it has no row of L, of R; rm that the part of
-- y below w has no R, lp that the part above w has no L
abbrev pub pent : Bool → Place → (Place → Bool) → (Place → Bool) → Bool → Bool → Bool → Place → Bool
pent v y L R rm lp s m =
    cond (beq v s) (is_same_place m y && (rm && lp))
    (cond (is_same_place (lower_arc v m) y) (rm && (lp && L (upper v m)))
    (cond (is_same_place (upper v m) y) ((R (lower_arc v m) && rm) && lp) false))

-- the rows of a rectangle, beside a circle that has rows of A on its left and of B on its right
abbrev pub strip : Bool → Bool → (Place → Bool) → (Place → Bool) → Place → Bool → Bool → Place → Bool
strip u v A B m s s' m' =
    not (has_right u m s && not (along v s' m' B)) && not (has_left u m s && not (along v s' m' A))

abbrev pub pair_weight : Bool → Bool → Place → (Place → Bool) → (Place → Bool) → Bool → Bool → Weight
pair_weight u v y L R rm lp m s s' =
    ((has_corner m && pent v y L R rm lp s m) && strip u v R L (next m) s' (not s') (next (next m)))
    ⊻ (strip u v L R m s s m && (has_corner (next m) && pent v y L R rm lp (not s') (next (next m))))

abbrev pub of_three : Bool → Bool → Bool → Place → Bool
of_three a b c first = a
of_three a b c second = b
of_three a b c third = c

pair_left : Bool → Bool → Place → Place → Table 8
pair_left u v y m a b c d e f rm lp = pair_weight u v y (of_three a b c) (of_three d e f) rm lp m (sign1 u v) u

pair_right : Bool → Bool → Place → Place → Table 8
pair_right u v y m a b c d e f rm lp = pair_weight u v y (of_three a b c) (of_three d e f) rm lp (next m) u (sign2 u v)

pairs_table : (u v : Bool) (y m : Place) → Same 8 (pair_left u v y m) (pair_right u v y m)
unfolding pair_left pair_right
pairs_table true true first first = same 8 (pair_left true true first first) (pair_right true true first first) refl
pairs_table true true first second = same 8 (pair_left true true first second) (pair_right true true first second) refl
pairs_table true true first third = same 8 (pair_left true true first third) (pair_right true true first third) refl
pairs_table true true second first = same 8 (pair_left true true second first) (pair_right true true second first) refl
pairs_table true true second second =
    same 8 (pair_left true true second second) (pair_right true true second second) refl
pairs_table true true second third = same 8 (pair_left true true second third) (pair_right true true second third) refl
pairs_table true true third first = same 8 (pair_left true true third first) (pair_right true true third first) refl
pairs_table true true third second = same 8 (pair_left true true third second) (pair_right true true third second) refl
pairs_table true true third third = same 8 (pair_left true true third third) (pair_right true true third third) refl
pairs_table true false first first = same 8 (pair_left true false first first) (pair_right true false first first) refl
pairs_table true false first second =
    same 8 (pair_left true false first second) (pair_right true false first second) refl
pairs_table true false first third = same 8 (pair_left true false first third) (pair_right true false first third) refl
pairs_table true false second first =
    same 8 (pair_left true false second first) (pair_right true false second first) refl
pairs_table true false second second =
    same 8 (pair_left true false second second) (pair_right true false second second) refl
pairs_table true false second third =
    same 8 (pair_left true false second third) (pair_right true false second third) refl
pairs_table true false third first = same 8 (pair_left true false third first) (pair_right true false third first) refl
pairs_table true false third second =
    same 8 (pair_left true false third second) (pair_right true false third second) refl
pairs_table true false third third = same 8 (pair_left true false third third) (pair_right true false third third) refl
pairs_table false true first first = same 8 (pair_left false true first first) (pair_right false true first first) refl
pairs_table false true first second =
    same 8 (pair_left false true first second) (pair_right false true first second) refl
pairs_table false true first third = same 8 (pair_left false true first third) (pair_right false true first third) refl
pairs_table false true second first =
    same 8 (pair_left false true second first) (pair_right false true second first) refl
pairs_table false true second second =
    same 8 (pair_left false true second second) (pair_right false true second second) refl
pairs_table false true second third =
    same 8 (pair_left false true second third) (pair_right false true second third) refl
pairs_table false true third first = same 8 (pair_left false true third first) (pair_right false true third first) refl
pairs_table false true third second =
    same 8 (pair_left false true third second) (pair_right false true third second) refl
pairs_table false true third third = same 8 (pair_left false true third third) (pair_right false true third third) refl
pairs_table false false first first =
    same 8 (pair_left false false first first) (pair_right false false first first) refl
pairs_table false false first second =
    same 8 (pair_left false false first second) (pair_right false false first second) refl
pairs_table false false first third =
    same 8 (pair_left false false first third) (pair_right false false first third) refl
pairs_table false false second first =
    same 8 (pair_left false false second first) (pair_right false false second first) refl
pairs_table false false second second =
    same 8 (pair_left false false second second) (pair_right false false second second) refl
pairs_table false false second third =
    same 8 (pair_left false false second third) (pair_right false false second third) refl
pairs_table false false third first =
    same 8 (pair_left false false third first) (pair_right false false third first) refl
pairs_table false false third second =
    same 8 (pair_left false false third second) (pair_right false false third second) refl
pairs_table false false third third =
    same 8 (pair_left false false third third) (pair_right false false third third) refl

pub weights_paired : (u v : Bool) (y : Place) (L R : Place → Bool) (rm lp : Bool)
    → IsPaired u v (pair_weight u v y L R rm lp)
unfolding pair_left pair_right
weights_paired u v y L R rm lp m = same_ends m
  where
    at3 : (L : Place → Bool) → of_three (L first) (L second) (L third) ≡ L
    at3 L = fun_ext (elim [ first ↦ refl | second ↦ refl | third ↦ refl ])

    table : (m : Place)
        → pair_left u v y m (L first) (L second) (L third) (R first) (R second) (R third) rm lp
        ≡ pair_right u v y m (L first) (L second) (L third) (R first) (R second) (R third) rm lp
    table m = pairs_table u v y m (L first) (L second) (L third) (R first) (R second) (R third) rm lp

    same_ends : (m : Place)
        → pair_weight u v y L R rm lp m (sign1 u v) u ≡ pair_weight u v y L R rm lp (next m) u (sign2 u v)
    same_ends m =
        (λ i. pair_weight u v y (sym (at3 L) i) (sym (at3 R) i) rm lp m (sign1 u v) u)
        ∙ table m
        ∙ (λ i. pair_weight u v y (at3 L i) (at3 R i) rm lp (next m) u (sign2 u v))
