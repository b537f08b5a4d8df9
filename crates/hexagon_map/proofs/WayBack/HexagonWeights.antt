-- The weights of the way back at three columns: what a pentagon there and one back, or a corner set and a hexagon in
-- either order, ask of the arcs of rows, and what is known of these arcs.
use Rattle.std.proofs.Common.{◌≡◌, Bool, true, false, not, ◌&&◌, refl, cond}
use mathlib.Core.Bool.{beq}
use mathlib.Core.Path.{fun_ext}
use Rattle.f2_algebra.proofs.Chains.Tables.{◌⊻◌}
use Rattle.rectangles.proofs.Square.CyclicOrder.{Place, first, second, third, next}
use Rattle.pentagon_map.proofs.ChainMap.PairedTerms.{Weight, has_corner, is_same_place, pent, strip}
use Rattle.hexagon_map.proofs.WayBack.RowFacts.{Order, early, late, above, below, at_first, but_second, but_third}

-- the next arc on the way up
abbrev pub up : Bool → Place → Place
up v t = cond v (next t) (next (next t))

-- a test of arcs by its values at an arc, at the next and at the third
abbrev pub rel : Bool → Place → Bool → Bool → Bool → Place → Bool
rel v y a b c t = cond (is_same_place t y) a (cond (is_same_place t (up v y)) b c)

-- the arc of v, if y is that of w
abbrev pub arc_of : Bool → Place → Order → Place
arc_of v y early = y
arc_of v y late = y
arc_of v y above = up v y
arc_of v y below = up v (up v y)

-- a range of columns has the first column on its right, or on its left
abbrev pub is_right : Place → Bool → Bool
is_right first s = not s
is_right second s = false
is_right third s = s

abbrev pub is_left : Place → Bool → Bool
is_left first s = s
is_left second s = false
is_left third s = not s

-- the rows of a hexagon
abbrev pub hex : Bool → Place → Order → Bool → Place → Bool → Bool → Bool
hex v y o s m r l =
    cond (beq v s) (cond (is_same_place m y) (at_first o r l) false)
    (cond (is_same_place m y) false (cond (is_same_place m (up v y)) (but_second o r l) (but_third o r l)))

-- rm and lp as for a pentagon there; lb and rb the same for one back: that there is no row of L below v in its arc, and
-- none of R above
abbrev pub hex_weight : Bool → Bool → Place → Order → (Place → Bool) → (Place → Bool) → Bool → Bool → Bool → Bool
    → Weight
hex_weight u v y o L R rm lp lb rb m s s' =
    ((has_corner m && pent v y L R rm lp s m)
    && (has_corner (next m) && pent v (arc_of v y o) R L lb rb (not s') (next (next m))))
    ⊻ ((strip u v L R m s s m && hex v y o (not s') (next (next m)) (is_right (next m) s') (is_left (next m) s'))
    ⊻ (hex v y o s m (is_right m s) (is_left m s) && strip u v L R (next m) s' (not s') (next (next m))))

-- what is known of the arcs, in each order, by five tests
abbrev pub left_arcs : Bool → Place → Order → Bool → Bool → Bool → Bool → Bool → Place → Bool
left_arcs v y early a b c d e = rel v y a true true
left_arcs v y late a b c d e = rel v y (b && c) d e
left_arcs v y above a b c d e = rel v y a b c
left_arcs v y below a b c d e = rel v y a true b

abbrev pub right_arcs : Bool → Place → Order → Bool → Bool → Bool → Bool → Bool → Place → Bool
right_arcs v y early a b c d e = rel v y (b && c) d e
right_arcs v y late a b c d e = rel v y a true true
right_arcs v y above a b c d e = rel v y d e true
right_arcs v y below a b c d e = rel v y c d e

abbrev pub rm_of : Order → Bool → Bool → Bool
rm_of early b c = b
rm_of late b c = true
rm_of above b c = true
rm_of below b c = true

abbrev pub lp_of : Order → Bool → Bool → Bool
lp_of early b c = true
lp_of late b c = b
lp_of above b c = true
lp_of below b c = true

abbrev pub lb_of : Order → Bool → Bool → Bool
lb_of early b c = true
lb_of late b c = c
lb_of above b c = true
lb_of below b c = true

abbrev pub rb_of : Order → Bool → Bool → Bool
rb_of early b c = c
rb_of late b c = true
rb_of above b c = true
rb_of below b c = true

-- the arcs, in the order `o`, by five tests
pub record Shape (v : Bool) (y : Place) (o : Order) (L R : Place → Bool) (rm lp lb rb : Bool) : Type 0 where
  pub a : Bool
  pub b : Bool
  pub c : Bool
  pub d : Bool
  pub e : Bool
  pub left_is : L ≡ left_arcs v y o a b c d e
  pub right_is : R ≡ right_arcs v y o a b c d e
  pub rm-is : rm ≡ rm_of o b c
  pub lp-is : lp ≡ lp_of o b c
  pub lb-is : lb ≡ lb_of o b c
  pub rb-is : rb ≡ rb_of o b c

-- each test of arcs is given by its values at the three arcs
at_rel : (v : Bool) (y t : Place) (L : Place → Bool) → L t ≡ rel v y (L y) (L (up v y)) (L (up v (up v y))) t
at_rel true first first L = refl
at_rel true first second L = refl
at_rel true first third L = refl
at_rel true second first L = refl
at_rel true second second L = refl
at_rel true second third L = refl
at_rel true third first L = refl
at_rel true third second L = refl
at_rel true third third L = refl
at_rel false first first L = refl
at_rel false first second L = refl
at_rel false first third L = refl
at_rel false second first L = refl
at_rel false second second L = refl
at_rel false second third L = refl
at_rel false third first L = refl
at_rel false third second L = refl
at_rel false third third L = refl

pub all_rel : (v : Bool) (y : Place) (L : Place → Bool) → L ≡ rel v y (L y) (L (up v y)) (L (up v (up v y)))
all_rel v y L = fun_ext (λ t. at_rel v y t L)
