-- The cyclic order of the numbers. The range from a up to b has the numbers met on the way up from a,
-- before b; past the largest the way goes on at 0. Three numbers cut the circle into three arcs, four
-- numbers into four. Nothing here names the size: ranges are linear over F2 in the order of numbers,
-- and each law is a table of Boolean values.
use Rattle.std.proofs.Common.{◌≡◌, ◌≢◌, ℕ, Bool, true, false, not, ◌&&◌, ◌||◌, refl, ap₂, ◌∙◌, sym, ltb, leb, arith, cond}
use Rattle.std.proofs.lemmas.Bool.{and_from}
use mathlib.Core.Bool.{beq}
use Rattle.f2_algebra.proofs.Chains.Tables.{◌⊻◌, Table, same, beq_same, implies, given}
pub use Rattle.torus_geom.proofs.Circles.BetweenLemmas.{between, between_start, between_end}

-- where a, b and c are three numbers, whether b is met before c on the way up from a
abbrev pub is_cyclic : ℕ → ℕ → ℕ → Bool
is_cyclic a b c = ltb a b ⊻ ltb c b ⊻ ltb c a

-- for a number that is neither end
pub between_other : (a b c : ℕ) → c ≢ a → c ≢ b → between a b c ≡ ltb a c ⊻ ltb b c ⊻ ltb b a
between_other a b c p q = let e : leb a c ≡ ltb a c = grind arith in let f : leb b c ≡ ltb b c = grind arith in
    ap₂ (λ x y. x ⊻ y ⊻ ltb b a) e f

-- a range from a number to itself is empty
pub between_same : (a t : ℕ) → between a a t ≡ false
between_same a t = grind arith

-- the range the other way round has the other numbers
pub between_back : (a b t : ℕ) → a ≢ b → between b a t ≡ not (between a b t)
between_back a b t p = grind arith

-- what holds of the order of three numbers: the orders of each two, both ways
abbrev orders : Bool → Bool → Bool → Bool → Bool → Bool → Bool
orders ab ba bc cb ca ac = ((ab ⊻ ba) && ((bc ⊻ cb) && (ca ⊻ ac))) && (not (ab && (bc && ca)) && not (ba && (cb && ac)))

-- what holds of t, if ab says that a is below b
abbrev passes : Bool → Bool → Bool → Bool
passes ab x y = (not ab || (not y || x)) && (ab || (not x || y))

-- the orders of three different numbers
pub orders_hold : (a b c : ℕ) → a ≢ b → b ≢ c → c ≢ a
    → orders (ltb a b) (ltb b a) (ltb b c) (ltb c b) (ltb c a) (ltb a c) ≡ true
orders_hold a b c p q r = grind arith

-- the tests of one number against two
pub passes_hold : (a b t : ℕ) → a ≢ b → passes (ltb a b) (leb a t) (leb b t) ≡ true
passes_hold a b t p = grind arith

-- a third place of a triple is in a range between the other two exactly if the range goes the other way round
pub third_out : (a b c : ℕ) → a ≢ b → b ≢ c → c ≢ a → between a b c ≡ not (is_cyclic a b c)
third_out a b c p q r = grind arith

-- ---- three numbers, which cut the circle into three arcs
-- the places of three numbers
pub data Place : Type 0 where
  first second third : Place

-- the place after each, in a circle
abbrev pub next : Place → Place
next first = second
next second = third
next third = first

-- the range from one number of the triple to the next, or the other way round
abbrev pub span : (Place → ℕ) → Bool → Place → ℕ → Bool
span p s m = cond s (between (p m) (p (next m))) (between (p (next m)) (p m))

-- whether the three numbers are met in the order of their places
abbrev pub order_of : (Place → ℕ) → Bool
order_of p = is_cyclic (p first) (p second) (p third)

-- the three numbers are different
pub record AreApart (p : Place → ℕ) : Type 0 where
  pub ab : p first ≢ p second
  pub bc : p second ≢ p third
  pub ca : p third ≢ p first

-- a row of the table: the tests of t at the three numbers, and the orders of each two of these
abbrev test_row : Place → Bool → Bool → Bool → Bool → Bool → Bool → Bool → Bool → Bool → Bool → Bool
test_row first s xa xb xc ab ba bc cb ca ac = cond s (xa ⊻ xb ⊻ ba) (xb ⊻ xa ⊻ ab)
test_row second s xa xb xc ab ba bc cb ca ac = cond s (xb ⊻ xc ⊻ cb) (xc ⊻ xb ⊻ bc)
test_row third s xa xb xc ab ba bc cb ca ac = cond s (xc ⊻ xa ⊻ ac) (xa ⊻ xc ⊻ ca)

test_row-span : (p : Place → ℕ) (s : Bool) (m : Place) (t : ℕ)
    → test_row m s (leb (p first) t) (leb (p second) t) (leb (p third) t) (ltb (p first) (p second))
    (ltb (p second) (p first)) (ltb (p second) (p third)) (ltb (p third) (p second)) (ltb (p third) (p first))
    (ltb (p first) (p third)) ≡ span p s m t
test_row-span p true first t = refl
test_row-span p true second t = refl
test_row-span p true third t = refl
test_row-span p false first t = refl
test_row-span p false second t = refl
test_row-span p false third t = refl

abbrev all_of : Bool → Bool → Bool → Bool → Bool → Bool → Bool → Bool → Bool → Bool
all_of xa xb xc ab ba bc cb ca ac =
    orders ab ba bc cb ca ac && (passes ab xa xb && (passes bc xb xc && passes ca xc xa))

all_hold : (p : Place → ℕ) → AreApart p → (t : ℕ)
    → all_of (leb (p first) t) (leb (p second) t) (leb (p third) t) (ltb (p first) (p second))
    (ltb (p second) (p first)) (ltb (p second) (p third)) (ltb (p third) (p second)) (ltb (p third) (p first))
    (ltb (p first) (p third)) ≡ true
all_hold p d t =
    and_from _ _ (orders_hold (p first) (p second) (p third) d.ab d.bc d.ca)
    (and_from _ _ (passes_hold (p first) (p second) t d.ab)
    (and_from _ _ (passes_hold (p second) (p third) t d.bc) (passes_hold (p third) (p first) t d.ca)))

union_table : (m : Place) → Table 9
union_table m xa xb xc ab ba bc cb ca ac =
    let u = ab ⊻ cb ⊻ ca in
    implies (all_of xa xb xc ab ba bc cb ca ac)
    (beq (test_row m (not u) xa xb xc ab ba bc cb ca ac)
    (test_row (next m) u xa xb xc ab ba bc cb ca ac || test_row (next (next m)) u xa xb xc ab ba bc cb ca ac))

union_holds : (m : Place) → (xa xb xc ab ba bc cb ca ac : Bool) → union_table m xa xb xc ab ba bc cb ca ac ≡ true
unfolding union_table
union_holds first = same 9 (union_table first) (λ xa xb xc ab ba bc cb ca ac. true) refl
union_holds second = same 9 (union_table second) (λ xa xb xc ab ba bc cb ca ac. true) refl
union_holds third = same 9 (union_table third) (λ xa xb xc ab ba bc cb ca ac. true) refl

-- the long range is the two arcs that the short ones are
pub span_union : (p : Place → ℕ) → AreApart p → (m : Place) (t : ℕ)
    → span p (not (order_of p)) m t ≡ (span p (order_of p) (next m) t || span p (order_of p) (next (next m)) t)
unfolding union_table
span_union p d m t =
    sym (test_row-span p (not (order_of p)) m t)
    ∙ beq_same _ _ (given _ _ (all_hold p d t) (union_holds m (leb (p first) t) (leb (p second) t) (leb (p third) t)
    (ltb (p first) (p second)) (ltb (p second) (p first)) (ltb (p second) (p third)) (ltb (p third) (p second))
    (ltb (p third) (p first)) (ltb (p first) (p third))))
    ∙ ap₂ (λ x y. x || y) (test_row-span p (order_of p) (next m) t) (test_row-span p (order_of p) (next (next m)) t)

-- exactly one of three tests holds
abbrev pub exactly : Bool → Bool → Bool → Bool
exactly x y z = (x && not (y || z)) || (not x && (y ⊻ z))

one_table : Table 9
one_table xa xb xc ab ba bc cb ca ac =
    let u = ab ⊻ cb ⊻ ca in
    implies (all_of xa xb xc ab ba bc cb ca ac)
    (exactly (test_row first u xa xb xc ab ba bc cb ca ac) (test_row second u xa xb xc ab ba bc cb ca ac)
    (test_row third u xa xb xc ab ba bc cb ca ac))

one_holds : (xa xb xc ab ba bc cb ca ac : Bool) → one_table xa xb xc ab ba bc cb ca ac ≡ true
unfolding one_table
one_holds = same 9 one_table (λ xa xb xc ab ba bc cb ca ac. true) refl

-- each number is in exactly one of the three arcs
pub one_arc : (p : Place → ℕ) → AreApart p → (t : ℕ)
    → exactly (span p (order_of p) first t) (span p (order_of p) second t) (span p (order_of p) third t) ≡ true
unfolding one_table
one_arc p d t =
    sym (λ i. exactly (test_row-span p (order_of p) first t i) (test_row-span p (order_of p) second t i)
    (test_row-span p (order_of p) third t i))
    ∙ given _ _ (all_hold p d t) (one_holds (leb (p first) t) (leb (p second) t) (leb (p third) t)
    (ltb (p first) (p second)) (ltb (p second) (p first)) (ltb (p second) (p third)) (ltb (p third) (p second))
    (ltb (p third) (p first)) (ltb (p first) (p third)))

-- the third number is in the long range alone
pub span_third : (p : Place → ℕ) → AreApart p → (s : Bool) (m : Place)
    → span p s m (p (next (next m))) ≡ not (beq (order_of p) s)
span_third p d true first = grind (arith, d.ab, d.bc, d.ca)
span_third p d true second = grind (arith, d.ab, d.bc, d.ca)
span_third p d true third = grind (arith, d.ab, d.bc, d.ca)
span_third p d false first = grind (arith, d.ab, d.bc, d.ca)
span_third p d false second = grind (arith, d.ab, d.bc, d.ca)
span_third p d false third = grind (arith, d.ab, d.bc, d.ca)

-- ---- four numbers
-- what holds of two ranges with four different ends
abbrev pub four : Bool → Bool → Bool → Bool → Bool
four p q r s = (beq p q && beq r s) || (not (beq p q) && (beq r q && beq s p))

-- what holds of the orders of three numbers in a row
abbrev chain : Bool → Bool → Bool → Bool
chain ab bc ac = not (ab && (bc && not ac)) && not (not ab && (not bc && ac))

chain_holds : (a b c : ℕ) → a ≢ b → b ≢ c → a ≢ c → chain (ltb a b) (ltb b c) (ltb a c) ≡ true
chain_holds a b c p q r = grind arith

four_table : Table 6
four_table ab ac ad bc bd cd =
    implies (chain ab bc ac && (chain ab bd ad && (chain ac cd ad && chain bc cd bd)))
    (four (ac ⊻ bc ⊻ not ab) (ad ⊻ bd ⊻ not ab) (not ac ⊻ not ad ⊻ not cd) (not bc ⊻ not bd ⊻ not cd))

four_holds : (ab ac ad bc bd cd : Bool) → four_table ab ac ad bc bd cd ≡ true
unfolding four_table
four_holds = same 6 four_table (λ ab ac ad bc bd cd. true) refl

above : (a b c : ℕ) → a ≢ b → c ≢ a → c ≢ b → between a b c ≡ ltb a c ⊻ ltb b c ⊻ not (ltb a b)
above a b c p q r = grind arith

under : (c d a : ℕ) → c ≢ d → a ≢ c → a ≢ d → between c d a ≡ not (ltb a c) ⊻ not (ltb a d) ⊻ not (ltb c d)
under c d a p q r = grind arith

-- of four different numbers, either range has none or both ends of the other, or each has one
pub four_hold : (a b c d : ℕ) → a ≢ b → a ≢ c → a ≢ d → b ≢ c → b ≢ d → c ≢ d
    → four (between a b c) (between a b d) (between c d a) (between c d b) ≡ true
unfolding four_table
four_hold a b c d ab ac ad bc bd cd =
    let p1 = above a b c ab (λ e. ac (sym e)) (λ e. bc (sym e)) in
    let p2 = above a b d ab (λ e. ad (sym e)) (λ e. bd (sym e)) in
    let q1 = under c d a cd ac ad in
    let q2 = under c d b cd bc bd in
    (λ i. four (p1 i) (p2 i) (q1 i) (q2 i))
    ∙ given _ _ (and_from _ _ (chain_holds a b c ab bc ac)
    (and_from _ _ (chain_holds a b d ab bd ad)
    (and_from _ _ (chain_holds a c d ac cd ad) (chain_holds b c d bc cd bd))))
    (four_holds (ltb a b) (ltb a c) (ltb a d) (ltb b c) (ltb b d) (ltb c d))
