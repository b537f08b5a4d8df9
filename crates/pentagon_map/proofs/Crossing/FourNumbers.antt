-- Four rows on a circle: o and p of one column, t and q of another, if the rows of the one do not separate
-- those of the other. The row that is met first of t and q on the way up from o, and the one that is met last
-- of o and p on the way up from t: from either of them up to t or q there is no other of o and p.
-- Ranges are linear over F2 in the orders of the numbers, so each fact is a table of twelve orders.
use Rattle.std.proofs.Common.{Bool, ap, arith, false, ltb, not, refl, sym, true, ℕ, ◌&&◌, ◌∙◌, ◌≡◌, ◌≢◌}
use Rattle.std.proofs.lemmas.Bool.{and_from, and_parts, not-true}
use mathlib.Core.Bool.{beq}
use Rattle.f2_algebra.proofs.Chains.Tables.{Table, given, implies, same, ◌⊻◌}
use Rattle.rectangles.proofs.Square.CyclicOrder.{between, between_other}

-- the four rows are different
pub record AreFourRows (o p q t : ℕ) : Type 0 where
  pub op : o ≢ p
  pub oq : o ≢ q
  pub ot : o ≢ t
  pub pq : p ≢ q
  pub pt : p ≢ t
  pub qt : q ≢ t

-- the orders of two, and of three, different numbers
abbrev other : Bool → Bool → Bool
other x y = x ⊻ y

abbrev line : Bool → Bool → Bool → Bool
line ab bc ac = not (ab && (bc && not ac)) && not (not ab && (not bc && ac))

unfoldable pub orders : Table 12
orders op po oq qo ot to pq qp pt tp qt tq =
    (other op po && (other oq qo && (other ot to && (other pq qp && (other pt tp && other qt tq)))))
    && (line op pq oq && (line op pt ot && (line oq qt ot && line pq qt pt)))

-- from the first of t and q that is met on the way up from o
first_told : Bool → Bool → Bool → Bool → Bool → Bool → Bool → Bool
first_told opt opq oqt tqp tqo qtp qto =
    implies (beq opt opq) (implies oqt (not tqp && not tqo) && implies (not oqt) (not qtp && not qto))

first_table : Table 12
unfolding orders first_told
first_table op po oq qo ot to pq qp pt tp qt tq =
    implies (orders op po oq qo ot to pq qp pt tp qt tq)
    (first_told (ot ⊻ pt ⊻ po) (oq ⊻ pq ⊻ po) (ot ⊻ qt ⊻ qo) (tp ⊻ qp ⊻ qt) (to ⊻ qo ⊻ qt) (qp ⊻ tp ⊻ tq)
    (qo ⊻ to ⊻ tq))

first_holds : (op po oq qo ot to pq qp pt tp qt tq : Bool) → first_table op po oq qo ot to pq qp pt tp qt tq ≡ true
unfolding first_table
first_holds = same 12 first_table (λ op po oq qo ot to pq qp pt tp qt tq. true) refl

-- from the last of o and p that is met on the way up from t
last_told : Bool → Bool → Bool → Bool → Bool → Bool → Bool → Bool
last_told opt opq tpo pto pqo otp oqp =
    implies (beq opt opq) (implies tpo (not pto && not pqo) && implies (not tpo) (not otp && not oqp))

last_table : Table 12
unfolding orders last_told
last_table op po oq qo ot to pq qp pt tp qt tq =
    implies (orders op po oq qo ot to pq qp pt tp qt tq)
    (last_told (ot ⊻ pt ⊻ po) (oq ⊻ pq ⊻ po) (to ⊻ po ⊻ pt) (po ⊻ to ⊻ tp) (po ⊻ qo ⊻ qp) (op ⊻ tp ⊻ to) (op ⊻ qp ⊻ qo))

last_holds : (op po oq qo ot to pq qp pt tp qt tq : Bool) → last_table op po oq qo ot to pq qp pt tp qt tq ≡ true
unfolding last_table
last_holds = same 12 last_table (λ op po oq qo ot to pq qp pt tp qt tq. true) refl

other_holds : (a b : ℕ) → a ≢ b → other (ltb a b) (ltb b a) ≡ true
other_holds a b p = grind arith

line_holds : (a b c : ℕ) → a ≢ b → b ≢ c → a ≢ c → line (ltb a b) (ltb b c) (ltb a c) ≡ true
line_holds a b c p q r = grind arith

module _ (o p q t : ℕ) (d : AreFourRows o p q t) where
  po : p ≢ o
  po e = d.op (sym e)

  qo : q ≢ o
  qo e = d.oq (sym e)

  to : t ≢ o
  to e = d.ot (sym e)

  qp : q ≢ p
  qp e = d.pq (sym e)

  tp : t ≢ p
  tp e = d.pt (sym e)

  tq : t ≢ q
  tq e = d.qt (sym e)

  pub four_orders_hold : orders (ltb o p) (ltb p o) (ltb o q) (ltb q o) (ltb o t) (ltb t o) (ltb p q)
      (ltb q p) (ltb p t)
      (ltb t p) (ltb q t) (ltb t q) ≡ true
  unfolding orders
  four_orders_hold =
      and_from _ _
      (and_from _ _ (other_holds o p d.op)
      (and_from _ _ (other_holds o q d.oq)
      (and_from _ _ (other_holds o t d.ot)
      (and_from _ _ (other_holds p q d.pq) (and_from _ _ (other_holds p t d.pt) (other_holds q t d.qt))))))
      (and_from _ _ (line_holds o p q d.op d.pq d.oq)
      (and_from _ _ (line_holds o p t d.op d.pt d.ot)
      (and_from _ _ (line_holds o q t d.oq d.qt d.ot) (line_holds p q t d.pq d.qt d.pt))))

  first_is : first_told (between o p t) (between o p q) (between o q t) (between t q p) (between t q o) (between q t p)
      (between q t o) ≡ true
  unfolding first_table
  first_is =
      (λ i. first_told (between_other o p t to tp i) (between_other o p q qo qp i) (between_other o q t to tq i)
      (between_other t q p d.pt d.pq i) (between_other t q o d.ot d.oq i) (between_other q t p d.pq d.pt i)
      (between_other q t o d.oq d.ot i))
      ∙ given _ _ four_orders_hold (first_holds (ltb o p) (ltb p o) (ltb o q) (ltb q o) (ltb o t) (ltb t o) (ltb p q)
      (ltb q p) (ltb p t) (ltb t p) (ltb q t) (ltb t q))

  last_is : last_told (between o p t) (between o p q) (between t p o) (between p t o) (between p q o) (between o t p)
      (between o q p) ≡ true
  unfolding last_table
  last_is =
      (λ i. last_told (between_other o p t to tp i) (between_other o p q qo qp i) (between_other t p o d.ot d.op i)
      (between_other p t o d.op d.ot i) (between_other p q o d.op d.oq i) (between_other o t p po d.pt i)
      (between_other o q p po d.pq i))
      ∙ given _ _ four_orders_hold (last_holds (ltb o p) (ltb p o) (ltb o q) (ltb q o) (ltb o t) (ltb t o) (ltb p q)
      (ltb q p) (ltb p t) (ltb t p) (ltb q t) (ltb t q))

  pub both_false : (x y : Bool) → (not x && not y) ≡ true → (x ≡ false) × (y ≡ false)
  both_false x y h = let (u, v) = and_parts (not x) (not y) h in (not-true x u, not-true y v)

  module _ (apart : beq (between o p t) (between o p q) ≡ true) where
    -- on the way up from t, if t is met first
    pub first_at_t : between o q t ≡ true → (between t q p ≡ false) × (between t q o ≡ false)
    unfolding first_told
    first_at_t h =
        both_false (between t q p) (between t q o)
        (given (between o q t) _ h (and_parts _ _ (given _ _ apart first_is)).0)

    -- and from q, if q is
    pub first_at_q : between o q t ≡ false → (between q t p ≡ false) × (between q t o ≡ false)
    unfolding first_told
    first_at_q h =
        both_false (between q t p) (between q t o)
        (given (not (between o q t)) _ (ap not h) (and_parts _ _ (given _ _ apart first_is)).1)

    -- on the way up from p, if p is met last
    pub last_at_p : between t p o ≡ true → (between p t o ≡ false) × (between p q o ≡ false)
    unfolding last_told
    last_at_p h =
        both_false (between p t o) (between p q o)
        (given (between t p o) _ h (and_parts _ _ (given _ _ apart last_is)).0)

    -- and from o, if o is
    pub last_at_o : between t p o ≡ false → (between o t p ≡ false) × (between o q p ≡ false)
    unfolding last_told
    last_at_o h =
        both_false (between o t p) (between o q p)
        (given (not (between t p o)) _ (ap not h) (and_parts _ _ (given _ _ apart last_is)).1)
