-- Rows and degrees as machine numbers.
use Rattle.std.proofs.Common.{◌≡◌, ℕ, ◌+◌, ◌-◌, ◌*◌, ◌/◌, ◌^◌, ◌≤◌, ℤ, pos, neg_ℤ, ◌+ℤ◌, ◌≤ℤ◌, Bool, List, get_or, suc, All, Option, Some, eqb, eqb-true, eq-eqb, ap, sym, subst, ◌∙◌, arith}
use Rattle.std.specs.Prelude.{◌-ℤ◌, ◌&&◌}
use Rattle.std.specs.Bool.{Decides}
use Rattle.std.specs.List.{Contains}
use Rattle.std.specs.Option.{IfSome}
use Rattle.std.specs.Ordering.{int_eq}
use Rattle.std.proofs.lemmas.Bool.{and_parts, and_from}
use Rattle.std.proofs.lemmas.Bool.Decides.{Decides-int_eq}
use Rattle.std.proofs.lemmas.Int.{ints, to_z-of_z}
use Rattle.std.proofs.lemmas.Nat.{mul-le}
use Rattle.std.proofs.Math.Nat.{mul-div_cancel_left, mul_comm}
use Rattle.std.proofs.Math.Pow.{pow_mono}
use mir.Syntax.{w32}
use mir.Val.{SFits, to_z, of_z}
use Rattle.hat_division.specs.Table.{AreOrdered}
use Rattle.hat_division.specs.Product.{binomial, stands_at, rank_at, product_rank}
use Rattle.hat_division.specs.Inner.Products.{ArePositive}
use Rattle.hat_division.specs.declared.tables.TableRow.{TableRow}
use Rattle.hat_division.proofs.SumLemmas.{binomial-le, binomial-next}
use Rattle.hat_division.proofs.ProductLemmas.{shifted-positive, rank_at-bounded}

-- what holds of the value of an option
pub IfSome-value : {X : Type 0} (P : X → Type 0) (o : Option X) (x : X) → o ≡ Some x → IfSome o P → P x
IfSome-value {X = X} P o x e h = let Q = λ (y : Option X). IfSome y P in subst Q e h

-- rows are equal if their fields are
pub same_row : (p q : TableRow) → Decides (int_eq p.m q.m && (int_eq p.a q.a && eqb p.rank q.rank)) (p ≡ q)
same_row p q = (
  λ h.
      let first = and_parts (int_eq p.m q.m) (int_eq p.a q.a && eqb p.rank q.rank) h in
      let second = and_parts (int_eq p.a q.a) (eqb p.rank q.rank) first.1 in
      λ i. record {
        m = (Decides-int_eq p.m q.m).0 first.0 i;
        a = (Decides-int_eq p.a q.a).0 second.0 i;
        rank = eqb-true p.rank q.rank second.1 i;
      },
  λ e.
      and_from (int_eq p.m q.m) (int_eq p.a q.a && eqb p.rank q.rank) ((Decides-int_eq p.m q.m).1 (ap (λ r. r.m) e))
      (and_from (int_eq p.a q.a) (eqb p.rank q.rank) ((Decides-int_eq p.a q.a).1 (ap (λ r. r.a) e))
      (eq-eqb p.rank q.rank (ap (λ r. r.rank) e))),
)

-- steps up and down from a small degree
pub step_up : (z f : ℤ) (i : ℕ) → SFits w32 z → z ≤ℤ pos 1000 → i ≤ 16 → f ≡ pos i
    → to_z w32 (of_z w32 (to_z w32 (of_z w32 z) +ℤ to_z w32 (of_z w32 f))) ≡ z +ℤ pos i
step_up z f i fits high l e = omega (arith, ints)

-- the rank some steps up
pub rank_up : (rows : List TableRow) (m a f g : ℤ) (i r : ℕ) → SFits w32 m → SFits w32 a → m ≤ℤ pos 1000 → a ≤ℤ pos 1000
    → i ≤ 16 → f ≡ pos i → g ≡ pos i
    → r ≡ rank_at rows (to_z w32 (of_z w32 (to_z w32 (of_z w32 m) +ℤ to_z w32 (of_z w32 f))))
    (to_z w32 (of_z w32 (to_z w32 (of_z w32 a) +ℤ to_z w32 (of_z w32 g))))
    → r ≡ rank_at rows (to_z w32 (of_z w32 m) +ℤ pos i) (to_z w32 (of_z w32 a) +ℤ pos i)
rank_up rows m a f g i r fm fa hm ha l e h is =
    let em : to_z w32 (of_z w32 (to_z w32 (of_z w32 m) +ℤ to_z w32 (of_z w32 f))) ≡ to_z w32 (of_z w32 m) +ℤ pos i =
    step_up m f i fm hm l e ∙ ap (λ z. z +ℤ pos i) (sym (to_z-of_z w32 m fm)) in
    let ea : to_z w32 (of_z w32 (to_z w32 (of_z w32 a) +ℤ to_z w32 (of_z w32 g))) ≡ to_z w32 (of_z w32 a) +ℤ pos i =
    step_up a g i fa ha l h ∙ ap (λ z. z +ℤ pos i) (sym (to_z-of_z w32 a fa)) in
    is ∙ (λ t. rank_at rows (em t) (ea t))

-- a test of the bidegree
pub stands_from : (row : TableRow) (m a : ℤ) (b c : Bool) → SFits w32 m → SFits w32 a
    → b ≡ stands_at row (to_z w32 (of_z w32 m)) (to_z w32 (of_z w32 a)) → b ≡ c → stands_at row m a ≡ c
stands_from row m a b c fm fa is e = sym (λ t. stands_at row (to_z-of_z w32 m fm t) (to_z-of_z w32 a fa t)) ∙ sym is ∙ e

pub step_down : (z f : ℤ) (i : ℕ) → SFits w32 z → neg_ℤ (pos 1000) ≤ℤ z → i ≤ 16 → f ≡ pos i
    → to_z w32 (of_z w32 (to_z w32 (of_z w32 z) -ℤ to_z w32 (of_z w32 f))) ≡ z -ℤ pos i
step_down z f i fits low l e = omega (arith, ints)

pub step_down-high : (z : ℤ) (i : ℕ) → z ≤ℤ pos 1000 → (z -ℤ pos i) ≤ℤ pos 1000
step_down-high z i h = omega (arith, ints)

-- the next coefficient
pub coefficient-next : (k i b : ℕ) → i ≤ k → b ≡ binomial k i → b * (k - i) / (i + 1) ≡ binomial k (i + 1)
coefficient-next k i b l e =
    let next : suc i * binomial k (suc i) ≡ (k - i) * binomial k i = binomial-next k i (k - i) (omega arith) in
    let one : suc i ≡ i + 1 = omega arith in
    let whole : b * (k - i) ≡ (i + 1) * binomial k (i + 1) =
    ap (λ c. c * (k - i)) e ∙ mul_comm (binomial k i) (k - i) ∙ sym next ∙ (λ t. one t * binomial k (one t)) in
    ap (λ n. n / (i + 1)) whole ∙ mul-div_cancel_left (binomial k (i + 1)) (omega arith)

-- a coefficient is small, and so is its term
pub coefficient-small : (k i b : ℕ) → k ≤ 16 → b ≡ binomial k i → b ≤ 2 ^ 16
coefficient-small k i b l e = let power : 2 ^ k ≤ 2 ^ 16 = pow_mono l in omega (arith, binomial-le k i)

pub term-small : (k i b r : ℕ) (rows : List TableRow) (x y : ℤ) → k ≤ 16 → b ≡ binomial k i → AreOrdered rows
    → All (λ row. row.rank ≤ 2 ^ 32) rows → r ≡ rank_at rows x y → b * r ≤ 2 ^ 48
term-small k i b r rows x y l e ordered small is =
    let bound : r ≤ 2 ^ 32 = omega (arith, rank_at-bounded rows (2 ^ 32) x y ordered small) in
    let product = mul-le b r (2 ^ 16) (2 ^ 32) (coefficient-small k i b l e) bound in
    omega arith

-- the product has a rank at a step down from a member
pub member-positive : (k : ℕ) (rows : List TableRow) (row : TableRow) (i : ℕ) (x y : ℤ) (r : ℕ) → ArePositive rows
    → Contains rows row → i ≤ k → r ≡ product_rank k rows x y → x ≡ row.m -ℤ pos i → y ≡ row.a -ℤ pos i → 1 ≤ r
member-positive k rows row i x y r positive member l is em ea =
    let at = shifted-positive k rows member.0 row i positive member.1 l in
    let same : product_rank k rows x y
    ≡ product_rank k rows ((get_or rows member.0 row).m -ℤ pos i) ((get_or rows member.0 row).a -ℤ pos i) =
    λ t. product_rank k rows ((em ∙ ap (λ r. r.m -ℤ pos i) (sym member.2)) t)
    ((ea ∙ ap (λ r. r.a -ℤ pos i) (sym member.2)) t) in
    omega (arith, at)
