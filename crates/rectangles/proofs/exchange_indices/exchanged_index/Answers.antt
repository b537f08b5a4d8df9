-- The exchange raises the index if the left point is the lower one, else it lowers it.
use Rattle.std.proofs.Common.{◌≡◌, ◌<◌, ◌≤◌, ◌≢◌, ◌+◌, ℕ, List, length, slice_index, swap, ap, ◌∙◌, sym, arith}
use Rattle.state_rank.specs.States.{IsState, rank, factorial}
use Rattle.state_rank.proofs.LehmerLemmas.{factorial_grows}
use Rattle.state_rank.proofs.RankLemmas.{rank-below}
use Rattle.rectangles.specs.Inner.ExchangeIndices.{exchange_gain}
use Rattle.rectangles.proofs.Sweep.ExchangeIndexLemmas.{rank-swap_up, rank-swap_down}
use Rattle.rectangles.proofs.exchange_indices.exchanged_index.Goals as goal

rank_small : (x : List ℕ) → IsState x → rank x ≤ 3628800
unfolding factorial
rank_small x s =
    let l = rank-below (length x) x s.bijection in
    let k : factorial (length x) ≤ 3628800 = factorial_grows (length x) 10 s.size.greatest in
    omega arith

pub overflow_add-result : goal.overflow_add-result
overflow_add-result c =
    let h = rank_small c.args.x.now c.row-left.ensures.state in
    let e = c.requires.index in
    let k = c.difference.ensures.small in
    omega arith

-- if the right point is the lower one
lowered : (x : List ℕ) → IsState x → (a b index left right difference : ℕ) → a < b → b < length x → index ≡ rank x
    → left ≡ slice_index x a → right ≡ slice_index x b → right ≤ left → difference ≡ exchange_gain x a b right left
    → index ≡ rank (swap x a b) + difference
lowered x s a b code left right difference order below index_is l r low is =
    let apart : slice_index x a ≢ slice_index x b =
    s.bijection.apart a b (omega arith) below (λ e. absurd (omega arith)) in
    let down : slice_index x b < slice_index x a = omega (arith, apart) in
    index_is ∙ rank-swap_down (length x) x s.bijection a b order below down
    ∙ ap (λ k. rank (swap x a b) + k) ((λ i. exchange_gain x a b (sym r i) (sym l i)) ∙ sym is)

pub overflow_sub-result : goal.overflow_sub-result
overflow_sub-result c =
    let h = lowered c.args.x.now c.row-left.ensures.state c.args.a c.args.b c.args.index c.row-left.result
    c.row-right.result c.difference-else-left-right.result c.requires.order c.requires.below c.requires.index
    c.row-left.ensures.row c.row-right.ensures.row c.if-left-right.false
    c.difference-else-left-right.ensures.value in
    omega (arith, h)

pub returns-then-left-right : goal.returns-then-left-right
returns-then-left-right c =
    let x = c.args.x.now in
    let l = c.row-left.ensures.row in
    let r = c.row-right.ensures.row in
    let up : slice_index x c.args.a < slice_index x c.args.b = let t = c.if-left-right.true in omega arith in
    (λ i. c.requires.index i
    + (c.difference.ensures.value ∙ (λ j. exchange_gain x c.args.a c.args.b (l j) (r j))) i)
    ∙ sym (rank-swap_up (length x) x c.row-left.ensures.state.bijection c.args.a c.args.b c.requires.order
    c.requires.below up)

pub returns-else-left-right : goal.returns-else-left-right
returns-else-left-right c =
    let h = lowered c.args.x.now c.row-left.ensures.state c.args.a c.args.b c.args.index c.row-left.result
    c.row-right.result c.difference-else-left-right.result c.requires.order c.requires.below c.requires.index
    c.row-left.ensures.row c.row-right.ensures.row c.if-left-right.false
    c.difference-else-left-right.ensures.value in
    omega (arith, h)
