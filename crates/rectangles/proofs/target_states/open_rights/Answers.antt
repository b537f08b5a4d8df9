-- At each step the limit takes in the marks of one column and the point of the next circle.
use Rattle.std.proofs.Common.{◌≡◌, ℕ, suc, ◌+◌, ◌-◌, ◌*◌, ◌%◌, ◌^◌, ◌<◌, ◌≤◌, List, length, slice_index, ap, subst, ◌∙◌, sym, arith, min, bit_or}
use Rattle.state_rank.specs.Bijection.{IsBijection}
use Rattle.torus_geom.specs.Marks.{Marks, size, IsGrid}
use Rattle.torus_geom.specs.Range.{offset}
use Rattle.rectangles.specs.FirstMarks.{first_mark_height}
use Rattle.rectangles.proofs.Sweep.SweepLemmas.{turned, turned-plain, turned-across, turned_below, IsSwept, swept_none, swept_marks, swept_open, swept_closed, swept_all, swept_stop}
use Rattle.rectangles.proofs.target_states.open_rights.Goals.{then-a-width, else-a-width, then-height-limit, else-height-limit}
use Rattle.rectangles.proofs.target_states.open_rights.Goals as goal

module _ (g : Marks) (s : IsGrid g) (x : List ℕ) (sx : IsBijection (size g) x) (a : ℕ) (la : a < size g) (low : ℕ)
    (low_is : low ≡ slice_index x a) where
  marked : (w limit rights c least next : ℕ) → 0 < w → IsSwept g x a (w - 1) w limit rights
      → c ≡ turned (size g) a (w - 1) → least ≡ first_mark_height g low c → next ≡ min limit least
      → IsSwept g x a w w next rights
  marked w limit rights c least next some h at least_is next_is =
      let up : suc (w - 1) ≡ w = omega arith in
      let o : offset (size g) low (slice_index g.o c) ≡ offset (size g) (slice_index x a) (slice_index g.o c) =
      ap (λ r. offset (size g) r (slice_index g.o c)) low_is in
      let p : offset (size g) low (slice_index g.x c) ≡ offset (size g) (slice_index x a) (slice_index g.x c) =
      ap (λ r. offset (size g) r (slice_index g.x c)) low_is in
      subst (λ m. IsSwept g x a m w next rights) up
      (swept_marks g s x sx a la (w - 1) w limit rights least c h at (omega arith) (omega arith)
      (λ d i j. omega arith) next next_is)

  module _ (w limit rights c row height : ℕ) (some : 0 < w) (near : w < size g) (h : IsSwept g x a w w limit rights)
      (at : c ≡ turned (size g) a w)
      (row_is : row ≡ slice_index x c) (height_is : height ≡ offset (size g) low row) where
    risen : height ≡ offset (size g) (slice_index x a) (slice_index x c)
    risen = height_is ∙ (λ i. offset (size g) (low_is i) (row_is i))

    shifted : (n r : ℕ) → IsSwept g x a w (suc w) n r → IsSwept g x a (w + 1 - 1) (w + 1) n r
    shifted n r k =
        let i : w ≡ w + 1 - 1 = omega arith in
        let j : suc w ≡ w + 1 = omega arith in
        subst (λ m. IsSwept g x a m (w + 1) n r) i (subst (λ m. IsSwept g x a w m n r) j k)

    opened : height ≤ limit → IsSwept g x a (w + 1 - 1) (w + 1) height (bit_or rights (1 * 2 ^ c % 65536))
    opened l =
        let e = risen in
        let b = turned_below (size g) a w la near in
        let f = s.is_size.greatest in
        shifted height (bit_or rights (1 * 2 ^ c % 65536))
        (subst (λ k. IsSwept g x a w (suc w) k (bit_or rights (1 * 2 ^ c % 65536))) (sym e)
        (swept_open g s x sx a la w limit rights h some near c at (omega arith) (omega arith)))

    closed : limit < height → IsSwept g x a (w + 1 - 1) (w + 1) limit rights
    closed l = let e = risen in
        shifted limit rights (swept_closed g s x sx a la w limit rights h some near c at (omega arith))

state : (x : List ℕ) (n : ℕ) → length x ≡ n → IsBijection (length x) x → IsBijection n x
state x n e s = subst (λ m. IsBijection m x) e s

pub loop-width-init : goal.loop-width-init
loop-width-init c =
    let sx = state c.args.x.now (size c.args.marks.now) c.requires.size c.row-low.ensures.state.bijection in
    let la : c.args.a < size c.args.marks.now = omega arith in (
      subst (λ n. IsSwept c.args.marks.now c.args.x.now c.args.a 0 1 (n - 1) 0) (sym c.size-n.ensures.size)
          (swept_none c.args.marks.now c.size-n.ensures.grid c.args.x.now sx c.args.a la),
      sym (turned-plain (size c.args.marks.now) c.args.a 0 (omega arith) ∙ omega arith),
    )

pub returns-then-limit-eq0 : goal.returns-then-limit-eq0
returns-then-limit-eq0 c = λ b l.
    let sx = state c.args.x.now (size c.args.marks.now) c.requires.size c.row-low.ensures.state.bijection in
    let la : c.args.a < size c.args.marks.now = omega arith in
    let h = marked c.args.marks.now c.size-n.ensures.grid c.args.x.now sx c.args.a la c.row-low.result c.row-low.ensures.row
    c.loop-width.width c.loop-width.limit c.loop-width.rights c.loop-width.c c.height.result c.min-limit.result
    (omega arith) c.loop-width.invariant.0 c.loop-width.invariant.1 c.height.ensures c.min-limit.ensures in
    swept_stop c.args.marks.now c.size-n.ensures.grid c.args.x.now sx c.args.a la c.loop-width.width c.min-limit.result
    c.loop-width.rights h (omega arith) c.if-limit-eq0.true b (omega arith)

pub loop-width-preserved : goal.loop-width-preserved
loop-width-preserved c =
    let sx = state c.args.x.now (size c.args.marks.now) c.requires.size c.row-low.ensures.state.bijection in
    let la : c.args.a < size c.args.marks.now = omega arith in
    let w : ℕ = c.loop-width.width in
    let n = c.size-n.ensures.size in
    let h = marked c.args.marks.now c.size-n.ensures.grid c.args.x.now sx c.args.a la c.row-low.result c.row-low.ensures.row
    w c.loop-width.limit c.loop-width.rights c.loop-width.c c.height.result c.min-limit.result
    (omega arith) c.loop-width.invariant.0 c.loop-width.invariant.1 c.height.ensures c.min-limit.ensures in
    let at : c.if-a-width.c ≡ turned (size c.args.marks.now) c.args.a w = elim c.if-a-width.branch [
      | then-a-width b ↦ b.c-is ∙ sym (turned-plain (size c.args.marks.now) c.args.a w
          (let t = b.if-a-width.true in omega arith))
      | else-a-width b ↦ b.c-is ∙ (let t = b.if-a-width.false in omega arith)
          ∙ sym (turned-across (size c.args.marks.now) c.args.a w (let t = b.if-a-width.false in omega arith))
    ] in
    let up : w ≡ w + 1 - 1 = omega arith in
    let height_is : c.offset-height.result ≡ offset (size c.args.marks.now) c.row-low.result c.row.result =
    c.offset-height.ensures ∙ ap (λ m. offset m c.row-low.result c.row.result) n in (
      elim c.if-height-limit.branch [
        | then-height-limit b ↦
            subst (λ r. IsSwept c.args.marks.now c.args.x.now c.args.a (w + 1 - 1) (w + 1) c.if-height-limit.limit r)
            (sym b.rights-is)
            (subst (λ k. IsSwept c.args.marks.now c.args.x.now c.args.a (w + 1 - 1) (w + 1) k
            (bit_or c.loop-width.rights (1 * 2 ^ c.if-a-width.c % 65536))) (sym b.limit-is)
            (opened c.args.marks.now c.size-n.ensures.grid c.args.x.now sx c.args.a la c.row-low.result
            c.row-low.ensures.row w c.min-limit.result c.loop-width.rights c.if-a-width.c c.row.result
            c.offset-height.result
            (omega arith) (omega arith) h at c.row.ensures.row height_is b.if-height-limit.true))
        | else-height-limit b ↦
            subst (λ r. IsSwept c.args.marks.now c.args.x.now c.args.a (w + 1 - 1) (w + 1) c.if-height-limit.limit r)
            (sym b.rights-is)
            (subst (λ k. IsSwept c.args.marks.now c.args.x.now c.args.a (w + 1 - 1) (w + 1) k c.loop-width.rights)
            (sym b.limit-is)
            (closed c.args.marks.now c.size-n.ensures.grid c.args.x.now sx c.args.a la c.row-low.result
            c.row-low.ensures.row w c.min-limit.result c.loop-width.rights c.if-a-width.c c.row.result
            c.offset-height.result
            (omega arith) (omega arith) h at c.row.ensures.row height_is b.if-height-limit.false))
      ],
      at ∙ ap (turned (size c.args.marks.now) c.args.a) up,
    )

pub returns : goal.returns
returns c = λ b l.
    let sx = state c.args.x.now (size c.args.marks.now) c.requires.size c.row-low.ensures.state.bijection in
    let la : c.args.a < size c.args.marks.now = omega arith in
    swept_all c.args.marks.now c.size-n.ensures.grid c.args.x.now sx c.args.a la
    (c.loop-width.width - 1) c.loop-width.width c.loop-width.limit c.loop-width.rights c.loop-width.invariant.0
    (omega arith) b (omega arith)
