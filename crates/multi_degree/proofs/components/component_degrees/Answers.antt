use Rattle.std.proofs.Common.{◌≡◌, ◌∙◌, All, length, take, sym, ap, subst, arith}
use Rattle.hat_division.proofs.WordLemmas.{IfSome-value}
use Rattle.gradings.specs.Degrees.{IsSmallDegree}
use Rattle.state_rank.specs.Bijection.{IsBijection}
use Rattle.torus_geom.specs.Marks.{size}
use Rattle.multi_degree.proofs.ListedDegrees.{listed-room, IsListed-more, IsListed-other, IsListed-same, listed-degrees, length-listed, listed-accepted, word_of}
use Rattle.multi_degree.proofs.DegreeLaws.{two-component_degree, total_degree-component_degrees, component_degrees-in_border}
use Rattle.multi_degree.proofs.components.component_degrees.Goals.{then-is_first_column, else-is_first_column}
use Rattle.multi_degree.proofs.components.component_degrees.Goals as goal

pub loop-f-preserved : goal.loop-f-preserved
loop-f-preserved c =
    let g = c.args.g.now in
    let x = c.args.x.now in
    let inside = c.loop-f-test.true in
    elim c.if-is_first_column.branch [
      | then-is_first_column w ↦
          let d = w.component_degree.ensures in
          IsListed-same g x _ _ _ _ _ w.degrees-is w.count-is
          (IsListed-more g c.size-f-end.ensures.grid x c.loop-f.f c.loop-f.count c.loop-f.degrees _ (omega arith)
          (sym c.is_first_column.ensures ∙ w.if-is_first_column.true) c.loop-f.invariant (word_of _ d.small ∙ d.degree)
          (subst IsSmallDegree (sym (word_of _ d.small)) d.small))
      | else-is_first_column w ↦
          IsListed-same g x _ _ _ _ _ w.degrees-is w.count-is
          (IsListed-other g x c.loop-f.f c.loop-f.count c.loop-f.degrees
          (sym c.is_first_column.ensures ∙ w.if-is_first_column.false) c.loop-f.invariant)
    ]

pub bounds-degrees-count : goal.bounds-degrees-count
bounds-degrees-count c =
    let room = listed-room c.args.g.now c.size-f-end.ensures.grid c.loop-f.f c.loop-f.count (omega arith)
    (sym c.is_first_column.ensures ∙ c.if-is_first_column.true) c.loop-f.invariant.counted in
    omega arith

all_done : (c : goal.After-of) → c.loop-f.f ≡ size c.args.g.now
all_done c = let past = c.loop-f-test.false in omega arith

pub unwrap-requires : goal.unwrap-requires
unwrap-requires c =
    c.of.ensures.accepted.1
    (listed-accepted c.args.g.now c.size-f-end.ensures.grid c.args.x.now c.loop-f.f c.loop-f.count c.loop-f.degrees
    c.loop-f.invariant (all_done c))

-- the list that was made
made : (c : goal.After-unwrap) → c.unwrap.result ≡ take c.loop-f.count c.loop-f.degrees
made c =
    IfSome-value (λ d. d ≡ take c.loop-f.count c.loop-f.degrees) c.of.result c.unwrap.result c.unwrap.ensures
    c.of.ensures.degrees

-- all columns were looked at
at_end : (c : goal.After-unwrap) → c.loop-f.f ≡ size c.args.g.now
at_end c = let past = c.loop-f-test.false in omega arith

state_of : (c : goal.After-unwrap) → IsBijection (size c.args.g.now) c.args.x.now
state_of c = subst (λ n. IsBijection n c.args.x.now) c.requires.one_size c.size.ensures.state.bijection

pub returns-clause-degrees : goal.returns-clause-degrees
returns-clause-degrees c =
    made c
    ∙ listed-degrees c.args.g.now c.size-f-end.ensures.grid c.args.x.now c.loop-f.f c.loop-f.count c.loop-f.degrees
    c.loop-f.invariant (at_end c)

pub returns-clause-count : goal.returns-clause-count
returns-clause-count c =
    ap length (made c)
    ∙ length-listed c.args.g.now c.size-f-end.ensures.grid c.args.x.now c.loop-f.f c.loop-f.count c.loop-f.degrees
    c.loop-f.invariant (at_end c)

pub returns-clause-small : goal.returns-clause-small
returns-clause-small c = let P = All IsSmallDegree in subst P (sym (made c)) c.loop-f.invariant.small

pub returns-clause-whole : goal.returns-clause-whole
returns-clause-whole c f l = two-component_degree c.args.g.now c.size-f-end.ensures.grid f l c.args.x.now

pub returns-clause-sum : goal.returns-clause-sum
returns-clause-sum c = total_degree-component_degrees c.args.g.now c.size-f-end.ensures.grid c.args.x.now (state_of c)

pub returns-clause-border : goal.returns-clause-border
returns-clause-border c y h =
    component_degrees-in_border c.args.g.now c.size-f-end.ensures.grid c.args.x.now y (state_of c) h
