-- Each state is visited, and adds its bidegree.
use Rattle.std.proofs.Common.{◌≡◌, ◌<◌, length, ap, sym, ◌∙◌, subst, arith}
use Rattle.state_rank.specs.States.{factorial, unrank}
use Rattle.state_rank.proofs.LehmerLemmas.{factorial_positive}
use Rattle.state_rank.proofs.RankLemmas.{length-unrank}
use Rattle.torus_geom.specs.Marks.{size}
use Rattle.torus_geom.specs.Degrees.{maslov_o, alexander}
use Rattle.state_rank.proofs.VisitLemmas.{visited-next}
use Rattle.homology_cert.specs.Inner.Making.{HasBidegrees}
use Rattle.homology_cert.proofs.Made.MakingLemmas.{bidegrees-none, bidegrees-next}
use Rattle.homology_cert.proofs.making.bidegrees.Goals as goal

pub unrank-x-requires-clause-rank : goal.unrank-x-requires-clause-rank
unrank-x-requires-clause-rank c = factorial_positive c.size.result

pub loop-code-init : goal.loop-code-init
loop-code-init c = record {
  degrees = bidegrees-none c.args.g.now c.new-degrees.result c.new-degrees.ensures.empty;
  visited = λ l. c.unrank-x.ensures.state ∙ ap (λ n. unrank n 0) c.size.ensures.size;
}

pub degree-requires : goal.degree-requires
degree-requires c =
    let count : c.state_count-code-end.result ≡ factorial (size c.args.g.now) = c.state_count-code-end.ensures
    ∙ ap factorial c.size-2.ensures.size in
    let below : c.loop-code._code < factorial (size c.args.g.now) = omega arith in
    record {
      one_size = ap length (c.loop-code.invariant.visited below)
          ∙ length-unrank (size c.args.g.now) c.loop-code._code below ∙ ap size (sym c.of-tables.ensures);
    }

pub loop-code-preserved : goal.loop-code-preserved
loop-code-preserved c =
    let g = c.args.g.now in
    let n = c.loop-code._code in
    let count : c.state_count-code-end.result ≡ factorial (size c.args.g.now) = c.state_count-code-end.ensures
    ∙ ap factorial c.size-2.ensures.size in
    let below : c.loop-code._code < factorial (size c.args.g.now) = omega arith in
    let x_is = c.loop-code.invariant.visited below in
    let degree = c.degree.result in
    record {
      degrees = bidegrees-next g n degree c.loop-code.degrees c.insert.new.self
          (λ i. record {
            m = (c.degree.ensures.maslov ∙ (λ j. maslov_o (c.of-tables.ensures j) (x_is j))) i;
            a = (c.degree.ensures.alexander ∙ (λ j. alexander (c.of-tables.ensures j) (x_is j))) i;
          })
          c.in_ok-insert.ensures.updates.0 c.loop-code.invariant.degrees;
      visited = visited-next (size g) n c.loop-code.x c.advance.new.self c.advance.result below
          c.loop-code.invariant.visited c.advance.ensures.state c.advance.ensures.last;
    }

pub returns : goal.returns
returns c =
    let count : c.state_count-code-end.result ≡ factorial (size c.args.g.now) = c.state_count-code-end.ensures
    ∙ ap factorial c.size-2.ensures.size in
    let all : c.loop-code._code ≡ factorial (size c.args.g.now) = omega arith in
    subst (λ n. HasBidegrees c.args.g.now n c.loop-code.degrees) all c.loop-code.invariant.degrees
