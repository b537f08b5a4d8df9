-- the lines so far lead to the place
use Rattle.std.proofs.Common.{length}
use Rattle.grid_text.specs.Inner.Next.{place_of}
use Rattle.grid_text.proofs.Paths.JudgementLemmas.{HasRead}
use Rattle.grid_text.proofs.judgement.judge_lines.Given as goal

abbrev pub invariant-loop-bytes : goal.invariant-loop-bytes
invariant-loop-bytes l = HasRead l.text l.line l.grid_line l.rest (place_of l.place)

abbrev pub decreases-loop-bytes : goal.decreases-loop-bytes
decreases-loop-bytes l = length l.rest
