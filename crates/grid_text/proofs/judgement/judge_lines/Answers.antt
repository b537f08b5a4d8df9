use Rattle.std.proofs.Common.{◌≡◌, cond, subst, ap, sym, ◌∙◌}
use Rattle.grid_text.specs.Words.{words_of}
use Rattle.grid_text.specs.Inner.Next.{place_of, is_head, IsNext}
use Rattle.grid_text.proofs.Paths.JudgementLemmas.{HasRead-more, is_head-other}
use Rattle.grid_text.proofs.judgement.judge_lines.Goals.{in-Head, in_default-place}
use Rattle.grid_text.proofs.judgement.judge_lines.Goals as goal

pub loop-bytes-preserved : goal.loop-bytes-preserved
loop-bytes-preserved c =
    let begins : c.match-place.grid_line
    ≡ cond (is_head (place_of c.loop-bytes.place)) c.loop-bytes.line c.loop-bytes.grid_line =
    elim c.match-place.branch [
      | in-Head w ↦ w.grid_line-is
          ∙ ap (λ p. cond (is_head (place_of p)) c.loop-bytes.line c.loop-bytes.grid_line) (sym w.in-Head.is)
      | in_default-place w ↦ w.grid_line-is
          ∙ ap (λ b. cond b c.loop-bytes.line c.loop-bytes.grid_line)
          (sym (is_head-other c.loop-bytes.place w.in_default-place.not-Head))
    ] in
    HasRead-more c.args.text.now c.loop-bytes.line c.loop-bytes.grid_line c.match-place.grid_line c.loop-bytes.rest.now
    c.in-Some.bytes.now c.in-Some.after.now (place_of c.loop-bytes.place) (place_of c.in-Ok.next)
    c.loop-bytes.invariant begins c.in-Some.ensures.some c.in-Some.ensures.shorter
    (subst (IsNext (place_of c.loop-bytes.place) (words_of c.in-Some.bytes.now)) c.in-Ok.is c.in_ok-next.ensures)
