use Rattle.std.proofs.Common.{arith, ap, ◌∙◌, length, ◌<◌, get_or, ◌*◌, ◌+◌}
use Rattle.homology_cert.proofs.Texts.MarkLemmas.{length-spaced, get_or-space, get_or-digit}
use Rattle.homology_cert.proofs.words.spaced_digits.Goals as goal
use Rattle.homology_cert.proofs.words.spaced_digits.Goals.{then-bytes-c-ne32-via-then-bytes-c-ne32, then-bytes-c-ne32-via-else-bytes-c-ne32+then-bytes-c-lt48}

pub returns-then-bytes-c-ne32-clause-none : goal.returns-then-bytes-c-ne32-clause-none
returns-then-bytes-c-ne32-clause-none c x e =
    let k = c.loop-c.c in
    let within : k < length x = omega (arith, ap length e, length-spaced x, c.requires.long, c.loop-c-test.true) in
    elim c.then-bytes-c-ne32.branch [
      | then-bytes-c-ne32-via-then-bytes-c-ne32 w ↦ w.if-bytes-c-ne32.true (ap (λ b. get_or b (2 * k) 0) e
          ∙ get_or-space x k within)
      | then-bytes-c-ne32-via-else-bytes-c-ne32+then-bytes-c-lt48 w ↦
          omega (arith, w.if-bytes-c-lt48.true, ap (λ b. get_or b (2 * k + 1) 0) e, get_or-digit x k within)
    ]
