use Rattle.std.proofs.Common.{◌≡◌, ◌+◌, ◌<◌, [], All, arith, sym, ap, subst, ◌∙◌}
use Rattle.std.proofs.lemmas.Bool.Decides.{nat_tests}
use Rattle.f2_algebra.specs.Chain.{codes}
use Rattle.state_rank.specs.States.{factorial}
use Rattle.torus_geom.specs.Marks.{size}
use Rattle.text_lines.specs.Inner.CodeLines.{set_line}
use Rattle.homology_cert.proofs.Texts.ByteLemmas.{empty_list}
use Rattle.homology_cert.proofs.Texts.SetLemmas.{IsReadSet, IsReadSet-next, IsReadSet-end, no_set-no_code, no_set-not_above}
use Rattle.homology_cert.proofs.words.set_of.Goals as goal

pub returns-in_default-first_code-clause-none : goal.returns-in_default-first_code-clause-none
returns-in_default-first_code-clause-none c z is e =
    let n = c.size-n.result in
    let rest = c.loop-rest.rest.now in
    no_set-no_code n c.args.word.now c.args.line.now rest c.loop-rest.set c.loop-rest.least c.loop-rest.invariant z
    (subst (λ k. All (λ code. code < factorial k) (codes z)) (sym c.size-n.ensures.size) is)
    (e ∙ ap (λ k. set_line c.args.word.now k z) (sym c.size-n.ensures.size))
    (grind (arith, nat_tests)) c.in_default-first_code.ensures.none

pub returns-then-code-least-clause-none : goal.returns-then-code-least-clause-none
returns-then-code-least-clause-none c z is e =
    let n = c.size-n.result in
    let rest = c.loop-rest.rest.now in
    let code = c.in-Some-first_code.ensures.some in
    no_set-not_above n c.args.word.now c.args.line.now rest c.loop-rest.set c.loop-rest.least c.loop-rest.invariant z
    (subst (λ k. All (λ code. code < factorial k) (codes z)) (sym c.size-n.ensures.size) is)
    (e ∙ ap (λ k. set_line c.args.word.now k z) (sym c.size-n.ensures.size))
    c.in-Some-first_code.code c.in-Some-first_code.after.now code.0 code.2 c.if-code-least.true

pub loop-rest-preserved : goal.loop-rest-preserved
loop-rest-preserved c =
    let code = c.in-Some-first_code.ensures.some in
    subst (λ s. IsReadSet c.size-n.result c.args.word.now c.args.line.now c.in-Some-first_code.after.now s
    (c.in-Some-first_code.code + 1)) (sym c.in_ok-toggle.ensures.toggled)
    (IsReadSet-next c.size-n.result c.args.word.now c.args.line.now c.loop-rest.rest.now c.in-Some-first_code.after.now
    c.loop-rest.set c.loop-rest.least
    c.in-Some-first_code.code c.loop-rest.invariant code.0 code.2 c.if-code-least.false)

pub returns-clause-some : goal.returns-clause-some
returns-clause-some c =
    let n = c.size-n.result in
    let rest = c.loop-rest.rest.now in
    let none : rest ≡ [] = empty_list rest (grind (arith, nat_tests)) in
    let is = IsReadSet-end n c.args.word.now c.args.line.now c.loop-rest.set c.loop-rest.least
    (subst (λ r. IsReadSet n c.args.word.now c.args.line.now r c.loop-rest.set c.loop-rest.least) none
    c.loop-rest.invariant) in
    subst (λ z. All (λ code. code < factorial (size c.args.g.now)) (codes z)
    × (c.args.line.now ≡ set_line c.args.word.now (size c.args.g.now) z)) (sym c.in_ok-set.ensures)
    (subst (λ k. All (λ code. code < factorial k) (codes c.loop-rest.set)
    × (c.args.line.now ≡ set_line c.args.word.now k c.loop-rest.set)) c.size-n.ensures.size is)
