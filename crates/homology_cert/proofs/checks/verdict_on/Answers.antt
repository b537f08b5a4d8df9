use Rattle.std.proofs.Common.{ℕ, ◌+◌, length, drop, get_or, sym, ap, ap₂, subst, ◌∙◌, All, List, arith}
use Rattle.std.proofs.lemmas.List.{take_all}
use Rattle.std.proofs.lemmas.List.Sums.{sum_by_more}
use Rattle.homology_cert.specs.CertificateCodes.{Cell}
use Rattle.homology_cert.specs.Inner.CodeCertificates.{HasPairStates, entry_count}
use Rattle.homology_cert.specs.Inner.Questions.{first_failing, cell_questions, all_questions}
use Rattle.homology_cert.specs.declared.verdicts.CertTest.{CertTest}
use Rattle.homology_cert.specs.declared.verdicts.CertTest.TheVariants.{Missing}
use Rattle.homology_cert.specs.declared.verdicts.CertVerdict.TheVariants.{No}
use Rattle.homology_cert.proofs.Certified.CheckLemmas.{all_questions-next, passed_cells, verdict_of-no, verdict_of-yes, verdict_of-missing}
use Rattle.homology_cert.proofs.Certified.NumberLemmas.{or_later}
use Rattle.homology_cert.proofs.checks.verdict_on.Goals as goal

pub cell_failure-requires-clause-states : goal.cell_failure-requires-clause-states
cell_failure-requires-clause-states c =
    let g = c.args.c.now.grid in
    let states =
    subst (All (HasPairStates g))
    (sym c.cells-cell-items.ensures.cells) c.cells-cell-items.ensures.certificate.states in
    subst (HasPairStates g) (sym c.cell-item.is)
    (states c.loop-cell.cell-index c.cell-item.result c.loop-cell-test.true)

pub returns-in-Some : goal.returns-in-Some
returns-in-Some c =
    let k = c.args.c.now in
    let items = c.cells-cell-items.result.now in
    let cell = c.cell-item.result in
    let n = c.loop-cell.entry in
    let here = c.in_ok-entry.ensures ∙ ap (λ (d : Cell). first_failing (cell_questions k n d)) c.cell-item.is in
    let next = all_questions-next k n c.loop-cell.cell-index items cell c.loop-cell-test.true in
    let failure : ℕ × CertTest = (c.in-Some.entry, c.in-Some.test) in
    let fails = sym c.in-Some.is ∙ here in
    let whole = c.loop-cell.invariant.passed ∙ next
    ∙ ap (λ f. or_later f (first_failing (all_questions k
    (n + (1 + length (get_or items c.loop-cell.cell-index cell).cycles
    + length (get_or items c.loop-cell.cell-index cell).steps)) (drop (c.loop-cell.cell-index + 1) items))))
    (sym fails) in
    verdict_of-no k failure (sym (ap (λ (cells : List Cell). first_failing (all_questions k 1 cells))
    (sym c.cells-cell-items.ensures.cells) ∙ whole))

pub loop-cell-preserved : goal.loop-cell-preserved
loop-cell-preserved c =
    let k = c.args.c.now in
    let items = c.cells-cell-items.result.now in
    let cell = c.cell-item.result in
    let i = c.loop-cell.cell-index in
    let n = c.loop-cell.entry in
    let here = c.in_ok-entry.ensures ∙ ap (λ (d : Cell). first_failing (cell_questions k n d)) c.cell-item.is in
    let next = all_questions-next k n i items cell c.loop-cell-test.true in
    let more = sum_by_more (λ (d : Cell). 1 + length d.cycles + length d.steps) items i cell c.loop-cell-test.true in
    let counts =
    ap₂ (λ (a b : ℕ). 1 + a + b) (ap length (c.cycles.ensures ∙ ap (λ (d : Cell). d.cycles) c.cell-item.is))
    (ap length (c.steps.ensures ∙ ap (λ (d : Cell). d.steps) c.cell-item.is)) in
    record {
      entry = omega (arith, c.loop-cell.invariant.entry, more, counts);
      passed = c.loop-cell.invariant.passed ∙ next
          ∙ ap (λ f. or_later f (first_failing (all_questions k
          (n + (1 + length (get_or items i cell).cycles + length (get_or items i cell).steps))
          (drop (i + 1) items)))) (sym here ∙ c.in_default.is)
          ∙ ap (λ m. first_failing (all_questions k (n + m) (drop (i + 1) items))) (sym counts);
    }

pub returns-then-none_missing : goal.returns-then-none_missing
returns-then-none_missing c =
    let k = c.args.c.now in
    let told =
    passed_cells k c.loop-cell.entry c.loop-cell.cell-index c.cells-cell-items.result.now
    c.cells-cell-items.ensures.cells (omega (arith, c.loop-cell-test.false)) c.loop-cell.invariant.passed in
    verdict_of-yes k told (sym c.none_missing.ensures ∙ c.if-none_missing.true)

pub returns : goal.returns
returns c =
    let k = c.args.c.now in
    let items = c.cells-cell-items.result.now in
    let told =
    passed_cells k c.loop-cell.entry c.loop-cell.cell-index items c.cells-cell-items.ensures.cells
    (omega (arith, c.loop-cell-test.false)) c.loop-cell.invariant.passed in
    let number = c.loop-cell.invariant.entry
    ∙ ap (λ (cells : List Cell). entry_count cells + 1)
    (take_all c.loop-cell.cell-index items (omega (arith, c.loop-cell-test.false))
    ∙ c.cells-cell-items.ensures.cells) in
    ap (λ m. No m Missing) number ∙ verdict_of-missing k told (sym c.none_missing.ensures ∙ c.if-none_missing.false)
