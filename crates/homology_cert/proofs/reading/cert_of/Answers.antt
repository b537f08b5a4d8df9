use Rattle.std.proofs.Common.{◌≡◌, arith, ap, sym, subst, ◌∙◌}
use Rattle.homology_cert.specs.Inner.CodeText.{certificate_text, IsFirstBadLine}
use Rattle.homology_cert.specs.Inner.CodeCertificates.{IsCertificate}
use Rattle.homology_cert.proofs.Texts.NextLemmas.{told_none, told_some}
use Rattle.homology_cert.proofs.Texts.ReadLemmas.{IsRead-next, IsRead-whole, number_bound, bad_line, bad_end}
use Rattle.homology_cert.proofs.reading.cert_of.Goals as goal

pub returns-in_default-2-clause-refused : goal.returns-in_default-2-clause-refused
returns-in_default-2-clause-refused c line e =
    let l = c.loop-line in
    let same : l.number ≡ line = cc in
    let split = c.in-Some.ensures.some in
    subst (IsFirstBadLine c.args.text.now) same
    (bad_line c.args.text.now l.place l.cells.items l.rest.now l.number l.invariant c.in-Some.line.now
    c.in-Some.after.now split.0 split.1
    (told_none l.place l.cells.items c.in-Some.line.now c.in_ok-next.field-0 c.next_place.new.cells.items
    c.in_default-2.is c.in_ok-next.ensures) (omega (arith, c.requires)))

pub overflow_add-number : goal.overflow_add-number
overflow_add-number c =
    let l = c.loop-line in
    omega (arith, c.requires, number_bound c.args.text.now l.place l.cells.items l.rest.now l.number l.invariant)

pub loop-line-preserved : goal.loop-line-preserved
loop-line-preserved c =
    let l = c.loop-line in
    let split = c.in-Some.ensures.some in
    IsRead-next c.args.text.now l.place l.cells.items l.rest.now l.number l.invariant c.in-Some.line.now
    c.in-Some.after.now c.in-Some-2.next c.next_place.new.cells.items split.0 split.1
    (told_some l.place l.cells.items c.in-Some.line.now c.in_ok-next.field-0 c.next_place.new.cells.items
    c.in-Some-2.next c.in-Some-2.is c.in_ok-next.ensures)

pub whole-requires : goal.whole-requires
whole-requires c g is none =
    let l = c.loop-line in
    (IsRead-whole c.args.text.now l.place l.cells.items l.rest.now l.number l.invariant (omega (arith, c.requires)) g is
    none).0

pub returns-in-Some-whole-clause-read : goal.returns-in-Some-whole-clause-read
returns-in-Some-whole-clause-read c =
    let l = c.loop-line in
    let g = c.in-Some-whole.cert.grid in
    let (place, cells, none) = c.in-Some-whole.ensures in
    (IsRead-whole c.args.text.now l.place l.cells.items l.rest.now l.number l.invariant (omega (arith, c.requires)) g
    place none).1
    ∙ ap (λ ds. certificate_text (record { grid = g; cells = ds })) (sym cells)

pub returns-in-Some-whole-clause-certificate : goal.returns-in-Some-whole-clause-certificate
returns-in-Some-whole-clause-certificate c =
    let l = c.loop-line in
    let g = c.in-Some-whole.cert.grid in
    let (place, cells, none) = c.in-Some-whole.ensures in
    subst (λ ds. IsCertificate (record { grid = g; cells = ds })) (sym cells)
    (IsRead-whole c.args.text.now l.place l.cells.items l.rest.now l.number l.invariant (omega (arith, c.requires)) g
    place none).0

pub returns-in-None-clause-refused : goal.returns-in-None-clause-refused
returns-in-None-clause-refused c line e =
    let l = c.loop-line in
    let same : l.number ≡ line = cc in
    subst (IsFirstBadLine c.args.text.now) same
    (bad_end c.args.text.now l.place l.cells.items l.rest.now l.number l.invariant c.in_default.ensures.none
    c.in-None.ensures (omega (arith, c.requires)))
