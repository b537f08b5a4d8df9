use Rattle.std.proofs.Common.{◌-◌, ◌++◌, arith, sym, ap, ◌∙◌, length, get_or, refl}
use Rattle.std.specs.Fmt.{decimal}
use Rattle.homology_cert.proofs.Texts.ByteLemmas.{size_digits, size_of_digit}
use Rattle.homology_cert.proofs.places.size_place.Goals as goal
use Rattle.homology_cert.proofs.places.size_place.Goals.{then-digits-ne1-via-then-digits-ne1, then-digits-ne1-via-else-digits-ne1+then-digits-lt50, then-digits-ne1-via-else-digits-ne1+else-digits-lt50+then-digits}

pub returns-in_default : goal.returns-in_default
returns-in_default c n small e =
    c.in_default.ensures (decimal n) (e ∙ ap (λ p. p ++ decimal n) (sym c.as_slice.ensures))

pub returns-then-digits-ne1 : goal.returns-then-digits-ne1
returns-then-digits-ne1 c n small e =
    let digits = c.in-Some.digits.now in
    let is = size_digits c.args.line.now digits (c.in-Some.ensures ∙ ap (λ p. p ++ digits) c.as_slice.ensures) n small
    e in
    elim c.then-digits-ne1.branch [
      | then-digits-ne1-via-then-digits-ne1 w ↦ w.if-digits-ne1.true (ap length is)
      | then-digits-ne1-via-else-digits-ne1+then-digits-lt50 w ↦
          omega (arith, ap (λ d. get_or d 0 0) is, w.if-digits-lt50.true, small.size.least)
      | then-digits-ne1-via-else-digits-ne1+else-digits-lt50+then-digits w ↦
          omega (arith, ap (λ d. get_or d 0 0) is, w.if-digits.true, small.small)
    ]

pub returns : goal.returns
returns c =
    let digits = c.in-Some.digits.now in
    let is = size_of_digit c.args.line.now digits (c.in-Some.ensures ∙ ap (λ p. p ++ digits) c.as_slice.ensures)
    c.if-digits-ne1.false c.if-digits-lt50.false c.if-digits.false in
    (get_or digits 0 0 - 48, is.0, is.1, refl)
