-- The degree is that of the sum.
use Rattle.std.proofs.Common.{◌≡◌, ℤ, w32, true, Bool, false, cond, ◌+ℤ◌, ap, subst, sym, ◌∙◌, arith, refl}
use mir.Val.{of_z, to_z}
use Rattle.std.proofs.lemmas.Int.{ints}
use Rattle.std.proofs.lemmas.Bool.{false≢true}
use Rattle.std.specs.Ordering.{int_cmp, is_eq}
use Rattle.std.specs.BTreeSet as sorted
use Rattle.std.proofs.lemmas.Cmp.{int_cmp_total, tied_itself}
use Rattle.torus_geom.specs.Degrees.{alexander}
use Rattle.state_rank.specs.Bijection.{IsBijection}
use Rattle.torus_geom.specs.Marks.{Marks, size}
use Rattle.gradings.specs.Sums.{least, sum_before}
use Rattle.homology_cert.proofs.degrees.add_degree.Goals as goal

kept : (b c : Bool) → c ≡ true → cond b true c ≡ true
kept true c h = refl
kept false c h = h

pub returns-then-not-can_give-clause-found : goal.returns-then-not-can_give-clause-found
returns-then-not-can_give-clause-found c = λ z s is.
    let sum = c.from.ensures in
    absurd (false≢true (sym c.if-not-can_give.true
    ∙ c.can_give.ensures.complete z 0 s (omega arith) refl (omega (arith, ints))))

pub returns : goal.returns
returns c =
    let adds = c.in_ok-insert.ensures.updates.0 in
    record {
      found = λ z s is.
          let value = c.least.ensures.value ∙ ap least c.tables.ensures in
          let law : alexander c.args.sums.now z
          ≡ least c.args.sums.now +ℤ sum_before c.args.sums.now (size c.args.sums.now) z =
          subst (λ (g : Marks). alexander g z ≡ least g +ℤ sum_before g (size g) z) c.tables.ensures
          (c.least.ensures.law z (subst (λ (g : Marks). IsBijection (size g) z) (sym c.tables.ensures) s)) in
          let low = c.least.ensures.low in
          let high = c.least.ensures.high in
          let sum = c.from-2.ensures in
          let degree : alexander c.args.sums.now z
          ≡ to_z w32 (of_z w32 (to_z w32 (of_z w32 c.least.result) +ℤ to_z w32 (of_z w32 c.from-2.result))) =
          omega (arith, ints) in
          adds (alexander c.args.sums.now z)
          ∙ ap (λ (d : ℤ). cond (is_eq (int_cmp d (alexander c.args.sums.now z))) true
          (sorted.contains int_cmp c.args.degrees.now (alexander c.args.sums.now z))) (sym degree)
          ∙ ap (λ o. cond (is_eq o) true (sorted.contains int_cmp c.args.degrees.now (alexander c.args.sums.now z)))
          (tied_itself int_cmp_total (alexander c.args.sums.now z));
      kept = λ a h. adds a ∙ kept _ _ h;
    }
