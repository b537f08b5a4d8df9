-- Each state is visited, and is counted at its Alexander degree.
use Rattle.std.proofs.Common.{◌≡◌, ◌+◌, ◌++◌, ◌<◌, ◌^◌, pos, neg_ℤ, ◌≤ℤ◌, drop, length, take, refl, replicate, sym, ap, subst, ◌∙◌, arith, rules, w32, w64}
use Rattle.std.proofs.lemmas.Int.{to_z-of_z}
use Rattle.std.proofs.lemmas.Result.{IfOk-weaker}
use mir.Val.{SFits, of_z, to_z}
use Rattle.state_rank.specs.States.{factorial, unrank}
use Rattle.state_rank.proofs.LehmerLemmas.{factorial_positive}
use Rattle.state_rank.proofs.RankLemmas.{length-unrank}
use Rattle.state_rank.proofs.VisitLemmas.{visited-next}
use Rattle.torus_geom.specs.Marks.{size}
use Rattle.torus_geom.specs.Degrees.{maslov_o, alexander}
use Rattle.grid_euler.specs.Euler.{euler_number, signed, IsTableOf}
use Rattle.grid_euler.specs.Inner.Sums.{AreSums, AreBounded}
use Rattle.grid_euler.proofs.PlaceLemmas.{AreBounded-wider, bounded_none, sums_none}
use Rattle.grid_euler.proofs.SumLemmas.{all_states, euler_before, euler_number-vanishes, signed-high, signed-low, small_more, small_none, state_added, written_back}
use Rattle.grid_euler.proofs.WordLemmas.{passed}
use Rattle.grid_euler.proofs.sums.euler_of_states.Goals as goal

pub unrank-x-requires-clause-rank : goal.unrank-x-requires-clause-rank
unrank-x-requires-clause-rank c = factorial_positive c.size.result

pub loop-code-init : goal.loop-code-init
loop-code-init c =
    let zeros : c.in_ok-sums.sums.items ≡ replicate 2001 (pos 0) =
    c.in_ok-sums.ensures.items_if_clones_equal (λ y e. e) in
    record {
      running = subst (AreSums (euler_before c.args.g.now 0)) (sym zeros) (sums_none (euler_before c.args.g.now 0)
          (λ a. refl));
      bounded = subst (AreBounded 0) (sym zeros) bounded_none;
      small = small_none c.args.g.now;
      visited = λ l. c.unrank-x.ensures.state ∙ ap (λ n. unrank n 0) c.size.ensures.size;
    }

pub degree-degree-requires : goal.degree-degree-requires
degree-degree-requires c =
    let count : c.state_count-code-end.result ≡ factorial (size c.args.g.now) =
    c.state_count-code-end.ensures ∙ ap factorial c.size-2.ensures.size in
    let below : c.loop-code._code < factorial (size c.args.g.now) = omega arith in
    record {
      one_size = ap length (c.loop-code.invariant.visited below)
          ∙ length-unrank (size c.args.g.now) c.loop-code._code below ∙ ap size (sym c.of-tables.ensures);
    }

pub add_at-requires-clause-room : goal.add_at-requires-clause-room
add_at-requires-clause-room c =
    let code_fits : c.loop-code._code < 2 ^ 32 = search rules in
    subst (AreBounded (2 ^ 61)) (sym c.deref_mut.ensures.value)
    (AreBounded-wider c.loop-code._code (2 ^ 61) c.loop-code.sums.items (omega arith) c.loop-code.invariant.bounded)

pub add_at-requires-clause-low : goal.add_at-requires-clause-low
add_at-requires-clause-low c =
    let m = to_z w32 (of_z w32 c.degree-degree.result.m) in
    subst (λ v. neg_ℤ (pos (2 ^ 61)) ≤ℤ v)
    (sym (passed c.signed.result (signed m 1) (c.signed.ensures 1 refl) (signed-low m 1 (2 ^ 32) (omega arith))
    (signed-high m 1 (2 ^ 32) (omega arith))))
    (signed-low m 1 (2 ^ 61) (omega arith))

pub add_at-requires-clause-high : goal.add_at-requires-clause-high
add_at-requires-clause-high c =
    let m = to_z w32 (of_z w32 c.degree-degree.result.m) in
    subst (λ v. v ≤ℤ pos (2 ^ 61))
    (sym (passed c.signed.result (signed m 1) (c.signed.ensures 1 refl) (signed-low m 1 (2 ^ 32) (omega arith))
    (signed-high m 1 (2 ^ 32) (omega arith))))
    (signed-high m 1 (2 ^ 61) (omega arith))

pub loop-code-preserved : goal.loop-code-preserved
loop-code-preserved c =
    let g = c.args.g.now in
    let k = c.loop-code._code in
    let count : c.state_count-code-end.result ≡ factorial (size c.args.g.now) =
    c.state_count-code-end.ensures ∙ ap factorial c.size-2.ensures.size in
    let below : c.loop-code._code < factorial (size c.args.g.now) = omega arith in
    let x_is = c.loop-code.invariant.visited below in
    let degree = c.degree-degree.result in
    let fits_a : SFits w32 c.degree-degree.result.a = search rules in
    let m = to_z w32 (of_z w32 c.degree-degree.result.m) in
    let fits_m : SFits w32 c.degree-degree.result.m = search rules in
    let term : to_z w64 (of_z w64 c.signed.result) ≡ signed m 1 =
    passed c.signed.result (signed m 1) (c.signed.ensures 1 refl) (signed-low m 1 (2 ^ 32) (omega arith))
    (signed-high m 1 (2 ^ 32) (omega arith)) in
    let new = c.add_at.new.sums in
    let lent = sym c.deref_mut.ensures.value in
    let back : take c.loop-code.sums.len (new ++ drop (length new) c.loop-code.sums.items) ≡ new =
    written_back new c.loop-code.sums.items _ c.loop-code.sums.len c.add_at.ensures.length
    c.loop-code.invariant.running.long c.loop-code.sums.ok.0 in
    let a_is : degree.a ≡ alexander g (unrank (size g) k) =
    c.degree-degree.ensures.alexander ∙ (λ i. alexander (c.of-tables.ensures i) (x_is i)) in
    let m_is : m ≡ maslov_o g (unrank (size g) k) =
    to_z-of_z w32 degree.m fits_m ∙ c.degree-degree.ensures.maslov
    ∙ (λ i. maslov_o (c.of-tables.ensures i) (x_is i)) in
    record {
      running = subst (AreSums (euler_before g (k + 1))) (sym back)
          (state_added g k m degree.a _ _ new a_is (to_z-of_z w32 degree.a fits_a) m_is term
          (c.add_at.ensures.sums (euler_before g k) (subst (AreSums (euler_before g k)) lent
          c.loop-code.invariant.running)));
      bounded = subst (AreBounded (k + 1)) (sym back)
          (c.add_at.ensures.bounded k 1 (subst (AreBounded k) lent c.loop-code.invariant.bounded)
          (subst (λ v. neg_ℤ (pos 1) ≤ℤ v) (sym term) (signed-low m 1 1 (omega arith)))
          (subst (λ v. v ≤ℤ pos 1) (sym term) (signed-high m 1 1 (omega arith))));
      small = small_more g k degree.a a_is
          (record { low = c.degree-degree.ensures.low.1; high = c.degree-degree.ensures.high.1 })
          c.loop-code.invariant.small;
      visited =
          visited-next (size g) k c.loop-code.x c.advance.new.self c.advance.result below
          c.loop-code.invariant.visited c.advance.ensures.state c.advance.ensures.last;
    }

pub returns : goal.returns
returns c =
    let g = c.args.g.now in
    let count : c.state_count-code-end.result ≡ factorial (size c.args.g.now) =
    c.state_count-code-end.ensures ∙ ap factorial c.size-2.ensures.size in
    let all : c.loop-code._code ≡ factorial (size c.args.g.now) = omega arith in
    let sums : AreSums (euler_number g) c.deref.result.now =
    subst (AreSums (euler_number g)) (sym c.deref.ensures.value)
    (all_states g c.loop-code._code c.loop-code.sums.items all c.loop-code.invariant.running) in
    IfOk-weaker c.table_of.result _ (λ table. IsTableOf (euler_number g) table)
    (λ table h. h (euler_number g) sums (euler_number-vanishes g c.loop-code._code all c.loop-code.invariant.small))
    c.table_of.ensures
