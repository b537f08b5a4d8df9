-- The verdicts of a set of indices are those of its chain of states, with the evidence in states; so each chain of
-- states has a verdict, and no two.
use Rattle.std.proofs.Common.{◌≡◌, ◌↔◌, ℕ, ◌<◌, pos, ◌+ℤ◌, List, sym, ap, subst, ◌∙◌, arith, inl, inr}
use Rattle.std.proofs.Math.Path.{subst₂}
use Rattle.std.proofs.lemmas.Bool.{cases_lt, false_from_ne_true, false≢true}
use Rattle.f2_algebra.specs.Bigraded.{up_m}
use Rattle.f2_algebra.specs.Chain.{Chain as Codes, holds, single as one_code}
use Rattle.f2_algebra.specs.Chain as over_codes
use Rattle.state_rank.specs.Bijection.{IsBijection}
use Rattle.state_rank.specs.States.{is_before, rank, unrank, factorial}
use Rattle.state_rank.proofs.RankLemmas.{rank-below, rank-unrank, unrank-rank, rank_order, is_before-unrank, IsBijection-unrank}
use Rattle.torus_geom.specs.Inner.CodeBorder as code_border
use Rattle.torus_geom.specs.Inner.CodeBorder.{border_of_state}
use Rattle.torus_geom.specs.Degrees.{maslov_o, alexander, bidegree}
use Rattle.torus_geom.specs.Marks.{Marks, IsGrid, size}
use Rattle.rectangles.proofs.Square.BorderLemmas.{border-below, border_of_state-below}
use Rattle.legendrian_class.specs.Inner.CodeVerdicts as verdicts
use Rattle.legendrian_class.specs.declared.verdicts.ClassVerdict.{ClassVerdict}
use Rattle.legendrian_class.specs.declared.verdicts.ClassVerdict.TheVariants as answers
use Rattle.legendrian_class.proofs.VerdictLemmas.{one_verdict, some_verdict}
use Rattle.torus_geom.specs.Chains.{Chain, IsChain, single, pairs_oddly}
use Rattle.torus_geom.specs.Border.{border, IsBorderOf, Bounds}
use Rattle.torus_geom.specs.Codes.{states_of}
use Rattle.torus_geom.specs.Inner.CodeBorder.{codes_of}
use Rattle.legendrian_class.specs.VerdictCodes.{HasVerdictIndices, verdict_of}
use Rattle.legendrian_class.specs.Verdicts.Verdict.{NotCycle, Null, Alive}
use Rattle.legendrian_class.specs.Verdicts.{Verdict, IsNotCycle, IsNull, IsAlive, IsVerdict, HasVerdict, HasOneVerdict}
use Rattle.torus_geom.proofs.Chains.CodesLemmas.{AreIndices, by_indices, indices_from_All, All_from_indices, states_of-unrank, in_states_of, IsChain-states_of, AreIndices-codes_of, states_of-codes_of, states_of-single, AreIndices-single, states_of_one_to_one, states_of-nothing, nothing_from_states_of, pairs_oddly-states_of}
use Rattle.rectangles.proofs.Homology.BorderLaws.{border-border}
use Rattle.torus_geom.proofs.Chains.ReachedLemmas.{states_of-border_of_state, states_of-border, IsChain-border}

-- ---- no cycle
pub IsNotCycle-states : (g : Marks) (z : Codes) (s : ℕ) → AreIndices (size g) z → verdicts.IsNotCycle g z s
    → IsNotCycle g (states_of (size g) z) (unrank (size g) s)
IsNotCycle-states g z s below v =
    let n = size g in
    let same = states_of-border g z below in
    let l = border-below g z s v.held in
    record {
      held = ap (λ w. w (unrank n s)) (sym same) ∙ states_of-unrank n (code_border.border g z) s l ∙ v.held;
      least = λ y h.
          let (sy, in_border) = in_states_of n (code_border.border g z) y (ap (λ w. w y) same ∙ h) in
          let above = v.least (rank y) in_border in
          false_from_ne_true (is_before y (unrank n s)) (λ before.
          let less = (rank_order n y (unrank n s) sy (IsBijection-unrank n s l)).0 before in
          let is = rank-unrank n s l in
          absurd (omega arith));
    }

pub IsNotCycle-codes : (g : Marks) (z : Codes) (s : ℕ) → AreIndices (size g) z → s < factorial (size g)
    → IsNotCycle g (states_of (size g) z) (unrank (size g) s) → verdicts.IsNotCycle g z s
IsNotCycle-codes g z s below l v =
    let n = size g in
    let same = states_of-border g z below in
    record {
      held = sym (states_of-unrank n (code_border.border g z) s l) ∙ ap (λ w. w (unrank n s)) same ∙ v.held;
      least = λ t h.
          let m = border-below g z t h in
          let not_before = v.least (unrank n t)
          (ap (λ w. w (unrank n t)) (sym same) ∙ states_of-unrank n (code_border.border g z) t m ∙ h) in
          elim (cases_lt t s) [
            | inl less ↦ absurd (false≢true (sym not_before ∙ is_before-unrank n t s less l))
            | inr no_less ↦ no_less
          ];
    }

-- ---- null
-- the degrees of states are those of their indices
above_states : (g : Marks) (x y : List ℕ) → IsBijection (size g) x → IsBijection (size g) y
    → verdicts.IsOneAbove g (rank x) (rank y) → bidegree g x ≡ up_m (bidegree g y)
above_states g x y sx sy up =
    ap (bidegree g) (sym (unrank-rank (size g) x sx)) ∙ (λ i. (up.maslov i, up.alexander i))
    ∙ ap (λ w. up_m (bidegree g w)) (unrank-rank (size g) y sy)

above_codes : (g : Marks) (s : ℕ) (y : List ℕ) → IsBijection (size g) y
    → bidegree g (unrank (size g) s) ≡ up_m (bidegree g y) → verdicts.IsOneAbove g s (rank y)
above_codes g s y sy up = record {
  maslov = ap (λ d. d.0) up ∙ ap (λ w. maslov_o g w +ℤ pos 1) (sym (unrank-rank (size g) y sy));
  alexander = ap (λ d. d.1) up ∙ ap (alexander g) (sym (unrank-rank (size g) y sy));
}

pub IsBorderOf-states : (g : Marks) (b z : Codes) → verdicts.IsBorderOf g b z
    → IsBorderOf g (states_of (size g) b) (states_of (size g) z)
IsBorderOf-states g b z is = record {
  states = IsChain-states_of (size g) b;
  is_border = sym (states_of-border g b (indices_from_All (size g) b is.states)) ∙ ap (states_of (size g)) is.is_border;
}

pub IsBorderOf-codes : (g : Marks) (b z : Codes) → AreIndices (size g) b → AreIndices (size g) z
    → IsBorderOf g (states_of (size g) b) (states_of (size g) z) → verdicts.IsBorderOf g b z
IsBorderOf-codes g b z below_b below_z is = record {
  states = All_from_indices (size g) b below_b;
  is_border =
      states_of_one_to_one (size g) (code_border.border g b) z (border-below g b) below_z
      (states_of-border g b below_b ∙ is.is_border);
}

-- a set of indices bounds if its chain of states does
pub Bounds-states : (g : Marks) (z : Codes) → AreIndices (size g) z
    → verdicts.Bounds g z ↔ Bounds g (states_of (size g) z)
Bounds-states g z below =
    let n = size g in (
      λ (b, is). (states_of n b, IsBorderOf-states g b z is),
      λ (b, is). (
        codes_of n b,
        IsBorderOf-codes g (codes_of n b) z (AreIndices-codes_of n b) below
            (subst (λ w. IsBorderOf g w (states_of n z)) (sym (states_of-codes_of n b is.states)) is),
      ),
    )

pub IsNull-states : (g : Marks) (z b : Codes) → verdicts.IsNull g z b
    → IsNull g (states_of (size g) z) (states_of (size g) b)
IsNull-states g z b null =
    let n = size g in
    let below_z : AreIndices n z =
    λ s h. border-below g b s (ap (λ w. holds w s) null.bounds.is_border ∙ h) in
    record {
      bounds = IsBorderOf-states g b z null.bounds;
      degrees = λ x h.
          let (sx, in_b) = in_states_of n b x h in
          let (t, in_z, up) = null.degrees (rank x) in_b in
          let l = below_z t in_z in
          let sy = IsBijection-unrank n t l in (
            unrank n t,
            states_of-unrank n z t l ∙ in_z,
            above_states g x (unrank n t) sx sy
                (subst (verdicts.IsOneAbove g (rank x)) (sym (rank-unrank n t l)) up),
          );
    }

pub IsNull-codes : (g : Marks) (z b : Codes) → AreIndices (size g) z → AreIndices (size g) b
    → IsNull g (states_of (size g) z) (states_of (size g) b) → verdicts.IsNull g z b
IsNull-codes g z b below_z below_b null = record {
  bounds = IsBorderOf-codes g b z below_b below_z null.bounds;
  degrees = λ s h.
      let n = size g in
      let (y, in_z, up) = null.degrees (unrank n s) (states_of-unrank n b s (below_b s h) ∙ h) in
      let (sy, held) = in_states_of n z y in_z in
      (rank y, held, above_codes g s y sy up);
}

-- ---- alive
-- a state's border pairs with a chain as its indices do
pub even-state : (g : Marks) (f : Codes) (x : List ℕ) → IsBijection (size g) x
    → pairs_oddly (size g) (border g (single x)) (states_of (size g) f) ≡ over_codes.pairs_oddly (border_of_state g x) f
even-state g f x sx =
    ap (λ w. pairs_oddly (size g) w (states_of (size g) f)) (sym (states_of-border_of_state g x sx))
    ∙ pairs_oddly-states_of (size g) (border_of_state g x) f (border_of_state-below g x)

degree_states : (g : Marks) (x y : List ℕ) → IsBijection (size g) x → IsBijection (size g) y
    → verdicts.HaveOneDegree g (rank x) (rank y) → bidegree g x ≡ bidegree g y
degree_states g x y sx sy one =
    ap (bidegree g) (sym (unrank-rank (size g) x sx)) ∙ (λ i. (one.maslov i, one.alexander i))
    ∙ ap (bidegree g) (unrank-rank (size g) y sy)

pub IsAlive-states : (g : Marks) (z f : Codes) → AreIndices (size g) z → verdicts.IsAlive g z f
    → IsAlive g (states_of (size g) z) (states_of (size g) f)
IsAlive-states g z f below alive =
    let n = size g in
    let (t, in_z, one) = alive.degrees in
    let l = below t in_z in
    record {
      states = IsChain-states_of n f;
      cycle = sym (states_of-border g z below) ∙ ap (states_of n) alive.cycle ∙ states_of-nothing n;
      even = λ x sx. even-state g f x sx
          ∙ ap (λ w. over_codes.pairs_oddly (border_of_state g w) f) (sym (unrank-rank n x sx))
          ∙ alive.even (rank x) (rank-below n x sx);
      odd = pairs_oddly-states_of n z f below ∙ alive.odd;
      degrees = (
        unrank n t,
        states_of-unrank n z t l ∙ in_z,
        λ x h. let (sx, in_f) = in_states_of n f x h in
            degree_states g x (unrank n t) sx (IsBijection-unrank n t l)
            (subst (verdicts.HaveOneDegree g (rank x)) (sym (rank-unrank n t l)) (one (rank x) in_f)),
      );
    }

pub IsAlive-codes : (g : Marks) (z f : Codes) → AreIndices (size g) z → AreIndices (size g) f
    → IsAlive g (states_of (size g) z) (states_of (size g) f) → verdicts.IsAlive g z f
IsAlive-codes g z f below below_f alive =
    let n = size g in
    let (y, in_z, one) = alive.degrees in
    let (sy, held) = in_states_of n z y in_z in
    record {
      states = All_from_indices n f below_f;
      cycle =
          nothing_from_states_of n (code_border.border g z) (border-below g z)
          (states_of-border g z below ∙ alive.cycle);
      even = λ s l. let sx = IsBijection-unrank n s l in
          sym (even-state g f (unrank n s) sx) ∙ alive.even (unrank n s) sx;
      odd = sym (pairs_oddly-states_of n z f below) ∙ alive.odd;
      degrees = (
        rank y,
        held,
        λ s h. let d = one (unrank n s) (states_of-unrank n f s (below_f s h) ∙ h) in record {
          maslov = ap (λ p. p.0) d ∙ ap (maslov_o g) (sym (unrank-rank n y sy));
          alexander = ap (λ p. p.1) d ∙ ap (alexander g) (sym (unrank-rank n y sy));
        },
      );
    }

-- ---- verdicts
-- A verdict of a set of indices is one of its chain of states.
pub IsVerdict-states : (g : Marks) (z : Codes) → AreIndices (size g) z → (v : ClassVerdict) → verdicts.IsVerdict g z v
    → IsVerdict g (states_of (size g) z) (verdict_of (size g) v)
IsVerdict-states g z below (answers.NotCycle s) v = IsNotCycle-states g z s below v
IsVerdict-states g z below (answers.Null b) v = IsNull-states g z b v
IsVerdict-states g z below (answers.Alive f) v = IsAlive-states g z f below v

-- And each verdict of its chain of states is that of a verdict of the set, with the indices of the evidence.
pub IsVerdict-codes : (g : Marks) (z : Codes) → AreIndices (size g) z → (v : Verdict)
    → IsVerdict g (states_of (size g) z) v
    → (w : ClassVerdict) × verdicts.IsVerdict g z w × (verdict_of (size g) w ≡ v)
IsVerdict-codes g z below (NotCycle x) v =
    let n = size g in
    let sx = IsChain-border g (states_of n z) x v.held in
    let e = unrank-rank n x sx in (
      answers.NotCycle (rank x),
      IsNotCycle-codes g z (rank x) below (rank-below n x sx) (subst (IsNotCycle g (states_of n z)) (sym e) v),
      ap NotCycle e,
    )
IsVerdict-codes g z below (Null b) v =
    let n = size g in
    let e = states_of-codes_of n b v.bounds.states in (
      answers.Null (codes_of n b),
      IsNull-codes g z (codes_of n b) below (AreIndices-codes_of n b) (subst (IsNull g (states_of n z)) (sym e) v),
      ap Null e,
    )
IsVerdict-codes g z below (Alive f) v =
    let n = size g in
    let e = states_of-codes_of n f v.states in (
      answers.Alive (codes_of n f),
      IsAlive-codes g z (codes_of n f) below (AreIndices-codes_of n f) (subst (IsAlive g (states_of n z)) (sym e) v),
      ap Alive e,
    )

-- Each chain of states has a verdict, with some evidence.
pub HasVerdict-states : (g : Marks) → IsGrid g → (z : Chain) → IsChain (size g) z → HasVerdict g z
HasVerdict-states g s z sz =
    by_indices (size g) (HasVerdict g) (λ w below.
    let (v, is) = some_verdict g s w (All_from_indices (size g) w below) in
    (verdict_of (size g) v, IsVerdict-states g w below v is)) z sz

-- and no two
pub HasOneVerdict-states : (g : Marks) → IsGrid g → (z : Chain) → HasOneVerdict g z
HasOneVerdict-states g s z = record {
  not_cycle_or_border = λ x b not_cycle bounds. false≢true
      (sym (ap (λ w. w x) (ap (border g) (sym bounds.is_border) ∙ border-border g s b)) ∙ not_cycle.held);
  not_cycle_or_alive = λ x f not_cycle alive. false≢true (sym (ap (λ w. w x) alive.cycle) ∙ not_cycle.held);
  border_or_alive = λ b f bounds alive.
      let n = size g in
      let sz : IsChain n z = λ x h. IsChain-border g b x (ap (λ w. w x) bounds.is_border ∙ h) in
      let same_z = states_of-codes_of n z sz in
      let same_b = states_of-codes_of n b bounds.states in
      let same_f = states_of-codes_of n f alive.states in
      (one_verdict g s (codes_of n z)).border_or_alive (codes_of n b) (codes_of n f)
      (IsBorderOf-codes g (codes_of n b) (codes_of n z) (AreIndices-codes_of n b) (AreIndices-codes_of n z)
      (subst₂ (IsBorderOf g) (sym same_b) (sym same_z) bounds))
      (IsAlive-codes g (codes_of n z) (codes_of n f) (AreIndices-codes_of n z) (AreIndices-codes_of n f)
      (subst₂ (IsAlive g) (sym same_z) (sym same_f) alive));
}

-- ---- what the call answers
-- a verdict of a set of indices has indices for its evidence
pub HasVerdictIndices-verdict : (g : Marks) (z : Codes) → AreIndices (size g) z → (v : ClassVerdict)
    → verdicts.IsVerdict g z v → HasVerdictIndices (size g) v
HasVerdictIndices-verdict g z below (answers.NotCycle s) is = border-below g z s is.held
HasVerdictIndices-verdict g z below (answers.Null b) is = is.bounds.states
HasVerdictIndices-verdict g z below (answers.Alive f) is = is.states

-- and a verdict of the chain of states is one of the set
pub verdict_codes : (g : Marks) (z : Codes) → AreIndices (size g) z → (v : ClassVerdict) → HasVerdictIndices (size g) v
    → IsVerdict g (states_of (size g) z) (verdict_of (size g) v) → verdicts.IsVerdict g z v
verdict_codes g z below (answers.NotCycle s) ranks is = IsNotCycle-codes g z s below ranks is
verdict_codes g z below (answers.Null b) ranks is = IsNull-codes g z b below (indices_from_All (size g) b ranks) is
verdict_codes g z below (answers.Alive f) ranks is = IsAlive-codes g z f below (indices_from_All (size g) f ranks) is

-- ---- x+ and x-
-- a state bounds if the set of its index does
pub state_bounds : (g : Marks) (x : List ℕ) → IsBijection (size g) x
    → verdicts.Bounds g (one_code (rank x)) ↔ Bounds g (single x)
state_bounds g x sx =
    let (there, back) = Bounds-states g (one_code (rank x)) (AreIndices-single (size g) x sx) in
    let same = states_of-single (size g) x sx in (
      λ b. subst (Bounds g) same (there b),
      λ b. back (subst (Bounds g) (sym same) b),
    )

-- if the sets of the indices of two states bound alike, so do the states
pub states_bound_alike : (g h : Marks) (x y : List ℕ) → IsBijection (size g) x → IsBijection (size h) y
    → verdicts.Bounds g (one_code (rank x)) ↔ verdicts.Bounds h (one_code (rank y))
    → Bounds g (single x) ↔ Bounds h (single y)
states_bound_alike g h x y sx sy (there, back) =
    let (out, into) = state_bounds g x sx in
    let (to, from) = state_bounds h y sy in
    (λ b. to (there (into b)), λ b. out (back (from b)))
