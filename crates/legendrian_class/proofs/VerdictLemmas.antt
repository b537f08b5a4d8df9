-- Verdicts in the field's words, from those of the grid complex; each chain of states has one, and no two.
use Rattle.std.proofs.Common.{◌≡◌, ℕ, ◌<◌, ◌≤◌, ℤ, pos, ◌+ℤ◌, Bool, true, false, cond, Some, None, if◌then◌else◌, is_some, ltb, inl, inr, refl, sym, ap, ◌∙◌, arith}
use Rattle.std.proofs.lemmas.Bool.{cases_lt, lt-ltb, ltb-true, false≢true}
use Rattle.f2_algebra.specs.Chain.{Chain, holds, nothing, pairs_oddly}
use Rattle.f2_algebra.specs.Complex.{AllCells}
use Rattle.f2_algebra.specs.Bigraded.{up_m}
use Rattle.f2_algebra.specs.Verdict.{IsNullBy, IsAliveBy}
use Rattle.f2_algebra.proofs.Chains.Sets.{holds-nothing, weight-nothing, pairs_oddly-weight, each_code}
use Rattle.f2_algebra.proofs.Chains.Lists.{All-codes}
use Rattle.f2_algebra.proofs.Certificates.Verdict.{even_with_borders, exists_verdict}
use Rattle.f2_algebra.proofs.Ranks.Existence.{codes_below, any-codes_below}
use Rattle.state_rank.specs.States.{factorial, unrank}
use Rattle.torus_geom.specs.Marks.{Marks, size, IsGrid}
use Rattle.torus_geom.specs.Inner.CodeBorder.{border_of_state, border}
use Rattle.torus_geom.specs.Degrees.{bidegree}
use Rattle.torus_geom.specs.Inner.GridComplex.{grid_complex}
use Rattle.rectangles.proofs.Square.BorderLemmas.{border-border, border-grid_complex, border-below}
use Rattle.rectangles.proofs.Law.GridComplexLemmas.{grid_complex_rules}
use Rattle.legendrian_class.specs.declared.verdicts.ClassVerdict.TheVariants as verdict
use Rattle.torus_geom.specs.Codes.{HasIndices}
use Rattle.legendrian_class.specs.Inner.CodeVerdicts.{IsNotCycle, IsNull, IsAlive, HasVerdict, HasOneVerdict}
use Rattle.rectangles.proofs.Homology.CorankLemmas.{targets-below}
use Rattle.rectangles.proofs.Homology.HomologyLemmas.{degree_is}

-- ---- verdicts
-- the least state of the border
pub IsNotCycle-least : (g : Marks) (z : Chain) (s : ℕ)
    → (holds (border g z) s ≡ true) × ((t : ℕ) → holds (border g z) t ≡ true → s ≤ t) → IsNotCycle g z s
IsNotCycle-least g z s least = record { held = least.0; least = least.1 }

-- is a state
pub IsNotCycle-state : (g : Marks) (z : Chain) (s : ℕ) → IsNotCycle g z s → s < factorial (size g)
IsNotCycle-state g z s not_cycle = border-below g z s not_cycle.held

pub IsNull-by : (g : Marks) (z b : Chain) → IsNullBy (grid_complex g) z b → IsNull g z b
IsNull-by g z b null = record {
  bounds = record {
    states = All-codes (λ code. code < factorial (size g)) b
        (λ s h. let (t, in_z, (m, above, below)) = null.1 s h in (degree_is g s (up_m m) above).0);
    is_border = sym (border-grid_complex g b) ∙ null.0;
  };
  degrees = λ s h.
      let (t, in_z, (m, above, below)) = null.1 s h in
      let of_s = (degree_is g s (up_m m) above).1 in
      let of_t = (degree_is g t m below).1 in (
        t,
        in_z,
        record {
          maslov = ap (λ (d : ℤ × ℤ). d.0) of_s ∙ ap (λ (d : ℤ × ℤ). d.0 +ℤ pos 1) (sym of_t);
          alexander = ap (λ (d : ℤ × ℤ). d.1) of_s ∙ ap (λ (d : ℤ × ℤ). d.1) (sym of_t);
        },
      );
}

pub IsAlive-by : (g : Marks) (z f : Chain) → IsAliveBy (grid_complex g) z f → IsAlive g z f
IsAlive-by g z f alive =
    let (m, of, (t, in_z, at)) = alive.degree in
    let of_t = (degree_is g t m at).1 in
    record {
      states = All-codes (λ code. code < factorial (size g)) f (λ s h. (degree_is g s m (of s h)).0);
      cycle = sym (border-grid_complex g z) ∙ alive.cycle;
      even = λ s below. ap (λ c. pairs_oddly c f) (sym (targets-below g s below)) ∙ alive.cocycle s;
      odd = alive.odd;
      degrees = (
        t,
        in_z,
        λ s h.
            let of_s = (degree_is g s m (of s h)).1 in
            record {
              maslov = ap (λ (d : ℤ × ℤ). d.0) of_s ∙ ap (λ (d : ℤ × ℤ). d.0) (sym of_t);
              alexander = ap (λ (d : ℤ × ℤ). d.1) of_s ∙ ap (λ (d : ℤ × ℤ). d.1) (sym of_t);
            },
      );
    }

-- ---- no two
even_everywhere : (g : Marks) (z f : Chain) → IsAlive g z f → (s : ℕ)
    → pairs_oddly ((grid_complex g).targets s) f ≡ false
even_everywhere g z f alive s = elim (cases_lt s (factorial (size g))) [
  | inl below ↦ ap (λ c. pairs_oddly c f) (targets-below g s below) ∙ alive.even s below
  | inr past ↦
      ap (λ b. pairs_oddly (cond b (border_of_state g (unrank (size g) s)) nothing) f)
      (not_below s (factorial (size g)) past) ∙ pairs_oddly-weight nothing f ∙ weight-nothing (holds f)
]
  where
    not_below : (s n : ℕ) → n ≤ s → ltb s n ≡ false
    not_below s n l = grind arith

-- a chain has no two of the three verdicts
pub one_verdict : (g : Marks) → IsGrid g → (z : Chain) → HasOneVerdict g z
one_verdict g grid z = record {
  not_cycle_or_border =
      λ s b not_cycle bounds. false≢true
      (sym (ap (λ c. holds c s) (ap (border g) (sym bounds.is_border) ∙ border-border g grid b) ∙ holds-nothing s)
      ∙ not_cycle.held);
  not_cycle_or_alive =
      λ s f not_cycle alive. false≢true (sym (ap (λ c. holds c s) alive.cycle ∙ holds-nothing s) ∙ not_cycle.held);
  border_or_alive = λ b f bounds alive.
      false≢true (
      sym (even_with_borders (grid_complex g) f (even_everywhere g z f alive) b)
      ∙ ap (λ c. pairs_oddly c f) (border-grid_complex g b ∙ bounds.is_border)
      ∙ alive.odd);
}

-- ---- one
cell_below : (g : Marks) (s : ℕ) (b : Bool) → is_some (if b then Some (bidegree g (unrank (size g) s)) else None) ≡ true
    → b ≡ true
cell_below g s true h = refl
cell_below g s false h = h

cells_of : (g : Marks) (z : Chain) → HasIndices (size g) z → AllCells (grid_complex g) z
cells_of g z states s h =
    ap (λ b. is_some (if b then Some (bidegree g (unrank (size g) s)) else None))
    (lt-ltb s (factorial (size g)) (each_code (λ code. code < factorial (size g)) z states s h))

-- each chain of states has a verdict, with some evidence
pub some_verdict : (g : Marks) → IsGrid g → (z : Chain) → HasIndices (size g) z → HasVerdict g z
some_verdict g grid z states =
    let C = grid_complex g in
    elim (exists_verdict C (grid_complex_rules g grid) (codes_below (factorial (size g)))
    (λ s live. any-codes_below (factorial (size g)) s (ltb-true s (factorial (size g)) (cell_below g s _ live))) z
    (cells_of g z states)) [
      | inl not_cycle ↦
          let (s, (held, least)) = not_cycle in
          let same = border-grid_complex g z in (
            verdict.NotCycle s,
            IsNotCycle-least g z s (
              sym (ap (λ c. holds c s) same) ∙ held,
              λ t h. least t (ap (λ c. holds c t) same ∙ h),
            ),
          )
      | inr cycle ↦ elim cycle [
        | inl null ↦ (verdict.Null null.0, IsNull-by g z null.0 null.1)
        | inr alive ↦ (verdict.Alive alive.0, IsAlive-by g z alive.0 alive.1)
      ]
    ]
