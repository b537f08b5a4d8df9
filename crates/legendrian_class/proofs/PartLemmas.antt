-- The part of a cycle at one Alexander degree, and what its verdict says of the whole.
-- Route: the part at a is a cycle of the slice at a; its verdict there is one in the grid complex; null parts with no
-- code in common add up, and a part that is alive keeps the whole alive.
use Rattle.std.proofs.Common.{◌≡◌, ℕ, ℤ, ◌<◌, Bool, true, false, not, cond, ◌&&◌, List, Some, None, is_some, refl, sym, ap, ap₂, subst, ◌∙◌, inl, inr, length}
use Rattle.std.specs.Ordering.{int_eq}
use Rattle.std.proofs.lemmas.Bool.{cases_Bool, false≢true, and_parts}
use Rattle.std.proofs.lemmas.Bool.Decides.{Decides-int_eq}
use Rattle.f2_algebra.specs.Chain.{Chain, holds, codes, nothing, single, ◌⊕◌, where_code}
use Rattle.f2_algebra.specs.Complex.{Complex, arrow, border, IsComplex, AllCells}
use Rattle.f2_algebra.specs.Cancel.{Entry, IsLog, after, rest, pull, correction}
use Rattle.f2_algebra.specs.Slice.{Slice, slice_complex, IsReduced}
use Rattle.f2_algebra.specs.Bigraded.{maslov_if, at_alexander}
use Rattle.f2_algebra.specs.Verdict.{IsNullBy, IsAliveBy}
use Rattle.f2_algebra.proofs.Chains.Tables.{◌⊻◌, same}
use Rattle.f2_algebra.proofs.Chains.Sets.{same_chain, holds-nothing, holds-add, holds-where_code, weight, weight-same, weight-none, weight-where, xor-true, each_code}
use Rattle.f2_algebra.proofs.Chains.Sums.{add_comm, add_assoc, add_self, add-nothing, add_back, holds-sum_over}
use Rattle.f2_algebra.proofs.Cancelling.Cancellation.{complex_border-add, border-nothing}
use Rattle.f2_algebra.proofs.Cancelling.LogLemmas.{none_where, correction-by}
use Rattle.f2_algebra.proofs.Ranks.Bigraded.{with_second, at_alexander_IsPartOf}
use Rattle.f2_algebra.proofs.Certificates.Verdict.{null_by_correction, alive_by_pull}
use Rattle.f2_algebra.proofs.Certificates.VerdictParts.{null_of_part, alive_of_part, null_sum, alive_sum}
use Rattle.state_rank.specs.States.{factorial}
use Rattle.torus_geom.specs.Marks.{Marks, size, IsGrid}
use Rattle.torus_geom.specs.Inner.GridComplex.{grid_complex}
use Rattle.rectangles.proofs.Law.GridComplexLemmas.{grid_complex_rules}
use Rattle.sparse_complex.proofs.GridPartLemmas.{part_rules, degree-cell, degree-other}
use Rattle.torus_geom.specs.Codes.{HasIndices}
use Rattle.legendrian_class.specs.Inner.CodeVerdicts.{alexander_at}
use Rattle.legendrian_class.specs.Inner.Parts.{has_alexander, IsNullBut}
use Rattle.legendrian_class.proofs.ChainLemmas.{fewer-where}

-- a part that is told of a grid that is the same
pub part_of_grid : (g h : Marks) (part : Chain) (a : ℤ) (z : Chain) → h ≡ g → part ≡ where_code (has_alexander h a) z
    → part ≡ where_code (has_alexander g a) z
part_of_grid g h part a z same told = told ∙ ap (λ k. where_code (has_alexander k a) z) same

-- ---- the verdict of a cycle by a log
module _ (C : Complex ℤ) (old new : Slice) (log : List Entry) (z : Chain) (built : slice_complex old ≡ C)
    (reduced : IsReduced old new log) (rules : IsComplex C) (cycle : border C z ≡ nothing) where
  stands : IsLog C log
  stands = subst (λ D. IsLog D log) built reduced.stands

  bare : (s : ℕ) → (after C log).targets s ≡ nothing
  bare s = sym (ap (λ D. D.targets s) (reduced.is_after ∙ ap (λ D. after D log) built)) ∙ reduced.no_arrow s

  -- a cycle of which nothing is left is null by its correction
  pub null-pushed : (b : Chain) → rest log z ≡ nothing → b ≡ correction log z → IsNullBy C z b
  null-pushed b none is =
      subst (IsNullBy C z) (sym (is ∙ correction-by log z)) (null_by_correction C rules log stands bare z cycle none)

  -- a cycle of which s is left is alive by the pull of s
  pub alive-pulled : (f : Chain) (s : ℕ) → AllCells C z → holds (rest log z) s ≡ true → f ≡ pull log (single s)
      → IsAliveBy C z f
  alive-pulled f s cells left is =
      subst (IsAliveBy C z) (sym is) (alive_by_pull C rules log stands bare z cycle cells s left)

-- ---- the part at an Alexander degree
module _ (g : Marks) (a : ℤ) where
  abbrev slice : Complex ℤ
  slice = at_alexander a (grid_complex g)

  -- a state is a cell of the slice exactly if it has the degree
  pub cell-degree : (s : ℕ) → s < factorial (size g)
      → is_some ((at_alexander a (grid_complex g)).degree s) ≡ has_alexander g a s
  cell-degree s below = elim (cases_Bool (has_alexander g a s)) [
    | inl is ↦ ap is_some (degree-cell g a s below ((Decides-int_eq (alexander_at g s) a).0 is)) ∙ sym is
    | inr is_not ↦
        ap is_some (degree-other g a s below (λ e. false≢true
        (sym is_not ∙ (Decides-int_eq (alexander_at g s) a).1 e))) ∙ sym is_not
  ]

  module _ (grid : IsGrid g) (z : Chain) (states : HasIndices (size g) z) where
    below_at : (s : ℕ) → holds z s ≡ true → s < factorial (size g)
    below_at s h = each_code (λ code. code < factorial (size g)) z states s h

    -- the part is a chain of cells of the slice
    pub part-cells : AllCells (at_alexander a (grid_complex g)) (where_code (has_alexander g a) z)
    part-cells s h =
        let (in_z, is) =
        and_parts (holds z s) (has_alexander g a s) (sym (holds-where_code (has_alexander g a) z s) ∙ h) in
        cell-degree s (below_at s in_z) ∙ is

    rules_of : IsComplex (grid_complex g)
    rules_of = grid_complex_rules g grid

    arrow_cell : (s t : ℕ) → arrow slice s t ≡ true → is_some (slice.degree t) ≡ true
    arrow_cell s t h = let (m, above, below) = (part_rules g a grid).lowers s t h in ap is_some below

    leaves_cell : (s t : ℕ) → is_some (slice.degree t) ≡ true → arrow (grid_complex g) s t ≡ true
        → is_some (slice.degree s) ≡ true
    leaves_cell s t live h =
        let (d, above, below) = rules_of.lowers s t h in
        let at : maslov_if a (Some d) ≡ slice.degree t = ap (maslov_if a) (sym below) in
        second d (int_eq d.1 a) refl (ap is_some at ∙ live) (ap (maslov_if a) above)
      where
        second : (d : ℤ × ℤ) (b : Bool) → int_eq d.1 a ≡ b → is_some (cond b (Some d.0) None) ≡ true
            → slice.degree s ≡ maslov_if a (Some ((grid_complex g).up d)) → is_some (slice.degree s) ≡ true
        second d true e l at_s = ap is_some (at_s ∙ ap (λ b. cond b (Some ((grid_complex g).up d).0) None) e)
        second d false e l at_s = absurd (false≢true l)

    one_arrow : (s t : ℕ) → holds z s ≡ true → is_some (slice.degree t) ≡ true
        → (has_alexander g a s && arrow slice s t) ≡ arrow (grid_complex g) s t
    one_arrow s t in_z live = elim (cases_Bool (is_some (slice.degree s))) [
      | inl cell ↦
          ap₂ ◌&&◌ (sym (cell-degree s (below_at s in_z)) ∙ cell)
          (ap (λ b. holds (cond b ((grid_complex g).targets s) nothing) t) cell)
      | inr no_cell ↦
          ap (λ b. b && arrow slice s t) (sym (cell-degree s (below_at s in_z)) ∙ no_cell)
          ∙ sym (none_where (arrow (grid_complex g) s t) (λ h. false≢true (sym no_cell ∙ leaves_cell s t live h)))
    ]

    none_elsewhere : (s t : ℕ) → is_some (slice.degree t) ≡ false → (has_alexander g a s && arrow slice s t) ≡ false
    none_elsewhere s t dead =
        ap (λ b. has_alexander g a s && b)
        (none_where (arrow slice s t) (λ h. false≢true (sym dead ∙ arrow_cell s t h)))
        ∙ same 1 (λ b. b && false) (λ b. false) refl (has_alexander g a s)

    -- the part of a cycle is a cycle of the slice
    pub part-cycle : border (grid_complex g) z ≡ nothing
        → border (at_alexander a (grid_complex g)) (where_code (has_alexander g a) z) ≡ nothing
    part-cycle cycle = same_chain _ nothing (λ t.
        holds-sum_over (where_code (has_alexander g a) z) slice.targets t
        ∙ weight-where (has_alexander g a) (λ s. arrow slice s t) z
        ∙ even t
        ∙ sym (holds-nothing t))
      where
        even : (t : ℕ) → weight (λ s. has_alexander g a s && arrow (at_alexander a (grid_complex g)) s t) z ≡ false
        even t = elim (cases_Bool (is_some ((at_alexander a (grid_complex g)).degree t))) [
          | inl live ↦
              weight-same (λ s. has_alexander g a s && arrow (at_alexander a (grid_complex g)) s t)
              (λ s. arrow (grid_complex g) s t) z (λ s h. one_arrow s t h live)
              ∙ sym (holds-sum_over z (grid_complex g).targets t)
              ∙ ap (λ c. holds c t) cycle ∙ holds-nothing t
          | inr dead ↦
              weight-same (λ s. has_alexander g a s && arrow (at_alexander a (grid_complex g)) s t) (λ s. false) z
              (λ s _. none_elsewhere s t dead)
              ∙ weight-none z
        ]

-- ---- part after part
only_first : (l p : Bool) → (p ≡ true → l ≡ true) → (l ⊻ p) ≡ true → (l ≡ true) × (p ≡ false)
only_first true true inside h = absurd (false≢true h)
only_first true false inside h = (refl, refl)
only_first false true inside h = (inside refl, absurd (false≢true (inside refl)))
only_first false false inside h = absurd (false≢true h)

in_both : (z w : Chain) (s : ℕ) → holds z s ≡ true → holds w s ≡ true → holds (z ⊕ w) s ≡ true → ⊥
in_both z w s a b h = false≢true (sym (holds-add z w s ∙ ap₂ ◌⊻◌ a b) ∙ h)

-- before the first part, all is left
pub null-start : (g : Marks) (z left bound : Chain) → bound ≡ nothing → left ≡ z ⊕ bound → IsNullBut g z left bound
null-start g z left bound none is =
    let all : z ≡ left = sym (is ∙ ap (λ c. z ⊕ c) none ∙ add-nothing z) in
    subst (λ l. IsNullBut g z l bound) all (subst (IsNullBut g z z) (sym none) (record {
      within = λ s h. h;
      closed = λ s t h i e. i;
      null = (
        border-nothing (grid_complex g) ∙ sym (add_self z),
        λ s h. absurd (false≢true (sym (holds-nothing s) ∙ h)),
      );
    }))

-- if nothing is left, the chain is null
pub null-end : (g : Marks) (z left bound : Chain) → left ≡ nothing → IsNullBut g z left bound
    → IsNullBy (grid_complex g) z bound
null-end g z left bound none but =
    subst (λ c. IsNullBy (grid_complex g) c bound) (ap (λ l. z ⊕ l) none ∙ add-nothing z) but.null

module _ (g : Marks) (grid : IsGrid g) (z : Chain) (states : HasIndices (size g) z) (a : ℤ) (part : Chain)
    (is_part : part ≡ where_code (has_alexander g a) z) where
  in_part : (s : ℕ) → holds part s ≡ (holds z s && has_alexander g a s)
  in_part s = ap (λ c. holds c s) is_part ∙ holds-where_code (has_alexander g a) z s

  part_in_z : (s : ℕ) → holds part s ≡ true → (holds z s ≡ true) × (has_alexander g a s ≡ true)
  part_in_z s h = and_parts (holds z s) (has_alexander g a s) (sym (in_part s) ∙ h)

  -- a part that is alive keeps the whole alive
  pub alive-whole : border (grid_complex g) z ≡ nothing → (f : Chain)
      → IsAliveBy (at_alexander a (grid_complex g)) part f
      → IsAliveBy (grid_complex g) z f
  alive-whole cycle f alive =
      let C = grid_complex g in
      let cells : AllCells (at_alexander a C) part =
      subst (AllCells (at_alexander a C)) (sym is_part) (part-cells g a grid z states) in
      let there : IsAliveBy C part f =
      alive_of_part C (with_second a) (at_alexander a C) (at_alexander_IsPartOf a C refl)
      (grid_complex_rules g grid) part f cells alive in
      let (m, of, _) = alive.degree in
      subst (λ c. IsAliveBy C c f) (ap (λ c. part ⊕ c) (add_comm z part) ∙ add_back part z)
      (alive_sum C part (z ⊕ part) f
      (λ s in_part_s h. in_both z part s (part_in_z s in_part_s).0 in_part_s h)
      (λ s h in_f.
      let (in_z, not_in) =
      only_first (holds z s) (holds part s) (λ i. (part_in_z s i).0) (sym (holds-add z part s) ∙ h) in
      let at : has_alexander g a s ≡ true =
      sym (cell-degree g a s (each_code (λ code. code < factorial (size g)) z states s in_z))
      ∙ ap is_some (of s in_f) in
      false≢true (sym not_in ∙ in_part s ∙ ap₂ ◌&&◌ in_z at))
      (complex_border-add C z part ∙ ap₂ ◌⊕◌ cycle there.cycle ∙ add_self nothing)
      there)

  module _ (left bound : Chain) (but : IsNullBut g z left bound) (code : ℕ) (held : holds left code ≡ true)
      (each_code : a ≡ alexander_at g code) where
    degree_of : (s : ℕ) → has_alexander g a s ≡ true → alexander_at g s ≡ a
    degree_of s is = (Decides-int_eq (alexander_at g s) a).0 is

    part_in_left : (s : ℕ) → holds part s ≡ true → holds left s ≡ true
    part_in_left s h = let (in_z, is) = part_in_z s h in
        but.closed code s held in_z (sym each_code ∙ sym (degree_of s is))

    -- a null part joins those before it
    pub null-next : (b : Chain) → IsNullBy (at_alexander a (grid_complex g)) part b
        → IsNullBut g z (left ⊕ part) (bound ⊕ b)
    null-next b null =
        let C = grid_complex g in
        record {
          within = λ s h. elim (xor-true (holds left s) (holds part s) (sym (holds-add left part s) ∙ h)) [
            | inl l ↦ but.within s l
            | inr p ↦ (part_in_z s p).0
          ];
          closed = λ s t h in_z e.
              let (l, p) =
              only_first (holds left s) (holds part s) (part_in_left s) (sym (holds-add left part s) ∙ h) in
              let other : holds part t ≡ false = none_where (holds part t) (λ q.
              let is : has_alexander g a s ≡ true =
              (Decides-int_eq (alexander_at g s) a).1 (e ∙ degree_of t (part_in_z t q).1) in
              false≢true (sym p ∙ in_part s ∙ ap₂ ◌&&◌ (but.within s l) is)) in
              holds-add left part t ∙ ap₂ ◌⊻◌ (but.closed s t l in_z e) other;
          null =
              subst (λ c. IsNullBy C c (bound ⊕ b)) (add_assoc z left part)
              (null_sum C (z ⊕ left) part bound b
              (λ s h p. in_both z left s (part_in_z s p).0 (part_in_left s p) h)
              but.null (null_of_part C (with_second a) (at_alexander a C)
              (at_alexander_IsPartOf a C refl) part b null));
        }

    -- and less is left
    pub less-left : length (codes (left ⊕ part)) < length (codes left)
    less-left =
        let others : left ⊕ part ≡ where_code (λ s. not (holds part s)) left =
        same_chain (left ⊕ part) (where_code (λ s. not (holds part s)) left) (λ s.
        holds-add left part s ∙ but_part (holds left s) (holds part s) (part_in_left s)
        ∙ sym (holds-where_code (λ s. not (holds part s)) left s)) in
        subst (λ c. length (codes c) < length (codes left)) (sym others)
        (fewer-where (λ s. not (holds part s)) left code held
        (ap not (in_part code
        ∙ ap₂ ◌&&◌ (but.within code held) ((Decides-int_eq (alexander_at g code) a).1 (sym each_code)))))
      where
        but_part : (l p : Bool) → (p ≡ true → l ≡ true) → (l ⊻ p) ≡ (l && not p)
        but_part true p inside = same 1 (λ p. true ⊻ p) (λ p. true && not p) refl p
        but_part false true inside = absurd (false≢true (inside refl))
        but_part false false inside = refl
