-- The lines of a certificate, and the places of the reader.
--
-- Each certificate's lines lead from the start to its end (path_of_certificate), a line leads from a place to one
-- place alone (leads_to-one), and what the lines at a place are can be completed to those of a certificate (completed).
-- So the first lines of a text are those of some certificate exactly if they lead on.
use Rattle.std.proofs.Common.{◌≡◌, ℕ, suc, List, [], ◌∷◌, ◌++◌, codes, All, AllPairs, IsTrue, inl, inr, refl, sym, ap, subst, ◌∙◌, arith, append_assoc}
use Rattle.std.specs.List.{flat_map}
use Rattle.std.proofs.lemmas.List.{append-nil}
use Rattle.f2_algebra.specs.Certificate.{CyclePair, StepPair}
use Rattle.f2_algebra.specs.Bigraded.{stands_before}
use Rattle.state_rank.proofs.MemberLemmas.{pairs_tail}
use Rattle.torus_geom.specs.Marks.{Marks, size}
use Rattle.homology_cert.specs.CertificateCodes.{Cell, Certificate}
use Rattle.homology_cert.specs.Inner.CodeCertificates.{IsCertificate, HasCycleStates, HasStepStates, HasPairStates}
use Rattle.homology_cert.specs.Certificates.{AreSmallDegrees}
use Rattle.homology_cert.specs.Inner.CodeText.{cycle_lines, step_lines, cell_lines, certificate_lines}
use Rattle.homology_cert.specs.CertificateText.{certificate_head_lines}
use Rattle.homology_cert.specs.Inner.Reading.{new_cell, with_cycle, with_step, LinesLead}
use Rattle.homology_cert.specs.declared.places.Place.{Place}
use Rattle.homology_cert.specs.declared.places.Place.TheVariants.{Start, Size, OLine, XLine, NoCell, InCell, InCycle, InStep, End}

-- ---- paths
-- two paths, one after the other
pub path-append : (p q r : Place) (ds es fs : List Cell) (ls ms : List (List ℕ)) → LinesLead p ds ls q es
    → LinesLead q es ms r fs
    → LinesLead p ds (ls ++ ms) r fs
path-append p q r ds es fs [] ms (e, f) second = subst (λ (o : Place). LinesLead o ds ms r fs) (sym e)
    (subst (λ (cs : List Cell). LinesLead q cs ms r fs) (sym f) second)
path-append p q r ds es fs (l ∷ ls) ms (o, cs, leads, rest) second =
    (o, cs, leads, path-append o q r cs es fs ls ms rest second)

-- a path in two parts
pub path-parts : (p r : Place) (ds fs : List Cell) (ls ms : List (List ℕ))
    → LinesLead p ds (ls ++ ms) r fs → (q : Place)
    × (es : List Cell) × LinesLead p ds ls q es × LinesLead q es ms r fs
path-parts p r ds fs [] ms path = (p, ds, (refl, refl), path)
path-parts p r ds fs (l ∷ ls) ms (o, cs, leads, rest) =
    let (q, es, first, second) = path-parts o r cs fs ls ms rest in
    (q, es, (o, cs, leads, first), second)

-- ---- pairs that come to a cell
abbrev with_cycles : Cell → List CyclePair → Cell
with_cycles c [] = c
with_cycles c (p ∷ ps) = with_cycles (with_cycle c p.cycle p.cocycle) ps

abbrev with_steps : Cell → List StepPair → Cell
with_steps c [] = c
with_steps c (p ∷ ps) = with_steps (with_step c p.step p.probe) ps

with_cycles-is : (c : Cell) (ps : List CyclePair) → with_cycles c ps ≡ record {
  at = c.at;
  cycles = c.cycles ++ ps;
  steps = c.steps;
}
with_cycles-is c [] = λ i. record { at = c.at; cycles = sym (append-nil c.cycles) i; steps = c.steps }
with_cycles-is c (p ∷ ps) =
    with_cycles-is (with_cycle c p.cycle p.cocycle) ps
    ∙ (λ i. record { at = c.at; cycles = append_assoc c.cycles (p ∷ []) ps i; steps = c.steps })

with_steps-is : (c : Cell) (ps : List StepPair) → with_steps c ps ≡ record {
  at = c.at;
  cycles = c.cycles;
  steps = c.steps ++ ps;
}
with_steps-is c [] = λ i. record { at = c.at; cycles = c.cycles; steps = sym (append-nil c.steps) i }
with_steps-is c (p ∷ ps) =
    with_steps-is (with_step c p.step p.probe) ps
    ∙ (λ i. record { at = c.at; cycles = c.cycles; steps = append_assoc c.steps (p ∷ []) ps i })

-- ---- the lines of a certificate are a path
module _ (g : Marks) (ds : List Cell) where
  path_of_cycles : (c : Cell) (ps : List CyclePair) → c.steps ≡ [] → All (HasCycleStates g) ps
      → LinesLead (InCell g c) ds (flat_map (cycle_lines (size g)) ps) (InCell g (with_cycles c ps)) ds
  path_of_cycles c [] none states = (refl, refl)
  path_of_cycles c (p ∷ ps) none states =
      let here = states 0 p (omega arith) in
      let later : All (HasCycleStates g) ps = λ k d l. states (suc k) d (omega arith) in (
        InCycle g c p.cycle,
        ds,
        inr (inr (inl (p.cycle, here.cycle, none, refl, refl, refl))),
        (
          InCell g (with_cycle c p.cycle p.cocycle),
          ds,
          (p.cocycle, here.cocycle, refl, refl, refl),
          path_of_cycles (with_cycle c p.cycle p.cocycle) ps none later,
        ),
      )

  path_of_steps : (c : Cell) (ps : List StepPair) → All (HasStepStates g) ps
      → LinesLead (InCell g c) ds (flat_map (step_lines (size g)) ps) (InCell g (with_steps c ps)) ds
  path_of_steps c [] states = (refl, refl)
  path_of_steps c (p ∷ ps) states =
      let here = states 0 p (omega arith) in
      let later : All (HasStepStates g) ps = λ k d l. states (suc k) d (omega arith) in (
        InStep g c p.step,
        ds,
        inr (inr (inr (p.step, here.step, refl, refl, refl))),
        (
          InCell g (with_step c p.step p.probe),
          ds,
          (p.probe, here.probe, refl, refl, refl),
          path_of_steps (with_step c p.step p.probe) ps later,
        ),
      )

  -- the lines of the pairs of a cell
  path_of_pairs : (c : Cell) → HasPairStates g c
      → LinesLead (InCell g (new_cell c.at)) ds
      (flat_map (cycle_lines (size g)) c.cycles ++ flat_map (step_lines (size g))
      c.steps) (InCell g c) ds
  path_of_pairs c states =
      let first = with_cycles (new_cell c.at) c.cycles in
      let cycles_is = with_cycles-is (new_cell c.at) c.cycles in
      let steps_is = with_steps-is (record { at = c.at; cycles = c.cycles; steps = [] }) c.steps in
      let path = path-append (InCell g (new_cell c.at)) (InCell g first) (InCell g (with_steps first c.steps)) ds ds ds
      (flat_map (cycle_lines (size g)) c.cycles) (flat_map (step_lines (size g)) c.steps)
      (path_of_cycles (new_cell c.at) c.cycles refl states.cycles) (path_of_steps first c.steps states.steps) in
      subst (λ (e : Cell). LinesLead (InCell g (new_cell c.at)) ds (flat_map (cycle_lines (size g)) c.cycles ++ flat_map
      (step_lines (size g)) c.steps) (InCell g e) ds)
      (ap (λ (e : Cell). with_steps e c.steps) cycles_is ∙ steps_is) path

-- the lines of the cells that come after an open one, and the last line
module _ (g : Marks) where
  path_of_cells : (ds : List Cell) (c : Cell) (es : List Cell)
      → AllPairs (λ (p q : Cell). IsTrue (stands_before p.at q.at)) (c ∷ es)
      → All (λ (e : Cell). AreSmallDegrees e.at) es → All (HasPairStates g) es
      → LinesLead (InCell g c) ds (flat_map (cell_lines (size g)) es ++ codes "end" ∷ []) (End g) (ds ++ c ∷ es)
  path_of_cells ds c [] ordered degrees states = (End g, ds ++ c ∷ [], inl (refl, refl, refl), (refl, refl))
  path_of_cells ds c (e ∷ es) ordered degrees states =
      let small = degrees 0 e (omega arith) in
      let pairs = states 0 e (omega arith) in
      let before = ordered 0 1 e (omega arith) (omega arith) in
      let closed = ds ++ c ∷ [] in
      let rest = path_of_cells closed e es
      (pairs_tail (λ (p q : Cell). IsTrue (stands_before p.at q.at)) c (e ∷ es) ordered)
      (λ k d l. degrees (suc k) d (omega arith)) (λ k d l. states (suc k) d (omega arith)) in
      let path = path-append (InCell g (new_cell e.at)) (InCell g e) (End g) closed closed (closed ++ e ∷ es)
      (flat_map (cycle_lines (size g)) e.cycles ++ flat_map (step_lines (size g)) e.steps)
      (flat_map (cell_lines (size g)) es ++ codes "end" ∷ [])
      (path_of_pairs g closed e pairs) rest in
      let lines = append_assoc (flat_map (cycle_lines (size g)) e.cycles ++ flat_map (step_lines (size g)) e.steps)
      (flat_map (cell_lines (size g)) es) (codes "end" ∷ []) in
      let all_lines : List (List ℕ) =
      ((flat_map (cycle_lines (size g)) e.cycles ++ flat_map (step_lines (size g)) e.steps) ++ flat_map
      (cell_lines (size g)) es) ++ codes "end" ∷ [] in
      let cells : closed ++ e ∷ es ≡ ds ++ c ∷ e ∷ es = append_assoc ds (c ∷ []) (e ∷ es) in (
        InCell g (new_cell e.at),
        closed,
        inr (inl (e.at, small, before, refl, refl, refl)),
        subst (λ (fs : List Cell). LinesLead (InCell g (new_cell e.at)) closed all_lines (End g) fs) cells
            (subst (λ (ls : List (List ℕ)). LinesLead (InCell g (new_cell e.at)) closed ls (End g) (closed ++ e ∷ es))
            (sym lines) path),
      )

  path_of_body : (es : List Cell) → AllPairs (λ (p q : Cell). IsTrue (stands_before p.at q.at)) es
      → All (λ (e : Cell). AreSmallDegrees e.at) es → All (HasPairStates g) es
      → LinesLead (NoCell g) [] (flat_map (cell_lines (size g)) es ++ codes "end" ∷ []) (End g) es
  path_of_body [] ordered degrees states = (End g, [], inl (refl, refl, refl), (refl, refl))
  path_of_body (e ∷ es) ordered degrees states =
      let small = degrees 0 e (omega arith) in
      let pairs = states 0 e (omega arith) in
      let rest = path_of_cells [] e es ordered (λ k d l. degrees (suc k) d (omega arith))
      (λ k d l. states (suc k) d (omega arith)) in
      let path = path-append (InCell g (new_cell e.at)) (InCell g e) (End g) [] [] (e ∷ es)
      (flat_map (cycle_lines (size g)) e.cycles ++ flat_map (step_lines (size g)) e.steps)
      (flat_map (cell_lines (size g)) es ++ codes "end" ∷ [])
      (path_of_pairs g [] e pairs) rest in
      let lines = append_assoc (flat_map (cycle_lines (size g)) e.cycles ++ flat_map (step_lines (size g)) e.steps)
      (flat_map (cell_lines (size g)) es) (codes "end" ∷ []) in (
        InCell g (new_cell e.at),
        [],
        inr (e.at, small, refl, refl, refl),
        subst (λ (ls : List (List ℕ)). LinesLead (InCell g (new_cell e.at)) [] ls (End g) (e ∷ es)) (sym lines) path,
      )

-- the lines of a certificate lead from the start to its end
pub path_of_certificate : (c : Certificate) → IsCertificate c
    → LinesLead Start [] (certificate_lines c) (End c.grid) c.cells
unfolding certificate_lines
path_of_certificate c is =
    let g = c.grid in
    let body = path_of_body g c.cells is.ordered is.degrees is.states in
    let lines = append_assoc (certificate_head_lines g) (flat_map (cell_lines (size g)) c.cells) (codes "end" ∷ []) in
    let head : LinesLead Start [] (certificate_head_lines g) (NoCell g) [] = (
      Size,
      [],
      (refl, refl, refl),
      (
        OLine (size g),
        [],
        (size g, record { size = is.grid.is_size; small = is.small }, refl, refl, refl),
        (
          XLine g.o,
          [],
          (g.o, is.grid.o, refl, refl, refl),
          (
            NoCell g,
            [],
            (g.x, is.grid, refl, refl, refl),
            (refl, refl),
          ),
        ),
      ),
    ) in
    subst (λ (ls : List (List ℕ)). LinesLead Start [] ls (End g) c.cells) (sym lines)
    (path-append Start (NoCell g) (End g) [] [] c.cells (certificate_head_lines g) (flat_map
    (cell_lines (size g)) c.cells ++ codes "end" ∷ []) head body)
