-- The lines at a place are the first of some certificate.
use Rattle.std.proofs.Common.{◌≡◌, ◌≢◌, ℕ, zero, suc, ◌+◌, ◌-◌, ◌<◌, ◌≤◌, ◌^◌, List, [], ◌∷◌, ◌++◌, length, codes, slice_index, inl, inr, refl, sym, ap, subst, ◌∙◌, arith, append_assoc, length-append}
use Rattle.std.specs.List.{flat_map}
use Rattle.std.proofs.lemmas.Bool.{cases_eq, true≢false}
use Rattle.std.proofs.lemmas.List.{append-nil}
use Rattle.std.proofs.lemmas.List.Sums.{sum_by-cons}
use Rattle.f2_algebra.specs.Chain.{nothing}
use Rattle.f2_algebra.proofs.Chains.Sets.{holds-nothing}
use Rattle.f2_algebra.proofs.Chains.Lists.{All-codes}
use Rattle.state_rank.specs.Bijection.{IsSize, IsBijection, tabulate, ascending}
use Rattle.state_rank.specs.States.{factorial}
use Rattle.state_rank.proofs.OrderLemmas.{length-tabulate}
use Rattle.state_rank.proofs.BijectionLemmas.{IsOneToOne}
use Rattle.torus_geom.specs.Marks.{Marks, size, IsGrid}
use Rattle.torus_geom.specs.Range.{one_up}
use Rattle.torus_geom.proofs.Circles.TurnLemmas.{one_up-below, one_up-last, one_up_below, one_up_one}
use Rattle.torus_geom.proofs.Sums.TabulateLemmas.{slice_index-tabulate}
use Rattle.homology_cert.specs.CertificateCodes.{Cell, Certificate}
use Rattle.homology_cert.specs.Inner.CodeCertificates.{IsCertificate, AreStates, HasPairStates, entry_count}
use Rattle.homology_cert.specs.CertificateText.{marks_line, degree_line, certificate_head_lines}
use Rattle.homology_cert.specs.Inner.CodeText.{cycle_lines, step_lines, cell_lines, certificate_lines}
use Rattle.text_lines.specs.Inner.CodeLines.{set_line}
use Rattle.homology_cert.specs.Inner.Reading.{size_line, with_cycle, with_step, IsSmallSize, IsSmallGrid, lines_in, lines_at, AreClosed, IsAt}
use Rattle.homology_cert.specs.declared.places.Place.{Place}
use Rattle.homology_cert.specs.declared.places.Place.TheVariants.{Start, Size, OLine, XLine, NoCell, InCell, InCycle, InStep, End}
use Rattle.homology_cert.proofs.Texts.ClosedLemmas.{All-last, closed-changed, closed-none, states-with_cycle, states-with_step, lines-with_cycle, lines-with_step}

-- ---- the lines at a place are the first of a certificate
abbrev pub Completes : Place → List Cell → Type 0
Completes p ds = (c : Certificate) × IsCertificate c × (more : List (List ℕ))
    × (certificate_lines c ≡ lines_at p ds ++ more)

-- each entry has a line
pair_lines : {A : Type 0} (f : A → List (List ℕ)) → ((x : A) → length (f x) ≡ 2) → (xs : List A)
    → length xs ≤ length (flat_map f xs)
pair_lines f two [] = omega arith
pair_lines f two (x ∷ xs) = omega (arith, length-append (f x) (flat_map f xs), two x, pair_lines f two xs)

count-lines : (n : ℕ) (ds : List Cell) → entry_count ds ≤ length (flat_map (cell_lines n) ds)
count-lines n [] = omega arith
count-lines n (c ∷ ds) =
    let cycles = flat_map (cycle_lines n) c.cycles in
    let steps = flat_map (step_lines n) c.steps in
    omega (
      arith,
      sum_by-cons (λ (d : Cell). 1 + length d.cycles + length d.steps) c ds,
      length-append (cell_lines n c) (flat_map (cell_lines n) ds),
      length-append (degree_line c.at ∷ cycles) steps,
      pair_lines (cycle_lines n) (λ p. refl) c.cycles,
      pair_lines (step_lines n) (λ p. refl) c.steps,
      count-lines n ds,
    )

certificate_of : (g : Marks) (ds : List Cell) → AreClosed g ds → entry_count ds < 2 ^ 32 - 1
    → IsCertificate (record { grid = g; cells = ds })
certificate_of g ds h few = record {
  grid = h.grid.grid;
  small = h.grid.small;
  ordered = h.ordered;
  degrees = h.degrees;
  states = h.states;
  few = few;
}

IsBijection-tabulate : (n : ℕ) (f : ℕ → ℕ) → IsOneToOne n f → IsBijection n (tabulate n f)
IsBijection-tabulate n f one = record {
  long = length-tabulate n f;
  small = λ c l. subst (λ r. r < n) (sym (slice_index-tabulate n f c l)) (one.small c l);
  apart = λ b c l m p e. one.apart b c l m p (sym (slice_index-tabulate n f b l) ∙ e ∙ slice_index-tabulate n f c m);
}

abbrev raised : List ℕ → List ℕ
raised o = tabulate (length o) (λ c. one_up (length o) (slice_index o c))

IsGrid-raised : (o : List ℕ) → IsSize (length o) → IsBijection (length o) o → IsGrid (record { o = o; x = raised o })
IsGrid-raised o size is = record {
  is_size = size;
  o = is;
  x = IsBijection-tabulate (length o) f (record {
    small = λ c l. one_up_below (length o) (slice_index o c) (is.small c l);
    apart = λ b c l m p e. (one_up_one (length o)).apart (slice_index o b) (slice_index o c) (is.small b l)
        (is.small c m) (is.apart b c l m p) e;
  });
  apart = λ c l e. moves (length o) (slice_index o c) size.least (is.small c l)
      (sym (slice_index-tabulate (length o) f c l) ∙ sym e);
}
  where
    f : ℕ → ℕ
    f c = one_up (length o) (slice_index o c)

    moves : (n r : ℕ) → 2 ≤ n → r < n → one_up n r ≢ r
    moves zero r two l e = absurd (omega arith)
    moves (suc m) r two l e = elim (cases_eq r m) [
      | inl last ↦ let first = ap (one_up (suc m)) (sym last) in let none = one_up-last m in absurd (omega arith)
      | inr before ↦ let more = one_up-below m r (omega arith) in absurd (omega arith)
    ]

lines_of_certificate : (g : Marks) (ds : List Cell) → certificate_lines (record { grid = g; cells = ds })
    ≡ lines_in g ds ++ codes "end" ∷ []
unfolding certificate_lines
lines_of_certificate g ds = refl

no_states : (g : Marks) → AreStates g nothing
no_states g = All-codes (λ code. code < factorial (size g)) nothing (λ s held.
    absurd (true≢false (sym held ∙ holds-nothing s)))

two_small : IsSmallSize 2
two_small = record { size = record { least = omega arith; greatest = omega arith }; small = omega arith }

two_is : IsBijection 2 (ascending 2)
two_is = IsBijection-tabulate 2 (λ c. c) (record { small = λ c l. l; apart = λ b c l m p e. p e })

-- a certificate with no cells, for O in these rows
from_marks : (o : List ℕ) → IsSmallSize (length o) → IsBijection (length o) o → (c : Certificate) × IsCertificate c
    × (certificate_lines c
    ≡ codes "gridcert 1" ∷ size_line (length o) ∷ marks_line (codes "O") o ∷ marks_line (codes "X")
    (raised o) ∷ codes "end" ∷ [])
from_marks o small is =
    let g : Marks = record { o = o; x = raised o } in
    let grid : IsSmallGrid g = record { grid = IsGrid-raised o small.size is; small = small.small } in
    (record { grid = g; cells = [] }, certificate_of g [] (closed-none g grid) (omega arith), lines_of_certificate g [])

pub completed : (p : Place) (ds : List Cell) → IsAt p ds → length (lines_at p ds) < 2 ^ 31 → Completes p ds
completed Start ds at few = let (c, is, lines) = from_marks (ascending 2) two_small two_is in (c, is, _, lines)
completed Size ds at few = let (c, is, lines) = from_marks (ascending 2) two_small two_is in (c, is, _, lines)
completed (OLine n) ds at few =
    let long = length-tabulate n (λ c. c) in
    let is = subst (λ m. IsBijection m (ascending n)) (sym long) (IsBijection-tabulate n (λ c. c)
    (record { small = λ c l. l; apart = λ b c l m p e. p e })) in
    let (c, is_one, lines) = from_marks (ascending n) (subst IsSmallSize (sym long) at.0) is in (
      c,
      is_one,
      _,
      lines ∙ ap (λ m.
          codes "gridcert 1" ∷ size_line m ∷ marks_line (codes "O") (ascending n) ∷ marks_line (codes "X")
          (raised (ascending n)) ∷ codes "end" ∷ []) long,
    )
completed (XLine o) ds at few = let (c, is, lines) = from_marks o at.0 at.1 in (c, is, _, lines)
completed (NoCell g) ds at few = (
  record { grid = g; cells = [] },
  certificate_of g [] (closed-none g at.0) (omega arith),
  codes "end" ∷ [],
  lines_of_certificate g [] ∙ ap (λ ls. ls ++ codes "end" ∷ []) (append-nil (certificate_head_lines g)),
)
completed (InCell g c) ds at few =
    let cells = ds ++ c ∷ [] in (
      record { grid = g; cells = cells },
      certificate_of g cells
          at (omega (
            arith,
            count-lines (size g) cells,
            length-append (certificate_head_lines g) (flat_map (cell_lines (size g)) cells),
          )),
      codes "end" ∷ [],
      lines_of_certificate g cells,
    )
completed (InCycle g c z) ds at few =
    let pairs = All-last (HasPairStates g) ds c at.0.states in
    let cells = ds ++ with_cycle c z nothing ∷ [] in
    let line = set_line (codes "cycle") (size g) z in
    let last = set_line (codes "cocycle") (size g) nothing in
    let closed = closed-changed g ds c (with_cycle c z nothing) refl (states-with_cycle g c z nothing pairs at.1
    (no_states g)) at.0 in
    let lines = lines-with_cycle g ds c z nothing at.2 in (
      record { grid = g; cells = cells },
      certificate_of g cells closed
          (omega (
            arith,
            count-lines (size g) cells,
            length-append (certificate_head_lines g) (flat_map (cell_lines (size g)) cells),
            ap length lines,
            length-append (lines_in g (ds ++ c ∷ []) ++ line ∷ []) (last ∷ []),
          )),
      last ∷ codes "end" ∷ [],
      lines_of_certificate g cells ∙ ap (λ ls. ls ++ codes "end" ∷ []) lines
          ∙ append_assoc (lines_in g (ds ++ c ∷ []) ++ line ∷ []) (last ∷ []) (codes "end" ∷ []),
    )
completed (InStep g c z) ds at few =
    let pairs = All-last (HasPairStates g) ds c at.0.states in
    let cells = ds ++ with_step c z nothing ∷ [] in
    let line = set_line (codes "step") (size g) z in
    let last = set_line (codes "probe") (size g) nothing in
    let closed = closed-changed g ds c (with_step c z nothing) refl (states-with_step g c z nothing pairs at.1
    (no_states g)) at.0 in
    let lines = lines-with_step g ds c z nothing in (
      record { grid = g; cells = cells },
      certificate_of g cells closed
          (omega (
            arith,
            count-lines (size g) cells,
            length-append (certificate_head_lines g) (flat_map (cell_lines (size g)) cells),
            ap length lines,
            length-append (lines_in g (ds ++ c ∷ []) ++ line ∷ []) (last ∷ []),
          )),
      last ∷ codes "end" ∷ [],
      lines_of_certificate g cells ∙ ap (λ ls. ls ++ codes "end" ∷ []) lines
          ∙ append_assoc (lines_in g (ds ++ c ∷ []) ++ line ∷ []) (last ∷ []) (codes "end" ∷ []),
    )
completed (End g) ds at few = (
  record { grid = g; cells = ds },
  certificate_of g ds at (omega (
    arith,
    count-lines (size g) ds,
    length-append (certificate_head_lines g) (flat_map (cell_lines (size g)) ds),
    length-append (lines_in g ds) (codes "end" ∷ []),
  )),
  [],
  lines_of_certificate g ds ∙ sym (append-nil (lines_in g ds ++ codes "end" ∷ [])),
)

-- past the last line they are all of its lines
pub completed-end : (g : Marks) (ds : List Cell) → AreClosed g ds → length (lines_at (End g) ds) < 2 ^ 31
    → IsCertificate (record { grid = g; cells = ds }) × (certificate_lines (record { grid = g; cells = ds })
    ≡ lines_at (End g) ds)
completed-end g ds at few = (
  certificate_of g ds at (omega (
    arith,
    count-lines (size g) ds,
    length-append (certificate_head_lines g) (flat_map (cell_lines (size g)) ds),
    length-append (lines_in g ds) (codes "end" ∷ []),
  )),
  lines_of_certificate g ds,
)
