-- Cells that are closed one by one are those of a certificate, and what is known at a place stays known along a line.
use Rattle.std.proofs.Common.{◌≡◌, ℕ, suc, ◌||◌, ◌&&◌, int_lt, List, [], ◌∷◌, ◌++◌, length, codes, ℤ, All, AllPairs, IsTrue, Contains, inl, inr, refl, sym, ap, ap₂, subst, ◌∙◌, arith, append_assoc}
use Rattle.std.specs.List.{flat_map}
use Rattle.std.specs.Ordering.{int_eq}
use Rattle.std.proofs.lemmas.List.{append-nil}
use Rattle.std.proofs.lemmas.List.Concat.{flat_map-append}
use Rattle.std.proofs.lemmas.List.Elements.{All-nil, All-append, All-cons, Contains-append_left, Contains-append_right, Contains-append_cases}
use Rattle.f2_algebra.specs.Chain.{Chain}
use Rattle.f2_algebra.specs.Certificate.{CyclePair, StepPair}
use Rattle.f2_algebra.specs.Bigraded.{stands_before}
use Rattle.f2_algebra.proofs.Ranks.OrderLemmas.{stands_before-transitive}
use Rattle.state_rank.specs.Bijection.{IsBijection}
use Rattle.state_rank.proofs.MemberLemmas.{member_cases, member_head, no_member, pairs_append, pairs_head, pairs_tail, pairs_cons}
use Rattle.torus_geom.specs.Marks.{Marks, size}
use Rattle.homology_cert.specs.CertificateCodes.{Cell}
use Rattle.homology_cert.specs.Inner.CodeCertificates.{AreStates, HasCycleStates, HasStepStates, HasPairStates}
use Rattle.homology_cert.specs.Certificates.{AreSmallDegrees}
use Rattle.homology_cert.specs.CertificateText.{marks_line, degree_line, certificate_head_lines}
use Rattle.homology_cert.specs.Inner.CodeText.{cycle_lines, step_lines, cell_lines}
use Rattle.text_lines.specs.Inner.CodeLines.{set_line}
use Rattle.homology_cert.specs.Inner.Reading.{size_line, new_cell, with_cycle, with_step, IsSmallSize, IsSmallGrid, LeadsTo, lines_in, lines_at, AreClosed, IsAt}
use Rattle.homology_cert.specs.declared.places.Place.{Place}
use Rattle.homology_cert.specs.declared.places.Place.TheVariants.{Start, Size, OLine, XLine, NoCell, InCell, InCycle, InStep, End}

-- ---- the last cell
abbrev Before : Cell → Cell → Type 0
Before p q = IsTrue (stands_before p.at q.at)

-- each cell before the last stands before it
before_last : (ds : List Cell) (c : Cell) → AllPairs Before (ds ++ c ∷ []) → (e : Cell) → Contains ds e → Before e c
before_last [] c ordered e inside = absurd (no_member e inside)
before_last (d ∷ ds) c ordered e inside = elim (member_cases d ds e inside) [
  | inl same ↦ subst (λ f. Before f c) same (pairs_head Before d (ds ++ c ∷ []) ordered c
      (Contains-append_right ds (c ∷ []) c (member_head c [])))
  | inr later ↦ before_last ds c (pairs_tail Before d (ds ++ c ∷ []) ordered) e later
]

first_part : (ds : List Cell) (c : Cell) → AllPairs Before (ds ++ c ∷ []) → AllPairs Before ds
first_part [] c ordered = λ i j d l m. absurd (omega arith)
first_part (d ∷ ds) c ordered =
    pairs_cons Before d ds (λ y inside. pairs_head Before d (ds ++ c ∷ []) ordered y
    (Contains-append_left ds (c ∷ []) y inside)) (first_part ds c (pairs_tail Before d (ds ++ c ∷ []) ordered))

one_pair : (c : Cell) → AllPairs Before (c ∷ [])
one_pair c i j d l m = absurd (omega arith)

All-front : (P : Cell → Type 0) (ds : List Cell) (c : Cell) → All P (ds ++ c ∷ []) → All P ds
All-front P [] c h = All-nil P
All-front P (d ∷ ds) c h = All-cons P d ds (h 0 d (omega arith)) (All-front P ds c (λ k e l. h (suc k) e (omega arith)))

pub All-last : (P : Cell → Type 0) (ds : List Cell) (c : Cell) → All P (ds ++ c ∷ []) → P c
All-last P [] c h = h 0 c (omega arith)
All-last P (d ∷ ds) c h = All-last P ds c (λ k e l. h (suc k) e (omega arith))

All-one : (P : Cell → Type 0) (c : Cell) → P c → All P (c ∷ [])
All-one P c h = All-cons P c [] h (All-nil P)

module _ (g : Marks) where
  -- the last cell is changed, and its bidegree stays
  pub closed-changed : (ds : List Cell) (c e : Cell) → e.at ≡ c.at → HasPairStates g e → AreClosed g (ds ++ c ∷ [])
      → AreClosed g (ds ++ e ∷ [])
  closed-changed ds c e same states h = record {
    grid = h.grid;
    ordered = pairs_append Before ds (e ∷ []) (first_part ds c h.ordered) (one_pair e)
        (λ x y inside last. elim (member_cases e [] y last) [
          | inl is ↦ subst (Before x) is
              (subst (λ d. IsTrue (int_lt d.1 x.at.1 || (int_eq d.1 x.at.1 && int_lt d.0 x.at.0))) (sym same)
              (before_last ds c h.ordered x inside))
          | inr none ↦ absurd (no_member y none)
        ]);
    degrees = All-append (λ (d : Cell). AreSmallDegrees d.at) ds (e ∷ [])
        (All-front (λ (d : Cell). AreSmallDegrees d.at) ds c h.degrees)
        (All-one (λ (d : Cell). AreSmallDegrees d.at) e (subst AreSmallDegrees (sym same)
        (All-last (λ (d : Cell). AreSmallDegrees d.at) ds c h.degrees)));
    states = All-append (HasPairStates g) ds (e ∷ []) (All-front (HasPairStates g) ds c h.states)
        (All-one (HasPairStates g) e states);
  }

  no_pairs : (d : ℤ × ℤ) → HasPairStates g (new_cell d)
  no_pairs d = record { cycles = All-nil (HasCycleStates g); steps = All-nil (HasStepStates g) }

  -- a new cell after the last
  pub closed-more : (ds : List Cell) (c : Cell) (d : ℤ × ℤ) → AreSmallDegrees d → Before c (new_cell d)
      → AreClosed g (ds ++ c ∷ []) → AreClosed g ((ds ++ c ∷ []) ++ new_cell d ∷ [])
  closed-more ds c d small after h = record {
    grid = h.grid;
    ordered = pairs_append Before (ds ++ c ∷ []) (new_cell d ∷ []) h.ordered (one_pair (new_cell d))
        (λ x y inside last. elim (member_cases (new_cell d) [] y last) [
          | inl is ↦ subst (Before x) is (first x inside)
          | inr none ↦ absurd (no_member y none)
        ]);
    degrees = All-append (λ (e : Cell). AreSmallDegrees e.at) (ds ++ c ∷ []) (new_cell d ∷ []) h.degrees
        (All-one (λ (e : Cell). AreSmallDegrees e.at) (new_cell d) small);
    states = All-append (HasPairStates g) (ds ++ c ∷ []) (new_cell d ∷ []) h.states
        (All-one (HasPairStates g) (new_cell d) (no_pairs d));
  }
    where
      first : (x : Cell) → Contains (ds ++ c ∷ []) x → Before x (new_cell d)
      first x inside = elim (Contains-append_cases ds (c ∷ []) x inside) [
        | inl earlier ↦ stands_before-transitive x.at c.at d (before_last ds c h.ordered x earlier) after
        | inr last ↦ elim (member_cases c [] x last) [
          | inl is ↦ subst (λ e. Before e (new_cell d)) is after
          | inr none ↦
              absurd (no_member x none)
        ]
      ]

  pub closed-first : (d : ℤ × ℤ) → AreSmallDegrees d → IsSmallGrid g → AreClosed g (new_cell d ∷ [])
  closed-first d small grid = record {
    grid = grid;
    ordered = one_pair (new_cell d);
    degrees = All-one (λ (e : Cell). AreSmallDegrees e.at) (new_cell d) small;
    states = All-one (HasPairStates g) (new_cell d) (no_pairs d);
  }

  pub closed-none : IsSmallGrid g → AreClosed g []
  closed-none grid = record {
    grid = grid;
    ordered = λ i j d l m. absurd (omega arith);
    degrees = All-nil (λ (e : Cell). AreSmallDegrees e.at);
    states = All-nil (HasPairStates g);
  }

  pub states-with_cycle : (c : Cell) (z f : Chain) → HasPairStates g c → AreStates g z → AreStates g f
      → HasPairStates g (with_cycle c z f)
  states-with_cycle c z f states p q = record {
    cycles = All-append (HasCycleStates g) c.cycles (record { cycle = z; cocycle = f } ∷ []) states.cycles
        (All-cons (HasCycleStates g) (record { cycle = z; cocycle = f }) [] (record { cycle = p; cocycle = q })
        (All-nil (HasCycleStates g)));
    steps = states.steps;
  }

  pub states-with_step : (c : Cell) (z f : Chain) → HasPairStates g c → AreStates g z → AreStates g f
      → HasPairStates g (with_step c z f)
  states-with_step c z f states p q = record {
    cycles = states.cycles;
    steps = All-append (HasStepStates g) c.steps (record { step = z; probe = f } ∷ []) states.steps
        (All-cons (HasStepStates g) (record { step = z; probe = f }) [] (record { step = p; probe = q })
        (All-nil (HasStepStates g)));
  }

  -- ---- the lines of the last cell
  lines_in-last : (ds : List Cell) (c : Cell) → lines_in g (ds ++ c ∷ []) ≡ lines_in g ds ++ cell_lines (size g) c
  lines_in-last ds c =
      ap (λ ls. certificate_head_lines g ++ ls) (flat_map-append (cell_lines (size g)) ds (c ∷ [])
      ∙ ap (λ ls. flat_map (cell_lines (size g)) ds ++ ls) (append-nil (cell_lines (size g) c)))
      ∙ sym (append_assoc (certificate_head_lines g) (flat_map (cell_lines (size g)) ds) (cell_lines (size g) c))

  cell_lines-with_cycle : (c : Cell) (z f : Chain) → c.steps ≡ []
      → cell_lines (size g) (with_cycle c z f) ≡ (cell_lines (size g) c ++ set_line (codes "cycle")
      (size g) z ∷ []) ++ set_line (codes "cocycle") (size g) f ∷ []
  cell_lines-with_cycle c z f none =
      let n = size g in
      let p : CyclePair = record { cycle = z; cocycle = f } in
      let first = degree_line c.at ∷ flat_map (cycle_lines n) c.cycles in
      let a = set_line (codes "cycle") n z in
      let b = set_line (codes "cocycle") n f in
      ap (λ ss. (degree_line c.at ∷ flat_map (cycle_lines n) (c.cycles ++ p ∷ [])) ++ flat_map (step_lines n) ss) none
      ∙ append-nil (degree_line c.at ∷ flat_map (cycle_lines n) (c.cycles ++ p ∷ []))
      ∙ ap (λ ls. degree_line c.at ∷ ls) (flat_map-append (cycle_lines n) c.cycles (p ∷ []))
      ∙ sym (append_assoc first (a ∷ []) (b ∷ []))
      ∙ ap (λ ls. (ls ++ a ∷ []) ++ b ∷ []) (sym (ap (λ ss. first ++ flat_map (step_lines n) ss) none
      ∙ append-nil first))

  cell_lines-with_step : (c : Cell) (z f : Chain)
      → cell_lines (size g) (with_step c z f) ≡ (cell_lines (size g) c ++ set_line (codes "step")
      (size g) z ∷ []) ++ set_line (codes "probe") (size g) f ∷ []
  cell_lines-with_step c z f =
      let n = size g in
      let p : StepPair = record { step = z; probe = f } in
      let first = degree_line c.at ∷ flat_map (cycle_lines n) c.cycles in
      let steps = flat_map (step_lines n) c.steps in
      let a = set_line (codes "step") n z in
      let b = set_line (codes "probe") n f in
      ap (λ ls. first ++ ls) (flat_map-append (step_lines n) c.steps (p ∷ []))
      ∙ sym (append_assoc first steps (a ∷ b ∷ []))
      ∙ sym (append_assoc (first ++ steps) (a ∷ []) (b ∷ []))

  pub lines-with_cycle : (ds : List Cell) (c : Cell) (z f : Chain) → c.steps ≡ []
      → lines_in g (ds ++ with_cycle c z f ∷ []) ≡ (lines_in g (ds ++ c ∷ []) ++ set_line (codes "cycle")
      (size g) z ∷ []) ++ set_line (codes "cocycle") (size g) f ∷ []
  lines-with_cycle ds c z f none =
      lines_in-last ds (with_cycle c z f)
      ∙ ap (λ ls. lines_in g ds ++ ls) (cell_lines-with_cycle c z f none)
      ∙ sym (append_assoc (lines_in g ds) (cell_lines (size g) c ++ set_line (codes "cycle") (size g) z ∷ [])
      (set_line (codes "cocycle") (size g) f ∷ []))
      ∙ ap (λ ls. ls ++ set_line (codes "cocycle") (size g) f ∷ [])
      (sym (append_assoc (lines_in g ds) (cell_lines (size g) c) (set_line (codes "cycle") (size g) z ∷ []))
      ∙ ap (λ ls. ls ++ set_line (codes "cycle") (size g) z ∷ []) (sym (lines_in-last ds c)))

  pub lines-with_step : (ds : List Cell) (c : Cell) (z f : Chain)
      → lines_in g (ds ++ with_step c z f ∷ []) ≡ (lines_in g (ds ++ c ∷ []) ++ set_line (codes "step")
      (size g) z ∷ []) ++ set_line (codes "probe") (size g) f ∷ []
  lines-with_step ds c z f =
      lines_in-last ds (with_step c z f)
      ∙ ap (λ ls. lines_in g ds ++ ls) (cell_lines-with_step c z f)
      ∙ sym (append_assoc (lines_in g ds) (cell_lines (size g) c ++ set_line (codes "step") (size g) z ∷ [])
      (set_line (codes "probe") (size g) f ∷ []))
      ∙ ap (λ ls. ls ++ set_line (codes "probe") (size g) f ∷ [])
      (sym (append_assoc (lines_in g ds) (cell_lines (size g) c) (set_line (codes "step") (size g) z ∷ []))
      ∙ ap (λ ls. ls ++ set_line (codes "step") (size g) z ∷ []) (sym (lines_in-last ds c)))

-- ---- along a line
-- what is known at a place and its lines, after one more line
abbrev Follows : Place → List Cell → List (List ℕ) → Place → List Cell → Type 0
Follows p ds lines q es = IsAt q es × (lines_at q es ≡ lines)

follows-same : (p : Place) (ds : List Cell) (lines : List (List ℕ)) (q r : Place) (es fs : List Cell) → q ≡ r → es ≡ fs
    → Follows p ds lines r fs → Follows p ds lines q es
follows-same p ds lines q r es fs e f h = subst (λ o. Follows p ds lines o es) (sym e)
    (subst (Follows p ds lines r) (sym f) h)

lines_in-more : (g : Marks) (ds : List Cell) (d : ℤ × ℤ) → lines_in g (ds ++ new_cell d ∷ [])
    ≡ lines_in g ds ++ degree_line d ∷ []
lines_in-more g ds d = lines_in-last g ds (new_cell d)

pub is_at-next : (p : Place) (ds : List Cell) (line : List ℕ) (q : Place) (es : List Cell) → IsAt p ds
    → LeadsTo p ds line q es
    → IsAt q es × (lines_at q es ≡ lines_at p ds ++ line ∷ [])
is_at-next Start ds line q es at (l, e, f) = follows-same Start ds _ q Size es ds e f (at, ap (λ t. t ∷ []) (sym l))
is_at-next Size ds line q es at (n, small, l, e, f) = follows-same Size ds _ q (OLine n) es ds e f
    ((small, at), ap (λ t. codes "gridcert 1" ∷ t ∷ []) (sym l))
is_at-next (OLine n) ds line q es at (o, is, l, e, f) =
    follows-same (OLine n) ds _ q (XLine o) es ds e f (
      (subst IsSmallSize (sym is.long) at.0, subst (λ m. IsBijection m o) (sym is.long) is, at.1),
      ap₂ (λ m t. codes "gridcert 1" ∷ size_line m ∷ t ∷ []) is.long (sym l),
    )
is_at-next (XLine o) ds line q es at (x, is, l, e, f) =
    follows-same (XLine o) ds _ q (NoCell (record { o = o; x = x })) es ds e f (
      (record { grid = is; small = at.0.small }, at.2),
      ap (λ t. codes "gridcert 1" ∷ size_line (length o) ∷ marks_line (codes "O") o ∷ t ∷ []) (sym l),
    )
is_at-next (NoCell g) ds line q es at (inl (l, e, f)) =
    follows-same (NoCell g) ds _ q (End g) es [] e (f ∙ at.1) (
      closed-none g at.0,
      ap₂ (λ ls t. ls ++ t ∷ []) (append-nil (certificate_head_lines g)) (sym l),
    )
is_at-next (NoCell g) ds line q es at (inr (d, small, l, e, f)) =
    follows-same (NoCell g) ds _ q (InCell g (new_cell d)) es [] e (f ∙ at.1)
    (closed-first g d small at.0, ap (λ t. certificate_head_lines g ++ t ∷ []) (sym l))
is_at-next (InCell g c) ds line q es at (inl (l, e, f)) =
    follows-same (InCell g c) ds _ q (End g) es (ds ++ c ∷ []) e f (
      at,
      ap (λ t. lines_in g (ds ++ c ∷ []) ++ t ∷ []) (sym l),
    )
is_at-next (InCell g c) ds line q es at (inr (inl (d, small, after, l, e, f))) =
    follows-same (InCell g c) ds _ q (InCell g (new_cell d)) es (ds ++ c ∷ []) e f (
      closed-more g ds c d small after at,
      lines_in-more g (ds ++ c ∷ []) d ∙ ap (λ t. lines_in g (ds ++ c ∷ []) ++ t ∷ []) (sym l),
    )
is_at-next (InCell g c) ds line q es at (inr (inr (inl (z, states, none, l, e, f)))) =
    follows-same (InCell g c) ds _ q (InCycle g c z) es ds e f (
      (at, states, none),
      ap (λ t. lines_in g (ds ++ c ∷ []) ++ t ∷ []) (sym l),
    )
is_at-next (InCell g c) ds line q es at (inr (inr (inr (z, states, l, e, f)))) =
    follows-same (InCell g c) ds _ q (InStep g c z) es ds e f (
      (at, states),
      ap (λ t. lines_in g (ds ++ c ∷ []) ++ t ∷ []) (sym l),
    )
is_at-next (InCycle g c z) ds line q es at (f, states, l, e, k) =
    let pairs = All-last (HasPairStates g) ds c at.0.states in
    follows-same (InCycle g c z) ds _ q (InCell g (with_cycle c z f)) es ds e k (
      closed-changed g ds c (with_cycle c z f) refl (states-with_cycle g c z f pairs at.1 states) at.0,
      lines-with_cycle g ds c z f at.2
          ∙ ap (λ t. (lines_in g (ds ++ c ∷ []) ++ set_line (codes "cycle") (size g) z ∷ []) ++ t ∷ []) (sym l),
    )
is_at-next (InStep g c z) ds line q es at (f, states, l, e, k) =
    let pairs = All-last (HasPairStates g) ds c at.0.states in
    follows-same (InStep g c z) ds _ q (InCell g (with_step c z f)) es ds e k (
      closed-changed g ds c (with_step c z f) refl (states-with_step g c z f pairs at.1 states) at.0,
      lines-with_step g ds c z f
          ∙ ap (λ t. (lines_in g (ds ++ c ∷ []) ++ set_line (codes "step") (size g) z ∷ []) ++ t ∷ []) (sym l),
    )
is_at-next (End g) ds line q es at leads = absurd leads
