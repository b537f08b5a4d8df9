-- The text of a certificate is that of its states, and each certificate over states is one of sets of indices; so a
-- text has the same first bad line.
use Rattle.f2_algebra.specs.Bigraded.{stands_before}
use Rattle.homology_cert.specs.Inner.CodeTests as over_codes_tests
use Rattle.homology_cert.proofs.Certified.CertifiedLemmas as code_laws
use Rattle.homology_cert.proofs.Made.MakingLaws as made_laws
use Rattle.homology_cert.proofs.Texts.ReadLemmas as read_laws
use Rattle.homology_cert.proofs.Texts.DecisionLemmas as decided
use Rattle.homology_cert.specs.declared.verdicts.CertVerdict.TheVariants.{Yes}
use Rattle.homology_cert.specs.CertificateLimits.{max_certified_size, max_certificate}
use Rattle.homology_cert.specs.CertificateTests.{verdict_of, certified_rows}
use Rattle.rectangles.proofs.Homology.HomologyLemmas.{homology_table-states}
use Rattle.torus_geom.specs.Homology.{IsHomologyTable}
use Rattle.text_lines.proofs.ChainLines.{set_line-states}
use Rattle.std.proofs.Common.{◌≡◌, ◌↔◌, ℕ, ◌-◌, ◌^◌, ◌<◌, ◌≤◌, IsTrue, List, [], ◌∷◌, ◌++◌, map, take, length, codes, refl, sym, ap, ap₂, subst, ◌∙◌, ◌⊎◌, inl, inr, Result, Ok, Err, IfOk}
use Rattle.std.specs.List.{All, Contains, flat_map}
use Rattle.std.proofs.lemmas.List.Elements.{All-contains, All-map}
use Rattle.f2_algebra.specs.Chain.{Chain as Codes}
use Rattle.f2_algebra.specs.Certificate as code_pairs
use Rattle.state_rank.proofs.MemberLemmas.{member_head, member_tail, pairs_map}
use Rattle.torus_geom.specs.Marks.{size, Marks, IsGrid}
use Rattle.homology_cert.specs.CertificateCodes as kept
use Rattle.homology_cert.specs.Inner.CodeCertificates as code_certificates
use Rattle.homology_cert.specs.Inner.CodeText as over_codes
use Rattle.homology_cert.specs.CertificateText.{degree_line, certificate_head_lines, text_of_lines}
use Rattle.torus_geom.specs.Chains.{Chain, IsChain}
use Rattle.torus_geom.specs.Codes.{states_of}
use Rattle.torus_geom.specs.Inner.CodeBorder.{codes_of}
use Rattle.homology_cert.specs.Certificates.{CyclePair, StepPair, Cell, Certificate, HasPairStates, IsCertificate, entry_count, AreSmallDegrees}
use Rattle.homology_cert.specs.CertificateCodes.{cycle_pair_of, step_pair_of, cell_of, certificate_of}
use Rattle.text_lines.specs.Lines.{chain_line}
use Rattle.text_lines.specs.Inner.CodeLines.{set_line}
use Rattle.homology_cert.specs.CertificateText.{cycle_lines, step_lines, cell_lines, certificate_lines, certificate_text, HasFirstLines, IsFirstBadLine}
use Rattle.torus_geom.proofs.Chains.CodesLemmas.{AreIndices, AreIndices-codes_of, IsChain-states_of, states_of-codes_of}
use Rattle.torus_geom.proofs.Chains.OrderedMembers.{flat_map-map}
use Rattle.torus_geom.proofs.Chains.CodesLemmas.{All_from_indices}
use Rattle.homology_cert.proofs.States.CertificateLemmas.{HasCycleRanks, HasStepRanks, HasCellRanks, ranks_of_certificate, entry_count-states, verdict_of-states, certified_rows-states}

-- ---- lists
flat_map-members : {A B : Type 0} (f h : A → List B) (xs : List A) → ((x : A) → Contains xs x → f x ≡ h x)
    → flat_map f xs ≡ flat_map h xs
flat_map-members f h [] e = refl
flat_map-members f h (x ∷ xs) e =
    ap₂ ◌++◌ (e x (member_head x xs)) (flat_map-members f h xs (λ y m. e y (member_tail x xs y m)))

map-members : {A : Type 0} (f : A → A) (xs : List A) → ((x : A) → Contains xs x → f x ≡ x) → map f xs ≡ xs
map-members f [] e = refl
map-members f (x ∷ xs) e = ap₂ ◌∷◌ (e x (member_head x xs)) (map-members f xs (λ y m. e y (member_tail x xs y m)))

map-after : {A B C : Type 0} (f : B → C) (h : A → B) (xs : List A) → map f (map h xs) ≡ map (λ x. f (h x)) xs
map-after f h [] = refl
map-after f h (x ∷ xs) = ap (λ ys. f (h x) ∷ ys) (map-after f h xs)

-- ---- lines
line-states : (word : List ℕ) (n : ℕ) (z : Codes) → AreIndices n z
    → set_line word n z ≡ chain_line word n (states_of n z)
line-states word n z below = set_line-states word n z (All_from_indices n z below)

cycle_lines-states : (n : ℕ) (p : code_pairs.CyclePair) → HasCycleRanks n p
    → over_codes.cycle_lines n p ≡ cycle_lines n (cycle_pair_of n p)
cycle_lines-states n p ranks =
    ap₂ (λ u v. u ∷ v ∷ []) (line-states (codes "cycle") n p.cycle ranks.0)
    (line-states (codes "cocycle") n p.cocycle ranks.1)

step_lines-states : (n : ℕ) (p : code_pairs.StepPair) → HasStepRanks n p
    → over_codes.step_lines n p ≡ step_lines n (step_pair_of n p)
step_lines-states n p ranks =
    ap₂ (λ u v. u ∷ v ∷ []) (line-states (codes "step") n p.step ranks.0)
    (line-states (codes "probe") n p.probe ranks.1)

cell_lines-states : (n : ℕ) (c : kept.Cell) → HasCellRanks n c
    → over_codes.cell_lines n c ≡ cell_lines n (cell_of n c)
cell_lines-states n c ranks =
    ap₂ (λ u v. degree_line c.at ∷ u ++ v)
    (flat_map-members (over_codes.cycle_lines n) (λ p. cycle_lines n (cycle_pair_of n p)) c.cycles
    (λ p m. cycle_lines-states n p (ranks.cycles p m))
    ∙ sym (flat_map-map (cycle_lines n) (cycle_pair_of n) c.cycles))
    (flat_map-members (over_codes.step_lines n) (λ p. step_lines n (step_pair_of n p)) c.steps
    (λ p m. step_lines-states n p (ranks.steps p m))
    ∙ sym (flat_map-map (step_lines n) (step_pair_of n) c.steps))

pub certificate_lines-states : (c : kept.Certificate) → code_certificates.IsCertificate c
    → over_codes.certificate_lines c ≡ certificate_lines (certificate_of c)
unfolding over_codes.certificate_lines certificate_lines
certificate_lines-states c is =
    let n = size c.grid in
    ap (λ lines. certificate_head_lines c.grid ++ lines ++ codes "end" ∷ [])
    (flat_map-members (over_codes.cell_lines n) (λ cell. cell_lines n (cell_of n cell)) c.cells
    (λ cell m. cell_lines-states n cell (ranks_of_certificate c is cell m))
    ∙ sym (flat_map-map (cell_lines n) (cell_of n) c.cells))

-- The text of a certificate is that of its states.
pub certificate_text-states : (c : kept.Certificate) → code_certificates.IsCertificate c
    → over_codes.certificate_text c ≡ certificate_text (certificate_of c)
certificate_text-states c is = ap text_of_lines (certificate_lines-states c is)

-- ---- certificates over states
-- the sets of the indices of the states of a certificate
cycle_codes : ℕ → CyclePair → code_pairs.CyclePair
cycle_codes n p = record { cycle = codes_of n p.cycle; cocycle = codes_of n p.cocycle }

step_codes : ℕ → StepPair → code_pairs.StepPair
step_codes n p = record { step = codes_of n p.step; probe = codes_of n p.probe }

cell_codes : ℕ → Cell → kept.Cell
cell_codes n c = record { at = c.at; cycles = map (cycle_codes n) c.cycles; steps = map (step_codes n) c.steps }

pub certificate_codes : Certificate → kept.Certificate
certificate_codes c = record { grid = c.grid; cells = map (cell_codes (size c.grid)) c.cells }

cell_back : (n : ℕ) (c : Cell) → HasPairStates n c → cell_of n (cell_codes n c) ≡ c
unfolding cell_codes cycle_codes step_codes
cell_back n c has =
    let cycles = map-after (cycle_pair_of n) (cycle_codes n) c.cycles
    ∙ map-members (λ p. cycle_pair_of n (cycle_codes n p)) c.cycles (λ p m.
    let s = All-contains (λ p. IsChain n p.cycle × IsChain n p.cocycle) c.cycles p has.cycles m in
    λ i. record { cycle = states_of-codes_of n p.cycle s.0 i; cocycle = states_of-codes_of n p.cocycle s.1 i }) in
    let steps = map-after (step_pair_of n) (step_codes n) c.steps
    ∙ map-members (λ p. step_pair_of n (step_codes n p)) c.steps (λ p m.
    let s = All-contains (λ p. IsChain n p.step × IsChain n p.probe) c.steps p has.steps m in
    λ i. record { step = states_of-codes_of n p.step s.0 i; probe = states_of-codes_of n p.probe s.1 i }) in
    λ i. record { at = c.at; cycles = cycles i; steps = steps i }

-- a certificate over states is that of the sets of its indices
pub certificate_back : (c : Certificate) → IsCertificate c → certificate_of (certificate_codes c) ≡ c
unfolding certificate_codes
certificate_back c is =
    let n = size c.grid in
    ap (λ cells. record { grid = c.grid; cells = cells })
    (map-after (cell_of n) (cell_codes n) c.cells
    ∙ map-members (λ cell. cell_of n (cell_codes n cell)) c.cells
    (λ cell m. cell_back n cell (All-contains (HasPairStates n) c.cells cell is.states m)))

-- what holds of everything holds of all elements
All-every : {A : Type 0} (P : A → Type 0) (xs : List A) → ((x : A) → P x) → All P xs
All-every P xs h k d l = h _

-- A certificate of sets of indices is one over states.
pub IsCertificate-states : (c : kept.Certificate) → code_certificates.IsCertificate c
    → IsCertificate (certificate_of c)
IsCertificate-states c is =
    let n = size c.grid in
    record {
      grid = is.grid;
      small = is.small;
      ordered =
          pairs_map (λ (p q : kept.Cell). IsTrue (stands_before p.at q.at))
          (λ (p q : Cell). IsTrue (stands_before p.at q.at)) (cell_of n) c.cells (λ p q h. h) is.ordered;
      degrees =
          All-map (λ (cell : Cell). AreSmallDegrees cell.at) (cell_of n) c.cells is.degrees;
      states =
          All-map (HasPairStates n) (cell_of n) c.cells
          (All-every (λ cell. HasPairStates n (cell_of n cell)) c.cells (λ cell. record {
            cycles =
                All-map (λ p. IsChain n p.cycle × IsChain n p.cocycle) (cycle_pair_of n) cell.cycles
                (All-every (λ p. IsChain n (states_of n p.cycle) × IsChain n (states_of n p.cocycle)) cell.cycles
                (λ p. (IsChain-states_of n p.cycle, IsChain-states_of n p.cocycle)));
            steps =
                All-map (λ p. IsChain n p.step × IsChain n p.probe) (step_pair_of n) cell.steps
                (All-every (λ p. IsChain n (states_of n p.step) × IsChain n (states_of n p.probe)) cell.steps
                (λ p. (IsChain-states_of n p.step, IsChain-states_of n p.probe)));
          }));
      few = subst (λ k. k < 2 ^ 32 - 1) (entry_count-states n c.cells) is.few;
    }

-- And the sets of the indices of a certificate over states are one.
pub IsCertificate-codes : (c : Certificate) → IsCertificate c → code_certificates.IsCertificate (certificate_codes c)
unfolding certificate_codes cell_codes cycle_codes step_codes
IsCertificate-codes c is =
    let n = size c.grid in
    let ranks : (z : Chain) → code_certificates.AreStates c.grid (codes_of n z) =
    λ z. All_from_indices n (codes_of n z) (AreIndices-codes_of n z) in
    record {
      grid = is.grid;
      small = is.small;
      ordered =
          pairs_map (λ (p q : Cell). IsTrue (stands_before p.at q.at))
          (λ (p q : kept.Cell). IsTrue (stands_before p.at q.at)) (cell_codes n) c.cells (λ p q h. h) is.ordered;
      degrees =
          All-map (λ (cell : kept.Cell). AreSmallDegrees cell.at) (cell_codes n) c.cells is.degrees;
      states =
          All-map (code_certificates.HasPairStates c.grid) (cell_codes n) c.cells
          (All-every (λ cell. code_certificates.HasPairStates c.grid (cell_codes n cell)) c.cells (λ cell. record {
            cycles =
                All-map (code_certificates.HasCycleStates c.grid) (cycle_codes n) cell.cycles
                (All-every (λ p. code_certificates.HasCycleStates c.grid (cycle_codes n p)) cell.cycles
                (λ p. record { cycle = ranks p.cycle; cocycle = ranks p.cocycle }));
            steps =
                All-map (code_certificates.HasStepStates c.grid) (step_codes n) cell.steps
                (All-every (λ p. code_certificates.HasStepStates c.grid (step_codes n p)) cell.steps
                (λ p. record { step = ranks p.step; probe = ranks p.probe }));
          }));
      few =
          subst (λ k. k < 2 ^ 32 - 1)
          (sym (entry_count-states n (map (cell_codes n) c.cells)
          ∙ ap (λ (d : Certificate). entry_count d.cells) (certificate_back c is))) is.few;
    }

-- ---- first lines
lines_back : (c : Certificate) → IsCertificate c
    → certificate_lines c ≡ over_codes.certificate_lines (certificate_codes c)
lines_back c is =
    ap certificate_lines (sym (certificate_back c is))
    ∙ sym (certificate_lines-states (certificate_codes c) (IsCertificate-codes c is))

pub HasFirstLines-states : (text : List ℕ) (k : ℕ) → over_codes.HasFirstLines text k ↔ HasFirstLines text k
HasFirstLines-states text k = (
  λ f. let same = certificate_lines-states f.certificate f.is_one in record {
    certificate = certificate_of f.certificate;
    is_one = IsCertificate-states f.certificate f.is_one;
    long = subst (λ lines. k ≤ length lines) same f.long;
    rest = f.rest;
    begins = f.begins ∙ ap (λ lines. text_of_lines (take k lines) ++ f.rest) same;
  },
  λ f.
      let same = lines_back f.certificate f.is_one in
      record {
        certificate = certificate_codes f.certificate;
        is_one = IsCertificate-codes f.certificate f.is_one;
        long = subst (λ lines. k ≤ length lines) same f.long;
        rest = f.rest;
        begins = f.begins ∙ ap (λ lines. text_of_lines (take k lines) ++ f.rest) same;
      },
)

-- A text has the same first bad line.
pub IsFirstBadLine-states : (text : List ℕ) (number : ℕ)
    → over_codes.IsFirstBadLine text number ↔ IsFirstBadLine text number
IsFirstBadLine-states text number = (
  λ f. let (k, next, first) = f.before in record {
    none = λ c is e. f.none (certificate_codes c) (IsCertificate-codes c is) (e ∙ ap text_of_lines (lines_back c is));
    before = (k, next, (HasFirstLines-states text k).0 first);
    bad = λ h. f.bad ((HasFirstLines-states text number).1 h);
  },
  λ f. let (k, next, first) = f.before in record {
    none = λ c is e. f.none (certificate_of c) (IsCertificate-states c is) (e ∙ certificate_text-states c is);
    before = (k, next, (HasFirstLines-states text k).1 first);
    bad = λ h. f.bad ((HasFirstLines-states text number).0 h);
  },
)

-- ---- laws
-- A certificate over states that passes implies the table of its grid.
pub table_of_certificate : (c : Certificate) → IsCertificate c → verdict_of c ≡ Yes
    → IsHomologyTable c.grid (certified_rows c.cells)
unfolding certificate_codes
table_of_certificate c is passes =
    let d = certificate_codes c in
    let of_d = IsCertificate-codes c is in
    let back = certificate_back c is in
    let passed : over_codes_tests.verdict_of d ≡ Yes = verdict_of-states d of_d ∙ ap verdict_of back ∙ passes in
    subst (IsHomologyTable c.grid)
    (certified_rows-states (size c.grid) d.cells ∙ ap (λ (e : Certificate). certified_rows e.cells) back)
    ((homology_table-states c.grid _).0 (code_laws.table_of_certificate d of_d passed))

-- Each small grid has a certificate that passes.
pub exists_certificate : (g : Marks) → IsGrid g → size g ≤ max_certified_size → (c : Certificate) × IsCertificate c
    × (c.grid ≡ g) × (verdict_of c ≡ Yes) × (length (certificate_text c) < max_certificate)
exists_certificate g s small =
    let (c, is, same, passes, short) = made_laws.exists_certificate g s small in (
      certificate_of c,
      IsCertificate-states c is,
      same,
      sym (verdict_of-states c is) ∙ passes,
      subst (λ text. length text < max_certificate) (certificate_text-states c is) short,
    )

-- the text of the sets of the indices of a certificate
pub text_codes : (c : Certificate) → IsCertificate c
    → over_codes.certificate_text (certificate_codes c) ≡ certificate_text c
text_codes c is =
    certificate_text-states (certificate_codes c) (IsCertificate-codes c is)
    ∙ ap certificate_text (certificate_back c is)

-- A text is that of one certificate alone.
pub one_certificate : (c d : Certificate) → IsCertificate c → IsCertificate d → certificate_text c ≡ certificate_text d
    → c ≡ d
one_certificate c d of_c of_d e =
    sym (certificate_back c of_c)
    ∙ ap certificate_of (read_laws.one_certificate (certificate_codes c) (certificate_codes d)
    (IsCertificate-codes c of_c)
    (IsCertificate-codes d of_d)
    (text_codes c of_c ∙ e ∙ sym (text_codes d of_d)))
    ∙ certificate_back d of_d

-- Each text is that of a certificate, or has a first bad line.
pub some_answer : (t : List ℕ) → length t ≤ max_certificate
    → ((c : Certificate) × IsCertificate c × (t ≡ certificate_text c)) ⊎ ((line : ℕ) × IsFirstBadLine t line)
some_answer t short = elim (decided.some_answer t short) [
  | inl (c, is, e) ↦ inl (certificate_of c, IsCertificate-states c is, e ∙ certificate_text-states c is)
  | inr (line, first) ↦ inr (line, (IsFirstBadLine-states t line).0 first)
]

-- And only one.
pub one_bad_line : (t : List ℕ) (k l : ℕ) → IsFirstBadLine t k → IsFirstBadLine t l → k ≡ l
one_bad_line t k l of_k of_l =
    read_laws.one_bad_line t k l ((IsFirstBadLine-states t k).1 of_k) ((IsFirstBadLine-states t l).1 of_l)

-- ---- what the calls answer
-- what holds of a certificate over codes holds of that over states, if there is one
both : {E : Type 0} (r : Result kept.Certificate E) (P Q R : kept.Certificate → Type 0)
    → ((c : kept.Certificate) → P c → Q c → R c) → IfOk r P → IfOk r Q → IfOk r R
both (Ok c) P Q R f p q = f c p q
both (Err e) P Q R f p q = tt

module _ {E : Type 0} (r : Result kept.Certificate E) (is : IfOk r code_certificates.IsCertificate) where
  pub passes_as_states : IfOk r (λ c. over_codes_tests.verdict_of c ≡ Yes)
      → IfOk r (λ c. verdict_of (certificate_of c) ≡ Yes)
  passes_as_states passes =
      both r code_certificates.IsCertificate (λ c. over_codes_tests.verdict_of c ≡ Yes)
      (λ c. verdict_of (certificate_of c) ≡ Yes) (λ c s e. sym (verdict_of-states c s) ∙ e) is passes

  pub short_as_states : IfOk r (λ c. length (over_codes.certificate_text c) < max_certificate)
      → IfOk r (λ c. length (certificate_text (certificate_of c)) < max_certificate)
  short_as_states short =
      both r code_certificates.IsCertificate (λ c. length (over_codes.certificate_text c) < max_certificate)
      (λ c. length (certificate_text (certificate_of c)) < max_certificate)
      (λ c s l. subst (λ text. length text < max_certificate) (certificate_text-states c s) l) is short

  pub text_as_states : (text : List ℕ) → IfOk r (λ c. text ≡ over_codes.certificate_text c)
      → IfOk r (λ c. text ≡ certificate_text (certificate_of c))
  text_as_states text told =
      both r code_certificates.IsCertificate (λ c. text ≡ over_codes.certificate_text c)
      (λ c. text ≡ certificate_text (certificate_of c)) (λ c s e. e ∙ certificate_text-states c s) is told
