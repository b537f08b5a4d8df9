-- Lines without a line feed: none of a certificate has one, so that a text has its lines in one way. And where a path
-- of lines leads.
use Rattle.std.proofs.Common.{◌≡◌, ℕ, zero, suc, ◌<◌, ◌≤◌, ◌^◌, true, not, eqb, List, [], ◌∷◌, ◌++◌, length, take, codes, ℤ, All, inl, inr, refl, sym, ap, ap₂, subst, ◌∙◌, arith, append_assoc, length-append}
use Rattle.std.specs.List.{flat_map, list_all}
use Rattle.std.specs.Fmt.{decimal, signed_decimal}
use Rattle.std.proofs.lemmas.Bool.{cases_lt, and_parts, true≢false, eq-eqb}
use Rattle.std.proofs.lemmas.List.{append-nil}
use Rattle.f2_algebra.specs.Chain.{Chain, codes as ranks}
use Rattle.f2_algebra.specs.Certificate.{CyclePair, StepPair}
use Rattle.state_rank.specs.Bijection.{IsBijection}
use Rattle.state_rank.specs.States.{unrank, state_word}
use Rattle.torus_geom.specs.Marks.{size}
use Rattle.homology_cert.specs.CertificateCodes.{Cell, Certificate}
use Rattle.homology_cert.specs.Inner.CodeCertificates.{IsCertificate}
use Rattle.homology_cert.specs.Certificates.{AreSmallDegrees}
use Rattle.homology_cert.specs.CertificateText.{marks_line, degree_line, certificate_head_lines, text_of_lines}
use Rattle.homology_cert.specs.Inner.CodeText.{cycle_lines, step_lines, cell_lines, certificate_lines, certificate_text}
use Rattle.text_lines.specs.Inner.CodeLines.{set_line}
use Rattle.homology_cert.specs.Inner.Reading.{LinesLead, IsAt, IsFree, AreFree}
use Rattle.homology_cert.specs.declared.places.Place.{Place}
use Rattle.homology_cert.proofs.Texts.LineLemmas.{free-decimal, free-signed, split_at_free, small_mag}
use Rattle.homology_cert.proofs.Texts.PlaceLemmas.{small_rows, leads_to-one}
use Rattle.homology_cert.proofs.Texts.ClosedLemmas.{is_at-next}

-- ---- lines without a line feed
pub free_lines-append : (ls ms : List (List ℕ)) → AreFree ls → AreFree ms → AreFree (ls ++ ms)
free_lines-append [] ms p q = q
free_lines-append (l ∷ ls) ms p q = (p.0, free_lines-append ls ms p.1 q)

pub free-append : (b : ℕ) (xs ys : List ℕ) → IsFree b xs → IsFree b ys → IsFree b (xs ++ ys)
free-append b [] ys p q = q
free-append b (x ∷ xs) ys p q = (p.0, free-append b xs ys p.1 q)

free-flat_map : {A : Type 0} (b : ℕ) (f : A → List ℕ) (xs : List A) → ((x : A) → IsFree b (f x))
    → IsFree b (flat_map f xs)
free-flat_map b f [] h = tt
free-flat_map b f (x ∷ xs) h = free-append b (f x) (flat_map f xs) (h x) (free-flat_map b f xs h)

free-state_word : (x : List ℕ) → IsFree 10 (state_word x)
free-state_word [] = tt
free-state_word (r ∷ x) = ((λ e. omega (arith, e)), free-state_word x)

free-set_line : (word : List ℕ) (n : ℕ) (z : Chain) → IsFree 10 word → IsFree 10 (set_line word n z)
free-set_line word n z w =
    free-append 10 word _ w (free-flat_map 10 (λ s. 32 ∷ state_word (unrank n s)) (ranks z)
    (λ s. ((λ e. omega (arith, e)), free-state_word (unrank n s))))

free-rows : (rows : List ℕ) → All (λ r. r < 2 ^ 64) rows → IsFree 10 (flat_map (λ r. 32 ∷ decimal r) rows)
free-rows [] h = tt
free-rows (r ∷ rows) h =
    free-append 10 (32 ∷ decimal r) (flat_map (λ s. 32 ∷ decimal s) rows)
    ((λ e. omega (arith, e)), free-decimal 10 r (omega arith) (h 0 r (omega arith)))
    (free-rows rows (λ k d l. h (suc k) d (omega arith)))

-- the bytes of a word, by a test
pub free-word : (xs : List ℕ) → list_all (λ c. not (eqb c 10)) xs ≡ true → IsFree 10 xs
free-word [] h = tt
free-word (x ∷ xs) h =
    let parts = and_parts (not (eqb x 10)) (list_all (λ c. not (eqb c 10)) xs) h in
    ((λ e. true≢false (sym parts.0 ∙ ap not (eq-eqb x 10 e))), free-word xs parts.1)

pub every_take : (k : ℕ) (ls : List (List ℕ)) → AreFree ls → AreFree (take k ls)
every_take zero ls h = tt
every_take (suc k) [] h = tt
every_take (suc k) (l ∷ ls) h = (h.0, every_take k ls h.1)

-- ---- the lines of a text
pub text-cons : (l : List ℕ) (ls : List (List ℕ)) (r : List ℕ) → text_of_lines (l ∷ ls) ++ r
    ≡ l ++ 10 ∷ (text_of_lines ls ++ r)
text-cons l ls r = append_assoc (l ++ 10 ∷ []) (text_of_lines ls) r ∙ append_assoc l (10 ∷ []) (text_of_lines ls ++ r)

-- the fewer lines of a text are the first of the more
pub first_lines : (ls ms : List (List ℕ)) (r s : List ℕ) → AreFree ls → AreFree ms
    → text_of_lines ls ++ r ≡ text_of_lines ms ++ s → length ls ≤ length ms
    → (more : List (List ℕ)) × (ms ≡ ls ++ more) × (r ≡ text_of_lines more ++ s)
first_lines [] ms r s p q e few = (ms, refl, e)
first_lines (l ∷ ls) [] r s p q e few = absurd (omega arith)
first_lines (l ∷ ls) (m ∷ ms) r s p q e few =
    let (head, tail) = split_at_free 10 l m (text_of_lines ls ++ r) (text_of_lines ms ++ s) p.0 q.0
    (sym (text-cons l ls r) ∙ e ∙ text-cons m ms s) in
    let (more, rest, after) = first_lines ls ms r s p.1 q.1 tail (omega arith) in
    (more, ap₂ (λ x xs. x ∷ xs) (sym head) rest, after)

-- a text with a line in it is not empty, and has a line feed
pub no_text : {A : Type 0} (l : List ℕ) (ls : List (List ℕ)) (s : List ℕ) → [] ≡ text_of_lines (l ∷ ls) ++ s → A
no_text l ls s e = let long = ap length (e ∙ text-cons l ls s) in
    absurd (omega (arith, long, length-append l (10 ∷ (text_of_lines ls ++ s))))

pub not_free : (l xs : List ℕ) → IsFree 10 (l ++ 10 ∷ xs) → ⊥
not_free [] xs h = h.0 refl
not_free (c ∷ l) xs h = not_free l xs h.1

pub lines_bound : (ls : List (List ℕ)) (r : List ℕ) → length ls ≤ length (text_of_lines ls ++ r)
lines_bound [] r = omega arith
lines_bound (l ∷ ls) r = let long = ap length (text-cons l ls r) in
    omega (arith, long, length-append l (10 ∷ (text_of_lines ls ++ r)), lines_bound ls r)

-- ---- where a path leads
pub path-one : (p q r : Place) (ds es fs : List Cell) (ls : List (List ℕ)) → IsAt p ds → LinesLead p ds ls q es
    → LinesLead p ds ls r fs → (q ≡ r) × (es ≡ fs)
path-one p q r ds es fs [] at (a, b) (h, i) = (sym a ∙ h, sym b ∙ i)
path-one p q r ds es fs (l ∷ ls) at (o, cs, leads, rest) (u, us, leads_u, rest_u) =
    let (same, same_cells) = leads_to-one p ds l o u cs us at leads leads_u in
    let next = (is_at-next p ds l o cs at leads).0 in
    path-one o q r cs es fs ls next rest (subst (λ (v : Place). LinesLead v cs ls r fs) (sym same)
    (subst (λ (vs : List Cell). LinesLead u vs ls r fs) (sym same_cells) rest_u))

-- ---- the lines of a certificate
free-degree_line : (d : ℤ × ℤ) → AreSmallDegrees d → IsFree 10 (degree_line d)
free-degree_line d small =
    free-append 10 ((codes "cell " ++ signed_decimal d.0) ++ codes " ") (signed_decimal d.1)
    (free-append 10 (codes "cell " ++ signed_decimal d.0) (codes " ")
    (free-append 10 (codes "cell ") (signed_decimal d.0) (free-word (codes "cell ") refl)
    (free-signed 10 d.0 (omega arith) (λ e. omega (arith, e)) (small_mag d.0 small.maslov)))
    (free-word (codes " ") refl))
    (free-signed 10 d.1 (omega arith) (λ e. omega (arith, e)) (small_mag d.1 small.alexander))

free-cycles : (n : ℕ) (ps : List CyclePair) → AreFree (flat_map (cycle_lines n) ps)
free-cycles n [] = tt
free-cycles n (p ∷ ps) = (
  free-set_line (codes "cycle") n p.cycle (free-word (codes "cycle") refl),
  (free-set_line (codes "cocycle") n p.cocycle (free-word (codes "cocycle") refl), free-cycles n ps),
)

free-steps : (n : ℕ) (ps : List StepPair) → AreFree (flat_map (step_lines n) ps)
free-steps n [] = tt
free-steps n (p ∷ ps) = (
  free-set_line (codes "step") n p.step (free-word (codes "step") refl),
  (free-set_line (codes "probe") n p.probe (free-word (codes "probe") refl), free-steps n ps),
)

free-cells : (n : ℕ) (cells : List Cell) → All (λ (c : Cell). AreSmallDegrees c.at) cells
    → AreFree (flat_map (cell_lines n) cells)
free-cells n [] h = tt
free-cells n (c ∷ cells) h =
    free_lines-append (cell_lines n c) (flat_map (cell_lines n) cells) (
      free-degree_line c.at (h 0 c (omega arith)),
      free_lines-append (flat_map (cycle_lines n) c.cycles)
          (flat_map (step_lines n) c.steps) (free-cycles n c.cycles) (free-steps n c.steps),
    )
    (free-cells n cells (λ k d l. h (suc k) d (omega arith)))

free-marks_line : (word rows : List ℕ) (n : ℕ) → IsFree 10 word → IsBijection n rows → n ≤ 10
    → IsFree 10 (marks_line word rows)
free-marks_line word rows n free is small =
    free-append 10 word _ free (free-rows rows (λ k d l. let within = small_rows n rows is small k d l in
    omega (arith, within)))

pub free-certificate : (c : Certificate) → IsCertificate c → AreFree (certificate_lines c)
unfolding certificate_lines
free-certificate c is =
    let g = c.grid in
    let large = is.grid.is_size.greatest in
    free_lines-append (certificate_head_lines g ++ flat_map (cell_lines (size g)) c.cells) (codes "end" ∷ [])
    (free_lines-append (certificate_head_lines g) (flat_map (cell_lines (size g)) c.cells) (
      free-word (codes "gridcert 1") refl,
      (
        free-append 10 (codes "grid ") (decimal (size g)) (free-word (codes "grid ") refl)
            (free-decimal 10 (size g) (omega arith) (omega arith)),
        (
          free-marks_line (codes "O") g.o (size g) (free-word (codes "O") refl) is.grid.o large,
          (
            free-marks_line (codes "X") g.x (size g) (free-word (codes "X") refl) is.grid.x large,
            tt,
          ),
        ),
      ),
    ) (free-cells (size g) c.cells is.degrees))
    (free-word (codes "end") refl, tt)

-- lines with which the text of a certificate begins are its first lines
pub lines_of_text : (text : List ℕ) (c : Certificate) → IsCertificate c → text ≡ certificate_text c
    → (ls : List (List ℕ)) (r : List ℕ) → AreFree ls → text ≡ text_of_lines ls ++ r
    → (more : List (List ℕ)) × (certificate_lines c ≡ ls ++ more) × (r ≡ text_of_lines more)
lines_of_text text c is e ls r free begins =
    let whole : text_of_lines ls ++ r ≡ text_of_lines (certificate_lines c) ++ [] = sym begins ∙ e
    ∙ sym (append-nil (certificate_text c)) in
    elim (cases_lt (length (certificate_lines c)) (length ls)) [
      | inl fewer ↦
          let (more, same, none) = first_lines (certificate_lines c) ls [] r (free-certificate c is) free (sym whole)
          (omega (arith, fewer)) in
          too_long (certificate_lines c) more same none fewer
      | inr enough ↦
          let (more, same, left) = first_lines ls (certificate_lines c) r [] free (free-certificate c is) whole
          enough in
          (more, same, left ∙ append-nil (text_of_lines more))
    ]
  where
    too_long : {A : Type 0} (ms more : List (List ℕ)) → ls ≡ ms ++ more → [] ≡ text_of_lines more ++ r
        → length ms < length ls → A
    too_long ms [] same none fewer = let l = ap length same in absurd (omega (arith, fewer, l, length-append ms []))
    too_long ms (l ∷ more) same none fewer = no_text l more r none
