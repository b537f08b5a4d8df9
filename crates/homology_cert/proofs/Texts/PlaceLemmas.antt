-- A line leads from a place to one place alone; and where a path ends is known from its lines.
use Rattle.std.proofs.Common.{◌≡◌, ℕ, ◌<◌, ◌≤◌, List, length, codes, slice_index, ◌==◌, if◌then◌else◌, ℤ, All, IsTrue, inl, inr, sym, ap, subst, ◌∙◌, arith}
use Rattle.f2_algebra.specs.Chain.{Chain}
use Rattle.f2_algebra.specs.Bigraded.{stands_before}
use Rattle.state_rank.specs.Bijection.{IsBijection}
use Rattle.torus_geom.specs.Marks.{Marks, size}
use Rattle.homology_cert.specs.CertificateCodes.{Cell}
use Rattle.homology_cert.specs.Certificates.{AreSmallDegrees}
use Rattle.homology_cert.specs.CertificateText.{degree_line}
use Rattle.text_lines.specs.Inner.CodeLines.{set_line}
use Rattle.homology_cert.specs.Inner.Reading.{new_cell, with_cycle, with_step, LeadsTo, IsAt}
use Rattle.homology_cert.specs.declared.places.Place.{Place}
use Rattle.homology_cert.specs.declared.places.Place.TheVariants.{Start, Size, OLine, XLine, NoCell, InCell, InCycle, InStep, End}
use Rattle.std.proofs.lemmas.List.{append_cancel_left}
use Rattle.std.proofs.lemmas.Fmt.{decimal_injective}
use Rattle.std.proofs.lemmas.Grind.{get_or_default_zero}
use Rattle.homology_cert.proofs.Texts.LineLemmas.{set_line-injective, marks_line-injective, degree_line-injective}

-- ---- the kinds of lines in a body
-- 0 for the last line, 1 for that of a bidegree, 2 for that of a cycle, 3 for that of a step
kind : List ℕ → ℕ
kind line =
    if slice_index line 0 == 101 then 0
    else (if slice_index line 0 == 115 then 3 else (if slice_index line 1 == 101 then 1 else 2))

module _ (g : Marks) where
  kind-end : (line : List ℕ) → line ≡ codes "end" → kind line ≡ 0
  unfolding kind
  kind-end line e = ap kind e

  kind-degree : (line : List ℕ) (d : ℤ × ℤ) → line ≡ degree_line d → kind line ≡ 1
  unfolding kind
  kind-degree line d e = ap kind e

  kind-cycle : (line : List ℕ) (n : ℕ) (z : Chain) → line ≡ set_line (codes "cycle") n z → kind line ≡ 2
  unfolding kind
  kind-cycle line n z e = ap kind e

  kind-step : (line : List ℕ) (n : ℕ) (z : Chain) → line ≡ set_line (codes "step") n z → kind line ≡ 3
  unfolding kind
  kind-step line n z e = ap kind e

-- two kinds are not one
differ : {A : Type 0} (line : List ℕ) (i j : ℕ) → kind line ≡ i → kind line ≡ j → (i ≡ j → ⊥) → A
differ line i j e f other = absurd (other (sym e ∙ f))

module _ (g : Marks) (ds : List Cell) (line : List ℕ) (q r : Place) (es fs : List Cell) where
  abbrev Same : Type 0
  Same = (q ≡ r) × (es ≡ fs)

  one-no_cell : LeadsTo (NoCell g) ds line q es → LeadsTo (NoCell g) ds line r fs → Same
  one-no_cell (inl (a, b, c)) (inl (h, i, j)) = (b ∙ sym i, c ∙ sym j)
  one-no_cell (inl (a, b, c)) (inr (d, small, h, i, j)) = differ line 0 1 (kind-end g line a) (kind-degree g line d h)
      (λ e. omega arith)
  one-no_cell (inr (d, small, a, b, c)) (inl (h, i, j)) = differ line 1 0 (kind-degree g line d a) (kind-end g line h)
      (λ e. omega arith)
  one-no_cell (inr (d, small, a, b, c)) (inr (e, small_e, h, i, j)) =
      let same = degree_line-injective d e small small_e (sym a ∙ h) in
      (b ∙ ap (λ t. InCell g (new_cell t)) same ∙ sym i, c ∙ sym j)

  one-in_cell : (cell : Cell) → LeadsTo (InCell g cell) ds line q es → LeadsTo (InCell g cell) ds line r fs → Same
  one-in_cell cell (inl (a, b, c)) (inl (h, i, j)) = (b ∙ sym i, c ∙ sym j)
  one-in_cell cell (inl (a, b, c)) (inr (inl (d, small, before, h, i, j))) =
      differ line 0 1 (kind-end g line a) (kind-degree g line d h) (λ e. omega arith)
  one-in_cell cell (inl (a, b, c)) (inr (inr (inl (z, states, none, h, i, j)))) =
      differ line 0 2 (kind-end g line a) (kind-cycle g line (size g) z h) (λ e. omega arith)
  one-in_cell cell (inl (a, b, c)) (inr (inr (inr (z, states, h, i, j)))) =
      differ line 0 3 (kind-end g line a) (kind-step g line (size g) z h) (λ e. omega arith)
  one-in_cell cell (inr (inl (d, small, before, a, b, c))) (inl (h, i, j)) =
      differ line 1 0 (kind-degree g line d a) (kind-end g line h) (λ e. omega arith)
  one-in_cell cell (inr (inl (d, small, before, a, b, c))) (inr (inl (e, small_e, before_e, h, i, j))) =
      let same = degree_line-injective d e small small_e (sym a ∙ h) in
      (b ∙ ap (λ t. InCell g (new_cell t)) same ∙ sym i, c ∙ sym j)
  one-in_cell cell (inr (inl (d, small, before, a, b, c))) (inr (inr (inl (z, states, none, h, i, j)))) =
      differ line 1 2 (kind-degree g line d a) (kind-cycle g line (size g) z h) (λ e. omega arith)
  one-in_cell cell (inr (inl (d, small, before, a, b, c))) (inr (inr (inr (z, states, h, i, j)))) =
      differ line 1 3 (kind-degree g line d a) (kind-step g line (size g) z h) (λ e. omega arith)
  one-in_cell cell (inr (inr (inl (z, states, none, a, b, c)))) (inl (h, i, j)) =
      differ line 2 0 (kind-cycle g line (size g) z a) (kind-end g line h) (λ e. omega arith)
  one-in_cell cell (inr (inr (inl (z, states, none, a, b, c)))) (inr (inl (d, small, before, h, i, j))) =
      differ line 2 1 (kind-cycle g line (size g) z a) (kind-degree g line d h) (λ e. omega arith)
  one-in_cell cell (inr (inr (inl (z, states, none, a, b, c)))) (inr (inr (inl (w, states_w, none_w, h, i, j)))) =
      let same = set_line-injective (codes "cycle") (size g) z w states states_w (sym a ∙ h) in
      (b ∙ ap (InCycle g cell) same ∙ sym i, c ∙ sym j)
  one-in_cell cell (inr (inr (inl (z, states, none, a, b, c)))) (inr (inr (inr (w, states_w, h, i, j)))) =
      differ line 2 3 (kind-cycle g line (size g) z a) (kind-step g line (size g) w h) (λ e. omega arith)
  one-in_cell cell (inr (inr (inr (z, states, a, b, c)))) (inl (h, i, j)) =
      differ line 3 0 (kind-step g line (size g) z a) (kind-end g line h) (λ e. omega arith)
  one-in_cell cell (inr (inr (inr (z, states, a, b, c)))) (inr (inl (d, small, before, h, i, j))) =
      differ line 3 1 (kind-step g line (size g) z a) (kind-degree g line d h) (λ e. omega arith)
  one-in_cell cell (inr (inr (inr (z, states, a, b, c)))) (inr (inr (inl (w, states_w, none, h, i, j)))) =
      differ line 3 2 (kind-step g line (size g) z a) (kind-cycle g line (size g) w h) (λ e. omega arith)
  one-in_cell cell (inr (inr (inr (z, states, a, b, c)))) (inr (inr (inr (w, states_w, h, i, j)))) =
      let same = set_line-injective (codes "step") (size g) z w states states_w (sym a ∙ h) in
      (b ∙ ap (InStep g cell) same ∙ sym i, c ∙ sym j)

-- after the line of a bidegree a line stands nowhere, if its own bidegree does not come later
pub not_after : (g : Marks) (cell : Cell) (ds : List Cell) (line : List ℕ) (d : ℤ × ℤ) (q : Place) (es : List Cell)
    → AreSmallDegrees d → line ≡ degree_line d
    → (IsTrue (stands_before cell.at d) → ⊥) → LeadsTo (InCell g cell) ds line q es → ⊥
not_after g cell ds line d q es small is before (inl (l, e, f)) = differ line 1 0 (kind-degree g line d is)
    (kind-end g line l) (λ h. omega arith)
not_after g cell ds line d q es small is before (inr (inl (t, small_t, after, l, e, f))) =
    before (subst (λ u. IsTrue (stands_before cell.at u)) (degree_line-injective t d small_t small (sym l ∙ is))
    after)
not_after g cell ds line d q es small is before (inr (inr (inl (z, states, none, l, e, f)))) =
    differ line 1 2 (kind-degree g line d is) (kind-cycle g line (size g) z l) (λ h. omega arith)
not_after g cell ds line d q es small is before (inr (inr (inr (z, states, l, e, f)))) =
    differ line 1 3 (kind-degree g line d is) (kind-step g line (size g) z l) (λ h. omega arith)

-- a row of a grid that is handled is a digit
pub small_rows : (n : ℕ) (o : List ℕ) → IsBijection n o → n ≤ 10 → All (λ r. r < 10) o
small_rows n o is small k d l =
    let within : k < n = omega (arith, is.long) in
    let below = is.small k within in
    subst (λ r. r < 10) (sym (get_or_default_zero o k d l)) (omega arith)

-- a line leads from a place to one place alone
pub leads_to-one : (p : Place) (ds : List Cell) (line : List ℕ) (q r : Place) (es fs : List Cell) → IsAt p ds
    → LeadsTo p ds line q es → LeadsTo p ds line r fs → (q ≡ r) × (es ≡ fs)
leads_to-one Start ds line q r es fs at (a, b, c) (h, i, j) = (b ∙ sym i, c ∙ sym j)
leads_to-one Size ds line q r es fs at (n, small, a, b, c) (m, small_m, h, i, j) =
    let l = small.size.greatest in
    let k = small_m.size.greatest in
    let same = decimal_injective n m (omega arith) (omega arith) (append_cancel_left (codes "grid ") _ _ (sym a ∙ h)) in
    (b ∙ ap OLine same ∙ sym i, c ∙ sym j)
leads_to-one (OLine n) ds line q r es fs at (o, is_o, a, b, c) (p, is_p, h, i, j) =
    let size = at.0.size.greatest in
    let same = marks_line-injective (codes "O") o p (small_rows n o is_o size) (small_rows n p is_p size) (sym a ∙ h) in
    (b ∙ ap XLine same ∙ sym i, c ∙ sym j)
leads_to-one (XLine o) ds line q r es fs at (x, is_x, a, b, c) (y, is_y, h, i, j) =
    let same = marks_line-injective (codes "X") x y (small_rows (length o) x is_x.x is_x.is_size.greatest)
    (small_rows (length o) y is_y.x is_y.is_size.greatest) (sym a ∙ h) in
    (b ∙ ap (λ t. NoCell (record { o = o; x = t })) same ∙ sym i, c ∙ sym j)
leads_to-one (NoCell g) ds line q r es fs at first second = one-no_cell g ds line q r es fs first second
leads_to-one (InCell g cell) ds line q r es fs at first second = one-in_cell g ds line q r es fs cell first second
leads_to-one (InCycle g cell z) ds line q r es fs at (f, states, a, b, c) (h, states_h, i, j, k) =
    let same = set_line-injective (codes "cocycle") (size g) f h states states_h (sym a ∙ i) in
    (b ∙ ap (λ t. InCell g (with_cycle cell z t)) same ∙ sym j, c ∙ sym k)
leads_to-one (InStep g cell z) ds line q r es fs at (f, states, a, b, c) (h, states_h, i, j, k) =
    let same = set_line-injective (codes "probe") (size g) f h states states_h (sym a ∙ i) in
    (b ∙ ap (λ t. InCell g (with_step cell z t)) same ∙ sym j, c ∙ sym k)
leads_to-one (End g) ds line q r es fs at first second = absurd first
