-- What the reader finds at each place is what may stand there.
--
-- The functions of the places answer for their own kinds of lines. Here that is turned into what leads on from the
-- place, with the closed cells untouched.
use Rattle.std.proofs.Common.{◌≡◌, ◌≢◌, ◌⊎◌, ◌↔◌, ℕ, Bool, true, false, rules, List, [], codes, ℤ, IsTrue, Option, None, Some, Result, Ok, Err, IfOk, MatchOption, inl, inr, refl, sym, subst}
use Rattle.std.proofs.lemmas.Bool.{true≢false}
use Rattle.f2_algebra.specs.Chain.{Chain}
use Rattle.state_rank.specs.Bijection.{IsBijection}
use Rattle.torus_geom.specs.Marks.{Marks, size, IsGrid}
use Rattle.homology_cert.specs.CertificateCodes.{Cell}
use Rattle.homology_cert.specs.Certificates.{AreSmallDegrees}
use Rattle.homology_cert.specs.Inner.CodeCertificates.{AreStates}
use Rattle.homology_cert.specs.CertificateText.{marks_line, degree_line}
use Rattle.text_lines.specs.Inner.CodeLines.{set_line}
use Rattle.homology_cert.specs.Inner.Reading.{size_line, with_cycle, with_step, IsSmallSize, LeadsTo, IsAt}
use Rattle.homology_cert.specs.declared.places.Place.{Place}
use Rattle.homology_cert.specs.declared.places.Place.TheVariants.{Start, Size, OLine, XLine, NoCell, InCell, InCycle, InStep}

-- what a test says that fails
pub not_true : (b : Bool) → b ≡ false → IsTrue b → ⊥
not_true true e h = true≢false e
not_true false e h = search rules

pub not_told : (b : Bool) (P : Type 0) → IsTrue b ↔ P → b ≡ false → P → ⊥
not_told b P both e p = not_true b e (both.1 p)

-- whether the line leads on from the place, with these cells closed after it
abbrev pub Tells : Place → List Cell → List ℕ → Option Place → List Cell → Type 0
Tells p ds line r fs = MatchOption r ((q : Place) (es : List Cell) → LeadsTo p ds line q es → ⊥)
    (λ q. LeadsTo p ds line q fs)

-- what is told of the line
module _ (p : Place) (ds : List Cell) (line : List ℕ) (r : Option Place) (fs : List Cell) where
  pub told_none : r ≡ None → Tells p ds line r fs → (q : Place) (es : List Cell) → LeadsTo p ds line q es → ⊥
  told_none is tells = subst (λ (o : Option Place). Tells p ds line o fs) is tells

  pub told_some : (q : Place) → r ≡ Some q → Tells p ds line r fs → LeadsTo p ds line q fs
  told_some q is tells = subst (λ (o : Option Place). Tells p ds line o fs) is tells

-- a place that is another by a case
pub at_place : (p q : Place) → p ≡ q → (ds : List Cell) (line : List ℕ) (r : Option Place) (fs : List Cell)
    → Tells q ds line r fs → Tells p ds line r fs
at_place p q same ds line r fs tells = subst (λ (o : Place). Tells o ds line r fs) (sym same) tells

pub at_place-ok : {E : Type 0} (p q : Place) → p ≡ q → (ds : List Cell) (line : List ℕ) (r : Result (Option Place) E)
    (fs : List Cell)
    → IfOk r (λ next. Tells q ds line next fs) → IfOk r (λ next. Tells p ds line next fs)
at_place-ok p q same ds line r fs tells = subst (λ (o : Place). IfOk r (λ next. Tells o ds line next fs)) (sym same)
    tells

pub no_cells : (p : Place) (g : Marks) (ds : List Cell) → p ≡ NoCell g → IsAt p ds → ds ≡ []
no_cells p g ds same at = (subst (λ (o : Place). IsAt o ds) same at).1

module _ (ds : List Cell) (line : List ℕ) where
  pub next-start : (r : Option Place) → MatchOption r (line ≢ codes "gridcert 1") (λ q. (line ≡ codes "gridcert 1")
      × (q ≡ Size)) → Tells Start ds line r ds
  next-start None none = λ q es leads. none leads.0
  next-start (Some q) is = (is.0, is.1, refl)

  pub next-size : (r : Option Place) → MatchOption r ((n : ℕ) → IsSmallSize n → line ≢ size_line n) (λ q. (n : ℕ)
      × IsSmallSize n × (line ≡ size_line n) × (q ≡ OLine n))
      → Tells Size ds line r ds
  next-size None none = λ q es leads. none leads.0 leads.1 leads.2
  next-size (Some q) is = (is.0, is.1, is.2, is.3, refl)

  pub next-o : (n : ℕ) (r : Option Place) → MatchOption r ((o : List ℕ) → IsBijection n o
      → line ≢ marks_line (codes "O") o)
      (λ q. (o : List ℕ) × IsBijection n o × (line ≡ marks_line (codes "O") o) × (q ≡ XLine o))
      → Tells (OLine n) ds line r ds
  next-o n None none = λ q es leads. none leads.0 leads.1 leads.2
  next-o n (Some q) is = (is.0, is.1, is.2, is.3, refl)

  pub next-x : (o : List ℕ) (r : Option Place) → MatchOption r ((x : List ℕ) → IsGrid (record { o = o; x = x })
      → line ≢ marks_line (codes "X") x)
      (λ q. (x : List ℕ) × IsGrid (record { o = o; x = x }) × (line ≡ marks_line (codes "X") x)
      × (q ≡ NoCell (record { o = o; x = x }))) → Tells (XLine o) ds line r ds
  next-x o None none = λ q es leads. none leads.0 leads.1 leads.2
  next-x o (Some q) is = (is.0, is.1, is.2, is.3, refl)

  pub next-no_cell : (g : Marks) (r : Option Place) → ds ≡ [] → Tells (NoCell g) [] line r []
      → Tells (NoCell g) ds line r ds
  next-no_cell g r none tells = subst (λ (fs : List Cell). Tells (NoCell g) fs line r fs) (sym none) tells

  module _ (g : Marks) (c : Cell) where
    pub next-in_cycle : {E : Type 0} (z : Chain) (r : Result (Option Place) E) → IfOk r (λ next. MatchOption next
        ((f : Chain) → AreStates g f → line ≢ set_line (codes "cocycle") (size g) f)
        (λ q. (f : Chain) × AreStates g f × (line ≡ set_line (codes "cocycle") (size g) f)
        × (q ≡ InCell g (with_cycle c z f))))
        → IfOk r (λ next. Tells (InCycle g c z) ds line next ds)
    next-in_cycle z (Err e) told = tt
    next-in_cycle z (Ok None) none = λ q es leads. none leads.0 leads.1 leads.2
    next-in_cycle z (Ok (Some q)) is = (is.0, is.1, is.2, is.3, refl)

    pub next-in_step : {E : Type 0} (z : Chain) (r : Result (Option Place) E) → IfOk r (λ next. MatchOption next
        ((f : Chain) → AreStates g f → line ≢ set_line (codes "probe") (size g) f)
        (λ q. (f : Chain) × AreStates g f × (line ≡ set_line (codes "probe") (size g) f)
        × (q ≡ InCell g (with_step c z f))))
        → IfOk r (λ next. Tells (InStep g c z) ds line next ds)
    next-in_step z (Err e) told = tt
    next-in_step z (Ok None) none = λ q es leads. none leads.0 leads.1 leads.2
    next-in_step z (Ok (Some q)) is = (is.0, is.1, is.2, is.3, refl)

    -- what may follow in a cell, but for the last line and that of a bidegree
    abbrev pub TellsPair : Option Place → Type 0
    TellsPair r = MatchOption r
        (((z : Chain) → AreStates g z → c.steps ≡ [] → line ≢ set_line (codes "cycle") (size g) z)
        × ((z : Chain) → AreStates g z → line ≢ set_line (codes "step") (size g) z))
        (λ q. ((z : Chain) × AreStates g z × (c.steps ≡ []) × (line ≡ set_line (codes "cycle") (size g) z)
        × (q ≡ InCycle g c z))
        ⊎ ((z : Chain) × AreStates g z × (line ≡ set_line (codes "step") (size g) z) × (q ≡ InStep g c z)))

    no_pair : line ≢ codes "end" → ((d : ℤ × ℤ) → AreSmallDegrees d → line ≢ degree_line d) → TellsPair None
        → (q : Place) (es : List Cell) → LeadsTo (InCell g c) ds line q es → ⊥
    no_pair not_last no_degree none q es (inl (l, e, f)) = not_last l
    no_pair not_last no_degree none q es (inr (inl (d, small, after, l, e, f))) = no_degree d small l
    no_pair not_last no_degree none q es (inr (inr (inl (z, states, no_steps, l, e, f)))) = none.0 z states no_steps l
    no_pair not_last no_degree none q es (inr (inr (inr (z, states, l, e, f)))) = none.1 z states l

    a_pair : (q : Place) → TellsPair (Some q) → LeadsTo (InCell g c) ds line q ds
    a_pair q (inl (z, states, no_steps, l, e)) = inr (inr (inl (z, states, no_steps, l, e, refl)))
    a_pair q (inr (z, states, l, e)) = inr (inr (inr (z, states, l, e, refl)))

    pub next-in_cell : {E : Type 0} (r : Result (Option Place) E) → line ≢ codes "end"
        → ((d : ℤ × ℤ) → AreSmallDegrees d → line ≢ degree_line d)
        → IfOk r (λ next. TellsPair next) → IfOk r (λ next. Tells (InCell g c) ds line next ds)
    next-in_cell (Err e) not_last no_degree told = tt
    next-in_cell (Ok None) not_last no_degree none = no_pair not_last no_degree none
    next-in_cell (Ok (Some q)) not_last no_degree is = a_pair q is
