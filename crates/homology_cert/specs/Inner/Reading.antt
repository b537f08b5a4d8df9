-- The places of the reader of certificates, and which lines may stand there. The reader has at each place the cells
-- that are closed; the cell that is open is part of the place.
--     size_line n               the line of a size
--     spaced rows               the digits of numbers, each after a space
--     IsSmallSize n             a size that is handled, at most six
--     IsSmallGrid g             a grid of such a size
--     LeadsTo p ds line q es    at the place p, with the closed cells ds, this line may stand, and it leads to the
--                               place q with the closed cells es
--     LinesLead p ds lines q es      these lines, in order, lead from p and ds to q and es
--     lines_in g ds             the lines of the grid and of these cells
--     lines_at p ds             the lines that lead from the start to p and ds
--     AreClosed g ds            the cells are those of a certificate of the grid, but for the number of entries
--     IsAt p ds                 what is known at a place
--     IsFree b bytes            the byte b is not among these
--     AreFree lines             no line has a line feed in it
--     IsRead text p ds rest number
--                               the lines at the place were read of the text, the rest follows, and the next line has
--                               this number
use Rattle.std.specs.Prelude.{◌≡◌, ◌≢◌, ◌⊎◌, ℕ, ◌+◌, ◌≤◌, ℤ, List, [], ◌∷◌, ◌++◌, length, codes, IsTrue}
use Rattle.std.specs.List.{All, AllPairs, flat_map}
use Rattle.std.specs.Fmt.{decimal}
use Rattle.f2_algebra.specs.Chain.{Chain}
use Rattle.f2_algebra.specs.Bigraded.{stands_before}
use Rattle.state_rank.specs.Bijection.{IsSize, IsBijection}
use Rattle.torus_geom.specs.Marks.{Marks, size, IsGrid}
use Rattle.homology_cert.specs.CertificateLimits.{max_certified_size}
use Rattle.homology_cert.specs.CertificateCodes.{Cell}
use Rattle.homology_cert.specs.Inner.CodeCertificates.{AreStates, HasPairStates}
use Rattle.homology_cert.specs.Certificates.{AreSmallDegrees}
use Rattle.homology_cert.specs.CertificateText.{marks_line, degree_line, certificate_head_lines, text_of_lines}
use Rattle.homology_cert.specs.Inner.CodeText.{cell_lines}
use Rattle.text_lines.specs.Inner.CodeLines.{set_line}
pub use Rattle.homology_cert.specs.Inner.Cells.{new_cell, with_cycle, with_step}
use Rattle.homology_cert.specs.declared.places.Place.{Place}
use Rattle.homology_cert.specs.declared.places.Place.TheVariants.{Start, Size, OLine, XLine, NoCell, InCell, InCycle, InStep, End}

abbrev pub size_line : ℕ → List ℕ
size_line n = codes "grid " ++ decimal n

abbrev pub spaced : List ℕ → List ℕ
spaced rows = flat_map (λ r. 32 ∷ (48 + r) ∷ []) rows

pub record IsSmallSize (n : ℕ) : Type 0 where
  pub size : IsSize n
  pub small : n ≤ max_certified_size

pub record IsSmallGrid (g : Marks) : Type 0 where
  pub grid : IsGrid g
  pub small : size g ≤ max_certified_size

abbrev pub LeadsTo : Place → List Cell → List ℕ → Place → List Cell → Type 0
LeadsTo Start ds line q es = (line ≡ codes "gridcert 1") × (q ≡ Size) × (es ≡ ds)
LeadsTo Size ds line q es = (n : ℕ) × IsSmallSize n × (line ≡ size_line n) × (q ≡ OLine n) × (es ≡ ds)
LeadsTo (OLine n) ds line q es = (o : List ℕ) × IsBijection n o × (line ≡ marks_line (codes "O") o) × (q ≡ XLine o)
    × (es ≡ ds)
LeadsTo (XLine o) ds line q es =
    (x : List ℕ) × IsGrid (record { o = o; x = x }) × (line ≡ marks_line (codes "X") x)
    × (q ≡ NoCell (record { o = o; x = x })) × (es ≡ ds)
LeadsTo (NoCell g) ds line q es =
    ((line ≡ codes "end") × (q ≡ End g) × (es ≡ ds))
    ⊎ ((d : ℤ × ℤ) × AreSmallDegrees d × (line ≡ degree_line d) × (q ≡ InCell g (new_cell d)) × (es ≡ ds))
LeadsTo (InCell g c) ds line q es =
    ((line ≡ codes "end") × (q ≡ End g) × (es ≡ ds ++ c ∷ []))
    ⊎ ((d : ℤ × ℤ) × AreSmallDegrees d × IsTrue (stands_before c.at d) × (line ≡ degree_line d)
    × (q ≡ InCell g (new_cell d)) × (es ≡ ds ++ c ∷ []))
    ⊎ ((z : Chain) × AreStates g z × (c.steps ≡ []) × (line ≡ set_line (codes "cycle") (size g) z) × (q ≡ InCycle g c z)
    × (es ≡ ds))
    ⊎ ((z : Chain) × AreStates g z × (line ≡ set_line (codes "step") (size g) z) × (q ≡ InStep g c z) × (es ≡ ds))
LeadsTo (InCycle g c z) ds line q es =
    (f : Chain) × AreStates g f × (line ≡ set_line (codes "cocycle") (size g) f) × (q ≡ InCell g (with_cycle c z f))
    × (es ≡ ds)
LeadsTo (InStep g c z) ds line q es =
    (f : Chain) × AreStates g f × (line ≡ set_line (codes "probe") (size g) f) × (q ≡ InCell g (with_step c z f))
    × (es ≡ ds)
LeadsTo (End g) ds line q es = ⊥

abbrev pub LinesLead : Place → List Cell → List (List ℕ) → Place → List Cell → Type 0
LinesLead p ds [] q es = (p ≡ q) × (ds ≡ es)
LinesLead p ds (line ∷ lines) q es = (r : Place) × (fs : List Cell) × LeadsTo p ds line r fs × LinesLead r fs lines q es

abbrev pub lines_in : Marks → List Cell → List (List ℕ)
lines_in g ds = certificate_head_lines g ++ flat_map (cell_lines (size g)) ds

abbrev pub lines_at : Place → List Cell → List (List ℕ)
lines_at Start ds = []
lines_at Size ds = codes "gridcert 1" ∷ []
lines_at (OLine n) ds = codes "gridcert 1" ∷ size_line n ∷ []
lines_at (XLine o) ds = codes "gridcert 1" ∷ size_line (length o) ∷ marks_line (codes "O") o ∷ []
lines_at (NoCell g) ds = certificate_head_lines g
lines_at (InCell g c) ds = lines_in g (ds ++ c ∷ [])
lines_at (InCycle g c z) ds = lines_in g (ds ++ c ∷ []) ++ set_line (codes "cycle") (size g) z ∷ []
lines_at (InStep g c z) ds = lines_in g (ds ++ c ∷ []) ++ set_line (codes "step") (size g) z ∷ []
lines_at (End g) ds = lines_in g ds ++ codes "end" ∷ []

pub record AreClosed (g : Marks) (ds : List Cell) : Type 0 where
  pub grid : IsSmallGrid g
  pub ordered : AllPairs (λ (p q : Cell). IsTrue (stands_before p.at q.at)) ds
  pub degrees : All (λ (c : Cell). AreSmallDegrees c.at) ds
  pub states : All (HasPairStates g) ds

abbrev pub IsAt : Place → List Cell → Type 0
IsAt Start ds = ds ≡ []
IsAt Size ds = ds ≡ []
IsAt (OLine n) ds = IsSmallSize n × (ds ≡ [])
IsAt (XLine o) ds = IsSmallSize (length o) × IsBijection (length o) o × (ds ≡ [])
IsAt (NoCell g) ds = IsSmallGrid g × (ds ≡ [])
IsAt (InCell g c) ds = AreClosed g (ds ++ c ∷ [])
IsAt (InCycle g c z) ds = AreClosed g (ds ++ c ∷ []) × AreStates g z × (c.steps ≡ [])
IsAt (InStep g c z) ds = AreClosed g (ds ++ c ∷ []) × AreStates g z
IsAt (End g) ds = AreClosed g ds

abbrev pub IsFree : ℕ → List ℕ → Type 0
IsFree b [] = Unit {0}
IsFree b (c ∷ cs) = (c ≢ b) × IsFree b cs

abbrev pub AreFree : List (List ℕ) → Type 0
AreFree [] = Unit {0}
AreFree (l ∷ ls) = IsFree 10 l × AreFree ls

pub record IsRead (text : List ℕ) (p : Place) (ds : List Cell) (rest : List ℕ) (number : ℕ) : Type 0 where
  pub at : IsAt p ds
  pub path : LinesLead Start [] (lines_at p ds) p ds
  pub free : AreFree (lines_at p ds)
  pub begins : text ≡ text_of_lines (lines_at p ds) ++ rest
  pub counted : number ≡ length (lines_at p ds) + 1
