-- Every text is that of a certificate, or has a first bad line.
--
-- At each place it is decided whether a line may stand there: a size, marks, a degree and a state are found among
-- finitely many, and a set is gone through state by state. So the lines of a text are gone through until one leads
-- nowhere, or the text ends.
use Rattle.std.proofs.Common.{◌≡◌, ◌≢◌, ◌⊎◌, ℕ, zero, suc, ◌+◌, ◌-◌, ◌<◌, ◌≤◌, ◌^◌, Bool, true, false, rules, List, [], ◌∷◌, ◌++◌, length, drop, slice_index, codes, ℤ, pos, negsuc, All, IsTrue, inl, inr, refl, sym, ap, ap₂, subst, ◌∙◌, arith, length-append}
use Rattle.std.proofs.lemmas.Bool.{cases_lt, cases_eq}
use Rattle.std.proofs.lemmas.Int.{ints}
use Rattle.std.proofs.Math.ListN.{length-drop}
use Rattle.std.proofs.Math.Seq.{drop-append_seam}
use Rattle.f2_algebra.specs.Chain.{Chain, nothing, single, ◌⊕◌, codes as ranks}
use Rattle.f2_algebra.specs.Certificate.{StepPair}
use Rattle.f2_algebra.specs.Bigraded.{stands_before}
use Rattle.state_rank.specs.Bijection.{IsBijection}
use Rattle.state_rank.specs.States.{factorial, rank, unrank}
use Rattle.state_rank.proofs.RankLemmas.{IsBijection-unrank, unrank-rank, rank-below}
use Rattle.gradings.specs.Degrees.{IsSmallDegree}
use Rattle.torus_geom.specs.Marks.{Marks, size, IsGrid}
use Rattle.homology_cert.specs.CertificateCodes.{Cell, Certificate}
use Rattle.homology_cert.specs.Inner.CodeCertificates.{IsCertificate, AreStates}
use Rattle.homology_cert.specs.Certificates.{AreSmallDegrees}
use Rattle.homology_cert.specs.CertificateText.{marks_line, degree_line}
use Rattle.homology_cert.specs.Inner.CodeText.{certificate_text, IsFirstBadLine}
use Rattle.text_lines.specs.Inner.CodeLines.{set_line}
use Rattle.homology_cert.specs.Inner.Reading.{size_line, new_cell, with_cycle, with_step, IsSmallSize, LeadsTo, IsAt, IsFree, IsRead}
use Rattle.homology_cert.specs.declared.places.Place.{Place}
use Rattle.homology_cert.specs.declared.places.Place.TheVariants.{Start, Size, OLine, XLine, NoCell, InCell, InCycle, InStep, End}
use Rattle.homology_cert.proofs.Texts.LineLemmas.{marks_line-injective}
use Rattle.homology_cert.proofs.Texts.PlaceLemmas.{not_after, small_rows}
use Rattle.homology_cert.proofs.Texts.SetLemmas.{state_bytes_of, length-state_bytes, IsReadSet, IsReadSet-start, IsReadSet-next, IsReadSet-end, no_set-no_code, no_set-not_above}
use Rattle.homology_cert.proofs.Texts.ReadLemmas.{IsRead-start, IsRead-next, IsRead-end, bad_line, bad_end}

-- ---- decisions
abbrev Decided : Type 0 → Type 0
Decided P = P ⊎ (P → ⊥)

same_list : (xs ys : List ℕ) → Decided (xs ≡ ys)
same_list [] [] = inl refl
same_list [] (y ∷ ys) = inr (λ e. let l = ap length e in omega (arith, l))
same_list (x ∷ xs) [] = inr (λ e. let l = ap length e in omega (arith, l))
same_list (x ∷ xs) (y ∷ ys) = elim (cases_eq x y) [
  | inl head ↦ elim (same_list xs ys) [
    | inl tail ↦ inl (ap₂ (λ h t. h ∷ t) head tail)
    | inr other ↦ inr (λ e. let tail : xs ≡ ys = cc in other tail)
  ]
  | inr other ↦ inr (λ e. let head : x ≡ y = cc in other head)
]

-- one of finitely many numbers
module _ (P : ℕ → Type 0) (decide : (k : ℕ) → Decided (P k)) where
  some_below : (n : ℕ) → ((k : ℕ) × (k < n) × P k) ⊎ ((k : ℕ) → k < n → P k → ⊥)
  some_below zero = inr (λ k l p. omega (arith, l))
  some_below (suc n) = elim (decide n) [
    | inl p ↦ inl (n, omega arith, p)
    | inr none ↦ elim (some_below n) [
      | inl found ↦ inl (found.0, omega (arith, found.1), found.2)
      | inr before ↦ inr (λ k l p. elim (cases_lt k n) [
        | inl below ↦ before k below p
        | inr last ↦ let same : k ≡ n = omega (arith, l, last) in none (subst P same p)
      ])
    ]
  ]

-- a small degree
module _ (P : ℤ → Type 0) (decide : (z : ℤ) → Decided (P z)) where
  some_degree : ((z : ℤ) × IsSmallDegree z × P z) ⊎ ((z : ℤ) → IsSmallDegree z → P z → ⊥)
  some_degree = elim (some_below (λ k. P (pos k)) (λ k. decide (pos k)) 1001) [
    | inl found ↦ inl (pos found.0, small_pos found.0 found.1, found.2)
    | inr none ↦ elim (some_below (λ k. P (negsuc k)) (λ k. decide (negsuc k)) 1000) [
      | inl found ↦ inl (negsuc found.0, small_negsuc found.0 found.1, found.2)
      | inr less ↦ inr (no_degree none less)
    ]
  ]
    where
      small_pos : (k : ℕ) → k < 1001 → IsSmallDegree (pos k)
      small_pos k l = record { low = omega (arith, ints, l); high = omega (arith, ints, l) }

      small_negsuc : (k : ℕ) → k < 1000 → IsSmallDegree (negsuc k)
      small_negsuc k l = record { low = omega (arith, ints, l); high = omega (arith, ints, l) }

      no_degree : ((k : ℕ) → k < 1001 → P (pos k) → ⊥) → ((k : ℕ) → k < 1000 → P (negsuc k) → ⊥) → (z : ℤ)
          → IsSmallDegree z → P z → ⊥
      no_degree none less (pos k) small p = none k (let high = small.high in omega (arith, ints, high)) p
      no_degree none less (negsuc k) small p = less k (let low = small.low in omega (arith, ints, low)) p

-- ---- the kinds of lines
some_size : (line : List ℕ) → ((n : ℕ) × IsSmallSize n × (line ≡ size_line n))
    ⊎ ((n : ℕ) → IsSmallSize n → line ≢ size_line n)
some_size line = elim (some_below (λ k. line ≡ size_line (k + 2)) (λ k. same_list line (size_line (k + 2))) 5) [
  | inl found ↦ inl (found.0 + 2, small found.0 found.1, found.2)
  | inr none ↦ inr (λ n is e.
      let low = is.size.least in
      let high = is.small in
      let same : n ≡ (n - 2) + 2 = omega (arith, low) in
      none (n - 2) (omega (arith, low, high)) (e ∙ ap size_line same))
]
  where
    small : (k : ℕ) → k < 5 → IsSmallSize (k + 2)
    small k l = record { size = record { least = omega arith; greatest = omega (arith, l) }; small = omega (arith, l) }

some_marks : (word line : List ℕ) (n : ℕ) → ((x : List ℕ) × IsBijection n x × (line ≡ marks_line word x))
    ⊎ ((x : List ℕ) → IsBijection n x → line ≢ marks_line word x)
some_marks word line n =
    elim (some_below (λ s. line ≡ marks_line word (unrank n s)) (λ s. same_list line (marks_line word (unrank n s)))
    (factorial n)) [
      | inl found ↦ inl (unrank n found.0, IsBijection-unrank n found.0 found.1, found.2)
      | inr none ↦ inr (λ x is e. none (rank x) (rank-below n x is) (e ∙ ap (marks_line word)
          (sym (unrank-rank n x is))))
    ]

apart_marks : (o x : List ℕ) → ((k : ℕ) × (k < length o) × (slice_index o k ≡ slice_index x k))
    ⊎ ((k : ℕ) → k < length o → slice_index o k ≢ slice_index x k)
apart_marks o x = some_below (λ k. slice_index o k ≡ slice_index x k) (λ k. cases_eq (slice_index o k)
    (slice_index x k)) (length o)

some_degrees : (line : List ℕ) → ((d : ℤ × ℤ) × AreSmallDegrees d × (line ≡ degree_line d))
    ⊎ ((d : ℤ × ℤ) → AreSmallDegrees d → line ≢ degree_line d)
some_degrees line = elim (some_degree (λ m. (a : ℤ) × IsSmallDegree a × (line ≡ degree_line (m, a)))
    (λ m. some_second m)) [
      | inl found ↦ inl ((found.0, found.2.0), record { maslov = found.1; alexander = found.2.1 }, found.2.2)
      | inr none ↦ inr (λ d small e. none d.0 small.maslov (d.1, small.alexander, e))
    ]
  where
    some_second : (m : ℤ) → Decided ((a : ℤ) × IsSmallDegree a × (line ≡ degree_line (m, a)))
    some_second m = elim (some_degree (λ a. line ≡ degree_line (m, a)) (λ a. same_list line (degree_line (m, a)))) [
      | inl found ↦ inl found
      | inr none ↦ inr (λ found. none found.0 found.1 found.2)
    ]

-- what follows the first bytes
some_rest : (word line : List ℕ) → ((rest : List ℕ) × (line ≡ word ++ rest)) ⊎ ((rest : List ℕ) → line ≢ word ++ rest)
some_rest word line = elim (same_list line (word ++ drop (length word) line)) [
  | inl same ↦ inl (drop (length word) line, same)
  | inr other ↦ inr (λ rest e. other (e
      ∙ ap (λ r. word ++ r) (sym (ap (drop (length word)) e ∙ drop-append_seam word rest))))
]

module _ (n : ℕ) (word line : List ℕ) where
  abbrev SomeSet : Type 0
  SomeSet = ((z : Chain) × All (λ s. s < factorial n) (ranks z) × (line ≡ set_line word n z))
      ⊎ ((z : Chain) → All (λ s. s < factorial n) (ranks z) → line ≢ set_line word n z)

  -- a state stands first
  some_code : (rest : List ℕ) → ((s : ℕ) × (s < factorial n) × (rest ≡ state_bytes_of n s ++ drop (suc n) rest))
      ⊎ ((s : ℕ) (more : List ℕ) → s < factorial n → rest ≢ state_bytes_of n s ++ more)
  some_code rest = elim (some_below (λ s. rest ≡ state_bytes_of n s ++ drop (suc n) rest)
      (λ s. same_list rest (state_bytes_of n s ++ drop (suc n) rest)) (factorial n)) [
        | inl found ↦ inl found
        | inr none ↦ inr (λ s more below e. none s below (e ∙ ap (λ r. state_bytes_of n s ++ r)
            (sym (left s more below e))))
      ]
    where
      left : (s : ℕ) (more : List ℕ) → s < factorial n → rest ≡ state_bytes_of n s ++ more → drop (suc n) rest ≡ more
      left s more below e =
          ap (drop (suc n)) e ∙ ap (λ k. drop k (state_bytes_of n s ++ more)) (sym (length-state_bytes n s below))
          ∙ drop-append_seam (state_bytes_of n s) more

  set_from : (fuel : ℕ) (rest : List ℕ) (set : Chain) (least : ℕ) → IsReadSet n word line rest set least
      → length rest ≤ fuel → SomeSet
  set_from fuel [] set least read enough = let (is, e) = IsReadSet-end n word line set least read in inl (set, is, e)
  set_from zero (b ∷ bs) set least read enough = absurd (omega (arith, enough))
  set_from (suc fuel) (b ∷ bs) set least read enough = elim (some_code (b ∷ bs)) [
    | inl found ↦ elim (cases_lt found.0 least) [
      | inl under ↦ inr (λ z is e. no_set-not_above n word line (b ∷ bs) set least read z is e found.0
          (drop (suc n) (b ∷ bs)) found.1 found.2 under)
      | inr above ↦ set_from fuel (drop (suc n) (b ∷ bs)) (set ⊕ single found.0) (found.0 + 1)
          (IsReadSet-next n word line (b ∷ bs) (drop (suc n) (b ∷ bs)) set least found.0 read found.1 found.2 above)
          (omega (arith, enough, length-drop n bs))
    ]
    | inr none ↦ inr (λ z is e. no_set-no_code n word line (b ∷ bs) set least read z is e (omega arith) none)
  ]

  some_set : SomeSet
  some_set = elim (some_rest word line) [
    | inl found ↦ set_from (length found.0) found.0 nothing 0 (IsReadSet-start n word line found.0 found.1)
        (omega arith)
    | inr none ↦ inr (λ z is e. none _ e)
  ]

-- ---- what leads on
abbrev Leads : Place → List Cell → List ℕ → Type 0
Leads p ds line = ((q : Place) × (es : List Cell) × LeadsTo p ds line q es)
    ⊎ ((q : Place) (es : List Cell) → LeadsTo p ds line q es → ⊥)

leads-x : (o : List ℕ) (ds : List Cell) (line : List ℕ) → IsSmallSize (length o) → IsBijection (length o) o
    → Leads (XLine o) ds line
leads-x o ds line small is = elim (some_marks (codes "X") line (length o)) [
  | inl found ↦ elim (apart_marks o found.0) [
    | inl shared ↦ inr (λ q es leads. shares found.0 found.1 found.2 shared leads.0 leads.1 leads.2)
    | inr apart ↦ inl (
      NoCell (record { o = o; x = found.0 }),
      ds,
      (
        found.0,
        record {
          is_size = small.size;
          o = is;
          x = found.1;
          apart = apart;
        },
        found.2,
        refl,
        refl,
      ),
    )
  ]
  | inr none ↦ inr (λ q es leads. none leads.0 leads.1.x leads.2)
]
  where
    shares : (x : List ℕ) → IsBijection (length o) x → line ≡ marks_line (codes "X") x → (k : ℕ) × (k < length o)
        × (slice_index o k ≡ slice_index x k)
        → (y : List ℕ) → IsGrid (record { o = o; x = y }) → line ≡ marks_line (codes "X") y → ⊥
    shares x is_x e (k, l, same) y grid f =
        let one : y ≡ x = marks_line-injective (codes "X") y x (small_rows (length o) y grid.x small.size.greatest)
        (small_rows (length o) x is_x small.size.greatest) (sym f ∙ e) in
        grid.apart k l (same ∙ ap (λ r. slice_index r k) (sym one))

leads-no_cell : (g : Marks) (ds : List Cell) (line : List ℕ) → Leads (NoCell g) ds line
leads-no_cell g ds line = elim (same_list line (codes "end")) [
  | inl last ↦ inl (End g, ds, inl (last, refl, refl))
  | inr not_last ↦ elim (some_degrees line) [
    | inl found ↦ inl (InCell g (new_cell found.0), ds, inr (found.0, found.1, found.2, refl, refl))
    | inr no_degree ↦ inr (neither not_last no_degree)
  ]
]
  where
    neither : line ≢ codes "end" → ((d : ℤ × ℤ) → AreSmallDegrees d → line ≢ degree_line d)
        → (q : Place) (es : List Cell) → LeadsTo (NoCell g) ds line q es → ⊥
    neither not_last no_degree q es (inl (l, e, f)) = not_last l
    neither not_last no_degree q es (inr (d, small, l, e, f)) = no_degree d small l

are_none : (steps : List StepPair) → Decided (steps ≡ [])
are_none [] = inl refl
are_none (p ∷ ps) = inr (λ e. let l = ap length e in omega (arith, l))

is_true : (b : Bool) → Decided (IsTrue b)
is_true true = inl (search rules)
is_true false = inr (λ h. search rules)

leads-in_cell : (g : Marks) (c : Cell) (ds : List Cell) (line : List ℕ) → Leads (InCell g c) ds line
leads-in_cell g c ds line = elim (same_list line (codes "end")) [
  | inl last ↦ inl (End g, ds ++ c ∷ [], inl (last, refl, refl))
  | inr not_last ↦ elim (some_degrees line) [
    | inl found ↦ elim (is_true (stands_before c.at found.0)) [
      | inl after ↦ inl (
        InCell g (new_cell found.0),
        ds ++ c ∷ [],
        inr (inl (found.0, found.1, after, found.2, refl, refl)),
      )
      | inr before ↦ inr (λ q es leads. not_after g c ds line found.0 q es found.1 found.2 before leads)
    ]
    | inr no_degree ↦ elim (some_set (size g) (codes "step") line) [
      | inl found ↦ inl (InStep g c found.0, ds, inr (inr (inr (found.0, found.1, found.2, refl, refl))))
      | inr no_step ↦ elim (some_set (size g) (codes "cycle") line) [
        | inl found ↦ elim (are_none c.steps) [
          | inl none ↦ inl (InCycle g c found.0, ds, inr (inr (inl (found.0, found.1, none, found.2, refl, refl))))
          | inr some ↦ inr (none_leads not_last no_degree no_step (λ z is none e. some none))
        ]
        | inr no_cycle ↦ inr (none_leads not_last no_degree no_step (λ z is none e. no_cycle z is e))
      ]
    ]
  ]
]
  where
    none_leads : line ≢ codes "end" → ((d : ℤ × ℤ) → AreSmallDegrees d → line ≢ degree_line d)
        → ((z : Chain) → AreStates g z → line ≢ set_line (codes "step") (size g) z)
        → ((z : Chain) → AreStates g z → c.steps ≡ [] → line ≢ set_line (codes "cycle") (size g) z)
        → (q : Place) (es : List Cell) → LeadsTo (InCell g c) ds line q es → ⊥
    none_leads not_last no_degree no_step no_cycle q es (inl (l, e, f)) = not_last l
    none_leads not_last no_degree no_step no_cycle q es (inr (inl (d, small, after, l, e, f))) = no_degree d small l
    none_leads not_last no_degree no_step no_cycle q es (inr (inr (inl (z, states, none, l, e, f)))) =
        no_cycle z states none l
    none_leads not_last no_degree no_step no_cycle q es (inr (inr (inr (z, states, l, e, f)))) = no_step z states l

-- it is decided whether the line leads on
leads_on : (p : Place) (ds : List Cell) (line : List ℕ) → IsAt p ds → Leads p ds line
leads_on Start ds line at = elim (same_list line (codes "gridcert 1")) [
  | inl is ↦ inl (Size, ds, (is, refl, refl))
  | inr none ↦ inr (λ q es leads. none leads.0)
]
leads_on Size ds line at = elim (some_size line) [
  | inl found ↦ inl (OLine found.0, ds, (found.0, found.1, found.2, refl, refl))
  | inr none ↦ inr (λ q es leads. none leads.0 leads.1 leads.2)
]
leads_on (OLine n) ds line at = elim (some_marks (codes "O") line n) [
  | inl found ↦ inl (XLine found.0, ds, (found.0, found.1, found.2, refl, refl))
  | inr none ↦ inr (λ q es leads. none leads.0 leads.1 leads.2)
]
leads_on (XLine o) ds line at = leads-x o ds line at.0 at.1
leads_on (NoCell g) ds line at = leads-no_cell g ds line
leads_on (InCell g c) ds line at = leads-in_cell g c ds line
leads_on (InCycle g c z) ds line at = elim (some_set (size g) (codes "cocycle") line) [
  | inl found ↦ inl (InCell g (with_cycle c z found.0), ds, (found.0, found.1, found.2, refl, refl))
  | inr none ↦ inr (λ q es leads. none leads.0 leads.1 leads.2)
]
leads_on (InStep g c z) ds line at = elim (some_set (size g) (codes "probe") line) [
  | inl found ↦ inl (InCell g (with_step c z found.0), ds, (found.0, found.1, found.2, refl, refl))
  | inr none ↦ inr (λ q es leads. none leads.0 leads.1 leads.2)
]
leads_on (End g) ds line at = inr (λ q es leads. leads)

-- ---- the lines of a text
-- the bytes before the first line feed
some_line : (rest : List ℕ) → ((line : List ℕ) × (after : List ℕ) × (rest ≡ line ++ 10 ∷ after) × IsFree 10 line)
    ⊎ IsFree 10 rest
some_line [] = inr tt
some_line (b ∷ bs) = elim (cases_eq b 10) [
  | inl feed ↦ inl ([], bs, ap (λ c. c ∷ bs) feed, tt)
  | inr other ↦ elim (some_line bs) [
    | inl found ↦ inl (b ∷ found.0, found.1, ap (λ t. b ∷ t) found.2, (other, found.3))
    | inr free ↦ inr (other, free)
  ]
]

abbrev pub Answer : List ℕ → Type 0
Answer text = ((c : Certificate) × IsCertificate c × (text ≡ certificate_text c))
    ⊎ ((line : ℕ) × IsFirstBadLine text line)

-- where the text ends
at_end : (text : List ℕ) (p : Place) (ds : List Cell) (rest : List ℕ) (number : ℕ) → IsRead text p ds rest number
    → IsFree 10 rest → length text < 2 ^ 31 → Answer text
at_end text (End g) ds [] number read free short = let (is, same) = IsRead-end text g ds number read short in
    inl (record { grid = g; cells = ds }, is, same)
at_end text (End g) ds (b ∷ bs) number read free short =
    inr (
      number,
      bad_end text (End g) ds (b ∷ bs) number read free (λ h e none. let l = ap length none in
          omega (arith, l)) short,
    )
at_end text p ds rest number read free short =
    inr (number, bad_end text p ds rest number read free (λ h e none. absurd cc) short)

from_place : (fuel : ℕ) (text : List ℕ) (p : Place) (ds : List Cell) (rest : List ℕ) (number : ℕ)
    → IsRead text p ds rest number → length rest < fuel → length text < 2 ^ 31 → Answer text
from_place zero text p ds rest number read enough short = absurd (omega (arith, enough))
from_place (suc fuel) text p ds rest number read enough short = elim (some_line rest) [
  | inl found ↦ elim (leads_on p ds found.0 read.at) [
    | inl leads ↦ from_place fuel text leads.0 leads.1 found.1 (number + 1)
        (IsRead-next text p ds rest number read found.0 found.1 leads.0 leads.1 found.2 found.3 leads.2)
        (let long = ap length found.2 in omega (arith, long, enough, length-append found.0 (10 ∷ found.1))) short
    | inr none ↦ inr (number, bad_line text p ds rest number read found.0 found.1 found.2 found.3 none short)
  ]
  | inr free ↦ at_end text p ds rest number read free short
]

pub some_answer : (text : List ℕ) → length text ≤ 16777216 → Answer text
some_answer text short = from_place (suc (length text)) text Start [] text 1 (IsRead-start text) (omega arith)
    (omega (arith, short))
