-- A text that is read line by line: if it is refused, the line is its first bad line.
--
-- A line feed ends a line and stands in none, so a text has its lines in one way. A certificate whose first lines are
-- those that were read leads to the place that the reader is at, and on along the next line; so if no line leads on,
-- or the text ends, no certificate has one line more.
use Rattle.std.proofs.Common.{◌≡◌, ℕ, ◌+◌, ◌<◌, ◌≤◌, ◌^◌, List, [], ◌∷◌, ◌++◌, length, take, drop, Result, Ok, Err, IfOk, inl, inr, refl, sym, ap, subst, ◌∙◌, arith, append_assoc, length-append}
use Rattle.std.proofs.lemmas.Bool.{cases_lt}
use Rattle.std.proofs.lemmas.List.{append-nil, take-append-drop, take-take, length-take}
use Rattle.std.proofs.Math.Seq.{take-append_seam}
use Rattle.torus_geom.specs.Marks.{Marks}
use Rattle.homology_cert.specs.CertificateCodes.{Cell, Certificate}
use Rattle.homology_cert.specs.Inner.CodeCertificates.{IsCertificate}
use Rattle.homology_cert.specs.Inner.CodeText.{certificate_lines, certificate_text, HasFirstLines, IsFirstBadLine}
use Rattle.homology_cert.specs.CertificateText.{text_of_lines}
use Rattle.homology_cert.specs.Inner.Reading.{LeadsTo, LinesLead, lines_at, IsFree, AreFree, IsRead}
use Rattle.homology_cert.specs.declared.places.Place.{Place}
use Rattle.homology_cert.specs.declared.places.Place.TheVariants.{Start, End}
use Rattle.homology_cert.proofs.Texts.TextLemmas.{text_of_lines-append}
use Rattle.homology_cert.proofs.Texts.PathLemmas.{path-append, path-parts, path_of_certificate}
use Rattle.homology_cert.proofs.Texts.CompletionLemmas.{completed, completed-end}
use Rattle.homology_cert.proofs.Texts.ClosedLemmas.{is_at-next}
use Rattle.homology_cert.proofs.Texts.FreeLemmas.{free_lines-append, every_take, text-cons, first_lines, no_text, not_free, lines_bound, path-one, free-certificate, lines_of_text}

-- ---- what was read
pub IsRead-start : (text : List ℕ) → IsRead text Start [] text 1
IsRead-start text = record { at = refl; path = (refl, refl); free = tt; begins = refl; counted = refl }

module _ (text : List ℕ) (p : Place) (ds : List Cell) (rest : List ℕ) (number : ℕ) (read : IsRead text p ds rest number)
  where
    abbrev lines : List (List ℕ)
    lines = lines_at p ds

    -- one more line
    pub IsRead-next : (line after : List ℕ) (q : Place) (es : List Cell) → rest ≡ line ++ 10 ∷ after → IsFree 10 line
        → LeadsTo p ds line q es → IsRead text q es after (number + 1)
    IsRead-next line after q es split free leads =
        let (at, more) = is_at-next p ds line q es read.at leads in
        record {
          at = at;
          path = subst (λ (ls : List (List ℕ)). LinesLead Start [] ls q es) (sym more)
              (path-append Start p q [] ds es lines (line ∷ []) read.path (q, es, leads, (refl, refl)));
          free = subst AreFree (sym more) (free_lines-append lines (line ∷ []) read.free (free, tt));
          begins = read.begins ∙ ap (λ r. text_of_lines lines ++ r) (split ∙ sym (append_assoc line (10 ∷ []) after))
              ∙ sym (ap (λ ls. text_of_lines ls ++ after) more ∙ ap (λ t. t ++ after)
              (text_of_lines-append lines (line ∷ []) ∙ ap (λ t. text_of_lines lines ++ t)
              (append-nil (line ++ 10 ∷ []))) ∙ append_assoc (text_of_lines lines) (line ++ 10 ∷ []) after);
          counted = let long = ap length more in omega (arith, read.counted, long, length-append lines (line ∷ []));
        }

    -- the lines before are the first of some certificate
    first_of_some : length text < 2 ^ 31 → HasFirstLines text (length lines)
    first_of_some short =
        let few : length lines < 2 ^ 31 = omega (arith, short, ap length read.begins, lines_bound lines rest) in
        let (c, is, more, e) = completed p ds read.at few in
        record {
          certificate = c;
          is_one = is;
          long = let long = ap length e in omega (arith, long, length-append lines more);
          rest = rest;
          begins = read.begins ∙ ap (λ ls. text_of_lines ls ++ rest) (sym (ap (take (length lines)) e
              ∙ take-append_seam lines more));
        }

    -- a certificate with these first lines leads to the place, and on along its next line
    next_of : (c : Certificate) → IsCertificate c → (more : List (List ℕ)) → certificate_lines c ≡ lines ++ more
        → LinesLead p ds more (End c.grid) c.cells
    next_of c is more e =
        let whole = subst (λ (ls : List (List ℕ)). LinesLead Start [] ls (End c.grid) c.cells) e
        (path_of_certificate c is) in
        let (q, es, first, second) = path-parts Start (End c.grid) [] c.cells lines more whole in
        let (same, same_cells) = path-one Start q p [] es ds lines refl first read.path in
        subst (λ (o : Place). LinesLead o ds more (End c.grid) c.cells) same
        (subst (λ (fs : List Cell). LinesLead q fs more (End c.grid) c.cells) same_cells second)

    -- ---- a line that leads nowhere
    module _ (line after : List ℕ) (split : rest ≡ line ++ 10 ∷ after) (free : IsFree 10 line)
        (none : (q : Place) (es : List Cell) → LeadsTo p ds line q es → ⊥) where
      abbrev one_more : List (List ℕ)
      one_more = lines ++ line ∷ []

      begins_more : text ≡ text_of_lines one_more ++ after
      begins_more =
          read.begins ∙ ap (λ r. text_of_lines lines ++ r) (split ∙ sym (append_assoc line (10 ∷ []) after))
          ∙ sym (append_assoc (text_of_lines lines) (line ++ 10 ∷ []) after)
          ∙ ap (λ t. t ++ after) (sym (text_of_lines-append lines (line ∷ [])
          ∙ ap (λ t. text_of_lines lines ++ t) (append-nil (line ++ 10 ∷ []))))

      -- no certificate has it after the lines before
      nowhere : (c : Certificate) → IsCertificate c → (more : List (List ℕ)) → certificate_lines c ≡ one_more ++ more
          → ⊥
      nowhere c is more e =
          let (q, es, leads, rest_path) = next_of c is (line ∷ more) (e ∙ append_assoc lines (line ∷ []) more) in
          none q es leads

      free_more : AreFree one_more
      free_more = free_lines-append lines (line ∷ []) read.free (free, tt)

      -- no text of a certificate begins with it too
      no_first_lines : (c : Certificate) → IsCertificate c → (k : ℕ) (tail : List ℕ)
          → text ≡ text_of_lines (take k (certificate_lines c)) ++ tail
          → length one_more ≤ length (take k (certificate_lines c)) → ⊥
      no_first_lines c is k tail e long =
          let ms = take k (certificate_lines c) in
          let (more, same, _) = first_lines one_more ms after tail free_more
          (every_take k (certificate_lines c) (free-certificate c is)) (sym begins_more ∙ e) long in
          nowhere c is (more ++ drop k (certificate_lines c)) (sym (take-append-drop k (certificate_lines c))
          ∙ ap (λ ls. ls ++ drop k (certificate_lines c)) same ∙ append_assoc one_more more
          (drop k (certificate_lines c)))

      pub bad_line : length text < 2 ^ 31 → IsFirstBadLine text number
      bad_line short = record {
        none = λ c is e. no_certificate c is e;
        before = (length lines, sym read.counted, first_of_some short);
        bad = λ h. no_first_lines h.certificate h.is_one number h.rest h.begins
            (omega (
              arith,
              read.counted,
              length-append lines (line ∷ []),
              length-take number (certificate_lines h.certificate),
              h.long,
            ));
      }
        where
          no_certificate : (c : Certificate) → IsCertificate c → text ≡ certificate_text c → ⊥
          no_certificate c is e =
              let (more, same, _) = lines_of_text text c is e one_more after free_more begins_more in
              nowhere c is more same

    -- ---- a text that ends too early
    module _ (free : IsFree 10 rest) (open_end : (g : Marks) → p ≡ End g → rest ≡ [] → ⊥) where
      pub bad_end : length text < 2 ^ 31 → IsFirstBadLine text number
      bad_end short = record {
        none = λ c is e. no_certificate c is e;
        before = (length lines, sym read.counted, first_of_some short);
        bad = λ h. no_more h;
      }
        where
          no_certificate : (c : Certificate) → IsCertificate c → text ≡ certificate_text c → ⊥
          no_certificate c is e =
              let (more, same, left) = lines_of_text text c is e lines rest read.free read.begins in
              by_more c is more same left
            where
              by_more : (c : Certificate) → IsCertificate c → (more : List (List ℕ))
                  → certificate_lines c ≡ lines ++ more
                  → rest ≡ text_of_lines more → ⊥
              by_more c is [] same left = open_end c.grid (next_of c is [] same).0 left
              by_more c is (l ∷ ls) same left = not_free l (text_of_lines ls)
                  (subst (IsFree 10) (left ∙ append_assoc l (10 ∷ []) (text_of_lines ls)) free)

          no_more : HasFirstLines text number → ⊥
          no_more h =
              let ms = take number (certificate_lines h.certificate) in
              let long : length lines + 1 ≡ length ms =
              omega (arith, read.counted, length-take number (certificate_lines h.certificate), h.long) in
              let (more, same, left) = first_lines lines ms rest h.rest read.free
              (every_take number (certificate_lines h.certificate) (free-certificate h.certificate h.is_one))
              (sym read.begins ∙ h.begins) (omega (arith, long)) in
              by_more ms h.rest more long same left
            where
              by_more : (ms : List (List ℕ)) (tail : List ℕ) (more : List (List ℕ)) → length lines + 1 ≡ length ms
                  → ms ≡ lines ++ more → rest ≡ text_of_lines more ++ tail → ⊥
              by_more ms tail [] long same left = let l = ap length same in
                  omega (arith, long, l, length-append lines [])
              by_more ms tail (l ∷ ls) long same left = not_free l (text_of_lines ls ++ tail)
                  (subst (IsFree 10) (left ∙ text-cons l ls tail) free)

-- past the last line, with nothing left, the text is that of the certificate
pub IsRead-end : (text : List ℕ) (g : Marks) (ds : List Cell) (number : ℕ) → IsRead text (End g) ds [] number
    → length text < 2 ^ 31
    → IsCertificate (record { grid = g; cells = ds }) × (text ≡ certificate_text (record { grid = g; cells = ds }))
IsRead-end text g ds number read short =
    let few : length (lines_at (End g) ds) < 2 ^ 31 =
    omega (arith, short, ap length read.begins, lines_bound (lines_at (End g) ds) []) in
    let (is, lines) = completed-end g ds read.at few in
    (is, read.begins ∙ append-nil (text_of_lines (lines_at (End g) ds)) ∙ sym (ap text_of_lines lines))

pub IsRead-whole : (text : List ℕ) (p : Place) (ds : List Cell) (rest : List ℕ) (number : ℕ)
    → IsRead text p ds rest number → length text < 2 ^ 31 → (g : Marks) → p ≡ End g → rest ≡ []
    → IsCertificate (record { grid = g; cells = ds }) × (text ≡ certificate_text (record { grid = g; cells = ds }))
IsRead-whole text p ds rest number read short g same none =
    IsRead-end text g ds number (subst (λ (o : Place). IsRead text o ds [] number) same
    (subst (λ r. IsRead text p ds r number) none read)) short

-- the next line has no number above that of the bytes by more than one
pub number_bound : (text : List ℕ) (p : Place) (ds : List Cell) (rest : List ℕ) (number : ℕ)
    → IsRead text p ds rest number → number ≤ length text + 1
number_bound text p ds rest number read =
    omega (arith, read.counted, ap length read.begins, lines_bound (lines_at p ds) rest)

-- ---- one text, one certificate
pub one_certificate : (c d : Certificate) → IsCertificate c → IsCertificate d → certificate_text c ≡ certificate_text d
    → c ≡ d
one_certificate c d is_c is_d e =
    let (more, same, left) = lines_of_text (certificate_text d) c is_c (sym e) (certificate_lines d) []
    (free-certificate d is_d) (sym (append-nil (certificate_text d))) in
    by_more more same left
  where
    by_more : (more : List (List ℕ)) → certificate_lines c ≡ certificate_lines d ++ more → [] ≡ text_of_lines more
        → c ≡ d
    by_more [] same left =
        let first = subst (λ (ls : List (List ℕ)). LinesLead Start [] ls (End c.grid) c.cells) (same
        ∙ append-nil (certificate_lines d)) (path_of_certificate c is_c) in
        let (ends, cells) = path-one Start (End c.grid) (End d.grid) [] c.cells d.cells (certificate_lines d) refl first
        (path_of_certificate d is_d) in
        let grid : c.grid ≡ d.grid = cc in
        λ i. record { grid = grid i; cells = cells i }
    by_more (l ∷ ls) same left = no_text l ls [] (left ∙ sym (append-nil (text_of_lines (l ∷ ls))))

-- what was read is the certificate with the text
pub read_back : {E : Type 0} (text : List ℕ) (r : Result Certificate E) (c : Certificate) → IsCertificate c
    → text ≡ certificate_text c
    → IfOk r (λ d. IsCertificate d) → IfOk r (λ d. text ≡ certificate_text d) → IfOk r (λ d. d ≡ c)
read_back text (Err e) c is_c same is read = tt
read_back text (Ok d) c is_c same is read = one_certificate d c is is_c (sym read ∙ same)

-- ---- one first bad line
fewer_first_lines : (text : List ℕ) (j k : ℕ) → j ≤ k → HasFirstLines text k → HasFirstLines text j
fewer_first_lines text j k few h =
    let ls = certificate_lines h.certificate in
    record {
      certificate = h.certificate;
      is_one = h.is_one;
      long = omega (arith, few, h.long);
      rest = text_of_lines (drop j (take k ls)) ++ h.rest;
      begins = h.begins
          ∙ ap (λ t. t ++ h.rest) (ap text_of_lines (sym (take-append-drop j (take k ls))
          ∙ ap (λ ms. ms ++ drop j (take k ls)) (take-take j k ls few))
          ∙ text_of_lines-append (take j ls) (drop j (take k ls)))
          ∙ append_assoc (text_of_lines (take j ls)) (text_of_lines (drop j (take k ls))) h.rest;
    }

no_later_bad : (text : List ℕ) (k l : ℕ) → IsFirstBadLine text k → IsFirstBadLine text l → k < l → ⊥
no_later_bad text k l first second later =
    let (j, next, some) = second.before in
    first.bad (fewer_first_lines text k j (omega (arith, next, later)) some)

pub one_bad_line : (text : List ℕ) (k l : ℕ) → IsFirstBadLine text k → IsFirstBadLine text l → k ≡ l
one_bad_line text k l first second = elim (cases_lt k l) [
  | inl below ↦ absurd (no_later_bad text k l first second below)
  | inr above ↦ elim (cases_lt l k) [
    | inl below ↦ absurd (no_later_bad text l k second first below)
    | inr same ↦ omega (arith, above, same)
  ]
]
