-- The loops of the check of a certificate: sums over all states, the cell above, and the first test that fails.
use Rattle.std.proofs.Common.{◌≡◌, ℕ, zero, suc, ◌+◌, ◌-◌, ◌<◌, ◌≤◌, Bool, true, false, not, cond, ◌&&◌, List, [], ◌∷◌, ◌++◌, length, map, take, drop, get_or, ℤ, refl, sym, ap, ap₂, subst, ◌∙◌, arith, add-one, drop-cons, length-drop}
use mir.Val.{bool_byte}
use Rattle.std.specs.List.{list_all, filter}
use Rattle.std.specs.declared.option.Option.{Option}
use Rattle.std.specs.declared.option.Option.TheVariants.{None, Some}
use Rattle.std.proofs.lemmas.List.{map-append, take_more, take_all, drop_all}
use Rattle.std.proofs.lemmas.List.Folds.{list_all-append, list_all-map}
use Rattle.f2_algebra.specs.Certificate.{CyclePair, StepPair}
use Rattle.f2_algebra.specs.Chain.{Chain, pairs_oddly}
use Rattle.state_rank.specs.Bijection.{ascending}
use Rattle.torus_geom.specs.Counts.{all_below}
use Rattle.torus_geom.proofs.Sums.TabulateLemmas.{tabulate-suc, length-filter-ascending}
use Rattle.torus_geom.specs.Marks.{Marks}
use Rattle.homology_cert.specs.CertificateCodes.{Cell, Certificate}
use Rattle.homology_cert.specs.Inner.CodeCertificates.{entry_count}
use Rattle.torus_geom.specs.Inner.CodeBorder.{border}
use Rattle.homology_cert.specs.Inner.CodeTests.{none_missing, verdict_of}
use Rattle.homology_cert.specs.Inner.Questions.{Question, first_failing, cycle_pair_questions, cycle_questions, step_pair_questions, step_questions, cell_questions, all_questions, questions, verdict_of_first}
use Rattle.homology_cert.specs.Inner.Checks.{step_borders}
use Rattle.homology_cert.specs.Inner.Questions.{at_entry}
use Rattle.homology_cert.proofs.Certified.NumberLemmas.{or_later, first_failing-append, verdict_of-questions}
use Rattle.homology_cert.specs.declared.verdicts.CertTest.{CertTest}
use Rattle.homology_cert.specs.declared.verdicts.CertTest.TheVariants.{Missing}
use Rattle.homology_cert.specs.declared.verdicts.CertVerdict.TheVariants.{Yes, No}

-- ---- all numbers below n
pub map-ascending : {A : Type 0} (f : ℕ → A) (n : ℕ) → map f (ascending (n + 1)) ≡ map f (ascending n) ++ f n ∷ []
map-ascending f n = ap (λ k. map f (ascending k)) (add-one n) ∙ ap (map f) (tabulate-suc n (λ c. c))
    ∙ map-append f (ascending n) (n ∷ [])

-- a test of the values below n, as a list and one by one
pub list_all-values : {A : Type 0} (p : A → Bool) (f : ℕ → A) (n : ℕ)
    → list_all p (map f (ascending n)) ≡ all_below n (λ s. p (f s))
list_all-values p f zero = refl
list_all-values p f (suc n) =
    ap (λ k. list_all p (map f (ascending k))) (sym (add-one n))
    ∙ ap (list_all p) (map-ascending f n)
    ∙ list_all-append p (map f (ascending n)) (f n ∷ [])
    ∙ ap₂ (λ a b. a && b) (list_all-values p f n) (one (p (f n)))
    ∙ turned (all_below n (λ s. p (f s))) (p (f n))
  where
    one : (b : Bool) → (b && true) ≡ b
    one true = refl
    one false = refl

    turned : (a b : Bool) → (a && b) ≡ (b && a)
    turned true true = refl
    turned true false = refl
    turned false true = refl
    turned false false = refl

-- a test that fails below n
pub ascending-count : (p : ℕ → Bool) (n : ℕ) → length (filter p (ascending n)) ≤ n
ascending-count p zero = omega arith
ascending-count p (suc n) =
    let more = length-filter-ascending p n in
    let rest = ascending-count p n in
    let here : length (filter p (ascending (n + 1))) ≤ n + 1 = omega (arith, at_most_one (p n)) in
    subst (λ m. length (filter p (ascending m)) ≤ m) (add-one n) here
  where
    at_most_one : (b : Bool) → cond b 1 0 ≤ 1
    at_most_one true = omega arith
    at_most_one false = omega arith

-- ---- slices
-- the slice from n on
pub slice_from : {A : Type 0} (n : ℕ) (xs : List A) → take (length xs - n) (drop n xs) ≡ drop n xs
slice_from n xs = take_all (length xs - n) (drop n xs) (omega (arith, length-drop n xs))

-- the slices before and after the k-th
pub slices_around : {A : Type 0} (k : ℕ) (xs : List A)
    → take k xs ++ take (length xs - (k + 1)) (drop (k + 1) xs) ≡ take k xs ++ drop (k + 1) xs
slices_around k xs = ap (λ ys. take k xs ++ ys) (slice_from (k + 1) xs)

-- ---- all pairs of a cell
pub first_failing-cycles : (g h : Marks) (d e : ℤ × ℤ) (n : ℕ) (xs ys : List CyclePair) → g ≡ h → d ≡ e → xs ≡ ys
    → first_failing (cycle_questions g d n [] xs) ≡ first_failing (cycle_questions h e n [] ys)
first_failing-cycles g h d e n xs ys p q r = λ i. first_failing (cycle_questions (p i) (q i) n [] (r i))

pub first_failing-steps : (g h : Marks) (d e : ℤ × ℤ) (n m : ℕ) (xs ys : List StepPair) → g ≡ h → d ≡ e
    → n ≡ m → xs ≡ ys
    → first_failing (step_questions g d n xs) ≡ first_failing (step_questions h e m ys)
first_failing-steps g h d e n m xs ys p q s r = λ i. first_failing (step_questions (p i) (q i) (s i) (r i))

-- what is asked of a list is asked of each of its values
pub step_borders-evenly : (g : Marks) (f : Chain) (pairs : List StepPair)
    → list_all (λ z. not (pairs_oddly z f)) (step_borders g pairs)
    ≡ list_all (λ (q : StepPair). not (pairs_oddly (border g q.step) f)) pairs
step_borders-evenly g f pairs = list_all-map (λ z. not (pairs_oddly z f)) (λ (q : StepPair). border g q.step) pairs

module _ (g : Marks) (d : ℤ × ℤ) where
  -- the cycle pairs from the k-th on
  pub cycle_questions-next : (n k : ℕ) (pairs : List CyclePair) (p : CyclePair) → k < length pairs
      → first_failing (cycle_questions g d n (take k pairs) (drop k pairs))
      ≡ or_later (first_failing (cycle_pair_questions g d n (get_or pairs k p) (take k pairs ++ drop (k + 1) pairs)))
      (first_failing (cycle_questions g d (n + 1) (take (k + 1) pairs) (drop (k + 1) pairs)))
  cycle_questions-next n k pairs p within =
      let first = drop-cons pairs k p within ∙ ap (λ j. get_or pairs k p ∷ drop j pairs) (sym (add-one k)) in
      ap (λ later. first_failing (cycle_questions g d n (take k pairs) later)) first
      ∙ first_failing-append (cycle_pair_questions g d n (get_or pairs k p) (take k pairs ++ drop (k + 1) pairs))
      (cycle_questions g d (n + 1) (take k pairs ++ get_or pairs k p ∷ []) (drop (k + 1) pairs))
      ∙ ap (λ earlier. or_later (first_failing (cycle_pair_questions g d n (get_or pairs k p)
      (take k pairs ++ drop (k + 1) pairs)))
      (first_failing (cycle_questions g d (n + 1) earlier (drop (k + 1) pairs)))) (sym (take_more pairs k p within))

  -- the step pairs from the k-th on
  pub step_questions-next : (n k : ℕ) (pairs : List StepPair) (p : StepPair) → k < length pairs
      → first_failing (step_questions g d n (drop k pairs))
      ≡ or_later (first_failing (step_pair_questions g d n (get_or pairs k p) (drop (k + 1) pairs)))
      (first_failing (step_questions g d (n + 1) (drop (k + 1) pairs)))
  step_questions-next n k pairs p within =
      let first = drop-cons pairs k p within ∙ ap (λ j. get_or pairs k p ∷ drop j pairs) (sym (add-one k)) in
      ap (λ later. first_failing (step_questions g d n later)) first
      ∙ first_failing-append (step_pair_questions g d n (get_or pairs k p) (drop (k + 1) pairs))
      (step_questions g d (n + 1) (drop (k + 1) pairs))

-- an entry that fails is the first that does, and one that passes hands on to the next
pub first_failing-here : (n : ℕ) (failure : Option CertTest) (test : CertTest)
    (first later whole : Option (ℕ × CertTest))
    → failure ≡ Some test → at_entry n failure ≡ first → whole ≡ or_later first later → Some (n, test) ≡ whole
first_failing-here n failure test first later whole is told e =
    sym (e ∙ ap (λ f. or_later f later) (sym told ∙ ap (at_entry n) is))

pub first_failing-later : (n : ℕ) (failure : Option CertTest) (first later whole : Option (ℕ × CertTest))
    → failure ≡ None → at_entry n failure ≡ first → whole ≡ or_later first later → whole ≡ later
first_failing-later n failure first later whole is told e =
    e ∙ ap (λ f. or_later f later) (sym told ∙ ap (at_entry n) is)

-- one more that passes
pub counted : (p : ℕ → Bool) (n k one : ℕ) (b : Bool) → k ≡ length (filter p (ascending n)) → b ≡ p n
    → one ≡ bool_byte b → k + one ≡ length (filter p (ascending (n + 1)))
counted p n k one b so_far is told = so_far_and (length-filter-ascending p n)
  where
    as_number : (t : Bool) → bool_byte t ≡ cond t 1 0
    as_number true = refl
    as_number false = refl

    so_far_and : length (filter p (ascending (n + 1))) ≡ length (filter p (ascending n)) + cond (p n) 1 0
        → k + one ≡ length (filter p (ascending (n + 1)))
    so_far_and more = ap₂ ◌+◌ so_far (told ∙ as_number b ∙ ap (λ t. cond t 1 0) is) ∙ sym more

-- a probe is asked of the borders of steps
pub is_probe-steps : (g : Marks) (f h own y : Chain) (later : List Chain) (pairs : List StepPair) → f ≡ h → own ≡ y
    → later ≡ step_borders g pairs
    → (pairs_oddly own f && list_all (λ z. not (pairs_oddly z f)) later)
    ≡ (pairs_oddly y h && list_all (λ (q : StepPair). not (pairs_oddly (border g q.step) h)) pairs)
is_probe-steps g f h own y later pairs same_probe same told =
    ap (λ k. pairs_oddly own k && list_all (λ u. not (pairs_oddly u k)) later) same_probe
    ∙ ap₂ (λ z zs. pairs_oddly z h && list_all (λ u. not (pairs_oddly u h)) zs) same told
    ∙ ap (λ b. pairs_oddly y h && b) (step_borders-evenly g h pairs)

-- the second of two tests decides, if the first is passed
pub second_fails : {A : Type 0} (a b : Bool) (x y : Option A) → a ≡ true → b ≡ false → x ≡ cond a (cond b None x) y
second_fails a b x y h i = sym (ap₂ (λ s t. cond s (cond t None x) y) h i)

pub both_pass : {A : Type 0} (a b : Bool) (x y : Option A) → a ≡ true → b ≡ true → None ≡ cond a (cond b None x) y
both_pass a b x y h i = sym (ap₂ (λ s t. cond s (cond t None x) y) h i)

-- the pairs of a cell: the cycle pairs, and then the step pairs
pub cell_fails : (other : Option (ℕ × CertTest)) (a : Bool) (failure : ℕ × CertTest) (cycles steps : List Question)
    → a ≡ true → Some failure ≡ first_failing cycles
    → Some failure ≡ cond a (first_failing (cycles ++ steps)) other
cell_fails other a failure cycles steps h told =
    sym (ap (λ t. cond t (first_failing (cycles ++ steps)) other) h ∙ first_failing-append cycles steps
    ∙ ap (λ f. or_later f (first_failing steps)) (sym told))

pub cell_goes_on : (other : Option (ℕ × CertTest)) (a : Bool) (failure : Option (ℕ × CertTest))
    (cycles steps : List Question) → a ≡ true → None ≡ first_failing cycles → failure ≡ first_failing steps
    → failure ≡ cond a (first_failing (cycles ++ steps)) other
cell_goes_on other a failure cycles steps h passed told =
    told ∙ sym (ap (λ t. cond t (first_failing (cycles ++ steps)) other) h ∙ first_failing-append cycles steps
    ∙ ap (λ f. or_later f (first_failing steps)) (sym passed))

-- ---- all cells
abbrev last_number : Certificate → ℕ × CertTest
last_number c = (entry_count c.cells + 1, Missing)

abbrev last_question : Certificate → List Question
last_question c = record { entry = entry_count c.cells + 1; test = Missing; passes = none_missing c } ∷ []

module _ (c : Certificate) where
  -- the cells from the k-th on
  pub all_questions-next : (n k : ℕ) (cells : List Cell) (d : Cell) → k < length cells
      → first_failing (all_questions c n (drop k cells))
      ≡ or_later (first_failing (cell_questions c n (get_or cells k d)))
      (first_failing (all_questions c (n + (1 + length (get_or cells k d).cycles + length (get_or cells k d).steps))
      (drop (k + 1) cells)))
  all_questions-next n k cells d within =
      let cell = get_or cells k d in
      let first = drop-cons cells k d within ∙ ap (λ j. cell ∷ drop j cells) (sym (add-one k)) in
      ap (λ later. first_failing (all_questions c n later)) first
      ∙ first_failing-append (cell_questions c n cell)
      (all_questions c (n + (1 + length cell.cycles + length cell.steps)) (drop (k + 1) cells))

  -- past all cells, none has failed
  pub passed_cells : (n k : ℕ) (cells : List Cell) → cells ≡ c.cells → length cells ≤ k
      → first_failing (all_questions c 1 cells) ≡ first_failing (all_questions c n (drop k cells))
      → None ≡ first_failing (all_questions c 1 c.cells)
  passed_cells n k cells same past passed =
      sym (ap (λ (ds : List Cell). first_failing (all_questions c 1 ds)) (sym same) ∙ passed
      ∙ ap (λ (ds : List Cell). first_failing (all_questions c n ds)) (drop_all k cells past))

  -- if a cell fails, it is the first that does
  pub verdict_of-no : (failure : ℕ × CertTest) → Some failure ≡ first_failing (all_questions c 1 c.cells)
      → No failure.0 failure.1 ≡ verdict_of c
  unfolding questions
  verdict_of-no failure told =
      sym (verdict_of-questions c ∙ ap verdict_of_first (first_failing-append (all_questions c 1 c.cells) _
      ∙ ap (λ f. or_later f (first_failing (last_question c))) (sym told)))

  -- if no cell fails, the last question decides
  verdict_of-last : None ≡ first_failing (all_questions c 1 c.cells)
      → verdict_of c ≡ verdict_of_first (first_failing (last_question c))
  unfolding questions
  verdict_of-last told =
      verdict_of-questions c
      ∙ ap verdict_of_first (first_failing-append (all_questions c 1 c.cells) (last_question c)
      ∙ ap (λ f. or_later f (first_failing (last_question c))) (sym told))

  pub verdict_of-yes : None ≡ first_failing (all_questions c 1 c.cells) → none_missing c ≡ true → Yes ≡ verdict_of c
  verdict_of-yes told passes =
      sym (verdict_of-last told ∙ ap (λ b. verdict_of_first (cond b None (Some (last_number c)))) passes)

  pub verdict_of-missing : None ≡ first_failing (all_questions c 1 c.cells) → none_missing c ≡ false
      → No (entry_count c.cells + 1) Missing ≡ verdict_of c
  verdict_of-missing told fails =
      sym (verdict_of-last told ∙ ap (λ b. verdict_of_first (cond b None (Some (last_number c)))) fails)
