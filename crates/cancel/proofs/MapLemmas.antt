-- What one entry of a log does to a chain, and the passes over the entries.
use Rattle.std.proofs.Common.{◌≡◌, ◌≢◌, ℕ, zero, suc, ◌+◌, ◌-◌, ◌<◌, ◌≤◌, Bool, true, false, not, cond, ◌&&◌, ◌||◌, eqb, List, [], ◌∷◌, ◌++◌, length, drop, get_or, AllPairs, refl, sym, ap, ap₂, ◌∙◌, append_assoc, add-one, arith, inl, inr}
use Rattle.std.proofs.Math.Seq.{drop-cons, drop-length}
use Rattle.std.proofs.lemmas.Bool.{eqb-true, false≢true, cases_Bool}
use Rattle.f2_algebra.specs.Chain.{Chain, holds, nothing, single, of_codes, ◌⊕◌, where_code, pairs_oddly}
use Rattle.f2_algebra.specs.Cancel.{Entry, is_one_of, without, rest_of_one, lift_of_one, pull_of_one, rest, lift, pull, correction}
use Rattle.f2_algebra.proofs.Chains.Tables.{◌⊻◌, same, xor-false}
use Rattle.f2_algebra.proofs.Chains.Sets.{any, same_chain, holds-single, holds-add, holds-where_code, IsApart, pairs_oddly-comm}
use Rattle.f2_algebra.proofs.Chains.Sums.{add_comm, add_assoc, add-nothing}
use Rattle.f2_algebra.proofs.Chains.Lists.{of_codes-cons, any-at}
use Rattle.f2_algebra.proofs.Cancelling.LogLemmas.{correction_by, correction-by}
use Rattle.cancel.specs.declared.logs.LogEntry.{LogEntry}
use Rattle.cancel.specs.Logs.{entry_of, log_of}
use Rattle.cancel.specs.Inner.Passes.{held, correction_by_marks}

-- ---- a list of codes, each once
none_in : (x : ℕ) (ys : List ℕ) → ((i : ℕ) → i < length ys → x ≢ get_or ys i 0) → any x ys ≡ false
none_in x [] others = refl
none_in x (y ∷ ys) others = elim (cases_Bool (eqb x y)) [
  | inl same ↦ absurd (others 0 (omega arith) (eqb-true x y same))
  | inr other ↦ ap₂ ◌||◌ other (none_in x ys (λ i l. others (suc i) (omega arith)))
]

-- codes that differ place by place are apart
pub IsApart-pairs : (xs : List ℕ) → AllPairs (λ b c. b ≢ c) xs → IsApart xs
IsApart-pairs [] once = tt
IsApart-pairs (x ∷ xs) once = (
  none_in x xs (λ i l. once 0 (suc i) 0 (omega arith) (omega arith)),
  IsApart-pairs xs (λ i j d l k. once (suc i) (suc j) d (omega arith) (omega arith)),
)

-- and codes that are apart differ place by place
pub pairs-IsApart : (xs : List ℕ) → IsApart xs → AllPairs (λ b c. b ≢ c) xs
pairs-IsApart [] apart i j d l k e = absurd (omega arith)
pairs-IsApart (x ∷ xs) apart i zero d l k e = absurd (omega arith)
pairs-IsApart (x ∷ xs) apart zero (suc j) d l k e =
    false≢true (sym apart.0 ∙ ap (λ y. any y xs) e ∙ any-at xs j d (omega arith))
pairs-IsApart (x ∷ xs) apart (suc i) (suc j) d l k e = pairs-IsApart xs apart.1 i j d (omega arith) (omega arith) e

-- the chain after each of the codes was toggled, in order
abbrev pub toggled_by : Chain → List ℕ → Chain
toggled_by z [] = z
toggled_by z (x ∷ xs) = toggled_by (z ⊕ single x) xs

-- it is the sum with the set of the codes
pub toggled-sum : (z : Chain) (xs : List ℕ) → IsApart xs → toggled_by z xs ≡ z ⊕ of_codes xs
toggled-sum z [] apart = sym (add-nothing z)
toggled-sum z (x ∷ xs) apart =
    toggled-sum (z ⊕ single x) xs apart.1
    ∙ add_assoc z (single x) (of_codes xs)
    ∙ ap (λ c. z ⊕ c) (sym (of_codes-cons x xs apart.0))

-- if none is ahead, all were toggled
pub toggled-all : (z w : Chain) (xs : List ℕ) (k : ℕ) → k ≡ length xs → AllPairs (λ b c. b ≢ c) xs
    → toggled_by w (drop k xs) ≡ toggled_by z xs → w ≡ z ⊕ of_codes xs
toggled-all z w xs k all once so_far =
    ap (toggled_by w) (sym (ap (λ n. drop n xs) all ∙ drop-length xs)) ∙ so_far
    ∙ toggled-sum z xs (IsApart-pairs xs once)

-- ---- a code taken out
at_code : (z : Chain) (s q : ℕ) (b : Bool) → holds z s ≡ b → (t : Bool) → eqb q s ≡ t
    → (holds z q ⊻ (b && t)) ≡ (holds z q && not t)
at_code z s q b e false n = ap (λ u. holds z q ⊻ u) (same 1 (λ u. u && false) (λ u. false) refl b)
    ∙ same 1 (λ u. u ⊻ false) (λ u. u && true) refl (holds z q)
at_code z s q b e true is =
    ap (λ u. u ⊻ (b && true)) (ap (holds z) (eqb-true q s is) ∙ e)
    ∙ same 1 (λ u. u ⊻ (u && true)) (λ u. u && false) refl b
    ∙ ap (λ u. u && false) (sym (ap (holds z) (eqb-true q s is) ∙ e))

-- toggling a code that is held takes it out
pub taken_out : (z : Chain) (s : ℕ) → holds z s ≡ true → z ⊕ single s ≡ where_code (λ t. not (eqb t s)) z
taken_out z s is = same_chain (z ⊕ single s) (where_code (λ t. not (eqb t s)) z) (λ q.
    holds-add z (single s) q ∙ ap (λ b. holds z q ⊻ b) (holds-single s q)
    ∙ at_code z s q true is (eqb q s) refl
    ∙ sym (holds-where_code (λ t. not (eqb t s)) z q))

-- a code that is not held need not be taken out
pub not_there : (z : Chain) (s : ℕ) → holds z s ≡ false → z ≡ where_code (λ t. not (eqb t s)) z
not_there z s is_not = same_chain z (where_code (λ t. not (eqb t s)) z) (λ q.
    sym (xor-false (holds z q))
    ∙ at_code z s q false is_not (eqb q s) refl
    ∙ sym (holds-where_code (λ t. not (eqb t s)) z q))

-- one code taken out, and then another
pub without-both : (x y : ℕ) (z : Chain)
    → where_code (λ t. not (eqb t y)) (where_code (λ t. not (eqb t x)) z) ≡ without x y z
without-both x y z =
    same_chain (where_code (λ t. not (eqb t y)) (where_code (λ t. not (eqb t x)) z)) (without x y z) (λ q.
    holds-where_code (λ t. not (eqb t y)) (where_code (λ t. not (eqb t x)) z) q
    ∙ ap (λ b. b && not (eqb q y)) (holds-where_code (λ t. not (eqb t x)) z q)
    ∙ same 3 (λ h a b. (h && not a) && not b) (λ h a b. h && not (a || b)) refl (holds z q) (eqb q x) (eqb q y)
    ∙ sym (holds-where_code (λ t. not (is_one_of x y t)) z q))

-- ---- one entry
module _ (e : Entry) (z u v : Chain) (x_out : u ≡ where_code (λ t. not (eqb t e.x)) z)
    (y_out : v ≡ where_code (λ t. not (eqb t e.y)) u) where
  both_out : v ≡ without e.x e.y z
  both_out = y_out ∙ ap (where_code (λ t. not (eqb t e.y))) x_out ∙ without-both e.x e.y z

  -- the rest, if y was held
  pub rest-held : (w : Chain) → holds z e.y ≡ true → w ≡ v ⊕ e.targets → w ≡ rest_of_one e z
  rest-held w is sum = sum ∙ ap₂ ◌⊕◌ both_out (ap (λ b. cond b e.targets nothing) (sym is))

  -- and if it was not
  pub rest-not_held : holds z e.y ≡ false → v ≡ rest_of_one e z
  rest-not_held is_not =
      both_out ∙ sym (ap (λ b. without e.x e.y z ⊕ cond b e.targets nothing) is_not ∙ add-nothing (without e.x e.y z))

  -- the pull, if the cochain meets the targets oddly
  pub pull-odd : (w : Chain) → pairs_oddly z e.targets ≡ true → w ≡ v ⊕ single e.y → w ≡ pull_of_one e z
  pull-odd w odd sum =
      sum ∙ ap₂ ◌⊕◌ both_out (ap (λ b. cond b (single e.y) nothing) (sym (pairs_oddly-comm e.targets z ∙ odd)))

  -- and if it meets them evenly
  pub pull-even : pairs_oddly z e.targets ≡ false → v ≡ pull_of_one e z
  pull-even even = both_out
      ∙ sym (ap (λ b. without e.x e.y z ⊕ cond b (single e.y) nothing) (pairs_oddly-comm e.targets z ∙ even)
      ∙ add-nothing (without e.x e.y z))

-- the lift, if the chain meets the sources oddly
pub lift-odd : (e : Entry) (z w : Chain) → pairs_oddly z e.sources ≡ true → w ≡ z ⊕ single e.x → w ≡ lift_of_one e z
lift-odd e z w odd sum = sum ∙ ap (λ b. z ⊕ cond b (single e.x) nothing) (sym odd)

-- and if it meets them evenly
pub lift-even : (e : Entry) (z : Chain) → pairs_oddly z e.sources ≡ false → z ≡ lift_of_one e z
lift-even e z even = sym (ap (λ b. z ⊕ cond b (single e.x) nothing) even ∙ add-nothing z)

-- ---- places of a list
-- the part of a list from the place before k
pub drop-back : {A : Type 0} (xs : List A) (k : ℕ) (d : A) → 0 < k → k ≤ length xs
    → drop (k - 1) xs ≡ get_or xs (k - 1) d ∷ drop k xs
drop-back xs k d some within =
    let next : suc (k - 1) ≡ k = omega arith in
    drop-cons xs (k - 1) d (omega arith) ∙ ap (λ n. get_or xs (k - 1) d ∷ drop n xs) next

-- the part of a list from k on
pub drop-here : {A : Type 0} (xs : List A) (k : ℕ) (d : A) → k < length xs → drop k xs ≡ get_or xs k d ∷ drop (k + 1) xs
drop-here xs k d within = drop-cons xs k d within ∙ ap (λ n. get_or xs k d ∷ drop n xs) (sym (add-one k))

-- ---- passes
-- the lift from the place before k
pub lift-back : (entries : List LogEntry) (k : ℕ) (d : LogEntry) (z w u : Chain) → 0 < k → k ≤ length entries
    → w ≡ lift (log_of (drop k entries)) z → u ≡ lift_of_one (entry_of (get_or entries (k - 1) d)) w
    → u ≡ lift (log_of (drop (k - 1) entries)) z
lift-back entries k d z w u some within so_far step =
    step ∙ ap (lift_of_one (entry_of (get_or entries (k - 1) d))) so_far
    ∙ ap (λ xs. lift (log_of xs) z) (sym (drop-back entries k d some within))

-- the pull from the place before k
pub pull-back : (entries : List LogEntry) (k : ℕ) (d : LogEntry) (f w u : Chain) → 0 < k → k ≤ length entries
    → w ≡ pull (log_of (drop k entries)) f → u ≡ pull_of_one (entry_of (get_or entries (k - 1) d)) w
    → u ≡ pull (log_of (drop (k - 1) entries)) f
pull-back entries k d f w u some within so_far step =
    step ∙ ap (pull_of_one (entry_of (get_or entries (k - 1) d))) so_far
    ∙ ap (λ xs. pull (log_of xs) f) (sym (drop-back entries k d some within))

-- the correction from the place before k
pub correction-back : (entries : List LogEntry) (marks : List Bool) (k : ℕ) (d : LogEntry) (w u v : Chain) (mark : Bool)
    → 0 < k → k ≤ length entries → length marks ≡ length entries
    → w ≡ correction_by_marks (log_of (drop k entries)) (drop k marks)
    → u ≡ lift_of_one (entry_of (get_or entries (k - 1) d)) w → get_or marks (k - 1) false ≡ mark
    → v ≡ u ⊕ cond mark (single (get_or entries (k - 1) d).x) nothing
    → v ≡ correction_by_marks (log_of (drop (k - 1) entries)) (drop (k - 1) marks)
correction-back entries marks k d w u v mark some within long so_far step at sum =
    sum
    ∙ ap₂ (λ a b. a ⊕ cond b (single (get_or entries (k - 1) d).x) nothing)
    (step ∙ ap (lift_of_one (entry_of (get_or entries (k - 1) d))) so_far) (sym at)
    ∙ ap₂ (λ xs bs. correction_by_marks (log_of xs) bs) (sym (drop-back entries k d some within))
    (sym (drop-back marks k false some (omega arith)))

-- the rest over the entries from k on
pub rest-on : (entries : List LogEntry) (k : ℕ) (d : LogEntry) (w u z : Chain) → k < length entries
    → rest (log_of (drop k entries)) w ≡ z → u ≡ rest_of_one (entry_of (get_or entries k d)) w
    → rest (log_of (drop (k + 1) entries)) u ≡ z
rest-on entries k d w u z within so_far step =
    ap (rest (log_of (drop (k + 1) entries))) step ∙ ap (λ xs. rest (log_of xs) w) (sym (drop-here entries k d within))
    ∙ so_far

-- and their marks
pub held-on : (entries : List LogEntry) (k : ℕ) (d : LogEntry) (w u : Chain) (marks more all : List Bool) (mark : Bool)
    → k < length entries → marks ++ held (log_of (drop k entries)) w ≡ all
    → u ≡ rest_of_one (entry_of (get_or entries k d)) w → mark ≡ holds w (get_or entries k d).y
    → more ≡ marks ++ mark ∷ [] → more ++ held (log_of (drop (k + 1) entries)) u ≡ all
held-on entries k d w u marks more all mark within so_far step is pushed =
    ap₂ (λ ms c. ms ++ held (log_of (drop (k + 1) entries)) c) (pushed ∙ ap (λ b. marks ++ b ∷ []) is) step
    ∙ append_assoc marks (holds w (get_or entries k d).y ∷ [])
    (held (log_of (drop (k + 1) entries)) (rest_of_one (entry_of (get_or entries k d)) w))
    ∙ ap (λ xs. marks ++ held (log_of xs) w) (sym (drop-here entries k d within))
    ∙ so_far

-- if no entry is ahead
pub none_ahead : (entries : List LogEntry) (k : ℕ) → k ≡ length entries → log_of (drop k entries) ≡ []
none_ahead entries k all = ap (λ n. log_of (drop n entries)) all ∙ ap log_of (drop-length entries)

-- ---- the correction
-- one mark an entry
pub length-held : (log : List Entry) (z : Chain) → length (held log z) ≡ length log
length-held [] z = refl
length-held (e ∷ log) z = ap suc (length-held log (rest_of_one e z))

correction-marks_by : (log : List Entry) (z : Chain) → correction_by_marks log (held log z) ≡ correction_by log z
correction-marks_by [] z = refl
correction-marks_by (e ∷ log) z =
    ap (λ c. lift_of_one e c ⊕ cond (holds z e.y) (single e.x) nothing) (correction-marks_by log (rest_of_one e z))
    ∙ add_comm (lift_of_one e (correction_by log (rest_of_one e z))) (cond (holds z e.y) (single e.x) nothing)

-- the marks that a chain leaves give its correction
pub correction-marks : (log : List Entry) (z : Chain) → correction_by_marks log (held log z) ≡ correction log z
correction-marks log z = correction-marks_by log z ∙ sym (correction-by log z)
