-- What one cancelled arrow adds to a log, and why the cancelling of arrows ends: two live codes leave
-- each time.
use Rattle.std.proofs.Common.{◌≡◌, ℕ, zero, suc, ℤ, ◌+◌, ◌<◌, Bool, true, false, not, cond, ◌&&◌, ◌||◌, eqb, List, [], ◌∷◌, ◌++◌, Option, Some, None, is_some, refl, sym, ap, subst, ◌∙◌, arith}
use Rattle.std.specs.List.{All}
use Rattle.std.specs.FinMap as fin
use Rattle.std.proofs.lemmas.Bool.{false≢true}
use Rattle.std.proofs.lemmas.List.{map-append}
use Rattle.std.proofs.lemmas.List.Elements.{All-append}
use Rattle.f2_algebra.specs.Chain.{Chain, holds, nothing, of_codes, where_code}
use Rattle.f2_algebra.specs.Complex.{Complex, arrow}
use Rattle.f2_algebra.specs.Cancel.{Entry, IsEntry, IsLog, after, cancelled}
use Rattle.f2_algebra.specs.Slice.{Slice, slice_complex, degree_in, targets_in, IsReduced}
use Rattle.f2_algebra.proofs.Chains.Sets.{any-is, same_chain, holds-nothing, holds-of_codes, holds-where_code}
use Rattle.f2_algebra.proofs.Chains.Tables.{same}
use Rattle.cancel.specs.declared.logs.LogEntry.{LogEntry}
use Rattle.cancel.specs.Logs.{entry_of, log_of, HasEachOnce, IsPartlyCancelled}
use Rattle.f2_algebra.proofs.Chains.Cardinality.{cardinality, cardinality-without}

-- ---- one more entry
-- a log that stands, with an entry of what is left after it, stands
IsLog-push : {G : Type 0} (C : Complex G) (log : List Entry) (e : Entry) → IsLog C log → IsEntry (after C log) e
    → IsLog C (log ++ e ∷ [])
IsLog-push C [] e stands fits = (fits, tt)
IsLog-push C (d ∷ log) e stands fits = (stands.0, IsLog-push (cancelled C d.x d.y) log e stands.1 fits)

-- what is left after one more entry
after-push : {G : Type 0} (C : Complex G) (log : List Entry) (e : Entry)
    → after C (log ++ e ∷ []) ≡ cancelled (after C log) e.x e.y
after-push C [] e = refl
after-push C (d ∷ log) e = after-push (cancelled C d.x d.y) log e

-- cancelling the entries, in order, leads from the first slice to this one
pub record LeadsTo (first now : Slice) (entries : List LogEntry) : Type 0 where
  pub stands : IsLog (slice_complex first) (log_of entries)
  pub is_after : slice_complex now ≡ after (slice_complex first) (log_of entries)
  pub once : All HasEachOnce entries

-- no entry leads from a slice to itself
pub LeadsTo-none : (first : Slice) → LeadsTo first first []
LeadsTo-none first = record { stands = tt; is_after = refl; once = λ k d l. absurd (omega arith) }

-- one more entry leads on
pub LeadsTo-push : (first now next : Slice) (entries : List LogEntry) (e : LogEntry) → LeadsTo first now entries
    → IsEntry (slice_complex now) (entry_of e) → HasEachOnce e
    → slice_complex next ≡ cancelled (slice_complex now) e.x e.y
    → LeadsTo first next (entries ++ e ∷ [])
LeadsTo-push first now next entries e so_far fits once left = record {
  stands = subst (IsLog (slice_complex first)) (sym (map-append entry_of entries (e ∷ [])))
      (IsLog-push (slice_complex first) (log_of entries) (entry_of e) so_far.stands
      (subst (λ C. IsEntry C (entry_of e)) so_far.is_after fits));
  is_after = left ∙ ap (λ C. cancelled C e.x e.y) so_far.is_after
      ∙ sym (after-push (slice_complex first) (log_of entries) (entry_of e))
      ∙ ap (after (slice_complex first)) (sym (map-append entry_of entries (e ∷ [])));
  once = All-append HasEachOnce entries (e ∷ []) so_far.once alone;
}
  where
    alone : All HasEachOnce (e ∷ [])
    alone zero d l = once
    alone (suc k) d l = absurd (omega arith)

-- what is left when a log breaks off
pub LeadsTo_IsPartlyCancelled : (first now next : Slice) (entries : List LogEntry)
    → LeadsTo first now entries → next ≡ now
    → IsPartlyCancelled first next
LeadsTo_IsPartlyCancelled first now next entries so_far same = record {
  log = log_of entries;
  stands = so_far.stands;
  is_after = ap slice_complex same ∙ so_far.is_after;
}

-- if no arrow is left, the slice is reduced
pub LeadsTo_IsReduced : (first now : Slice) (entries : List LogEntry) → LeadsTo first now entries
    → ((s t : ℕ) → arrow (slice_complex now) s t ≡ false) → IsReduced first now (log_of entries)
LeadsTo_IsReduced first now entries so_far none = record {
  stands = so_far.stands;
  is_after = so_far.is_after;
  no_arrow = λ s. same_chain ((slice_complex now).targets s) nothing (λ t. none s t ∙ sym (holds-nothing t));
}

-- ---- fewer live codes
-- the live codes of a slice
abbrev pub live_codes : Slice → Chain
live_codes s = of_codes (fin.keys s)

-- how many they are
abbrev pub live_count : Slice → ℕ
live_count s = cardinality (live_codes s)

holds-live_codes : (s : Slice) (k : ℕ) → holds (live_codes s) k ≡ is_some ((slice_complex s).degree k)
holds-live_codes s k =
    holds-of_codes (fin.keys s) k ∙ sym (any-is k (fin.keys s)) ∙ sym (fin.contains_key-keys s k) ∙ by (fin.get s k)
  where
    by : (o : Option (ℤ × Chain)) → is_some o ≡ is_some (degree_in o)
    by None = refl
    by (Some v) = refl

-- a code that has an arrow is live
live_source : (s : Slice) (x y : ℕ) → arrow (slice_complex s) x y ≡ true → holds (live_codes s) x ≡ true
live_source s x y is = holds-live_codes s x ∙ by (fin.get s x) is
  where
    by : (o : Option (ℤ × Chain)) → holds (targets_in o) y ≡ true → is_some (degree_in o) ≡ true
    by None h = absurd (false≢true (sym (holds-nothing y) ∙ h))
    by (Some v) h = refl

-- if an arrow was cancelled, fewer codes are live
pub live_count_falls : (old new : Slice) (x y : ℕ) → arrow (slice_complex old) x y ≡ true
    → slice_complex new ≡ cancelled (slice_complex old) x y → live_count new < live_count old
live_count_falls old new x y is left =
    let without_x = where_code (λ t. not (eqb t x)) (live_codes old) in
    let without_both = where_code (λ t. not (eqb t y)) without_x in
    let both_left : live_codes new ≡ without_both = same_chain (live_codes new) without_both (λ k.
    holds-live_codes new k ∙ ap (λ C. is_some (C.degree k)) left
    ∙ left_out (eqb k x) (eqb k y) ((slice_complex old).degree k)
    ∙ ap (λ b. (b && not (eqb k x)) && not (eqb k y)) (sym (holds-live_codes old k))
    ∙ ap (λ b. b && not (eqb k y)) (sym (holds-where_code (λ t. not (eqb t x)) (live_codes old) k))
    ∙ sym (holds-where_code (λ t. not (eqb t y)) without_x k)) in
    let x_leaves : cardinality (live_codes old) ≡ cardinality without_x + 1 =
    cardinality-without (live_codes old) x ∙ ap (λ b. cardinality without_x + cond b 1 0) (live_source old x y is) in
    let y_leaves : cardinality without_x ≡ cardinality without_both + cond (holds without_x y) 1 0 =
    cardinality-without without_x y in
    let now : live_count new ≡ cardinality without_both = ap cardinality both_left in
    omega arith
  where
    left_out : (a b : Bool) (o : Option ℤ) → is_some (cond (a || b) None o) ≡ ((is_some o && not a) && not b)
    left_out true b o = sym (same 2 (λ s b. (s && false) && not b) (λ s b. false) refl (is_some o) b)
    left_out false true o = sym (same 1 (λ s. (s && true) && false) (λ s. false) refl (is_some o))
    left_out false false o = sym (same 1 (λ s. (s && true) && true) (λ s. s) refl (is_some o))
