-- The visit of the states in order, from one to the next.
use Rattle.std.proofs.Common.{◌≡◌, ℕ, ◌+◌, ◌<◌, Bool, true, false, not, List, length, refl, ap, ◌∙◌, arith}
use Rattle.std.specs.Prelude.{IsTrue, ◌↔◌}
use Rattle.state_rank.specs.States.{rank, unrank, factorial}
use Rattle.state_rank.proofs.RankLemmas.{length-unrank, rank-unrank}

-- while states are left, x is the state of the rank `code`
abbrev pub IsVisited : ℕ → ℕ → List ℕ → Type 0
IsVisited n code x = code < factorial n → x ≡ unrank n code

-- the state after a step, or the last state, if there is no step
pub visited-next : (n code : ℕ) (old new : List ℕ) (went : Bool) → code < factorial n → IsVisited n code old
    → (IsTrue went → new ≡ unrank (length old) (rank old + 1))
    → (IsTrue (not went) ↔ (rank old + 1 ≡ factorial (length old))) → IsVisited n (code + 1) new
visited-next n code old new went below visited steps last more =
    let old_is = visited below in
    let long : length old ≡ n = ap length old_is ∙ length-unrank n code below in
    let place : rank old ≡ code = ap rank old_is ∙ rank-unrank n code below in
    steps (by went last long place) ∙ (λ i. unrank (long i) (place i + 1))
  where
    by : (b : Bool) → (IsTrue (not b) ↔ (rank old + 1 ≡ factorial (length old))) → length old ≡ n → rank old ≡ code
        → IsTrue b
    by true last long place = refl
    by false last long place =
        let end : rank old + 1 ≡ factorial (length old) = last.0 refl in
        let bound : factorial (length old) ≡ factorial n = ap factorial long in
        absurd (omega arith)
