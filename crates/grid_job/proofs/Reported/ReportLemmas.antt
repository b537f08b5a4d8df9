-- A report written answer by answer.
-- Each script has a report: a front line and a border line are given, each grid has a table, and a hat or none, and
-- each chain has a verdict. So what was written after the first k commands can be completed to a report at any place.
use Rattle.std.proofs.Common.{◌≡◌, ℕ, zero, suc, ◌+◌, ◌<◌, ◌≤◌, List, [], ◌∷◌, ◌++◌, length, get_or, take, drop, Option, inl, inr, refl, sym, ap, subst, ◌∙◌, append_assoc, append-nil, drop-cons}
use Rattle.std.specs.Io.KnownBytes.{Appends}
use Rattle.std.proofs.lemmas.List.{take-append-drop, take_more, take_all}
use Rattle.torus_geom.specs.Marks.{Marks, size, IsGrid}
use Rattle.grid_text.specs.Commands.{IsAllowed}
use Rattle.grid_text.specs.Script.{AreAllowed, IsVersion}
use Rattle.grid_text.specs.declared.commands.Command.{Command}
use Rattle.grid_text.specs.declared.commands.Command.TheVariants as command
use Rattle.grid_text.proofs.Lines.ScriptLemmas.{IsGrid-grid_after}
use Rattle.grid_ports.specs.Bytes.{AppendsPrefix}
use Rattle.grid_ports.proofs.BytesLemmas.{Appends-none, Appends-append}
use Rattle.grid_job.specs.InForce.{InForce, after_command, after_commands}
use Rattle.grid_job.specs.Report.{IsAnswer, AreAnswers, IsRanksText, IsHatTextIn}
use Rattle.torus_geom.specs.Chains.{IsChain}
use Rattle.grid_euler.proofs.ExistenceLemmas.{exists_euler_table}
use Rattle.report_text.specs.Lines.{euler_lines}
use Rattle.grid_job.proofs.Reported.ChainLemmas.{IsChain-after_command}
use Rattle.grid_job.proofs.Reported.ClassLemmas.{exists_class_text, exists_bounds_text}
use Rattle.grid_job.proofs.Reported.ComponentLemmas.{exists_component_table, exists_component_hat_text}
use Rattle.grid_job.proofs.Reported.HatLemmas.{exists_corank_text, exists_table, exists_hat_text}

-- ---- each command has an answer
exists_ranks_text : (v : ℕ) → IsVersion v → (g : Marks) → IsGrid g → (text : List ℕ) × IsRanksText v g text
exists_ranks_text v (inl one) g grid = let (text, told) = exists_table g grid in (text, inl (one, told))
exists_ranks_text v (inr two) g grid = let (text, told) = exists_component_table g grid in (text, inr (two, told))

exists_hat_text_in : (v : ℕ) → IsVersion v → (g : Marks) → IsGrid g → (text : List ℕ) × IsHatTextIn v g text
exists_hat_text_in v (inl one) g grid = let (text, told) = exists_hat_text g grid in (text, inl (one, told))
exists_hat_text_in v (inr two) g grid = let (text, told) = exists_component_hat_text g grid in (text, inr (two, told))

exists_answer : (v : ℕ) → IsVersion v → (p : InForce) (c : Command) → IsGrid p.grid → IsChain (size p.grid) p.chain
    → (text : List ℕ) × IsAnswer v p c text
exists_answer v version p command.Front grid states = (_, refl)
exists_answer v version p command.Ranks grid states = exists_ranks_text v version p.grid grid
exists_answer v version p command.Hat grid states = exists_hat_text_in v version p.grid grid
exists_answer v version p (command.Class sign) grid states = exists_class_text p.grid grid sign
exists_answer v version p (command.Border x) grid states = (_, refl)
exists_answer v version p (command.Chain z) grid states = ([], refl)
exists_answer v version p command.Show grid states = (_, refl)
exists_answer v version p command.Bounds grid states = exists_bounds_text p.grid grid p.chain states
exists_answer v version p (command.Turn side) grid states = ([], refl)
exists_answer v version p (command.Commute axis c corner) grid states = ([], refl)
exists_answer v version p (command.Stab c empty) grid states = ([], refl)
exists_answer v version p (command.Destab c r empty) grid states = ([], refl)
exists_answer v version p (command.Invert axis c corner) grid states = (_, refl)
exists_answer v version p (command.Symm s) grid states = ([], refl)
exists_answer v version p command.Coranks grid states = exists_corank_text p.grid grid
exists_answer v version p command.Euler grid states =
    let (rows, numbers) = exists_euler_table p.grid grid in
    (euler_lines rows, record { rows = rows; numbers = numbers; lines = refl })

pub exists_answers : (v : ℕ) → IsVersion v → (p : InForce) (cs : List Command) → IsGrid p.grid
    → IsChain (size p.grid) p.chain → AreAllowed p.grid cs → (text : List ℕ) × AreAnswers v p cs text
exists_answers v version p [] grid states allowed = ([], refl)
exists_answers v version p (c ∷ cs) grid states allowed =
    let first = exists_answer v version p c grid states in
    let later = exists_answers v version (after_command p c) cs (IsGrid-grid_after p.grid c grid allowed.0)
    (IsChain-after_command p c grid states allowed.0) allowed.1 in
    (first.0 ++ later.0, (first.0, later.0, first.1, later.1, refl))

-- ---- answers in order
-- the answer to a command, if all three are told otherwise
pub IsAnswer-same : (v : ℕ) (p q : InForce) (c d : Command) (a b : List ℕ) → p ≡ q → c ≡ d → a ≡ b → IsAnswer v p c a
    → IsAnswer v q d b
IsAnswer-same v p q c d a b same_pair same_command same_text answer =
    subst (λ r. IsAnswer v r d b) same_pair
    (subst (λ e. IsAnswer v p e b) same_command (subst (IsAnswer v p c) same_text answer))

-- answers to some commands and then to others
AreAnswers-append : (v : ℕ) (p : InForce) (cs ds : List Command) (a b : List ℕ) → AreAnswers v p cs a
    → AreAnswers v (after_commands p cs) ds b → AreAnswers v p (cs ++ ds) (a ++ b)
AreAnswers-append v p [] ds a b first second = subst (λ t. AreAnswers v p ds (t ++ b)) (sym first) second
AreAnswers-append v p (c ∷ cs) ds a b first second = (
  first.0,
  first.1 ++ b,
  first.2,
  AreAnswers-append v (after_command p c) cs ds first.1 b first.3 second,
  ap (λ t. t ++ b) first.4 ∙ append_assoc first.0 first.1 b,
)

AreAnswers-single : (v : ℕ) (p : InForce) (c : Command) (a : List ℕ) → IsAnswer v p c a → AreAnswers v p (c ∷ []) a
AreAnswers-single v p c a answer = (a, [], answer, refl, sym (append-nil a))

after_commands-append : (p : InForce) (cs ds : List Command)
    → after_commands p (cs ++ ds) ≡ after_commands (after_commands p cs) ds
after_commands-append p [] ds = refl
after_commands-append p (c ∷ cs) ds = after_commands-append (after_command p c) cs ds

-- what is in force after the first k commands is a grid with a chain of its states, and what stands there is allowed
record StandsAt (p : InForce) (cs : List Command) : Type 0 where
  pub grid : IsGrid p.grid
  pub states : IsChain (size p.grid) p.chain
  pub allowed : AreAllowed p.grid cs

StandsAt-drop : (k : ℕ) (p : InForce) (cs : List Command) → StandsAt p cs
    → StandsAt (after_commands p (take k cs)) (drop k cs)
StandsAt-drop zero p cs h = h
StandsAt-drop (suc k) p [] h = h
StandsAt-drop (suc k) p (c ∷ cs) h =
    StandsAt-drop k (after_command p c) cs
    (record {
      grid = IsGrid-grid_after p.grid c h.grid h.allowed.0;
      states = IsChain-after_command p c h.grid h.states h.allowed.0;
      allowed = h.allowed.1;
    })

-- ---- the writer's place
-- answers to the first k commands were written, and this is in force after them
pub record IsPast (v : ℕ) (p : InForce) (cs : List Command) (k : ℕ) (now : InForce)
    (before written : Option (List ℕ)) : Type 0 where
  pub in_force : now ≡ after_commands p (take k cs)
  pub whole : List ℕ
  pub answers : AreAnswers v p (take k cs) whole
  pub appended : Appends before written whole

pub IsPast-none : (v : ℕ) (p now : InForce) (cs : List Command) (a : Option (List ℕ)) → now ≡ p
    → IsPast v p cs 0 now a a
IsPast-none v p now cs a e = record { in_force = e; whole = []; answers = refl; appended = Appends-none a }

module _ (v : ℕ) (p : InForce) (cs : List Command) (k : ℕ) where
  -- the command that stands next may stand there
  pub IsAllowed-next : (now : InForce) (d : Command) (a b : Option (List ℕ)) → IsGrid p.grid
      → IsChain (size p.grid) p.chain
      → AreAllowed p.grid cs → k < length cs
      → IsPast v p cs k now a b → IsAllowed now.grid (get_or cs k d)
  IsAllowed-next now d a b grid states allowed within past =
      let here = StandsAt-drop k p cs (record { grid = grid; states = states; allowed = allowed }) in
      let first = subst (AreAllowed (after_commands p (take k cs)).grid) (drop-cons cs k d within) here.allowed in
      subst (λ q. IsAllowed q.grid (get_or cs k d)) (sym past.in_force) first.0

  -- an answer to the next command was written too
  pub IsPast-next : (now next : InForce) (d : Command) (text : List ℕ) (a b c : Option (List ℕ)) → k < length cs
      → IsAnswer v now (get_or cs k d) text
      → next ≡ after_command now (get_or cs k d) → IsPast v p cs k now a b → Appends b c text
      → IsPast v p cs (k + 1) next a c
  IsPast-next now next d text a b c within answer followed past more = record {
    in_force = followed ∙ ap (λ q. after_command q (get_or cs k d)) past.in_force
        ∙ sym (after_commands-append p (take k cs) (get_or cs k d ∷ []))
        ∙ ap (after_commands p) (sym (take_more cs k d within));
    whole = past.whole ++ text;
    answers = subst (λ ds. AreAnswers v p ds (past.whole ++ text)) (sym (take_more cs k d within))
        (AreAnswers-append v p (take k cs) (get_or cs k d ∷ []) past.whole text past.answers
        (AreAnswers-single v (after_commands p (take k cs)) (get_or cs k d) text
        (subst (λ q. IsAnswer v q (get_or cs k d) text) past.in_force answer)));
    appended = Appends-append a b c past.whole text past.appended more;
  }

  -- past all commands, what was written is a report
  pub IsPast-all : (now : InForce) (a b : Option (List ℕ)) → length cs ≤ k → IsPast v p cs k now a b
      → (text : List ℕ) × AreAnswers v p cs text × Appends a b text
  IsPast-all now a b past_all past =
      (past.whole, subst (λ ds. AreAnswers v p ds past.whole) (take_all k cs past_all) past.answers, past.appended)

  -- anywhere, it is a prefix of a report
  pub IsPast-prefix : (now : InForce) (a b : Option (List ℕ)) → IsVersion v → IsGrid p.grid
      → IsChain (size p.grid) p.chain → AreAllowed p.grid cs → IsPast v p cs k now a b
      → (text : List ℕ) × AreAnswers v p cs text × AppendsPrefix a b text
  IsPast-prefix now a b version grid states allowed past =
      let here = StandsAt-drop k p cs (record { grid = grid; states = states; allowed = allowed }) in
      let rest =
      exists_answers v version (after_commands p (take k cs)) (drop k cs) here.grid here.states here.allowed in
      let all = AreAnswers-append v p (take k cs) (drop k cs) past.whole rest.0 past.answers rest.1 in (
        past.whole ++ rest.0,
        subst (λ ds. AreAnswers v p ds (past.whole ++ rest.0)) (take-append-drop k cs) all,
        (past.whole, (rest.0, refl), past.appended),
      )

  -- so it is if a prefix of an answer to the next command was written too
  pub IsPast-prefix_of_next : (now : InForce) (d : Command) (text : List ℕ) (a b c : Option (List ℕ)) → IsVersion v
      → IsGrid p.grid → IsChain (size p.grid) p.chain → AreAllowed p.grid cs → k < length cs
      → IsAnswer v now (get_or cs k d) text → IsPast v p cs k now a b → AppendsPrefix b c text
      → (report : List ℕ) × AreAnswers v p cs report × AppendsPrefix a c report
  IsPast-prefix_of_next now d text a b c version grid states allowed within answer past part =
      let here = StandsAt-drop (k + 1) p cs (record { grid = grid; states = states; allowed = allowed }) in
      let at_next = after_commands p (take k cs) in
      let rest =
      exists_answers v version (after_commands p (take (k + 1) cs)) (drop (k + 1) cs) here.grid here.states
      here.allowed in
      let up_to = AreAnswers-append v p (take k cs) (get_or cs k d ∷ []) past.whole text past.answers
      (AreAnswers-single v at_next (get_or cs k d) text
      (subst (λ q. IsAnswer v q (get_or cs k d) text) past.in_force answer)) in
      let first = subst (λ ds. AreAnswers v p ds (past.whole ++ text)) (sym (take_more cs k d within)) up_to in
      let all = AreAnswers-append v p (take (k + 1) cs) (drop (k + 1) cs) (past.whole ++ text) rest.0 first rest.1 in
      let front = part.0 in
      let back = part.1.0 in
      let whole : (past.whole ++ front) ++ (back ++ rest.0) ≡ (past.whole ++ text) ++ rest.0 =
      sym (append_assoc (past.whole ++ front) back rest.0)
      ∙ ap (λ t. t ++ rest.0) (append_assoc past.whole front back ∙ ap (λ t. past.whole ++ t) part.1.1) in (
        (past.whole ++ text) ++ rest.0,
        subst (λ ds. AreAnswers v p ds ((past.whole ++ text) ++ rest.0)) (take-append-drop (k + 1) cs) all,
        (past.whole ++ front, (back ++ rest.0, whole), Appends-append a b c past.whole front past.appended part.2),
      )
