-- Made grids.
use Rattle.std.proofs.Common.{◌≡◌, ◌≢◌, ℕ, zero, suc, ◌+◌, ◌-◌, ◌^◌, ◌<◌, ◌≤◌, List, [], ◌∷◌, length, slice_index, take, refl, ap, sym, subst, ◌∙◌, arith}
use Rattle.std.specs.List.{swap}
use Rattle.state_rank.specs.Bijection.{IsSize, IsBijection, tabulate, ascending, column_of}
use Rattle.state_rank.specs.States.{IsState, transpose}
use Rattle.state_rank.proofs.BijectionLemmas.{one_to_one, column_of-one_to_one, column_of-is}
use Rattle.state_rank.proofs.OrderLemmas.{length-tabulate, get_or-tabulate, length-ascending}
use Rattle.state_rank.proofs.SwapLemmas.{IsBijection-swap}
use Rattle.std.proofs.lemmas.List.{get_or-take, length-take-le}
use Rattle.front_data.proofs.FilledRows.{IsFilled}
use Rattle.torus_geom.specs.Marks.{Marks, IsGrid}
use Rattle.torus_geom.specs.Range.{one_up, one_down}
use Rattle.torus_geom.proofs.Circles.TurnLemmas.{one_up_below, one_down_below, one_up-one_down, one_down-one_up, one_down-other}
use Rattle.grid_text.specs.Script.{GridScript, with_command}
use Rattle.grid_text.specs.declared.commands.Command.TheVariants.{Front, Hat, Class}
use Rattle.grid_text.specs.declared.commands.Sign.TheVariants.{Plus, Minus}
use Rattle.grid_text.specs.declared.commands.Command.{Command}
use Rattle.grid_job.specs.Generator.{next_number, number_after, draw, exchanged, shuffled, IsGridThrough, IsMadeScript}

-- ---- shuffles
-- the exchanges at the places i down to 1 lead from this state to the shuffled list, and the numbers to the last one
pub record IsShuffling (n first i number : ℕ) (state : List ℕ) : Type 0 where
  pub long : length state ≡ n
  pub left : exchanged i number state ≡ shuffled n first
  pub last : number_after i number ≡ number_after (n - 1) first
  pub small : number < 2 ^ 31

-- ---- the numbers below n

pub IsBijection-ascending : (n : ℕ) → IsBijection n (ascending n)
IsBijection-ascending n =
    let at : (c : ℕ) → c < n → slice_index (ascending n) c ≡ c = λ c l. get_or-tabulate n (λ (c : ℕ). c) c 0 l in
    record {
      long = length-ascending n;
      small = λ c l. omega (arith, at c l);
      apart = λ b c lb lc p e. p (sym (at b lb) ∙ e ∙ at c lc);
    }

pub IsState-ascending : (n : ℕ) → IsSize n → IsState (ascending n)
IsState-ascending n size = record {
  size = subst IsSize (sym (length-ascending n)) size;
  bijection = subst (λ m. IsBijection m (ascending n)) (sym (length-ascending n)) (IsBijection-ascending n);
}

-- the first n of the numbers below ten
pub take-ascending : (n : ℕ) → n ≤ 10 → take n (0 ∷ 1 ∷ 2 ∷ 3 ∷ 4 ∷ 5 ∷ 6 ∷ 7 ∷ 8 ∷ 9 ∷ []) ≡ ascending n
take-ascending zero l = refl
take-ascending (suc zero) l = refl
take-ascending (suc (suc zero)) l = refl
take-ascending (suc (suc (suc zero))) l = refl
take-ascending (suc (suc (suc (suc zero)))) l = refl
take-ascending (suc (suc (suc (suc (suc zero))))) l = refl
take-ascending (suc (suc (suc (suc (suc (suc zero)))))) l = refl
take-ascending (suc (suc (suc (suc (suc (suc (suc zero))))))) l = refl
take-ascending (suc (suc (suc (suc (suc (suc (suc (suc zero)))))))) l = refl
take-ascending (suc (suc (suc (suc (suc (suc (suc (suc (suc zero))))))))) l = refl
take-ascending (suc (suc (suc (suc (suc (suc (suc (suc (suc (suc zero)))))))))) l = refl
take-ascending (suc (suc (suc (suc (suc (suc (suc (suc (suc (suc (suc n))))))))))) l = absurd (omega (arith, l))

-- ---- shuffles, step by step
pub IsShuffling-start : (n first : ℕ) (state : List ℕ) → state ≡ ascending n → first < 2 ^ 31
    → IsShuffling n first (n - 1) first state
IsShuffling-start n first state is small = record {
  long = ap length is ∙ length-ascending n;
  left = ap (exchanged (n - 1) first) is;
  last = refl;
  small = small;
}

-- one exchange
pub IsShuffling-more : (n first i j number next : ℕ) (state new : List ℕ) → i ≡ suc j → next ≡ next_number number
    → next < 2 ^ 31
    → new ≡ swap state i (draw next (i + 1)) → length new ≡ length state → IsShuffling n first i number state
    → IsShuffling n first j next new
IsShuffling-more n first i j number next state new at follows small is same h =
    let room : suc (suc j) ≡ i + 1 = omega (arith, at) in
    let step : new ≡ swap state (suc j) (draw (next_number number) (suc (suc j))) =
    is ∙ (λ t. swap state (at t) (draw (follows t) (sym room t))) in
    record {
      long = same ∙ h.long;
      left = (λ t. exchanged j (follows t) (step t)) ∙ ap (λ k. exchanged k number state) (sym at) ∙ h.left;
      last = ap (number_after j) follows ∙ ap (λ k. number_after k number) (sym at) ∙ h.last;
      small = small;
    }

-- no exchange is left
pub IsShuffling-state : (n first i number : ℕ) (state : List ℕ) → i ≡ 0 → IsShuffling n first i number state
    → state ≡ shuffled n first
IsShuffling-state n first i number state none h = ap (λ k. exchanged k number state) (sym none) ∙ h.left

pub IsShuffling-number : (n first i number : ℕ) (state : List ℕ) → i ≡ 0 → IsShuffling n first i number state
    → number ≡ number_after (n - 1) first
IsShuffling-number n first i number state none h = ap (λ k. number_after k number) (sym none) ∙ h.last

-- ---- grids

one_down_apart : (n b c : ℕ) → b < n → c < n → b ≢ c → one_down n b ≢ one_down n c
one_down_apart n b c lb lc p e = p (sym (one_up-one_down n b lb) ∙ ap (one_up n) e ∙ one_up-one_down n c lc)

-- the first rows of a list that is filled by a function that takes each value once
IsBijection-filled : (n : ℕ) (f : ℕ → ℕ) (xs : List ℕ) → n ≤ 10 → ((c : ℕ) → c < n → f c < n)
    → ((b c : ℕ) → b < n → c < n → b ≢ c → f b ≢ f c) → IsFilled 10 f n xs → IsBijection n (take n xs)
IsBijection-filled n f xs few small apart filled = record {
  long = length-take-le n xs (let room = filled.room in omega arith);
  small = λ c l. let at = get_or-take n xs c 0 l ∙ filled.filled c l in let below = small c l in omega arith;
  apart = λ b c lb lc p e. apart b c lb lc p
      (sym (get_or-take n xs b 0 lb ∙ filled.filled b lb) ∙ e ∙ get_or-take n xs c 0 lc ∙ filled.filled c lc);
}

-- the marks that are put column by column, by the place of the column
module _ (cs rs places o x : List ℕ) (n : ℕ) (size : IsSize n) (in_cs : IsBijection n cs) (in_rs : IsBijection n rs)
    (in_places : IsBijection n places)
    (inverse : (c : ℕ) → c < n → slice_index places (slice_index cs c) ≡ c)
    (in_o : IsFilled 10 (λ c. slice_index rs (one_down n (slice_index places c))) n o)
    (in_x : IsFilled 10 (λ c. slice_index rs (slice_index places c)) n x) where
  abbrev pub put : Marks
  put = record { o = take n o; x = take n x }

  place_below : (c : ℕ) → c < n → slice_index places c < n
  place_below c l = in_places.small c l

  before_below : (c : ℕ) → c < n → one_down n (slice_index places c) < n
  before_below c l = one_down_below n (slice_index places c) (place_below c l)

  o_bijection : IsBijection n (take n o)
  o_bijection = IsBijection-filled n (λ c. slice_index rs (one_down n (slice_index places c))) o size.greatest
      (λ c l. in_rs.small (one_down n (slice_index places c)) (before_below c l))
      (λ b c lb lc p. in_rs.apart (one_down n (slice_index places b)) (one_down n (slice_index places c))
      (before_below b lb) (before_below c lc)
      (one_down_apart n (slice_index places b) (slice_index places c) (place_below b lb) (place_below c lc)
      (in_places.apart b c lb lc p)))
      in_o

  x_bijection : IsBijection n (take n x)
  x_bijection = IsBijection-filled n (λ c. slice_index rs (slice_index places c)) x size.greatest
      (λ c l. in_rs.small (slice_index places c) (place_below c l))
      (λ b c lb lc p. in_rs.apart (slice_index places b) (slice_index places c) (place_below b lb) (place_below c lc)
      (in_places.apart b c lb lc p))
      in_x

  o_at : (c : ℕ) → c < n → slice_index (take n o) c ≡ slice_index rs (one_down n (slice_index places c))
  o_at c l = get_or-take n o c 0 l ∙ in_o.filled c l

  x_at : (c : ℕ) → c < n → slice_index (take n x) c ≡ slice_index rs (slice_index places c)
  x_at c l = get_or-take n x c 0 l ∙ in_x.filled c l

  marks_apart : (c : ℕ) → c < n → slice_index (take n o) c ≢ slice_index (take n x) c
  marks_apart c l e =
      in_rs.apart (one_down n (slice_index places c)) (slice_index places c) (before_below c l) (place_below c l)
      (one_down-other n (slice_index places c) size.least (place_below c l))
      (sym (o_at c l) ∙ e ∙ x_at c l)

  pub IsGrid-put : IsGrid put
  IsGrid-put = record {
    is_size = subst IsSize (sym o_bijection.long) size;
    o = subst (λ m. IsBijection m (take n o)) (sym o_bijection.long) o_bijection;
    x = subst (λ m. IsBijection m (take n x)) (sym o_bijection.long) x_bijection;
    apart = λ c l. marks_apart c (omega (arith, l, o_bijection.long));
  }

  pub IsGridThrough-put : IsGridThrough cs rs put
  IsGridThrough-put = record {
    o_columns = o_bijection.long ∙ sym in_cs.long;
    x_columns = x_bijection.long ∙ sym in_cs.long;
    x = λ i l.
        let below : i < n = omega (arith, l, in_cs.long) in
        x_at (slice_index cs i) (in_cs.small i below) ∙ ap (slice_index rs) (inverse i below);
    o = λ i l.
        let below : i < n = omega (arith, l, in_cs.long) in
        let next = one_up n i in
        let next_below : next < n = one_up_below n i below in
        ap (λ m. slice_index (take n o) (slice_index cs (one_up m i))) in_cs.long
        ∙ o_at (slice_index cs next) (in_cs.small next next_below)
        ∙ ap (λ p. slice_index rs (one_down n p)) (inverse next next_below)
        ∙ ap (slice_index rs) (one_down-one_up n i below);
  }

-- the inverse of a bijection is one
pub IsBijection-inverse : (n : ℕ) (cs : List ℕ) → IsBijection n cs
    → IsBijection n (tabulate n (column_of n (slice_index cs)))
IsBijection-inverse n cs h =
    let one = column_of-one_to_one n (slice_index cs) (one_to_one n cs h) in
    let at : (c : ℕ) → c < n
    → slice_index (tabulate n (column_of n (slice_index cs))) c ≡ column_of n (slice_index cs) c =
    λ c l. get_or-tabulate n (column_of n (slice_index cs)) c 0 l in
    record {
      long = length-tabulate n (column_of n (slice_index cs));
      small = λ c l. let below = one.small c l in omega (arith, at c l, below);
      apart = λ b c lb lc p e. one.apart b c lb lc p (sym (at b lb) ∙ e ∙ at c lc);
    }

pub inverse-place : (n : ℕ) (cs : List ℕ) → IsBijection n cs → (c : ℕ) → c < n
    → slice_index (tabulate n (column_of n (slice_index cs))) (slice_index cs c) ≡ c
inverse-place n cs h c l =
    get_or-tabulate n (column_of n (slice_index cs)) (slice_index cs c) 0 (h.small c l)
    ∙ column_of-is n (slice_index cs) (one_to_one n cs h) c (slice_index cs c) l refl

IsBijection-transpose : (cs : List ℕ) → IsBijection (length cs) cs → IsBijection (length cs) (transpose cs)
IsBijection-transpose cs h = IsBijection-inverse (length cs) cs h

-- the marks of all columns
pub put_marks : (cs rs places o x : List ℕ) (n k p q : ℕ) → IsState cs → IsState rs → n ≡ length cs
    → length rs ≡ length cs → places ≡ transpose cs
    → ((c : ℕ) → c < length cs → slice_index places (slice_index cs c) ≡ c)
    → IsFilled 10 (λ c. slice_index rs (one_down n (slice_index places c))) k o
    → IsFilled 10 (λ c. slice_index rs (slice_index places c)) k x → k ≡ n → p ≡ n → q ≡ n
    → IsGrid (record { o = take p o; x = take q x }) × IsGridThrough cs rs (record { o = take p o; x = take q x })
put_marks cs rs places o x n k p q in_cs in_rs size same turned inverse in_o in_x all is_p is_q =
    let n_size : IsSize n = subst IsSize (sym size) in_cs.size in
    let n_cs : IsBijection n cs = subst (λ m. IsBijection m cs) (sym size) in_cs.bijection in
    let n_rs : IsBijection n rs = subst (λ m. IsBijection m rs) (same ∙ sym size) in_rs.bijection in
    let n_places : IsBijection n places =
    subst (λ ys. IsBijection n ys) (sym turned)
    (subst (λ m. IsBijection m (transpose cs)) (sym size) (IsBijection-transpose cs in_cs.bijection)) in
    let back : (c : ℕ) → c < n → slice_index places (slice_index cs c) ≡ c =
    λ c l. inverse c (omega (arith, l, size)) in
    let n_o = subst (λ m. IsFilled 10 (λ c. slice_index rs (one_down n (slice_index places c))) m o) all in_o in
    let n_x = subst (λ m. IsFilled 10 (λ c. slice_index rs (slice_index places c)) m x) all in_x in
    let before : Marks = record { o = take n o; x = take n x } in
    let after : Marks = record { o = take p o; x = take q x } in
    let whole : before ≡ after = λ i. record { o = take (sym is_p i) o; x = take (sym is_q i) x } in (
      subst IsGrid whole (IsGrid-put cs rs places o x n n_size n_cs n_rs n_places back n_o n_x),
      subst (IsGridThrough cs rs) whole (IsGridThrough-put cs rs places o x n n_size n_cs n_rs n_places back n_o n_x),
    )

-- ---- scripts
-- the commands of each made script
abbrev made_commands : List Command
made_commands = Front ∷ Hat ∷ Class Plus ∷ Class Minus ∷ []

pub IsMadeScript-from : (n seed number : ℕ) (cs rs : List ℕ) (g : Marks) (s : GridScript) → cs ≡ shuffled n seed
    → number ≡ number_after (n - 1) seed → rs ≡ shuffled n number
    → IsGridThrough cs rs g → s.version ≡ 1 → s.grid ≡ g → s.commands ≡ made_commands → IsMadeScript n seed s
IsMadeScript-from n seed number cs rs g s in_cs goes_on in_rs through version grid commands = record {
  version = version;
  grid = subst (λ h. IsGridThrough (shuffled n seed) (shuffled n (number_after (n - 1) seed)) h) (sym grid)
      (subst (λ ys. IsGridThrough (shuffled n seed) ys g) (in_rs ∙ ap (shuffled n) goes_on)
      (subst (λ xs. IsGridThrough xs rs g) in_cs through));
  commands = commands;
}

-- the four commands are appended to the script of the grid
pub four_commands : (g : Marks) (s p q r t : GridScript) → s ≡ record { version = 1; grid = g; commands = [] }
    → p ≡ with_command s Front → q ≡ with_command p Hat → r ≡ with_command q (Class Plus)
    → t ≡ with_command r (Class Minus)
    → t ≡ record { version = 1; grid = g; commands = made_commands }
four_commands g s p q r t none first second third fourth =
    fourth ∙ ap (λ u. with_command u (Class Minus))
    (third ∙ ap (λ u. with_command u (Class Plus))
    (second ∙ ap (λ u. with_command u Hat) (first ∙ ap (λ u. with_command u Front) none)))

-- ---- each size and seed has a script
IsBijection-exchanged : (n i s : ℕ) (xs : List ℕ) → i < n → IsBijection n xs → IsBijection n (exchanged i s xs)
IsBijection-exchanged n zero s xs l h = h
IsBijection-exchanged n (suc i) s xs l h =
    let other = draw (next_number s) (suc (suc i)) in
    let below : other < suc (suc i) = omega arith in
    IsBijection-exchanged n i (next_number s) (swap xs (suc i) other) (omega (arith, l))
    (IsBijection-swap n xs (suc i) other l (omega (arith, below, l)) h)

IsBijection-shuffled : (n s : ℕ) → IsSize n → IsBijection n (shuffled n s)
IsBijection-shuffled n s size = let least = size.least in
    IsBijection-exchanged n (n - 1) s (ascending n) (omega (arith, least)) (IsBijection-ascending n)

IsFilled-tabulate : (f : ℕ → ℕ) (n : ℕ) → n ≤ 10 → IsFilled 10 f n (tabulate 10 f)
IsFilled-tabulate f n few =
    record { room = length-tabulate 10 f; filled = λ k l. get_or-tabulate 10 f k 0 (omega (arith, few, l)) }

pub exists_script : (n seed : ℕ) → IsSize n → (s : GridScript) × IsMadeScript n seed s × IsGrid s.grid
exists_script n seed size =
    let cs = shuffled n seed in
    let rs = shuffled n (number_after (n - 1) seed) in
    let in_cs = IsBijection-shuffled n seed size in
    let in_rs = IsBijection-shuffled n (number_after (n - 1) seed) size in
    let places = tabulate n (column_of n (slice_index cs)) in
    let in_places = IsBijection-inverse n cs in_cs in
    let back = inverse-place n cs in_cs in
    let fo : ℕ → ℕ = λ c. slice_index rs (one_down n (slice_index places c)) in
    let fx : ℕ → ℕ = λ c. slice_index rs (slice_index places c) in
    let in_o = IsFilled-tabulate fo n size.greatest in
    let in_x = IsFilled-tabulate fx n size.greatest in
    let grid : Marks = record { o = take n (tabulate 10 fo); x = take n (tabulate 10 fx) } in (
      record { version = 1; grid = grid; commands = made_commands },
      record {
        version = refl;
        grid =
            IsGridThrough-put cs rs places (tabulate 10 fo) (tabulate 10 fx) n size in_cs in_rs in_places
            back in_o in_x;
        commands = refl;
      },
      IsGrid-put cs rs places (tabulate 10 fo) (tabulate 10 fx) n size in_cs in_rs in_places back in_o in_x,
    )
