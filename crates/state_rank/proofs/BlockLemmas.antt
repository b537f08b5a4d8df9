-- A block of states is parted by the next row: first come the states that go on with the lowest row that is left, then
-- those with the next one, and so on. Each part is a block again.
use Rattle.std.proofs.Common.{◌≡◌, ℕ, zero, suc, ◌+◌, ◌-◌, ◌<◌, ◌≤◌, List, [], ◌∷◌, ◌++◌, length, map, get_or, swap, not, eqb, refl, ap, ap₂, subst, ◌∙◌, sym, arith, append_assoc, length-append, cond, set}
use Rattle.std.proofs.lemmas.Bool.{eq-eqb, ne_eqb}
use Rattle.std.proofs.Math.Seq.{set-append_seam}
use Rattle.std.proofs.lemmas.List.{length-map, map-append, get_or-map, get_or_append_left, get_or-append_right, get_or_default}
use Rattle.std.specs.List.{Contains, AllPairs, flat_map}
use Rattle.state_rank.specs.Bijection.{ascending}
use Rattle.state_rank.specs.States.{arrangements, states, unrank, factorial}
use Rattle.state_rank.specs.Blocks.{IsBlock}
use Rattle.state_rank.proofs.MemberLemmas.{member_head, member_tail, pairs_head, pairs_tail, filter-all}
use Rattle.state_rank.proofs.LehmerLemmas.{factorial_positive}
use Rattle.state_rank.proofs.OrderLemmas.{without, without_rises, length-without, length-arrangements, length-tabulate, ascending_rises}

-- the states that begin with p and go on with an arrangement of rows
abbrev begun_with : List ℕ → ℕ → List ℕ → List (List ℕ)
begun_with p k rows = map (λ y. p ++ y) (arrangements k rows)

-- ---- lists
map-nothing_before : (xs : List (List ℕ)) → map (λ y. [] ++ y) xs ≡ xs
map-nothing_before [] = refl
map-nothing_before (x ∷ xs) = ap (λ ys. x ∷ ys) (map-nothing_before xs)

append-none : {A : Type 0} (xs : List A) → xs ++ [] ≡ xs
append-none [] = refl
append-none (x ∷ xs) = ap (λ ys. x ∷ ys) (append-none xs)

map-joined : (p : List ℕ) (r : ℕ) (xs : List (List ℕ))
    → map (λ y. p ++ y) (map (λ y. r ∷ y) xs) ≡ map (λ y. (p ++ r ∷ []) ++ y) xs
map-joined p r [] = refl
map-joined p r (x ∷ xs) = λ i. sym (append_assoc p (r ∷ []) x) i ∷ map-joined p r xs i

map-spread : (p : List ℕ) (k : ℕ) (all rows : List ℕ)
    → map (λ y. p ++ y) (flat_map (λ r. map (λ y. r ∷ y) (arrangements k (without r all))) rows)
    ≡ flat_map (λ r. begun_with (p ++ r ∷ []) k (without r all)) rows
map-spread p k all [] = refl
map-spread p k all (r ∷ rows) =
    map-append (λ y. p ++ y) (map (λ y. r ∷ y) (arrangements k (without r all)))
    (flat_map (λ r. map (λ y. r ∷ y) (arrangements k (without r all))) rows)
    ∙ ap₂ (λ xs ys. xs ++ ys) (map-joined p r (arrangements k (without r all))) (map-spread p k all rows)

-- ---- blocks
-- all states are a block
pub IsBlock-whole : (n : ℕ) → IsBlock n [] (ascending n) 0
unfolding states
IsBlock-whole n =
    record {
      earlier = [];
      later = [];
      parts =
          ap (λ k. arrangements k (ascending n)) (sym (length-tabulate n (λ c. c)))
          ∙ sym (map-nothing_before (arrangements (length (ascending n)) (ascending n)))
          ∙ sym (append-none (begun_with [] (length (ascending n)) (ascending n)));
      count = refl;
      rises = ascending_rises n;
    }

-- the one state of a block that leaves no row has the rank of the block
pub unrank-block : (n : ℕ) (p : List ℕ) (base : ℕ) → IsBlock n p [] base → unrank n base ≡ p
unfolding unrank arrangements
unrank-block n p base b =
    ap (λ xs. get_or xs base []) b.parts
    ∙ get_or-append_right b.earlier (((p ++ []) ∷ []) ++ b.later) (length b.earlier) base [] refl
    (let c = b.count in omega arith)
    ∙ ap (λ k. get_or ((p ++ []) ∷ b.later) k []) (let c = b.count in none base (length b.earlier) c)
    ∙ append-none p
  where
    none : (m k : ℕ) → k ≡ m → m - k ≡ 0
    none m k e = omega arith

-- each state of a block begins with its rows
pub unrank-in_block : (n : ℕ) (p rows : List ℕ) (base k : ℕ) → IsBlock n p rows base → base ≤ k
    → k < base + factorial (length rows) → (y : List ℕ) × (unrank n k ≡ p ++ y)
unfolding unrank
unrank-in_block n p rows base k b low high =
    let many = length-map (arrangements (length rows) rows) (λ y. p ++ y)
    ∙ length-arrangements (length rows) rows b.rises refl in
    let c = b.count in
    let y = get_or (arrangements (length rows) rows) (k - length b.earlier) [] in (
      y,
      ap (λ xs. get_or xs k []) b.parts
          ∙ get_or-append_right b.earlier (begun_with p (length rows) rows ++ b.later) (length b.earlier) k [] refl
          (omega arith)
          ∙ get_or_append_left (begun_with p (length rows) rows) b.later [] (k - length b.earlier) (omega arith)
          ∙ get_or-map (λ y. p ++ y) (arrangements (length rows) rows) (k - length b.earlier) [] []
          (let m = length-arrangements (length rows) rows b.rises refl in omega arith),
    )

-- ---- the parts of a block
-- the states that begin with p and go on with a row of `front` are behind, those that go on with one of `back` ahead
pub record IsParted (n : ℕ) (p rows front back : List ℕ) (base : ℕ) : Type 0 where
  pub earlier : List (List ℕ)
  pub later : List (List ℕ)
  pub parts : states n
      ≡ earlier ++ (flat_map (λ r. begun_with (p ++ r ∷ []) (length rows - 1) (without r rows)) back ++ later)
  pub count : length earlier ≡ base
  pub rises : AllPairs (λ r s. r < s) rows
  pub split : rows ≡ front ++ back

-- before the first part
pub IsParted-start : (n : ℕ) (p rows : List ℕ) (base : ℕ) → IsBlock n p rows base → 0 < length rows
    → IsParted n p rows [] rows base
unfolding arrangements
IsParted-start n p [] base b some = absurd (omega arith)
IsParted-start n p (r ∷ rows) base b some =
    record {
      earlier = b.earlier;
      later = b.later;
      parts = b.parts ∙ ap (λ xs. b.earlier ++ (xs ++ b.later))
          (map-spread p (length rows) (r ∷ rows) (r ∷ rows)
          ∙ ap (λ k. flat_map (λ s. begun_with (p ++ s ∷ []) k (without s (r ∷ rows))) (r ∷ rows)) one_less);
      count = b.count;
      rises = b.rises;
      split = refl;
    }
  where
    one_less : length rows ≡ length (r ∷ rows) - 1
    one_less = omega arith

-- the rows but the one in the middle
without-middle : (front : List ℕ) (r : ℕ) (back : List ℕ) → AllPairs (λ s t. s < t) (front ++ r ∷ back)
    → without r (front ++ r ∷ back) ≡ front ++ back
without-middle [] r back h =
    ap (λ b. cond (not b) (r ∷ without r back) (without r back)) (eq-eqb r r refl)
    ∙ filter-all (λ t. not (eqb t r)) back
    (λ t m. let l = pairs_head (λ s t. s < t) r back h t m in ap not (ne_eqb t r (omega arith)))
without-middle (s ∷ front) r back h =
    let l = pairs_head (λ s t. s < t) s (front ++ r ∷ back) h r (middle front) in
    ap (λ b. cond (not b) (s ∷ without r (front ++ r ∷ back)) (without r (front ++ r ∷ back)))
    (ne_eqb s r (omega arith))
    ∙ ap (λ xs. s ∷ xs) (without-middle front r back (pairs_tail (λ s t. s < t) s (front ++ r ∷ back) h))
  where
    middle : (front : List ℕ) → Contains (front ++ r ∷ back) r
    middle [] = member_head r back
    middle (t ∷ front) = member_tail t (front ++ r ∷ back) r (middle front)

module _ (n : ℕ) (p rows front : List ℕ) (r : ℕ) (back : List ℕ) (base : ℕ)
    (b : IsParted n p rows front (r ∷ back) base) where
  left : without r rows ≡ front ++ back
  left = ap (without r) b.split
      ∙ without-middle front r back (subst (AllPairs (λ s t. s < t)) b.split b.rises)

  there : Contains rows r
  there = subst (λ xs. Contains xs r) (sym b.split) (middle front)
    where
      middle : (front : List ℕ) → Contains (front ++ r ∷ back) r
      middle [] = member_head r back
      middle (t ∷ front) = member_tail t (front ++ r ∷ back) r (middle front)

  pub length-rows : length rows ≡ suc (length front + length back)
  length-rows = ap length b.split ∙ length-append front (r ∷ back) ∙ omega arith

  one_less : length rows - 1 ≡ length (front ++ back)
  one_less = let e = length-rows in let f = length-append front back in omega arith

  -- the next part is a block
  pub IsBlock-part : IsBlock n (p ++ r ∷ []) (front ++ back) base
  IsBlock-part =
      record {
        earlier = b.earlier;
        later = flat_map (λ s. begun_with (p ++ s ∷ []) (length rows - 1) (without s rows)) back ++ b.later;
        parts =
            b.parts
            ∙ ap (λ xs. b.earlier ++ xs)
            (append_assoc (begun_with (p ++ r ∷ []) (length rows - 1) (without r rows))
            (flat_map (λ s. begun_with (p ++ s ∷ []) (length rows - 1) (without s rows)) back) b.later
            ∙ (λ i. begun_with (p ++ r ∷ []) (one_less i) (left i)
            ++ (flat_map (λ s. begun_with (p ++ s ∷ []) (length rows - 1) (without s rows)) back ++ b.later)));
        count = b.count;
        rises = subst (AllPairs (λ s t. s < t)) left (without_rises r rows b.rises);
      }

  -- after it come the others
  pub IsParted-next : IsParted n p rows (front ++ r ∷ []) back (base + factorial (length rows - 1))
  IsParted-next =
      let k : length rows ≡ suc (length rows - 1) = let e = length-rows in omega arith in
      record {
        earlier = b.earlier ++ begun_with (p ++ r ∷ []) (length rows - 1) (without r rows);
        later = b.later;
        parts =
            b.parts
            ∙ ap (λ xs. b.earlier ++ xs)
            (append_assoc (begun_with (p ++ r ∷ []) (length rows - 1) (without r rows))
            (flat_map (λ s. begun_with (p ++ s ∷ []) (length rows - 1) (without s rows)) back) b.later)
            ∙ sym (append_assoc b.earlier (begun_with (p ++ r ∷ []) (length rows - 1) (without r rows))
            (flat_map (λ s. begun_with (p ++ s ∷ []) (length rows - 1) (without s rows)) back ++ b.later));
        count =
            length-append b.earlier (begun_with (p ++ r ∷ []) (length rows - 1) (without r rows))
            ∙ ap₂ (λ x y. x + y) b.count
            (length-map (arrangements (length rows - 1) (without r rows)) (λ y. (p ++ r ∷ []) ++ y)
            ∙ length-arrangements (length rows - 1) (without r rows) (without_rises r rows b.rises)
            (length-without r rows (length rows - 1) b.rises there k));
        rises = b.rises;
        split = b.split ∙ sym (append_assoc front (r ∷ []) back);
      }

-- ---- the first state of the next part
swap-is : (x : List ℕ) (a b u v : ℕ) → a < length x → b < length x → get_or x b 0 ≡ v → get_or x a 0 ≡ u
    → swap x a b ≡ set (set x a v) b u
swap-is [] a b u v la lb e f = absurd (omega arith)
swap-is (d ∷ x) a b u v la lb e f =
    ap₂ (λ w t. set (set (d ∷ x) a w) b t) (get_or_default (d ∷ x) b d 0 lb ∙ e) (get_or_default (d ∷ x) a d 0 la ∙ f)

seam : (xs : List ℕ) (y : ℕ) (ys : List ℕ) (i : ℕ) → i ≡ length xs → get_or (xs ++ y ∷ ys) i 0 ≡ y
seam xs y ys i e =
    get_or-append_right xs (y ∷ ys) (length xs) i 0 refl (omega arith)
    ∙ ap (λ k. get_or (y ∷ ys) k 0) (none i (length xs) e)
  where
    none : (m k : ℕ) → m ≡ k → m - k ≡ 0
    none m k e = omega arith

-- the row of the next part changes places with that of this one
pub swap-next : (p : List ℕ) (r : ℕ) (front : List ℕ) (s : ℕ) (back : List ℕ)
    → swap (p ++ r ∷ (front ++ s ∷ back)) (length p) (length p + 1 + length front)
    ≡ p ++ s ∷ ((front ++ r ∷ []) ++ back)
swap-next p r front s back =
    let long : length (p ++ r ∷ (front ++ s ∷ back)) ≡ length p + suc (length front + suc (length back)) =
    length-append p (r ∷ (front ++ s ∷ back))
    ∙ ap (λ k. length p + suc k) (length-append front (s ∷ back)) in
    let place : (t : ℕ) → length (p ++ t ∷ front) ≡ length p + 1 + length front =
    λ t. length-append p (t ∷ front) ∙ omega arith in
    let apart : (t u : ℕ) → (p ++ t ∷ front) ++ u ∷ back ≡ p ++ t ∷ (front ++ u ∷ back) =
    λ t u. append_assoc p (t ∷ front) (u ∷ back) in
    swap-is (p ++ r ∷ (front ++ s ∷ back)) (length p) (length p + 1 + length front) r s (omega arith) (omega arith)
    (ap (λ xs. get_or xs (length p + 1 + length front) 0) (sym (apart r s))
    ∙ seam (p ++ r ∷ front) s back (length p + 1 + length front) (sym (place r)))
    (seam p r (front ++ s ∷ back) (length p) refl)
    ∙ ap (λ xs. set xs (length p + 1 + length front) r) (set-append_seam p r (front ++ s ∷ back) s)
    ∙ (λ i. set (sym (apart s s) i) (sym (place s) i) r)
    ∙ set-append_seam (p ++ s ∷ front) s back r ∙ apart s r
    ∙ ap (λ xs. p ++ s ∷ xs) (sym (append_assoc front (r ∷ []) back))

-- ---- the first state
first-arrangement : (k : ℕ) (rows : List ℕ) → AllPairs (λ r s. r < s) rows → length rows ≡ k
    → get_or (arrangements k rows) 0 [] ≡ rows
unfolding arrangements
first-arrangement zero [] h e = refl
first-arrangement zero (r ∷ rows) h e = absurd (omega arith)
first-arrangement (suc k) [] h e = absurd (omega arith)
first-arrangement (suc k) (r ∷ rows) h e =
    let rest = pairs_tail (λ s t. s < t) r rows h in
    let left : without r (r ∷ rows) ≡ rows = without-middle [] r rows h in
    let long : length rows ≡ k = omega arith in
    let many = length-arrangements k rows rest long in
    let some = factorial_positive k in
    let mapped = length-map (arrangements k rows) (λ y. r ∷ y) in
    ap (λ xs. get_or (map (λ y. r ∷ y) (arrangements k xs)
    ++ flat_map (λ s. map (λ y. s ∷ y) (arrangements k (without s (r ∷ rows)))) rows) 0 []) left
    ∙ get_or_append_left (map (λ y. r ∷ y) (arrangements k rows))
    (flat_map (λ s. map (λ y. s ∷ y) (arrangements k (without s (r ∷ rows)))) rows) [] 0 (omega arith)
    ∙ get_or-map (λ y. r ∷ y) (arrangements k rows) 0 [] [] (omega arith)
    ∙ ap (λ y. r ∷ y) (first-arrangement k rows rest long)

-- the first state has its rows in order
pub first-state : (n : ℕ) → unrank n 0 ≡ ascending n
unfolding unrank states
first-state n = first-arrangement n (ascending n) (ascending_rises n) (length-tabulate n (λ c. c))
