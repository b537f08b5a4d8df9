-- A complex has at most one rank in each degree, and a log that leaves no arrow shows it.
use Rattle.std.proofs.Common.{◌≡◌, ℕ, ◌≤◌, Bool, true, false, not, cond, ◌&&◌, ◌||◌, eqb, List, [], ◌∷◌, map, length, Some, is_some, All, inl, inr, refl, sym, ap, ap₂, subst, ◌∙◌, arith}
use Rattle.std.proofs.lemmas.Bool.{eqb-true, eq-eqb, true≢false, false≢true, and_parts}
use Rattle.std.specs.List.{items_where_true}
use Rattle.std.proofs.lemmas.List.{length-map}
use Rattle.std.proofs.lemmas.List.Elements.{All-head, All-tail, All-map, All-nil, All-cons}
use Rattle.f2_algebra.specs.Chain.{Chain, holds, codes, nothing, single, ◌⊕◌, chain_sums, total}
use Rattle.f2_algebra.specs.Complex.{Complex, border, IsComplex, AllOfDegree, AllCells, IsCycle, IsBoundary, IsRank}
use Rattle.f2_algebra.specs.Dimension.{Represents, IsBasis}
use Rattle.f2_algebra.specs.Certificate.{IsAllCells}
use Rattle.f2_algebra.specs.Cancel.{Entry, IsLog, after, rest, lift}
use Rattle.f2_algebra.proofs.Chains.Tables.{◌⊻◌}
use Rattle.f2_algebra.proofs.Chains.Sets.{any, IsApart, IsApart-codes, same_chain, holds-nothing, holds-single, holds-add, holds-codes, xor-true}
use Rattle.f2_algebra.proofs.Chains.Sums.{add_comm, add_self, nothing-add, add_back, same_of_sum, holds-when, linear-nothing}
use Rattle.f2_algebra.proofs.Cancelling.Cancellation.{same_some, complex_border-add, border-nothing, border-no_arrow}
use Rattle.f2_algebra.proofs.Cancelling.LogLemmas.{correction_by, lift-linear, rest-linear, lift_degrees, rest_degrees, correction_degrees, border-lift, rest_border, rest_lift, cycle_law}
use Rattle.f2_algebra.proofs.Ranks.Pigeonhole.{bits_pigeonhole}

-- ---- sums of cycles
-- the sum of chains of one degree has that degree
pub degree-add : {G : Type 0} (C : Complex G) (m : G) (z w : Chain) → AllOfDegree C m z → AllOfDegree C m w
    → AllOfDegree C m (z ⊕ w)
degree-add C m z w a b s h =
    elim (xor-true (holds z s) (holds w s) (sym (holds-add z w s) ∙ h)) [ inl i ↦ a s i | inr i ↦ b s i ]

-- the empty chain has each degree
pub degree-nothing : {G : Type 0} (C : Complex G) (m : G) → AllOfDegree C m nothing
degree-nothing C m s h = absurd (false≢true (sym (holds-nothing s) ∙ h))

cycle-add : {G : Type 0} (C : Complex G) (m : G) (z w : Chain) → IsCycle C m z → IsCycle C m w → IsCycle C m (z ⊕ w)
cycle-add C m z w a b = (degree-add C m z w a.0 b.0, complex_border-add C z w ∙ ap₂ ◌⊕◌ a.1 b.1 ∙ add_self nothing)

cycle-nothing : {G : Type 0} (C : Complex G) (m : G) → IsCycle C m nothing
cycle-nothing C m = (degree-nothing C m, border-nothing C)

-- the sum of some of a list of cycles is a cycle
pub cycle-picked : {G : Type 0} (C : Complex G) (m : G) (ps : List Bool) (hs : List Chain) → All (IsCycle C m) hs
    → IsCycle C m (total (items_where_true ps hs))
cycle-picked C m [] hs all = cycle-nothing C m
cycle-picked C m (p ∷ ps) [] all = cycle-nothing C m
cycle-picked C m (true ∷ ps) (h ∷ hs) all =
    cycle-add C m h _ (All-head (IsCycle C m) h hs all) (cycle-picked C m ps hs (All-tail (IsCycle C m) h hs all))
cycle-picked C m (false ∷ ps) (h ∷ hs) all = cycle-picked C m ps hs (All-tail (IsCycle C m) h hs all)

-- ---- one rank at most
boundary-swap : {G : Type 0} (C : Complex G) (m : G) (z w : Chain) → IsBoundary C m (z ⊕ w) → IsBoundary C m (w ⊕ z)
boundary-swap C m z w b = (b.0, b.1, b.2 ∙ add_comm z w)

module _ {G : Type 0} (C : Complex G) (m : G) (hs gs : List Chain) (h : IsBasis chain_sums (IsCycle C m)
    (IsBoundary C m) hs) (g : IsBasis chain_sums (IsCycle C m) (IsBoundary C m) gs) where
  sum_of : List Chain → List Bool → Chain
  sum_of fs ps = total (items_where_true ps fs)

  cycle_h : (ps : List Bool) → IsCycle C m (sum_of hs ps)
  unfolding sum_of
  cycle_h ps = cycle-picked C m ps hs h.cycles

  partner : List Bool → List Bool
  partner ps = (g.one_subset (sum_of hs ps) (cycle_h ps)).0

  partner-fills : (ps : List Bool) → Represents chain_sums (IsBoundary C m) gs (sum_of hs ps) (partner ps)
  unfolding partner
  partner-fills ps = (g.one_subset (sum_of hs ps) (cycle_h ps)).1

  -- what the partner's sum is filled by
  back : (ps qs : List Bool) → length ps ≡ length hs → partner ps ≡ qs
      → Represents chain_sums (IsBoundary C m) hs (sum_of gs qs) ps
  unfolding sum_of
  back ps qs l same = (
    l,
    boundary-swap C m (sum_of hs ps) (sum_of gs qs)
        (subst (λ rs. IsBoundary C m (sum_of hs ps ⊕ total (items_where_true rs gs))) same (partner-fills ps).1),
  )

  partner-one : (ps qs : List Bool) → length ps ≡ length hs → length qs ≡ length hs → partner ps ≡ partner qs → ps ≡ qs
  unfolding sum_of
  partner-one ps qs lp lq same =
      let one = h.one_subset (sum_of gs (partner qs)) (cycle-picked C m (partner qs) gs g.cycles) in
      one.2 ps (back ps (partner qs) lp same) ∙ sym (one.2 qs (back qs (partner qs) lq refl))

  rank_le : length hs ≤ length gs
  rank_le = bits_pigeonhole (length hs) (length gs) partner (λ ps l. (partner-fills ps).0) partner-one

-- a complex has at most one rank in each degree
pub one_rank : {G : Type 0} (C : Complex G) (m : G) (d e : ℕ) → IsRank C m d → IsRank C m e → d ≡ e
one_rank C m d e a b =
    let up = rank_le C m a.0 b.0 a.1 b.1 in
    let down = rank_le C m b.0 a.0 b.1 a.1 in
    omega (arith, a.2, b.2)

-- ---- the cells of the last complex, if it has no arrow
-- the sum of the codes that the truth values pick
pub chosen : List Bool → List ℕ → Chain
chosen ps xs = total (items_where_true ps (map single xs))

chosen-cons : (b : Bool) (ps : List Bool) (x : ℕ) (xs : List ℕ)
    → chosen (b ∷ ps) (x ∷ xs) ≡ cond b (single x) nothing ⊕ chosen ps xs
unfolding chosen
chosen-cons true ps x xs = refl
chosen-cons false ps x xs = sym (nothing-add _)

holds-chosen : (b : Bool) (ps : List Bool) (x : ℕ) (xs : List ℕ) (q : ℕ)
    → holds (chosen (b ∷ ps) (x ∷ xs)) q ≡ ((b && eqb q x) ⊻ holds (chosen ps xs) q)
holds-chosen b ps x xs q =
    ap (λ c. holds c q) (chosen-cons b ps x xs) ∙ holds-add _ _ q
    ∙ ap (λ a. a ⊻ holds (chosen ps xs) q) (holds-when b (single x) q ∙ ap (λ a. b && a) (holds-single x q))

one_more : (px e m pq : Bool) → (e ≡ true → (px ≡ pq) × (m ≡ false)) → ((px && e) ⊻ (m && pq)) ≡ ((e || m) && pq)
one_more true true m pq h = ap (λ b. not (b && pq)) ((h refl).1) ∙ (h refl).0
one_more false true m pq h = ap (λ b. b && pq) ((h refl).1) ∙ (h refl).0
one_more true false m pq h = refl
one_more false false m pq h = refl

-- it holds the codes of the list that pass the test
pub chosen-holds : (p : ℕ → Bool) (xs : List ℕ) (q : ℕ) → IsApart xs
    → holds (chosen (map p xs) xs) q ≡ (any q xs && p q)
unfolding chosen
chosen-holds p [] q apart = holds-nothing q
chosen-holds p (x ∷ xs) q apart =
    holds-chosen (p x) (map p xs) x xs q
    ∙ ap (λ b. (p x && eqb q x) ⊻ b) (chosen-holds p xs q apart.1)
    ∙ one_more (p x) (eqb q x) (any q xs) (p q)
    (λ e. (ap p (sym (eqb-true q x e)), ap (λ s. any s xs) (eqb-true q x e) ∙ apart.0))

in_tail : (b : Bool) {c : Bool} → c ≡ true → (b || c) ≡ true
in_tail true i = refl
in_tail false i = i

chosen-in : (ps : List Bool) (xs : List ℕ) (q : ℕ) → holds (chosen ps xs) q ≡ true → any q xs ≡ true
unfolding chosen
chosen-in [] xs q h = absurd (false≢true (sym (holds-nothing q) ∙ h))
chosen-in (b ∷ ps) [] q h = absurd (false≢true (sym (holds-nothing q) ∙ h))
chosen-in (b ∷ ps) (x ∷ xs) q h =
    let later = chosen-in ps xs q in
    elim (xor-true (b && eqb q x) (holds (chosen ps xs) q) (sym (holds-chosen b ps x xs q) ∙ h)) [
      | inl i ↦ ap (λ e. e || any q xs) ((and_parts b (eqb q x) i).1)
      | inr i ↦ in_tail (eqb q x) (later i)
    ]

map-same : {A : Type 0} (f g : ℕ → A) (xs : List ℕ) → ((s : ℕ) → any s xs ≡ true → f s ≡ g s) → map f xs ≡ map g xs
map-same f g [] e = refl
map-same f g (x ∷ xs) e =
    ap₂ ◌∷◌ (e x (ap (λ b. b || any x xs) (eq-eqb x x refl))) (map-same f g xs (λ s i. e s (in_tail (eqb s x) i)))

none_where : (b : Bool) → (b ≡ true → ⊥) → b ≡ false
none_where true h = absurd (h refl)
none_where false h = refl

at_head : (b : Bool) → ((b && true) ⊻ false) ≡ b
at_head true = refl
at_head false = refl

in_rest : (b c : Bool) → ((b && false) ⊻ c) ≡ c
in_rest true c = refl
in_rest false c = refl

-- the picks are told by the chain
pub chosen-picks : (ps : List Bool) (xs : List ℕ) → length ps ≡ length xs → IsApart xs
    → map (holds (chosen ps xs)) xs ≡ ps
chosen-picks [] [] l apart = refl
chosen-picks [] (x ∷ xs) l apart = absurd (omega arith)
chosen-picks (b ∷ ps) [] l apart = absurd (omega arith)
chosen-picks (b ∷ ps) (x ∷ xs) l apart =
    ap₂ ◌∷◌
    (holds-chosen b ps x xs x
    ∙ ap₂ (λ e c. (b && e) ⊻ c) (eq-eqb x x refl)
    (none_where _ (λ h. true≢false (sym (chosen-in ps xs x h) ∙ apart.0))) ∙ at_head b)
    (map-same _ (holds (chosen ps xs)) xs (λ s i.
    holds-chosen b ps x xs s
    ∙ ap (λ e. (b && e) ⊻ holds (chosen ps xs) s)
    (none_where (eqb s x) (λ h. true≢false (sym i ∙ ap (λ t. any t xs) (eqb-true s x h) ∙ apart.0)))
    ∙ in_rest b _)
    ∙ chosen-picks ps xs (omega arith) apart.1)

all_of : (P : ℕ → Type 0) (xs : List ℕ) → ((s : ℕ) → any s xs ≡ true → P s) → All P xs
all_of P [] h = All-nil P
all_of P (x ∷ xs) h =
    All-cons P x xs (h x (ap (λ b. b || any x xs) (eq-eqb x x refl))) (all_of P xs (λ s i. h s (in_tail (eqb s x) i)))

module _ {G : Type 0} (C : Complex G) (laws : IsComplex C) (log : List Entry) (stands : IsLog C log)
    (bare : (s : ℕ) → (after C log).targets s ≡ nothing) (m : G) (cells : Chain)
    (all : IsAllCells (after C log) m cells) where
  abbrev lifted : ℕ → Chain
  lifted s = lift log (single s)

  is_cell : (s : ℕ) → any s (codes cells) ≡ true → (after C log).degree s ≡ Some m
  is_cell s i = (all s).0 (holds-codes cells s ∙ i)

  single_cells : (s : ℕ) → any s (codes cells) ≡ true → AllCells (after C log) (single s)
  single_cells s i t h =
      ap (λ u. is_some ((after C log).degree u)) (eqb-true t s (sym (holds-single s t) ∙ h)) ∙ ap is_some (is_cell s i)

  cycle_lifted : (s : ℕ) → any s (codes cells) ≡ true → IsCycle C m (lifted s)
  cycle_lifted s i = (
    λ u h. let (t, in_s, same) = lift_degrees C laws log stands (single s) (single_cells s i) u h in
        same ∙ ap (after C log).degree (eqb-true t s (sym (holds-single s t) ∙ in_s)) ∙ is_cell s i,
    border-lift C laws log stands (single s) (single_cells s i)
        ∙ ap (lift log) (border-no_arrow (after C log) bare (single s)) ∙ linear-nothing (lift log) (lift-linear log),
  )

  sum_lifted : (ps : List Bool) (xs : List ℕ) → total (items_where_true ps (map lifted xs)) ≡ lift log (chosen ps xs)
  unfolding chosen
  sum_lifted [] xs = sym (linear-nothing (lift log) (lift-linear log))
  sum_lifted (p ∷ ps) [] = sym (linear-nothing (lift log) (lift-linear log))
  sum_lifted (true ∷ ps) (x ∷ xs) =
      ap (λ c. lift log (single x) ⊕ c) (sum_lifted ps xs) ∙ sym (lift-linear log (single x) _)
  sum_lifted (false ∷ ps) (x ∷ xs) = sum_lifted ps xs

  picks_of : Chain → List Bool
  picks_of z = map (holds (rest log z)) (codes cells)

  kept : (c h : Bool) → (h ≡ true → c ≡ true) → (c && h) ≡ h
  kept true h f = refl
  kept false true f = f refl
  kept false false f = refl

  chosen-rest : (z : Chain) → AllOfDegree C m z → chosen (picks_of z) (codes cells) ≡ rest log z
  unfolding picks_of
  chosen-rest z of = same_chain _ _ (λ q.
      chosen-holds (holds (rest log z)) (codes cells) q (IsApart-codes cells)
      ∙ ap (λ b. b && holds (rest log z) q) (sym (holds-codes cells q))
      ∙ kept (holds cells q) (holds (rest log z) q)
      (λ h. let (t, in_z, same) = rest_degrees C laws log stands z q h in (all q).1 (sym same ∙ of t in_z)))

  total_lifted : (z : Chain) → AllOfDegree C m z
      → total (items_where_true (picks_of z) (map lifted (codes cells))) ≡ lift log (rest log z)
  total_lifted z of = sum_lifted (picks_of z) (codes cells) ∙ ap (lift log) (chosen-rest z of)

  fills : (z : Chain) → IsCycle C m z
      → IsBoundary C m (z ⊕ total (items_where_true (picks_of z) (map lifted (codes cells))))
  fills z c = (
    correction_by log z,
    λ s h. let (t, in_z, (k, above, below)) = correction_degrees C laws log stands z s h in
        above ∙ ap (λ j. Some (C.up j)) (same_some k m (sym below ∙ c.0 t in_z)),
    sym (add_back (lift log (rest log z)) (border C (correction_by log z)))
        ∙ ap (λ u. lift log (rest log z) ⊕ u) (sym (cycle_law C laws log stands z c.1))
        ∙ add_comm (lift log (rest log z)) z
        ∙ ap (λ u. z ⊕ u) (sym (total_lifted z c.0)),
  )

  chosen_cells : (ps : List Bool) → AllCells (after C log) (chosen ps (codes cells))
  chosen_cells ps q h = ap is_some (is_cell q (chosen-in ps (codes cells) q h))

  unique : (z : Chain) → IsCycle C m z → (ps : List Bool)
      → Represents chain_sums (IsBoundary C m) (map lifted (codes cells)) z ps
      → ps ≡ picks_of z
  unfolding picks_of
  unique z c ps (l, (w, _, bounds)) =
      let xs = codes cells in
      let no_rest : rest log z ⊕ chosen ps xs ≡ nothing =
      ap (λ u. rest log z ⊕ u) (sym (ap (rest log) (sum_lifted ps xs)
      ∙ rest_lift C laws log stands (chosen ps xs) (chosen_cells ps)))
      ∙ sym (rest-linear log z _)
      ∙ ap (rest log) (sym bounds)
      ∙ rest_border C laws log stands w
      ∙ border-no_arrow (after C log) bare (rest log w)
      in
      sym (chosen-picks ps xs (l ∙ length-map xs lifted) (IsApart-codes cells))
      ∙ ap (λ u. map (holds u) xs) (sym (same_of_sum (rest log z) (chosen ps xs) no_rest))

  -- if no arrow is left, the lifts of the cells of a degree are a basis
  pub basis_of_log : IsBasis chain_sums (IsCycle C m) (IsBoundary C m) (map lifted (codes cells))
  unfolding picks_of
  basis_of_log = record {
    cycles = All-map (IsCycle C m) lifted (codes cells) (all_of _ (codes cells) cycle_lifted);
    one_subset =
        λ z c. (
          picks_of z,
          (length-map (codes cells) (holds (rest log z)) ∙ sym (length-map (codes cells) lifted), fills z c),
          unique z c,
        );
  }

  -- the rank in degree m is the number of cells of degree m that are left
  pub rank_of_log : IsRank C m (length (codes cells))
  rank_of_log = (map lifted (codes cells), basis_of_log, length-map (codes cells) lifted)
