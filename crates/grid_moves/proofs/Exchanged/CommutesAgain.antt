-- Columns, or rows, that commute still do if they are exchanged. Two rows separate two others on the circle
-- if those separate these: ranges are linear over F2 in the order of the rows.
use Rattle.std.proofs.Common.{Bool, ap, ap₂, arith, eqb, false, inl, inr, leb, length, ltb, not, slice_index, swap, sym, true, true≢false, ℕ, ◌&&◌, ◌<◌, ◌||◌, ◌∙◌, ◌≡◌, ◌≢◌, refl}
use Rattle.std.proofs.lemmas.Bool.{and_from, and_parts, cases_lt, eq-eqb, ne_eqb}
use Rattle.std.proofs.lemmas.List.Edits.{length-swap}
use Rattle.f2_algebra.proofs.Chains.Tables.{same, ◌⊻◌, neither}
use Rattle.state_rank.proofs.SwapLemmas.{slice_index-swap_first, slice_index-swap_second}
use Rattle.torus_geom.proofs.Circles.BetweenLemmas.{between}
use Rattle.torus_geom.proofs.Circles.RangeLemmas.{in_range-across, in_range-plain}
use Rattle.torus_geom.proofs.Circles.TurnLemmas.{one_down_below}
use Rattle.torus_geom.proofs.TransposeLemmas.{IsGrid-transposed}
use Rattle.torus_geom.specs.Marks.{IsGrid, Marks, size}
use Rattle.torus_geom.specs.Range.{in_range, one_down}
use Rattle.torus_geom.specs.Transposed.{transposed}
use Rattle.grid_moves.proofs.Exchanged.SwapGridLemmas.{IsGrid-swapped_columns}
use Rattle.grid_moves.proofs.Exchanged.TransposedGrids.{size-transposed, transposed-transposed}
use Rattle.grid_moves.specs.Moves.{are_commuting, are_commuting_columns, swapped, swapped_columns}
use Rattle.grid_moves.specs.declared.commutations.Axis.{Axis}
use Rattle.grid_moves.specs.declared.commutations.Axis.TheVariants.{Cols, Rows}

-- a range without the size
range_is : (n a b i : ℕ) → a ≢ b → a < n → b < n → i < n → in_range n a b i ≡ between a b i
range_is n a b i p la lb li = elim (cases_lt a b) [
  | inl l ↦ in_range-plain n a b i l lb li ∙ grind arith
  | inr l ↦ in_range-across n a b i (omega arith) la li ∙ grind arith
]

abbrev are_same : Bool → Bool → Bool
are_same p q = (p && q) || (not p && not q)

order_back : (a b : ℕ) → a ≢ b → leb a b ≡ not (leb b a)
order_back a b p = grind arith

-- p and q separate r and s if r and s separate p and q
separate_alike : (p q r s : ℕ) → p ≢ r → p ≢ s → q ≢ r → q ≢ s
    → are_same (between p q r) (between p q s) ≡ are_same (between r s p) (between r s q)
separate_alike p q r s pr ps qr qs =
    (λ i. are_same (order_back p r pr i ⊻ order_back q r qr i ⊻ ltb q p)
    (order_back p s ps i ⊻ order_back q s qs i ⊻ ltb q p))
    ∙ same 6 (λ u v w x c d. are_same (not u ⊻ not v ⊻ c) (not w ⊻ not x ⊻ c))
    (λ u v w x c d. are_same (u ⊻ w ⊻ d) (v ⊻ x ⊻ d)) refl (leb r p) (leb r q) (leb s p) (leb s q) (ltb q p) (ltb s r)

-- whether the rows p and q of one column, and r and s of the next, let them commute
abbrev commute_by : ℕ → ℕ → ℕ → ℕ → ℕ → Bool
commute_by n p q r s =
    (not (eqb r p || eqb r q) && not (eqb s p || eqb s q)) && are_same (in_range n p q r) (in_range n p q s)

apart_of : (a b : ℕ) → eqb a b ≡ false → a ≢ b
apart_of a b e i = true≢false (sym (eq-eqb a b i) ∙ e)

commute_back : (n p q r s : ℕ) → p < n → q < n → r < n → s < n → p ≢ q → r ≢ s → commute_by n p q r s ≡ true
    → commute_by n r s p q ≡ true
commute_back n p q r s lp lq lr ls pq rs h =
    let told = and_parts _ _ h in
    let rows = and_parts _ _ told.0 in
    let of_r = neither (eqb r p) (eqb r q) rows.0 in
    let of_s = neither (eqb s p) (eqb s q) rows.1 in
    let pr : p ≢ r = λ e. apart_of r p of_r.0 (sym e) in
    let qr : q ≢ r = λ e. apart_of r q of_r.1 (sym e) in
    let ps : p ≢ s = λ e. apart_of s p of_s.0 (sym e) in
    let qs : q ≢ s = λ e. apart_of s q of_s.1 (sym e) in
    and_from _ _
    ((λ i. not (ne_eqb p r pr i || ne_eqb p s ps i) && not (ne_eqb q r qr i || ne_eqb q s qs i)))
    (ap₂ are_same (range_is n r s p rs lr ls lp) (range_is n r s q rs lr ls lq)
    ∙ sym (separate_alike p q r s pr ps qr qs)
    ∙ sym (ap₂ are_same (range_is n p q r pq lp lq lr) (range_is n p q s pq lp lq ls))
    ∙ told.1)

columns_again : (g : Marks) → IsGrid g → (c : ℕ) → c < size g → are_commuting_columns g c ≡ true
    → are_commuting_columns (swapped_columns g c) c ≡ true
columns_again g s c l h =
    let n : ℕ = size g in
    let b : ℕ = one_down n c in
    let lb = one_down_below n c l in
    let o : ℕ → ℕ = slice_index (swap g.o b c) in
    let x : ℕ → ℕ = slice_index (swap g.x b c) in
    let long = s.x.long in
    let fb : b < length g.x = omega arith in
    let fc : c < length g.x = omega arith in
    ap (λ m. commute_by m (o (one_down m c)) (x (one_down m c)) (o c) (x c)) (length-swap g.o b c)
    ∙ (λ i. commute_by n (slice_index-swap_first g.o b c lb l i) (slice_index-swap_first g.x b c fb fc i)
    (slice_index-swap_second g.o b c lb l i) (slice_index-swap_second g.x b c fb fc i))
    ∙ commute_back n (slice_index g.o b) (slice_index g.x b) (slice_index g.o c) (slice_index g.x c) (s.o.small b lb)
    (s.x.small b lb) (s.o.small c l) (s.x.small c l) (s.apart b lb) (s.apart c l) h

-- The exchanged grid commutes at the same place.
pub are_commuting-swapped : (axis : Axis) (g : Marks) → IsGrid g → (c : ℕ) → c < size g → are_commuting axis g c ≡ true
    → are_commuting axis (swapped axis g c) c ≡ true
are_commuting-swapped Cols g s c l h = columns_again g s c l h
are_commuting-swapped Rows g s c l h =
    let t : Marks = transposed g in
    let st = IsGrid-transposed g s in
    let lt : c < size t = let e = size-transposed g in omega arith in
    ap (λ u. are_commuting_columns u c) (transposed-transposed (swapped_columns t c) (IsGrid-swapped_columns t c st lt))
    ∙ columns_again t st c lt h
