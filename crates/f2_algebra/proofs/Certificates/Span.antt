-- As many chains of cells as there are cells, on which tests stand in triangular form, span.
use Rattle.std.proofs.Common.{◌≡◌, ℕ, zero, suc, Bool, true, false, cond, ◌&&◌, List, [], ◌∷◌, map, length, inl, inr, refl, sym, ap, ap₂, ◌∙◌, arith}
use Rattle.std.proofs.lemmas.Bool.{false≢true}
use Rattle.std.proofs.lemmas.List.{length-map}
use Rattle.std.specs.List.{items_where_true}
use Rattle.f2_algebra.specs.Chain.{Chain, holds, codes, nothing, ◌⊕◌, total}
use Rattle.f2_algebra.proofs.Chains.Tables.{◌⊻◌, xor_self, xor_zero}
use Rattle.f2_algebra.proofs.Chains.Sets.{IsApart-codes, same_chain, holds-nothing, holds-codes, holds-add, xor-true}
use Rattle.f2_algebra.proofs.Chains.Sums.{add_self, nothing-add, add_swap, when-xor}
use Rattle.f2_algebra.proofs.Ranks.RankLemmas.{chosen, chosen-holds}
use Rattle.f2_algebra.proofs.Ranks.Pigeonhole.{bits_onto}

-- the sum of the chains that the truth values pick
abbrev pub pick : List Bool → List Chain → Chain
pick ps vs = total (items_where_true ps vs)

-- the first mark adds the first chain or nothing
pub pick-cons : (b : Bool) (ps : List Bool) (v : Chain) (vs : List Chain)
    → pick (b ∷ ps) (v ∷ vs) ≡ cond b v nothing ⊕ pick ps vs
pick-cons true ps v vs = refl
pick-cons false ps v vs = sym (nothing-add _)

-- the picks that are in exactly one of two lists of truth values
abbrev pub xor_picks : List Bool → List Bool → List Bool
xor_picks [] qs = []
xor_picks (p ∷ ps) [] = []
xor_picks (p ∷ ps) (q ∷ qs) = (p ⊻ q) ∷ xor_picks ps qs

-- no element is marked
abbrev pub no_picks : {X : Type 0} → List X → List Bool
no_picks [] = []
no_picks (x ∷ xs) = false ∷ no_picks xs

-- there are as many picks as before
pub length-xor_picks : (n : ℕ) (ps qs : List Bool) → length ps ≡ n → length qs ≡ n → length (xor_picks ps qs) ≡ n
length-xor_picks n [] qs lp lq = lp
length-xor_picks zero (p ∷ ps) [] lp lq = lq
length-xor_picks (suc n) (p ∷ ps) [] lp lq = absurd (omega arith)
length-xor_picks zero (p ∷ ps) (q ∷ qs) lp lq = absurd (omega arith)
length-xor_picks (suc n) (p ∷ ps) (q ∷ qs) lp lq = ap suc (length-xor_picks n ps qs (omega arith) (omega arith))

-- the sum of what two lists of truth values pick is what their exclusive or picks
pub pick-xor : (vs : List Chain) (ps qs : List Bool) → length ps ≡ length vs → length qs ≡ length vs
    → pick (xor_picks ps qs) vs ≡ pick ps vs ⊕ pick qs vs
pick-xor [] [] [] lp lq = sym (add_self nothing)
pick-xor [] [] (q ∷ qs) lp lq = absurd (omega arith)
pick-xor [] (p ∷ ps) qs lp lq = absurd (omega arith)
pick-xor (v ∷ vs) [] qs lp lq = absurd (omega arith)
pick-xor (v ∷ vs) (p ∷ ps) [] lp lq = absurd (omega arith)
pick-xor (v ∷ vs) (p ∷ ps) (q ∷ qs) lp lq =
    pick-cons (p ⊻ q) _ v vs
    ∙ ap₂ ◌⊕◌ (when-xor p q v) (pick-xor vs ps qs (omega arith) (omega arith))
    ∙ add_swap _ _ _ _
    ∙ sym (ap₂ ◌⊕◌ (pick-cons p ps v vs) (pick-cons q qs v vs))

-- lists of truth values whose exclusive or is false throughout are equal
pub same_of_xor : {X : Type 0} (vs : List X) (ps qs : List Bool) → length ps ≡ length vs → length qs ≡ length vs
    → xor_picks ps qs ≡ no_picks vs → ps ≡ qs
same_of_xor [] [] [] lp lq e = refl
same_of_xor [] [] (q ∷ qs) lp lq e = absurd (omega arith)
same_of_xor [] (p ∷ ps) qs lp lq e = absurd (omega arith)
same_of_xor (v ∷ vs) [] qs lp lq e = absurd (omega arith)
same_of_xor (v ∷ vs) (p ∷ ps) [] lp lq e = absurd (omega arith)
same_of_xor (v ∷ vs) (p ∷ ps) (q ∷ qs) lp lq e =
    let h : (p ⊻ q) ≡ false = cc in
    let t : xor_picks ps qs ≡ no_picks vs = cc in
    ap₂ ◌∷◌ (xor_zero p q h) (same_of_xor vs ps qs (omega arith) (omega arith) t)

-- no picks pick nothing
pub pick-none : (vs : List Chain) → pick (no_picks vs) vs ≡ nothing
pick-none [] = refl
pick-none (v ∷ vs) = pick-none vs

-- a chain, and a linear test
pub record Row : Type 0 where
  pub vector : Chain
  pub test : Chain → Bool
  pub linear : (z w : Chain) → test (z ⊕ w) ≡ (test z ⊻ test w)

-- P holds of each element, by recursion
abbrev pub Every : {X : Type 0} → (X → Type 0) → List X → Type 0
Every P [] = Unit {0}
Every P (x ∷ xs) = P x × Every P xs

-- each test holds of its own chain, and of none of the later ones
abbrev pub IsTriangular : List Row → Type 0
IsTriangular [] = Unit {0}
IsTriangular (r ∷ rs) = (r.test r.vector ≡ true) × Every (λ s. r.test s.vector ≡ false) rs × IsTriangular rs

-- the chains of the rows
abbrev pub vectors : List Row → List Chain
vectors rs = map (λ r. r.vector) rs

test-nothing : (r : Row) → r.test nothing ≡ false
test-nothing r = ap r.test (sym (add_self nothing)) ∙ r.linear nothing nothing ∙ xor_self (r.test nothing)

test-when : (r : Row) (b : Bool) (z : Chain) → r.test (cond b z nothing) ≡ (b && r.test z)
test-when r true z = refl
test-when r false z = test-nothing r

even_pick : (r : Row) (rs : List Row) (ps : List Bool) → Every (λ s. r.test s.vector ≡ false) rs
    → r.test (pick ps (vectors rs)) ≡ false
even_pick r [] [] even = test-nothing r
even_pick r [] (p ∷ ps) even = test-nothing r
even_pick r (s ∷ rs) [] even = test-nothing r
even_pick r (s ∷ rs) (p ∷ ps) even =
    ap r.test (pick-cons p ps s.vector (vectors rs)) ∙ r.linear _ _
    ∙ ap₂ ◌⊻◌ (test-when r p s.vector ∙ ap (λ b. p && b) even.0) (even_pick r rs ps even.1) ∙ neither p
  where
    neither : (b : Bool) → ((b && false) ⊻ false) ≡ false
    neither true = refl
    neither false = refl

-- if the tests are even on what the truth values pick, nothing is marked
pub independent_mod : (rs : List Row) → IsTriangular rs → (u : Chain) → Every (λ r. r.test u ≡ false) rs
    → (ps : List Bool) → length ps ≡ length rs → pick ps (vectors rs) ≡ u → ps ≡ no_picks rs
independent_mod [] tri u even [] l e = refl
independent_mod [] tri u even (p ∷ ps) l e = absurd (omega arith)
independent_mod (r ∷ rs) tri u even [] l e = absurd (omega arith)
independent_mod (r ∷ rs) tri u even (p ∷ ps) l e =
    let unmarked : p ≡ false =
    sym (ap₂ ◌⊻◌ (test-when r p r.vector ∙ ap (λ b. p && b) tri.0) (even_pick r rs ps tri.1) ∙ only p)
    ∙ sym (r.linear _ _) ∙ sym (ap r.test (pick-cons p ps r.vector (vectors rs))) ∙ ap r.test e ∙ even.0
    in
    ap₂ ◌∷◌ unmarked (independent_mod rs tri.2 u even.1 ps (omega arith)
    (sym (nothing-add _) ∙ ap (λ b. cond b r.vector nothing ⊕ pick ps (vectors rs)) (sym unmarked)
    ∙ sym (pick-cons p ps r.vector (vectors rs)) ∙ e))
  where
    only : (b : Bool) → ((b && true) ⊻ false) ≡ b
    only true = refl
    only false = refl

-- what holds of everything holds of each element
pub every_all : {X : Type 0} (P : X → Type 0) (xs : List X) → ((x : X) → P x) → Every P xs
every_all P [] h = tt
every_all P (x ∷ xs) h = (h x, every_all P xs h)

-- only no picks at all pick the empty chain
pub independent : (rs : List Row) → IsTriangular rs → (ps : List Bool) → length ps ≡ length rs
    → pick ps (vectors rs) ≡ nothing → ps ≡ no_picks rs
independent rs tri ps l e = independent_mod rs tri nothing (every_all _ rs test-nothing) ps l e

-- each code of z is one of cells
abbrev pub IsInside : Chain → Chain → Type 0
IsInside cells z = (s : ℕ) → holds z s ≡ true → holds cells s ≡ true

-- the sum of two chains of the cells is one of the cells
pub inside-add : (cells z w : Chain) → IsInside cells z → IsInside cells w → IsInside cells (z ⊕ w)
inside-add cells z w a b s h =
    elim (xor-true (holds z s) (holds w s) (sym (holds-add z w s) ∙ h)) [ inl i ↦ a s i | inr i ↦ b s i ]

-- and so are the sums of rows
pub inside-pick : (cells : Chain) (rs : List Row) → Every (λ r. IsInside cells r.vector) rs → (ps : List Bool)
    → IsInside cells (pick ps (vectors rs))
inside-pick cells [] inside [] s h = absurd (false≢true (sym (holds-nothing s) ∙ h))
inside-pick cells [] inside (p ∷ ps) s h = absurd (false≢true (sym (holds-nothing s) ∙ h))
inside-pick cells (r ∷ rs) inside [] s h = absurd (false≢true (sym (holds-nothing s) ∙ h))
inside-pick cells (r ∷ rs) inside (true ∷ ps) s h =
    inside-add cells r.vector _ inside.0 (inside-pick cells rs inside.1 ps) s h
inside-pick cells (r ∷ rs) inside (false ∷ ps) s h = inside-pick cells rs inside.1 ps s h

kept : (c h : Bool) → (h ≡ true → c ≡ true) → (c && h) ≡ h
kept true h f = refl
kept false true f = f refl
kept false false f = refl

-- a chain inside cells is same_by_picks by its picks at them
same_by_picks : (cells z : Chain) → IsInside cells z → chosen (map (holds z) (codes cells)) (codes cells) ≡ z
same_by_picks cells z inside = same_chain _ _ (λ q.
    chosen-holds (holds z) (codes cells) q (IsApart-codes cells)
    ∙ ap (λ b. b && holds z q) (sym (holds-codes cells q))
    ∙ kept (holds cells q) (holds z q) (inside q))

module _ (rs : List Row) (tri : IsTriangular rs) (cells : Chain) (count : length (codes cells) ≡ length rs)
    (inside : Every (λ r. IsInside cells r.vector) rs) where
  picks_at : List Bool → List Bool
  picks_at ps = map (holds (pick ps (vectors rs))) (codes cells)

  chosen-picks_at : (ps : List Bool) → chosen (picks_at ps) (codes cells) ≡ pick ps (vectors rs)
  unfolding picks_at
  chosen-picks_at ps = same_by_picks cells (pick ps (vectors rs)) (inside-pick cells rs inside ps)

  picks-length : (ps : List Bool) → length ps ≡ length rs → length (picks_at ps) ≡ length rs
  unfolding picks_at
  picks-length ps l = length-map (codes cells) _ ∙ count

  to_vectors : (ps : List Bool) → length ps ≡ length rs → length ps ≡ length (vectors rs)
  to_vectors ps l = l ∙ sym (length-map rs (λ (r : Row). r.vector))

  picks-one : (ps qs : List Bool) → length ps ≡ length rs → length qs ≡ length rs → picks_at ps ≡ picks_at qs → ps ≡ qs
  picks-one ps qs lp lq same =
      let sums : pick ps (vectors rs) ≡ pick qs (vectors rs) =
      sym (chosen-picks_at ps) ∙ ap (λ ms. chosen ms (codes cells)) same ∙ chosen-picks_at qs in
      same_of_xor rs ps qs lp lq (independent rs tri (xor_picks ps qs) (length-xor_picks (length rs) ps qs lp lq)
      (pick-xor (vectors rs) ps qs (to_vectors ps lp) (to_vectors qs lq) ∙ ap (λ c. c ⊕ pick qs (vectors rs)) sums
      ∙ add_self _))

  pub spans : (z : Chain) → IsInside cells z → (ps : List Bool) × (length ps ≡ length rs) × (pick ps (vectors rs) ≡ z)
  spans z in_cells =
      let (ps, l, e) =
      bits_onto (length rs) picks_at picks-length picks-one (map (holds z) (codes cells))
      (length-map (codes cells) (holds z) ∙ count) in
      (ps, l, sym (chosen-picks_at ps) ∙ ap (λ ms. chosen ms (codes cells)) e ∙ same_by_picks cells z in_cells)
