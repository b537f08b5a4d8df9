-- The grid complex is a complex, and its arrows lower the degrees as they should.
use Rattle.std.proofs.Common.{◌≡◌, pos, ◌+ℤ◌, true, List, ℕ, length, map, get_or, All, ap, subst, sym, ◌∙◌, arith}
use Rattle.std.proofs.lemmas.List.{length-map, get_or-map}
use Rattle.f2_algebra.specs.Chain.{holds, codes}
use Rattle.f2_algebra.specs.Complex.{IsComplex}
use Rattle.f2_algebra.specs.Bigraded.{up_m}
use Rattle.f2_algebra.proofs.Chains.Lists.{All-codes}
use Rattle.state_rank.specs.Bijection.{IsBijection}
use Rattle.state_rank.specs.States.{IsState, rank}
use Rattle.state_rank.proofs.RankLemmas.{rank_one_to_one}
use Rattle.torus_geom.specs.Marks.{Marks, size, IsGrid}
use Rattle.torus_geom.specs.Inner.CodeBorder.{border_of_state}
use Rattle.torus_geom.specs.Degrees.{maslov_o, alexander, bidegree}
use Rattle.torus_geom.specs.Inner.GridComplex.{grid_complex}
use Rattle.rectangles.proofs.Square.BorderLemmas.{step_of_border, grid_complex_IsComplex}
use Rattle.rectangles.proofs.Law.RectangleLaw.{lowers_degrees}

-- the grid complex keeps both rules of a complex
pub grid_complex_rules : (g : Marks) → IsGrid g → IsComplex (grid_complex g)
grid_complex_rules g s = grid_complex_IsComplex g s (lowers_degrees g s)

-- a state of the border of x has the degree below that of x
pub bidegree-border_of_state : (g : Marks) → IsGrid g → (x y : List ℕ) → IsBijection (size g) x → IsBijection (size g) y
    → holds (border_of_state g x) (rank y) ≡ true
    → bidegree g x ≡ up_m (bidegree g y)
bidegree-border_of_state g s x y sx sy h =
    let (u, su, is, (r, proper, step)) = step_of_border g x (rank y) h in
    lowers_degrees g s x u r sx su proper step ∙ ap (λ z. up_m (bidegree g z)) (rank_one_to_one (size g) u y su sy is)

module _ (g : Marks) (s : IsGrid g) (x y : List ℕ) (sx : IsState x) (sy : IsState y) (ex : length x ≡ size g)
    (ey : length y ≡ size g) (h : holds (border_of_state g x) (rank y) ≡ true) where
  lowered : bidegree g x ≡ up_m (bidegree g y)
  lowered =
      bidegree-border_of_state g s x y (subst (λ n. IsBijection n x) ex sx.bijection)
      (subst (λ n. IsBijection n y) ey sy.bijection) h

  -- its Maslov degree is one lower
  pub maslov_o-border_of_state : maslov_o g x ≡ maslov_o g y +ℤ pos 1
  maslov_o-border_of_state = ap (λ d. d.0) lowered

  -- and its Alexander degree the same
  pub alexander-border_of_state : alexander g x ≡ alexander g y
  alexander-border_of_state = ap (λ d. d.1) lowered

-- the same of each of a list of states whose indices are the codes of the border
pub bidegree-listed : (g : Marks) → IsGrid g → (x : List ℕ) → IsBijection (size g) x → (ys : List (List ℕ))
    → map rank ys ≡ codes (border_of_state g x)
    → All (λ y. IsState y × (length y ≡ size g)) ys → All (λ y. bidegree g x ≡ up_m (bidegree g y)) ys
bidegree-listed g s x sx ys listed states k d l =
    let y : List ℕ = get_or ys k d in
    let (sy, ey) = states k d l in
    let held : All (λ c. holds (border_of_state g x) c ≡ true) (map rank ys) =
    subst (All (λ c. holds (border_of_state g x) c ≡ true)) (sym listed)
    (All-codes (λ c. holds (border_of_state g x) c ≡ true) (border_of_state g x) (λ c h. h)) in
    let long : length (map rank ys) ≡ length ys = length-map ys rank in
    let at : get_or (map rank ys) k 0 ≡ rank y = get_or-map rank ys k d 0 l in
    bidegree-border_of_state g s x y sx (subst (λ n. IsBijection n y) ey sy.bijection)
    (ap (λ c. holds (border_of_state g x) c) (sym at) ∙ held k 0 (omega arith))
