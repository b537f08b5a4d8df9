-- The states of the border of a state, from their indices.
use Rattle.std.proofs.Common.{◌≡◌, ℕ, ◌+◌, ◌<◌, List, [], ◌∷◌, ◌++◌, length, map, take, get_or, All, subst, ap, ◌∙◌, sym, arith}
use Rattle.std.proofs.lemmas.List.{take_more, length-map, get_or-map}
use Rattle.std.proofs.lemmas.List.Elements.{Contains-get_or}
use Rattle.f2_algebra.specs.Bigraded.{up_m}
use Rattle.state_rank.specs.Bijection.{IsSize, IsBijection}
use Rattle.state_rank.specs.States.{IsState, rank, unrank, factorial}
use Rattle.state_rank.proofs.RankLemmas.{rank-below, unrank-rank}
use Rattle.torus_geom.specs.Border.{border}
use Rattle.torus_geom.specs.Chains.{members, single}
use Rattle.torus_geom.specs.Degrees.{bidegree}
use Rattle.torus_geom.specs.Marks.{Marks, IsGrid, size}
use Rattle.torus_geom.proofs.Chains.ChainLemmas.{member_of_members}
use Rattle.rectangles.proofs.Homology.BorderLaws.{targets_codes}
use Rattle.rectangles.proofs.Law.GridComplexLemmas.{bidegree-listed}

module _ (g : Marks) (x : List ℕ) where
  ys : List (List ℕ)
  ys = members (size g) (border g (single x))

  listed : (k : ℕ) (d : List ℕ) → k < length ys → IsBijection (size g) (get_or ys k d)
  unfolding ys
  listed k d l =
      (member_of_members (size g) (border g (single x)) (get_or ys k d) (Contains-get_or ys k d l)).0

  module _ (indices : List ℕ) (is : indices ≡ map rank (members (size g) (border g (single x)))) (k : ℕ)
      (l : k < length indices) where
    near : k < length ys
    unfolding ys
    near = let e = ap length is ∙ length-map ys rank in omega arith

    index : get_or indices k 0 ≡ rank (get_or ys k [])
    unfolding ys
    index = ap (λ is. get_or is k 0) is ∙ get_or-map rank ys k [] 0 near

    -- each index has a state
    pub target_index-below : (n : ℕ) → n ≡ size g → get_or indices k 0 < factorial n
    target_index-below n n_is =
        let h = rank-below (size g) (get_or ys k []) (listed k [] near) in
        let e = ap factorial n_is in
        let i = index in
        omega (arith, h, e, i)

    -- which is the next one of the border
    pub target_states-more : (n : ℕ) (states more : List (List ℕ)) (y : List ℕ) → n ≡ size g
        → states ≡ take k (members (size g) (border g (single x))) → y ≡ unrank n (get_or indices k 0)
        → more ≡ states ++ y ∷ [] → more ≡ take (k + 1) (members (size g) (border g (single x)))
    unfolding ys
    target_states-more n states more y n_is before y_is after =
        after ∙ (λ i. before i ++ y_is i ∷ [])
        ∙ (λ i. take k ys ++ unrank (n_is i) (index i) ∷ [])
        ∙ ap (λ y. take k ys ++ y ∷ []) (unrank-rank (size g) (get_or ys k []) (listed k [] near))
        ∙ sym (take_more ys k [] near)

  module _ (s : IsGrid g) (states : List (List ℕ)) (is : states ≡ members (size g) (border g (single x))) where
    -- each is a state of the size of the grid
    pub target_states-are : All (λ y. IsState y × (length y ≡ size g)) states
    unfolding ys
    target_states-are = subst (All (λ y. IsState y × (length y ≡ size g))) (sym is) (λ k d l.
        let y = listed k d l in (
          record {
            size = subst IsSize (sym y.long) s.is_size;
            bijection = subst (λ n. IsBijection n (get_or ys k d)) (sym y.long) y;
          },
          y.long,
        ))

    -- and has the degree below that of x
    pub target_states-degrees : IsBijection (size g) x → All (λ y. bidegree g x ≡ up_m (bidegree g y)) states
    target_states-degrees sx = bidegree-listed g s x sx states (targets_codes g x sx states is) target_states-are
