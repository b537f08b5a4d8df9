-- Two steps on the way back at four columns may be taken in either order.
use Rattle.std.proofs.Common.{◌≡◌, ℕ, ◌<◌, Bool, true, false, ◌&&◌, ◌||◌, refl, ap, ◌∙◌, sym, eqb, inl, inr}
use Rattle.std.proofs.lemmas.Bool.{ne_eqb, cases_eq}
use Rattle.f2_algebra.proofs.Chains.Tables.{◌⊻◌, same, and-false}
use Rattle.rectangles.proofs.Square.TwoSteps.{differ, four_differ}
use Rattle.rectangles.proofs.Square.CyclicOrder.{between}
use Rattle.rectangles.proofs.Square.Exchanges.{exchanged_apart, with_exchanged, with_exchanged-other}
use Rattle.rectangles.proofs.Square.EmptyRectangles.{is_clear_of, free, empty_apart, AreFourApart}
use Rattle.pentagon_map.proofs.ChainMap.RowArcs.{above_of}
use Rattle.rectangles.proofs.Square.OpenRectangles.{unmarked, marks}
use Rattle.state_rank.proofs.BijectionLemmas.{IsOneToOne}
use Rattle.rectangles.proofs.Square.SquareLemmas.{AreFourApart-from, AreFourApart-rows}
use Rattle.pentagon_map.proofs.ChainMap.PentagonTests.{lacks, penta, two}
use Rattle.hexagon_map.proofs.WayBack.Hexagons.{back, hexa, return_steps}

module _ (n r s w v : ℕ) (O X f : ℕ → ℕ) (one : IsOneToOne n f) (T : (ℕ → ℕ) → Bool) where
  abbrev ways : ℕ → ℕ → ℕ → ℕ → Bool
  ways = return_steps n r s w v O X f T

  -- of four columns no two are s
  no_corners : (a b c d : ℕ) → AreFourApart a b c d → ((eqb a s || eqb b s) && (eqb c s || eqb d s)) ≡ false
  no_corners a b c d o = elim (cases_eq a s) [
    | inl i ↦ (λ j. (eqb a s || eqb b s)
        && (ne_eqb c s (λ x. o.ac (i ∙ sym x)) j || ne_eqb d s (λ x. o.ad (i ∙ sym x)) j))
        ∙ and-false (eqb a s || eqb b s)
    | inr p ↦ elim (cases_eq b s) [
      | inl i ↦ (λ j. (eqb a s || eqb b s)
          && (ne_eqb c s (λ x. o.bc (i ∙ sym x)) j || ne_eqb d s (λ x. o.bd (i ∙ sym x)) j))
          ∙ and-false (eqb a s || eqb b s)
      | inr q ↦ λ j. (ne_eqb a s p j || ne_eqb b s q j) && (eqb c s || eqb d s)
    ]
  ]

  no_way_back : (a b c d j k j' k' : ℕ) → AreFourApart a b c d
      → (penta n r s w O X a b j k && back n r s w v O X c d j' k') ≡ false
  no_way_back a b c d j k j' k' o =
      let x : Bool = between j k w
      && (free n (two r s) (between a b) (marks O X (between j k))
      && (lacks O X s (between j w) && lacks O X r (above_of w k))) in
      let y : Bool = between j' k' v
      && (free n (two r s) (between c d) (marks O X (between j' k'))
      && (lacks O X r (between j' v) && lacks O X s (above_of v k'))) in
      same 4 (λ a x c y. (a && x) && (c && y)) (λ a x c y. (a && c) && (x && y)) refl (eqb a s || eqb b s) x
      (eqb c s || eqb d s) y
      ∙ ap (λ z. z && (x && y)) (no_corners a b c d o)

  pub hexagons_at_four : (a b c d : ℕ) → a < n → b < n → c < n → d < n → four_differ a b c d ≡ true
      → ways a b c d ≡ ways c d a b
  hexagons_at_four a b c d la lb lc ld h =
      let o = AreFourApart-from a b c d h in
      let turned : AreFourApart c d a b =
      record {
        ab = o.cd;
        ac = λ e. o.ac (sym e);
        ad = λ e. o.bc (sym e);
        bc = λ e. o.ad (sym e);
        bd =
            λ e. o.bd (sym e);
        cd = o.ab;
      } in
      let g : ℕ → ℕ = with_exchanged f a b in
      let k : ℕ → ℕ = with_exchanged f c d in
      let gc : g c ≡ f c = with_exchanged-other f a b c (λ e. o.ac (sym e)) (λ e. o.bc (sym e)) in
      let gd : g d ≡ f d = with_exchanged-other f a b d (λ e. o.ad (sym e)) (λ e. o.bd (sym e)) in
      let ka : k a ≡ f a = with_exchanged-other f c d a o.ac o.ad in
      let kb : k b ≡ f b = with_exchanged-other f c d b o.bc o.bd in
      let ab : Bool = differ a b in
      let cd : Bool = differ c d in
      let t : Bool = T (with_exchanged g c d) in
      let t' : Bool = T (with_exchanged k a b) in
      let E1 : Bool = is_clear_of n f a b (f a) (f b) in
      let E2 : Bool = is_clear_of n g c d (f c) (f d) in
      let G1 : Bool = is_clear_of n f c d (f c) (f d) in
      let G2 : Bool = is_clear_of n k a b (f a) (f b) in
      let M : Bool = unmarked n O X a b (f a) (f b) in
      let M2 : Bool = unmarked n O X c d (f c) (f d) in
      let H : Bool = hexa n r s w v O X a b (f a) (f b) in
      let H2 : Bool = hexa n r s w v O X c d (f c) (f d) in
      let pentagon_here : Bool = penta n r s w O X a b (f a) (f b) in
      let pentagon_there : Bool = penta n r s w O X c d (f c) (f d) in
      (λ i. ((ab && (E1 && pentagon_here))
      && ((cd && (is_clear_of n g c d (gc i) (gd i) && back n r s w v O X c d (gc i) (gd i))) && t))
      ⊻ (((ab && (E1 && M))
      && ((cd && (is_clear_of n g c d (gc i) (gd i) && hexa n r s w v O X c d (gc i) (gd i))) && t))
      ⊻ ((ab && (E1 && H)) && ((cd && (is_clear_of n g c d (gc i) (gd i) && unmarked n O X c d (gc i) (gd i)))
      && t))))
      ∙ same 11 (λ p q x y t k b m l j u. ((p && (x && k)) && ((q && (y && b)) && t))
      ⊻ (((p && (x && m)) && ((q && (y && l)) && t)) ⊻ ((p && (x && j)) && ((q && (y && u)) && t))))
      (λ p q x y t k b m l j u. (x && y) && (((p && q) && t) && ((k && b) ⊻ ((m && l) ⊻ (j && u))))) refl
      ab cd E1 E2 t pentagon_here (back n r s w v O X c d (f c) (f d)) M H2 H M2
      ∙ (λ i. empty_apart n f a b c d la lb lc ld o (AreFourApart-rows n f one a b c d la lb lc ld o) i
      && (((ab && cd) && ap T (exchanged_apart f a b c d o.ac o.ad o.bc o.bd) i)
      && (no_way_back a b c d (f a) (f b) (f c) (f d) o i ⊻ ((M && H2) ⊻ (H && M2)))))
      ∙ same 9 (λ p q x y t m l j u. (x && y) && (((p && q) && t) && (false ⊻ ((m && l) ⊻ (j && u)))))
      (λ p q x y t m l j u. (x && y) && (((p && q) && t) && (false ⊻ ((u && j) ⊻ (l && m))))) refl
      ab cd G1 G2 t' M H2 H M2
      ∙ ap (λ z. (G1 && G2) && (((ab && cd) && t') && (z ⊻ ((M2 && H) ⊻ (H2 && M)))))
      (sym (no_way_back c d a b (f c) (f d) (f a) (f b) turned))
      ∙ same 11 (λ p q x y t k b m l j u. (x && y) && (((p && q) && t) && ((k && b) ⊻ ((m && l) ⊻ (j && u)))))
      (λ p q x y t k b m l j u. ((q && (x && k)) && ((p && (y && b)) && t))
      ⊻ (((q && (x && m)) && ((p && (y && l)) && t)) ⊻ ((q && (x && j)) && ((p && (y && u)) && t)))) refl
      ab cd G1 G2 t' pentagon_there (back n r s w v O X a b (f a) (f b)) M2 H H2 M
      ∙ sym (λ i. ((cd && (G1 && pentagon_there))
      && ((ab && (is_clear_of n k a b (ka i) (kb i) && back n r s w v O X a b (ka i) (kb i))) && t'))
      ⊻ (((cd && (G1 && M2))
      && ((ab && (is_clear_of n k a b (ka i) (kb i) && hexa n r s w v O X a b (ka i) (kb i))) && t'))
      ⊻ ((cd && (G1 && H2)) && ((ab && (is_clear_of n k a b (ka i) (kb i) && unmarked n O X a b (ka i) (kb i)))
      && t'))))
