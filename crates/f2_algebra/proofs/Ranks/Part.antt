-- A part of a complex is a complex, with the same ranks.
use Rattle.std.proofs.Common.{◌≡◌, ℕ, true, Option, Some, None, is_some, refl, sym, ap, ◌∙◌}
use Rattle.std.proofs.lemmas.Bool.{false≢true}
use Rattle.std.proofs.lemmas.List.Elements.{All-weaker}
use Rattle.f2_algebra.specs.Chain.{Chain, holds, nothing}
use Rattle.f2_algebra.specs.Complex.{Complex, arrow, border, IsAbove, IsComplex, AllOfDegree, IsCycle, IsBoundary, IsRank}
use Rattle.f2_algebra.specs.Part.{IsPartOf}
use Rattle.f2_algebra.proofs.Chains.Sets.{holds-nothing}
use Rattle.f2_algebra.proofs.Chains.Sums.{sum_over-same}
use Rattle.f2_algebra.proofs.Cancelling.Cancellation.{same_some, border-nothing}

module _ {G H : Type 0} (C : Complex G) (embed : H → G) (D : Complex H) (part : IsPartOf C embed D) where
  -- a chain of a degree of the part has its degree in the whole
  pub of_part : (m : H) (z : Chain) → AllOfDegree D m z → AllOfDegree C (embed m) z
  of_part m z of s h = (part.degrees s m).0 (of s h)

  -- and back
  pub to_part : (m : H) (z : Chain) → AllOfDegree C (embed m) z → AllOfDegree D m z
  to_part m z of s h = (part.degrees s m).1 (of s h)

  -- the border in the part is that in the whole
  pub border-part : (m : H) (z : Chain) → AllOfDegree D m z → border D z ≡ border C z
  border-part m z of = sum_over-same z D.targets C.targets (λ s h. part.targets s m (of s h))

  up-part : (m : H) (z : Chain) → AllOfDegree C (C.up (embed m)) z → AllOfDegree D (D.up m) z
  up-part m z of = to_part (D.up m) z (λ s h. of s h ∙ ap Some (sym (part.embed_up m)))

  up-whole : (m : H) (z : Chain) → AllOfDegree D (D.up m) z → AllOfDegree C (C.up (embed m)) z
  up-whole m z of s h = of_part (D.up m) z of s h ∙ ap Some (part.embed_up m)

  -- a cycle of the part is one of the whole
  pub cycle_of_part : (m : H) (z : Chain) → IsCycle D m z → IsCycle C (embed m) z
  cycle_of_part m z c = (of_part m z c.0, sym (border-part m z c.0) ∙ c.1)

  -- and back
  pub cycle_to_part : (m : H) (z : Chain) → IsCycle C (embed m) z → IsCycle D m z
  cycle_to_part m z c = let of = to_part m z c.0 in (of, border-part m z of ∙ c.1)

  -- a boundary of the part is one of the whole
  pub boundary_of_part : (m : H) (z : Chain) → IsBoundary D m z → IsBoundary C (embed m) z
  boundary_of_part m z (w, of, e) = (w, up-whole m w of, sym (border-part (D.up m) w of) ∙ e)

  -- and back
  pub boundary_to_part : (m : H) (z : Chain) → IsBoundary C (embed m) z → IsBoundary D m z
  boundary_to_part m z (w, of, e) = let on = up-part m w of in (w, on, border-part (D.up m) w on ∙ e)

  -- a rank of the part is one of the whole
  pub rank_of_part : (m : H) (d : ℕ) → IsRank D m d → IsRank C (embed m) d
  rank_of_part m d (hs, b, l) = (
    hs,
    record {
      cycles = All-weaker (IsCycle D m) (IsCycle C (embed m)) (cycle_of_part m) hs b.cycles;
      one_subset = λ z c.
          let (ps, (n, is), one) = b.one_subset z (cycle_to_part m z c) in
          (ps, (n, boundary_of_part m _ is), λ qs f. one qs (f.0, boundary_to_part m _ f.1));
    },
    l,
  )

  -- and back
  pub rank_to_part : (m : H) (d : ℕ) → IsRank C (embed m) d → IsRank D m d
  rank_to_part m d (hs, b, l) = (
    hs,
    record {
      cycles = All-weaker (IsCycle C (embed m)) (IsCycle D m) (cycle_to_part m) hs b.cycles;
      one_subset = λ z c.
          let (ps, (n, is), one) = b.one_subset z (cycle_of_part m z c) in
          (ps, (n, boundary_to_part m _ is), λ qs f. one qs (f.0, boundary_of_part m _ f.1));
    },
    l,
  )

  lowers_at : IsComplex C → (s t : ℕ) (m : H) → D.degree s ≡ Some m → arrow D s t ≡ true → IsAbove D s t
  lowers_at laws s t m e a =
      let (n, above, below) = laws.lowers s t (ap (λ z. holds z t) (sym (part.targets s m e)) ∙ a) in
      let (k, is) = part.embed_down m n (same_some _ _ (sym ((part.degrees s m).0 e) ∙ above)) in
      let same : embed m ≡ embed (D.up k) =
      same_some _ _ (sym ((part.degrees s m).0 e) ∙ above) ∙ ap C.up (sym is) ∙ sym (part.embed_up k) in
      (k, e ∙ ap Some (part.embed_one _ _ same), (part.degrees t k).1 (below ∙ ap Some (sym is)))

  no_cell : (s : ℕ) → D.degree s ≡ None → D.targets s ≡ nothing
  no_cell s e = part.no_targets s (λ m is. false≢true (ap is_some (sym e ∙ is)))

  lowers_by : IsComplex C → (s t : ℕ) (d : Option H) → D.degree s ≡ d → arrow D s t ≡ true → IsAbove D s t
  lowers_by laws s t None e a =
      absurd (false≢true (sym (holds-nothing t) ∙ ap (λ z. holds z t) (sym (no_cell s e)) ∙ a))
  lowers_by laws s t (Some m) e a = lowers_at laws s t m e a

  squares_by : IsComplex C → (s : ℕ) (d : Option H) → D.degree s ≡ d → border D (D.targets s) ≡ nothing
  squares_by laws s None e = ap (border D) (no_cell s e) ∙ border-nothing D
  squares_by laws s (Some m) e =
      sum_over-same (D.targets s) D.targets C.targets
      (λ t a. let (k, _, below) = lowers_at laws s t m e a in part.targets t k below)
      ∙ ap (border C) (part.targets s m e) ∙ laws.squares s

  -- a part of a complex is a complex
  pub part_IsComplex : IsComplex C → IsComplex D
  part_IsComplex laws = record {
    up_one = λ m n e. part.embed_one m n (laws.up_one _ _ (sym (part.embed_up m) ∙ ap embed e ∙ part.embed_up n));
    up_other = λ m e. laws.up_other (embed m) (sym (part.embed_up m) ∙ ap embed e);
    lowers = λ s t a. lowers_by laws s t (D.degree s) refl a;
    squares = λ s. squares_by laws s (D.degree s) refl;
  }
