-- Complexes that differ by the names of their codes: a map p of codes that undoes itself, keeps degrees and carries
-- arrows to arrows. Such complexes have the same ranks. If p carries arrows to reversed arrows and reflects degrees,
-- the ranks are the same at the reflected degrees.
use Rattle.std.proofs.Common.{◌≡◌, ℕ, Bool, true, List, map, Option, Some, None, is_some, ◌↔◌, refl, sym, ap, ap₂, ◌∙◌}
use Rattle.std.proofs.lemmas.Bool.{eqb-true, false≢true}
use Rattle.f2_algebra.specs.Chain.{Chain, holds, codes, of_codes, nothing, single, ◌⊕◌, sum_over}
use Rattle.f2_algebra.specs.Complex.{Complex, arrow, border, IsComplex, IsRank}
use Rattle.f2_algebra.specs.Maps.{IsChainMap, IsHomotopy}
use Rattle.f2_algebra.specs.Dual.{IsDualOf}
use Rattle.f2_algebra.proofs.Chains.Sets.{same_chain, holds-nothing, holds-single, weight-same}
use Rattle.f2_algebra.proofs.Chains.Sums.{add_self, holds-sum_over, sum_over-single}
use Rattle.f2_algebra.proofs.Cancelling.Cancellation.{same_some, border-single, border-nothing, sum_over-nothing}
use Rattle.f2_algebra.proofs.Ranks.Maps.{rank_of_image}
use Rattle.f2_algebra.proofs.Ranks.Existence.{HasAllCells}
use Rattle.f2_algebra.proofs.Duals.Dual.{ranks_of_dual}
use Rattle.grid_moves.proofs.Turned.CarriedChains as codes_renamed

-- the map undoes itself
abbrev pub UndoesItself : (ℕ → ℕ) → Type 0
UndoesItself p = (c : ℕ) → p (p c) ≡ c

-- the chain of the values at the codes
abbrev pub renamed : (ℕ → ℕ) → Chain → Chain
renamed p z = of_codes (map p (codes z))

module _ (p : ℕ → ℕ) (undoes : UndoesItself p) where
  -- what it holds
  holds-renamed : (z : Chain) (q : ℕ) → holds (renamed p z) q ≡ holds z (p q)
  holds-renamed z q = codes_renamed.holds-renamed p p undoes undoes z q

  -- it is a sum of single codes
  renamed-sum : (z : Chain) → renamed p z ≡ sum_over z (λ c. single (p c))
  renamed-sum z = codes_renamed.renamed-sum p p undoes undoes z

  -- if arrows go to arrows, the sum of the targets of the renamed chain is the renamed sum
  pub sum_over-renamed : (f g : ℕ → Chain) → ((s t : ℕ) → holds (g (p s)) (p t) ≡ holds (f s) t) → (z : Chain)
      → sum_over (renamed p z) g ≡ renamed p (sum_over z f)
  sum_over-renamed f g arrows z = same_chain _ _ (λ q.
      holds-sum_over (renamed p z) g q
      ∙ codes_renamed.weight-renamed p p undoes undoes (λ s. holds (g s) q) z
      ∙ weight-same _ _ z (λ s _. ap (holds (g (p s))) (sym (undoes q)) ∙ arrows s (p q))
      ∙ sym (holds-sum_over z f (p q))
      ∙ sym (holds-renamed (sum_over z f) q))

-- D is C with the codes renamed by p
pub record IsRenamed {G : Type 0} (C D : Complex G) (p : ℕ → ℕ) : Type 0 where
  pub undoes : UndoesItself p
  pub same_up : (m : G) → C.up m ≡ D.up m
  pub degrees : (s : ℕ) → D.degree (p s) ≡ C.degree s
  pub arrows : (s t : ℕ) → arrow D (p s) (p t) ≡ arrow C s t

-- and the other way round
pub IsRenamed-back : {G : Type 0} (C D : Complex G) (p : ℕ → ℕ) → IsRenamed C D p → IsRenamed D C p
IsRenamed-back C D p is = record {
  undoes = is.undoes;
  same_up = λ m. sym (is.same_up m);
  degrees = λ s. sym (is.degrees (p s)) ∙ ap D.degree (is.undoes s);
  arrows = λ s t. sym (is.arrows (p s) (p t)) ∙ ap₂ (λ a b. arrow D a b) (is.undoes s) (is.undoes t);
}

module _ {G : Type 0} (C D : Complex G) (p : ℕ → ℕ) (is : IsRenamed C D p) where
  -- the border of the renamed chain is the renamed border
  pub border-renamed : (z : Chain) → border D (renamed p z) ≡ renamed p (border C z)
  border-renamed z = sum_over-renamed p is.undoes C.targets D.targets is.arrows z

  targets-renamed : (s : ℕ) → D.targets (p s) ≡ renamed p (C.targets s)
  targets-renamed s = same_chain _ _ (λ q.
      ap (arrow D (p s)) (sym (is.undoes q)) ∙ is.arrows s (p q) ∙ sym (holds-renamed p is.undoes (C.targets s) q))

  -- a renamed complex is a complex
  pub renamed_IsComplex : IsComplex C → IsComplex D
  renamed_IsComplex laws = record {
    up_one = λ m n e. laws.up_one m n (is.same_up m ∙ e ∙ sym (is.same_up n));
    up_other = λ m e. laws.up_other m (is.same_up m ∙ e);
    lowers = λ s t a.
        let (m, above, below) = laws.lowers (p s) (p t) ((IsRenamed-back C D p is).arrows s t ∙ a) in
        (m, sym (back.degrees s) ∙ above ∙ ap Some (is.same_up m), sym (back.degrees t) ∙ below);
    squares = λ s.
        ap (border D) (ap D.targets (sym (is.undoes s)) ∙ targets-renamed (p s))
        ∙ border-renamed (C.targets (p s)) ∙ ap (renamed p) (laws.squares (p s))
        ∙ same_chain _ _ (λ q. holds-renamed p is.undoes nothing q ∙ holds-nothing (p q) ∙ sym (holds-nothing q));
  }
    where
      back : IsRenamed D C p
      back = IsRenamed-back C D p is

  pub chain_map : IsChainMap C D (λ s. single (p s))
  chain_map = record {
    same_up = is.same_up;
    degrees = λ s m e t h. ap D.degree (eqb-true t (p s) (sym (holds-single (p s) t) ∙ h)) ∙ is.degrees s ∙ e;
    commutes =
        λ s m e. sym (renamed-sum p is.undoes (C.targets s)) ∙ sym (targets-renamed s) ∙ sym (border-single D (p s));
  }

  homotopy : IsHomotopy C (λ s. single (p s)) (λ s. single (p s)) (λ s. nothing)
  homotopy = record {
    raises = λ s m e t h. absurd (false≢true (sym (holds-nothing t) ∙ h));
    law = λ s m e.
        ap (λ z. single s ⊕ z) (sum_over-single (p s) (λ t. single (p t)) ∙ ap single (is.undoes s))
        ∙ add_self (single s)
        ∙ sym (ap₂ ◌⊕◌ (border-nothing C) (sum_over-nothing (C.targets s)) ∙ add_self nothing);
  }

-- complexes that differ by the names of their codes have the same ranks
pub rank_renamed : {G : Type 0} (C D : Complex G) (p : ℕ → ℕ) → IsRenamed C D p → (m : G) (d : ℕ) → IsRank C m d
    → IsRank D m d
rank_renamed C D p is m d r =
    rank_of_image C D (λ s. single (p s)) (λ s. single (p s)) (λ s. nothing) (λ s. nothing)
    (record {
      there = chain_map C D p is;
      back = chain_map D C p back;
      on_first = homotopy C D p is;
      on_second = homotopy D C p back;
    })
    m d r
  where
    back : IsRenamed D C p
    back = IsRenamed-back C D p is

-- ---- arrows turned round
-- the complex C with its codes renamed by p
abbrev pub renamed_complex : {G : Type 0} → (ℕ → ℕ) → Complex G → Complex G
renamed_complex p C = record { up = C.up; degree = λ s. C.degree (p s); targets = λ s. renamed p (C.targets (p s)) }

-- it is C renamed
pub renamed_complex_IsRenamed : {G : Type 0} (C : Complex G) (p : ℕ → ℕ) → UndoesItself p
    → IsRenamed C (renamed_complex p C) p
renamed_complex_IsRenamed C p undoes = record {
  undoes = undoes;
  same_up = λ m. refl;
  degrees = λ s. ap C.degree (undoes s);
  arrows = λ s t. holds-renamed p undoes (C.targets (p (p s))) (p t) ∙ ap₂ (λ a b. arrow C a b) (undoes s) (undoes t);
}

-- the degree that `flip` makes of a degree, if there is one
abbrev pub flipped_degree : {G : Type 0} → (G → G) → Option G → Option G
flipped_degree flip None = None
flipped_degree flip (Some m) = Some (flip m)

-- D is C with the codes renamed by p, each arrow turned round, and the degrees flipped_degree
pub record IsRenamedDual {G : Type 0} (C D : Complex G) (flip : G → G) (p : ℕ → ℕ) : Type 0 where
  pub undoes : UndoesItself p
  pub flip_back : (m : G) → flip (flip m) ≡ m
  pub flip_up : (m : G) → D.up (flip (C.up m)) ≡ flip m
  pub degrees : (s : ℕ) → D.degree (p s) ≡ flipped_degree flip (C.degree s)
  pub arrows : (s t : ℕ) → arrow D (p t) (p s) ≡ arrow C s t

flipped_degree-some : {G : Type 0} (flip : G → G) (d : Option G) (k : G) → flipped_degree flip d ≡ Some k → (m : G)
    × (d ≡ Some m) × (flip m ≡ k)
flipped_degree-some flip None k e = absurd (false≢true (ap is_some e))
flipped_degree-some flip (Some m) k e = (m, refl, same_some (flip m) k e)

module _ {G : Type 0} (C D : Complex G) (flip : G → G) (p : ℕ → ℕ) (is : IsRenamedDual C D flip p) where
  dual : IsDualOf C flip (renamed_complex p D)
  dual = record {
    flip_one = λ m n e. sym (is.flip_back m) ∙ ap flip e ∙ is.flip_back n;
    flip_up = is.flip_up;
    degrees = λ s m e. is.degrees s ∙ ap (flipped_degree flip) e;
    back = λ s k e. flipped_degree-some flip (C.degree s) k (sym (is.degrees s) ∙ e);
    arrows = λ s t. holds-renamed p is.undoes (D.targets (p t)) s ∙ is.arrows s t;
  }

  -- a finite complex and its renamed dual have the same ranks, at the degrees that `flip` makes
  pub rank_renamed_dual : (eq : G → G → Bool) (eq_is : (m n : G) → (eq m n ≡ true) ↔ (m ≡ n)) → IsComplex C
      → IsComplex D → (xs : List ℕ) → HasAllCells C xs
      → (m : G) (d : ℕ) → IsRank C m d → IsRank D (flip m) d
  rank_renamed_dual eq eq_is laws laws_d xs in_xs m d r =
      let there = renamed_complex_IsRenamed D p is.undoes in
      rank_renamed (renamed_complex p D) D p (IsRenamed-back D (renamed_complex p D) p there) (flip m) d
      (ranks_of_dual eq eq_is C laws xs in_xs flip (renamed_complex p D) dual
      (renamed_IsComplex D (renamed_complex p D) p there laws_d) m d r)
