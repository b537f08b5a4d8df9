-- A certificate that passes tells the rank of its complex in each degree, and each log that leaves no arrow makes one.
use Rattle.std.proofs.Common.{◌≡◌, ◌≢◌, ℕ, suc, Bool, true, false, cond, List, [], ◌∷◌, map, length, Any, Some, is_some, ◌↔◌, ◌⊎◌, inl, inr, refl, sym, ap, ap₂, subst, ◌∙◌, arith}
use Rattle.std.proofs.lemmas.Bool.{true≢false, false≢true}
use Rattle.std.proofs.lemmas.List.{length-map}
use Rattle.std.proofs.lemmas.List.Elements.{All-nil}
use Rattle.f2_algebra.specs.Chain.{Chain, holds, codes, nothing}
use Rattle.f2_algebra.specs.Complex.{Complex, IsComplex, AllOfDegree, IsCycle, IsRank}
use Rattle.f2_algebra.specs.Cancel.{Entry, IsLog, after}
use Rattle.f2_algebra.specs.Certificate.{StepPair, AreStepPairs, CertCell, steps_at, IsCertCell, Passes}
use Rattle.f2_algebra.proofs.Chains.Sets.{any, same_chain, holds-nothing, holds-codes}
use Rattle.f2_algebra.proofs.Chains.Sums.{add-nothing}
use Rattle.f2_algebra.proofs.Cancelling.Cancellation.{border-nothing}
use Rattle.f2_algebra.proofs.Cancelling.LogLemmas.{none_where, live_at_first}
use Rattle.f2_algebra.proofs.Ranks.RankLemmas.{degree-nothing}
use Rattle.f2_algebra.proofs.Ranks.Existence.{HasAllCells, has_degree, has_degree-is, cells_of, cells_of-all}
use Rattle.f2_algebra.proofs.Certificates.Span.{Every}
use Rattle.f2_algebra.proofs.Certificates.Certificate.{Every-All, all_from, rank_of_certificate}
use Rattle.f2_algebra.proofs.Certificates.LogCertificate.{IsTest, step_pairs, own_pair, lifted_pair, cycle_pair, step_pairs_pass, cycle_pairs_pass}
use Rattle.f2_algebra.proofs.Cancelling.LogCounts.{count_log}
use Rattle.f2_algebra.proofs.Chains.Cardinality.{cardinality-length}

-- a degree that no cell has is of rank 0
pub rank_none : {G : Type 0} (C : Complex G) (m : G) → ((s : ℕ) → C.degree s ≡ Some m → ⊥) → IsRank C m 0
rank_none C m none = (
  [],
  record {
    cycles = All-nil (IsCycle C m);
    one_subset =
        λ z c. (
          [],
          (refl, (nothing, degree-nothing C (C.up m), border-nothing C ∙ sym (add-nothing z ∙ empty z c.0))),
          λ ps f. no_picks ps f.0,
        );
  },
  refl,
)
  where
    empty : (z : Chain) → AllOfDegree C m z → z ≡ nothing
    empty z of = same_chain z nothing (λ s. none_where (holds z s) (λ h. none s (of s h)) ∙ sym (holds-nothing s))

    no_picks : (ps : List Bool) → length ps ≡ 0 → ps ≡ []
    no_picks [] l = refl
    no_picks (p ∷ ps) l = absurd (omega arith)

-- no step pairs pass
pub no_steps : {G : Type 0} (C : Complex G) (m : G) → AreStepPairs C m []
no_steps {G} C m = record {
  steps = All-nil (λ (p : StepPair). AllOfDegree C m p.step);
  probe_degrees = λ k d l. absurd (omega arith);
  own = λ k d l. absurd (omega arith);
  later = λ i j d k l. absurd (omega arith);
}

module _ {G : Type 0} (eq : G → G → Bool) (eq_is : (m n : G) → (eq m n ≡ true) ↔ (m ≡ n)) (C : Complex G)
    (laws : IsComplex C) where
  pick_steps : (m : G) (c : CertCell G) (rest : List StepPair) (b : Bool) → eq c.at m ≡ b → AreStepPairs C c.at c.steps
      → AreStepPairs C m rest → AreStepPairs C m (cond b c.steps rest)
  pick_steps m c rest true is here later = subst (λ n. AreStepPairs C n c.steps) ((eq_is c.at m).0 is) here
  pick_steps m c rest false is here later = later

  steps_at_pass : (cert : List (CertCell G)) → Every (λ (c : CertCell G). AreStepPairs C c.at c.steps) cert → (m : G)
      → AreStepPairs C m (steps_at eq cert m)
  steps_at_pass [] h m = no_steps C m
  steps_at_pass (c ∷ cert) h m = pick_steps m c (steps_at eq cert m) (eq c.at m) refl h.0 (steps_at_pass cert h.1 m)

  cell_steps : (whole cert : List (CertCell G)) → Every (IsCertCell eq C whole) cert
      → Every (λ (c : CertCell G). AreStepPairs C c.at c.steps) cert
  cell_steps whole [] h = tt
  cell_steps whole (c ∷ cert) h = (h.0.step_pairs, cell_steps whole cert h.1)

  -- each cell of a certificate that passes tells the rank in its degree
  pub rank_of_cell : (cert : List (CertCell G)) → Passes eq C cert → (c : CertCell G) → IsCertCell eq C cert c
      → IsRank C c.at (length c.cycles)
  rank_of_cell cert passes c is =
      let (cells, all, _, count) = is.count in
      let above = steps_at_pass cert
      (cell_steps cert cert (Every-All (IsCertCell eq C cert) cert passes.0)) (C.up c.at) in
      rank_of_certificate C laws c.at cells all c.cycles c.steps
      (steps_at eq cert (C.up c.at)) is.cycle_pairs is.step_pairs above (omega (arith, count))

  -- and in a degree that has no cell in it the rank is 0
  pub rank_elsewhere : (cert : List (CertCell G)) → Passes eq C cert → (m : G)
      → (Any (λ (c : CertCell G). c.at ≡ m) cert → ⊥) → IsRank C m 0
  rank_elsewhere cert passes m none = rank_none C m (λ s is. none (passes.1 s m is))

  -- ---- the certificate that a log makes, for a list of degrees
  module _ (xs : List ℕ) (in_xs : HasAllCells C xs) (log : List Entry) (stands : IsLog C log)
      (bare : (s : ℕ) → (after C log).targets s ≡ nothing) where
    abbrev test_of : G → ℕ → Bool
    test_of m s = has_degree eq m (C.degree s)

    is_test : (m : G) → IsTest C m (test_of m)
    is_test m s live = has_degree-is eq eq_is m (C.degree s)

    -- the cell of a degree that a log makes
    abbrev pub cert_cell_of_log : G → CertCell G
    cert_cell_of_log m =
        record {
          at = m;
          cycles = map (cycle_pair log) (codes (cells_of eq eq_is (after C log) xs m));
          steps = step_pairs (test_of m) log;
        }

    -- the cells of a list of degrees that a log makes
    abbrev pub cert_of_log : List G → List (CertCell G)
    cert_of_log ms = map cert_cell_of_log ms

    in_after : HasAllCells (after C log) xs
    in_after s live = in_xs s (sym (ap is_some (live_at_first C laws log stands s live)) ∙ live)

    -- m stands in the list
    abbrev pub In : G → List G → Type 0
    In m [] = ⊥
    In m (n ∷ ns) = (n ≡ m) ⊎ In m ns

    steps_none : (p : ℕ → Bool) → ((s : ℕ) → p s ≡ false) → (es : List Entry) → step_pairs p es ≡ []
    steps_none p none [] = refl
    steps_none p none (e ∷ es) =
        ap₂ (λ b qs. cond b (own_pair e ∷ map (lifted_pair e) qs) (map (lifted_pair e) qs)) (none e.x)
        (steps_none p none es)

    not_head : (n m : G) (ns : List G) → eq n m ≡ false → In m (n ∷ ns) → In m ns
    not_head n m ns is (inl e) = absurd (true≢false (sym ((eq_is n m).1 e) ∙ is))
    not_head n m ns is (inr i) = i

    steps_at_made : (ms : List G) (m : G) → ((s : ℕ) → C.degree s ≡ Some m → In m ms)
        → steps_at eq (cert_of_log ms) m ≡ step_pairs (test_of m) log
    steps_at_made [] m listed =
        sym (steps_none (test_of m) (λ s. none_where (test_of m s)
        (λ h. listed s ((has_degree-is eq eq_is m (C.degree s)).0 h))) log)
    steps_at_made (n ∷ ns) m listed = by_test (eq n m) refl (steps_at_made ns m)
      where
        by_test : (b : Bool) → eq n m ≡ b
            → (((s : ℕ) → C.degree s ≡ Some m → In m ns) → steps_at eq (cert_of_log ns) m ≡ step_pairs (test_of m) log)
            → cond b (step_pairs (test_of n) log) (steps_at eq (cert_of_log ns) m) ≡ step_pairs (test_of m) log
        by_test true is later = ap (λ k. step_pairs (test_of k) log) ((eq_is n m).0 is)
        by_test false is later = later (λ s e. not_head n m ns is (listed s e))

    made_cell_passes : (ms : List G) → ((s : ℕ) (m : G) → C.degree s ≡ Some m → In m ms) → (m : G) (s : ℕ)
        → C.degree s ≡ Some m → IsCertCell eq C (cert_of_log ms) (cert_cell_of_log m)
    made_cell_passes ms listed m s is =
        let z = cells_of eq eq_is C xs m in
        let w = cells_of eq eq_is (after C log) xs m in
        let all = cells_of-all eq eq_is C xs in_xs m in
        let all_w = cells_of-all eq eq_is (after C log) xs in_after m in
        let n = count_log C laws log stands m (test_of m) (test_of (C.up m)) (is_test m)
        (is_test (C.up m)) z w all all_w in
        record {
          count = (
            z,
            all,
            some_codes z s ((all s).1 is),
            omega (
              arith,
              n,
              cardinality-length z,
              cardinality-length w,
              length-map (codes w) (cycle_pair log),
              ap length (steps_at_made ms (C.up m) (λ t e. listed t (C.up m) e)),
            ),
          );
          cycle_pairs = cycle_pairs_pass C laws log stands bare m w all_w;
          step_pairs = step_pairs_pass C laws log stands m (test_of m) (is_test m);
        }
      where
        some_codes : (z : Chain) (s : ℕ) → holds z s ≡ true → length (codes z) ≢ 0
        some_codes z s h none = at_list (codes z) none (sym (holds-codes z s) ∙ h)
          where
            at_list : (ys : List ℕ) → length ys ≡ 0 → any s ys ≡ true → ⊥
            at_list [] l i = false≢true i
            at_list (y ∷ ys) l i = omega arith

    any_of : (ms : List G) (m : G) → In m ms → Any (λ (c : CertCell G). c.at ≡ m) (cert_of_log ms)
    any_of [] m i = absurd i
    any_of (n ∷ ns) m (inl e) = (0, cert_cell_of_log n, omega arith, refl, e)
    any_of (n ∷ ns) m (inr i) = let (k, x, l, is, at) = any_of ns m i in (suc k, x, omega arith, is, at)

    made_all : (ms : List G) → ((s : ℕ) (m : G) → C.degree s ≡ Some m → In m ms) → (ns : List G)
        → Every (λ (n : G). (s : ℕ) × (C.degree s ≡ Some n)) ns
        → Every (IsCertCell eq C (cert_of_log ms)) (cert_of_log ns)
    made_all ms listed [] h = tt
    made_all ms listed (n ∷ ns) h = (made_cell_passes ms listed n h.0.0 h.0.1, made_all ms listed ns h.1)

    -- it passes, if the list has exactly the degrees of the cells
    pub made_passes : (ms : List G) → ((s : ℕ) (m : G) → C.degree s ≡ Some m → In m ms)
        → Every (λ (n : G). (s : ℕ) × (C.degree s ≡ Some n)) ms → Passes eq C (cert_of_log ms)
    made_passes ms listed real = (
      all_from (IsCertCell eq C (cert_of_log ms)) (cert_of_log ms) (made_all ms listed ms real),
      λ s m is. any_of ms m (listed s m is),
    )
