-- The whole slice.
use Rattle.std.proofs.Common.{◌≡◌, ℕ, ℤ, pos, ◌+ℤ◌, ◌<◌, ◌≤◌, Bool, true, false, cond, ◌&&◌, ltb, List, length, Option, Some, None, is_some, refl, sym, ap, ap₂, subst, ◌∙◌, arith}
use Rattle.std.proofs.lemmas.Bool.{lt-ltb, ltb-true, ltb-false, true≢false, and_parts, and_from}
use Rattle.f2_algebra.specs.Complex.{Complex, arrow, IsComplex}
use Rattle.f2_algebra.specs.Slice.{slice_complex}
use Rattle.f2_algebra.proofs.Cancelling.Slice.{same_complex}
use Rattle.sparse_complex.specs.declared.links.Links.{Links}
use Rattle.sparse_complex.specs.declared.slices.Cell.{Cell}
use Rattle.sparse_complex.specs.Inner.Graph.{code_at}
use Rattle.sparse_complex.specs.Inner.Stored.{most_keys, key_of, is_live, maslov_at, slice_of, IsStoredByKey}
use Rattle.sparse_complex.specs.Inner.Built.{AreCells, AreKeys, AreLinksBelow}
use Rattle.sparse_complex.proofs.GraphLemmas.{has_arrow-from, has_arrow-to}
use Rattle.sparse_complex.proofs.StoredLemmas.{degree-slice_of, arrow-stored, live_is}
use Rattle.sparse_complex.proofs.BuildLemmas.{degree-at, every}
use Rattle.f2_algebra.proofs.Chains.Tables.{same_test}

module _ (D : Complex ℤ) (n : ℕ) (rules : IsComplex D) (up : D.up ≡ (λ m. m +ℤ pos 1))
    (past : (c : ℕ) → n ≤ c → D.degree c ≡ None) (cells : List Cell) (s : AreCells D n cells) (keys : List ℕ)
    (k : AreKeys keys cells) where
  -- a code with a degree is below n
  below-n : (c : ℕ) → is_some (D.degree c) ≡ true → c < n
  below-n c h = by (ltb c n) refl
    where
      by : (b : Bool) → ltb c n ≡ b → c < n
      by true e = ltb-true c n e
      by false e = absurd (true≢false (sym h ∙ ap is_some (past c (ltb-false c n e))))

  -- and it is live
  pub cell-live : (c : ℕ) → is_some (D.degree c) ≡ true → is_live keys c ≡ true
  cell-live c h =
      let (p, l, e) = every D n cells s c (below-n c h) h in
      let sm = k.small in
      let is : key_of keys c ≡ p = ap (key_of keys) (sym e) ∙ k.placed p l in
      live_is keys c (λ q. omega arith)

  -- the degree of a live code
  pub degree-live : (c : ℕ) → is_live keys c ≡ true → D.degree c ≡ Some (maslov_at cells (key_of keys c))
  degree-live c h = let w = k.live c h in ap D.degree (sym w.1) ∙ degree-at D n cells s (key_of keys c) w.0

  module _ (links : Links) (a : AreLinksBelow D cells (length cells) links) where
    pub stored-built : IsStoredByKey keys cells links
    stored-built = record {
      listed = a.listed;
      small = subst (λ w. w ≤ most_keys) (sym a.whole) k.small;
      whole = sym a.whole;
      keyed = λ c h. let w = k.live c h in (subst (λ m. key_of keys c < m) (sym a.whole) w.0, w.1);
      ends = λ p q h. (
        k.placed p (subst (λ m. p < m) a.whole (has_arrow-from links a.listed p q h)),
        k.placed q (subst (λ m. q < m) a.whole (has_arrow-to links a.listed p q h)),
      );
    }

    degree-built : (c : ℕ) → (slice_complex (slice_of keys cells links)).degree c ≡ D.degree c
    degree-built c = degree-slice_of keys cells links c ∙ by (is_live keys c) refl (is_some (D.degree c)) refl
      where
        no_degree : (o : Option ℤ) → is_some o ≡ false → None ≡ o
        no_degree None h = refl
        no_degree (Some m) h = absurd (true≢false h)

        by : (b : Bool) → is_live keys c ≡ b → (d : Bool) → is_some (D.degree c) ≡ d
            → cond b (Some (maslov_at cells (key_of keys c))) None ≡ D.degree c
        by true e d f = sym (degree-live c e)
        by false e true f = absurd (true≢false (sym (cell-live c f) ∙ e))
        by false e false f = no_degree (D.degree c) f

    arrow-built : (c d : ℕ) → arrow (slice_complex (slice_of keys cells links)) c d ≡ arrow D c d
    arrow-built c d =
        arrow-stored keys cells links stored-built c d
        ∙ ap (λ h. (is_live keys c && is_live keys d) && h) (a.arrows (key_of keys c) (key_of keys d))
        ∙ same_test _ _ forth back
      where
        forth : ((is_live keys c && is_live keys d)
            && ((ltb (key_of keys c) (length cells) && ltb (key_of keys d) (length cells))
            && arrow D (code_at cells (key_of keys c)) (code_at cells (key_of keys d)))) ≡ true → arrow D c d ≡ true
        forth h =
            let p = and_parts (is_live keys c && is_live keys d)
            ((ltb (key_of keys c) (length cells) && ltb (key_of keys d) (length cells))
            && arrow D (code_at cells (key_of keys c)) (code_at cells (key_of keys d))) h in
            let q = and_parts (is_live keys c) (is_live keys d) p.0 in
            let r = and_parts (ltb (key_of keys c) (length cells) && ltb (key_of keys d) (length cells))
            (arrow D (code_at cells (key_of keys c)) (code_at cells (key_of keys d))) p.1 in
            ap₂ (arrow D) (sym (k.live c q.0).1) (sym (k.live d q.1).1) ∙ r.1

        back : arrow D c d ≡ true
            → ((is_live keys c && is_live keys d)
            && ((ltb (key_of keys c) (length cells) && ltb (key_of keys d) (length cells))
            && arrow D (code_at cells (key_of keys c)) (code_at cells (key_of keys d)))) ≡ true
        back h =
            let (m, e, f) = rules.lowers c d h in
            let u = cell-live c (ap is_some e) in
            let v = cell-live d (ap is_some f) in
            let x = k.live c u in
            let y = k.live d v in
            and_from (is_live keys c && is_live keys d)
            ((ltb (key_of keys c) (length cells) && ltb (key_of keys d) (length cells))
            && arrow D (code_at cells (key_of keys c)) (code_at cells (key_of keys d)))
            (and_from (is_live keys c) (is_live keys d) u v)
            (and_from (ltb (key_of keys c) (length cells) && ltb (key_of keys d) (length cells))
            (arrow D (code_at cells (key_of keys c)) (code_at cells (key_of keys d)))
            (and_from (ltb (key_of keys c) (length cells)) (ltb (key_of keys d) (length cells))
            (lt-ltb (key_of keys c) (length cells) x.0) (lt-ltb (key_of keys d) (length cells) y.0))
            (ap₂ (arrow D) x.1 y.1 ∙ h))

    -- the slice is the complex
    pub built-is : slice_complex (slice_of keys cells links) ≡ D
    built-is = same_complex (slice_complex (slice_of keys cells links)) D (sym up) degree-built arrow-built

    pub built-rules : IsComplex (slice_complex (slice_of keys cells links))
    built-rules = subst IsComplex (sym built-is) rules
