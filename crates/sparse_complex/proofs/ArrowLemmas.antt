-- Arrows.
use Rattle.state_rank.proofs.RankLemmas.{IsBijection-unrank}
use Rattle.state_rank.specs.Bijection.{IsBijection}
use Rattle.torus_geom.specs.Chains.{members, single}
use Rattle.torus_geom.specs.Border.{border as border_of}
use Rattle.rectangles.proofs.Homology.BorderLaws.{targets_codes}
use Rattle.std.proofs.Common.{◌≡◌, ℕ, zero, suc, ℤ, ◌+◌, ◌<◌, Bool, true, false, ◌&&◌, ◌||◌, eqb, ltb, List, [], ◌∷◌, ◌++◌, map, length, take, get_or, is_some, refl, sym, ap, ap₂, subst, ◌∙◌, arith}
use Rattle.std.proofs.lemmas.Bool.{eq-eqb, eqb-true, ne_eqb, lt-ltb, ltb-true, true≢false, and_parts, and_from}
use Rattle.f2_algebra.specs.Complex.{Complex, arrow}
use Rattle.f2_algebra.proofs.Chains.Tables.{same, same_test}
use Rattle.f2_algebra.proofs.Chains.Sets.{any-append, holds-codes, IsApart, IsApart-codes}
use Rattle.state_rank.specs.States.{rank, unrank, factorial}
use Rattle.f2_algebra.specs.Chain.{holds, codes}
use Rattle.f2_algebra.specs.Bigraded.{at_alexander}
use Rattle.torus_geom.specs.Marks.{Marks, size, IsGrid}
use Rattle.torus_geom.specs.Inner.CodeBorder.{border_of_state}
use Rattle.torus_geom.specs.Inner.GridComplex.{grid_complex}
use Rattle.sparse_complex.specs.declared.links.Links.{Links}
use Rattle.sparse_complex.specs.declared.slices.Cell.{Cell}
use Rattle.sparse_complex.specs.Inner.Lists.{among, AreDistinct, linked_heads}
use Rattle.sparse_complex.specs.Inner.Graph.{AreListed, width, has_arrow, code_at, IsLinked}
use Rattle.sparse_complex.specs.Inner.Stored.{key_of, is_live}
use Rattle.sparse_complex.specs.Inner.Built.{AreCells, AreKeys, AreLinksBelow}
use Rattle.sparse_complex.proofs.ListLemmas.{in_head, in_tail}
use Rattle.sparse_complex.proofs.WriteLemmas.{AreInLists-same}
use Rattle.sparse_complex.proofs.PutInLemmas.{length-linked}
use Rattle.sparse_complex.proofs.ArrowChangeLemmas.{has_arrow-linked}
use Rattle.sparse_complex.proofs.GraphLemmas.{no_node}
use Rattle.sparse_complex.proofs.StoredLemmas.{has_arrow-reserved}
use Rattle.sparse_complex.proofs.GridPartLemmas.{targets-live, no_cell_past, part_rules}
use Rattle.sparse_complex.proofs.BuildLemmas.{code-below, degree-at, ltb-next}
use Rattle.sparse_complex.proofs.WholeSliceLemmas.{cell-live}

-- the arrows before the key are in, and of those out of it the ones to the codes that are done
pub record ArrowsPlace (D : Complex ℤ) (cells : List Cell) (key : ℕ) (done : List ℕ) (now : Links) : Type 0 where
  pub listed : AreListed now
  pub whole : width now ≡ length cells
  pub arrows : (p q : ℕ)
      → has_arrow now p q
      ≡ (((ltb p key && ltb q (length cells)) && arrow D (code_at cells p) (code_at cells q))
      || (eqb p key && (ltb q (length cells) && among (code_at cells q) done)))

links-none : (D : Complex ℤ) (cells : List Cell) (l : Links) → AreListed l → width l ≡ length cells
    → ((s t : ℕ) → has_arrow l s t ≡ false) → AreLinksBelow D cells 0 l
links-none D cells l t w none = record {
  listed = t;
  whole = w;
  arrows = λ p q. none p q
      ∙ sym (ap (λ b. (b && ltb q (length cells)) && arrow D (code_at cells p) (code_at cells q)) (no p));
}
  where
    no : (p : ℕ) → ltb p 0 ≡ false
    no p = grind arith

pub arrows-start : (D : Complex ℤ) (cells : List Cell) (key : ℕ) (old now : Links) → AreLinksBelow D cells key old
    → now.pool.nodes ≡ old.pool.nodes → now.heads.items ≡ old.heads.items → ArrowsPlace D cells key [] now
arrows-start D cells key old now b nodes heads = record {
  listed = AreInLists-same _ _ _ _ nodes heads b.listed;
  whole = ap length heads ∙ b.whole;
  arrows = λ p q.
      has_arrow-reserved old now nodes heads p q ∙ b.arrows p q
      ∙ same 3 (λ x e l. x) (λ x e l. x || (e && (l && false))) refl
      ((ltb p key && ltb q (length cells)) && arrow D (code_at cells p) (code_at cells q)) (eqb p key)
      (ltb q (length cells));
}

module _ (D : Complex ℤ) (cells : List Cell) (keys : List ℕ) (k : AreKeys keys cells) (key : ℕ)
    (in_cells : key < length cells) (done : List ℕ) (now : Links) (a : ArrowsPlace D cells key done now)
    (c : ℕ) (live : is_live keys c ≡ true) (fresh : among c done ≡ false) where
  -- the key of the code
  pub target-in : key_of keys c < width now
  target-in = subst (λ n. key_of keys c < n) (sym a.whole) (k.live c live).0

  pub source-in : key < width now
  source-in = subst (λ n. key < n) (sym a.whole) in_cells

  pub not_below : (n : ℕ) → ltb n n ≡ false
  not_below n = grind arith

  -- the arrow is not there yet
  pub not-yet : has_arrow now key (key_of keys c) ≡ false
  not-yet =
      a.arrows key (key_of keys c)
      ∙ (λ i. ((not_below key i && ltb (key_of keys c) (length cells))
      && arrow D (code_at cells key) (code_at cells (key_of keys c)))
      || (eqb key key && (ltb (key_of keys c) (length cells) && (ap (λ d. among d done) (k.live c live).1 ∙ fresh) i)))
      ∙ same 2 (λ e l. e && (l && false)) (λ e l. false) refl (eqb key key) (ltb (key_of keys c) (length cells))

  key-is : (t : ℕ) → eqb t (key_of keys c) ≡ (ltb t (length cells) && eqb (code_at cells t) c)
  key-is t = same_test _ _
      (λ h. let e = eqb-true t (key_of keys c) h in and_from (ltb t (length cells)) (eqb (code_at cells t) c)
      (lt-ltb t (length cells) (subst (λ j. j < length cells) (sym e) (k.live c live).0))
      (eq-eqb (code_at cells t) c (ap (code_at cells) e ∙ (k.live c live).1)))
      (λ h. let p = and_parts (ltb t (length cells)) (eqb (code_at cells t) c) h in
      eq-eqb t (key_of keys c) (sym (k.placed t (ltb-true t (length cells) p.0))
      ∙ ap (key_of keys) (eqb-true (code_at cells t) c p.1)))

  -- and then it is
  pub arrows-step : (new : Links) → AreListed new → IsLinked key (key_of keys c) now new
      → ArrowsPlace D cells key (done ++ c ∷ []) new
  arrows-step new t u = record {
    listed = t;
    whole = ap length u.heads ∙ length-linked-is ∙ a.whole;
    arrows = λ p q.
        has_arrow-linked now new a.listed key (key_of keys c) source-in target-in not-yet u p q
        ∙ ap₂ (λ x y. x || (eqb p key && y)) (a.arrows p q) (key-is q)
        ∙ same 5 (λ x e l m n. (x || (e && (l && m))) || (e && (l && n)))
        (λ x e l m n. x || (e && (l && (m || (n || false))))) refl
        ((ltb p key && ltb q (length cells)) && arrow D (code_at cells p) (code_at cells q)) (eqb p key)
        (ltb q (length cells)) (among (code_at cells q) done) (eqb (code_at cells q) c)
        ∙ ap (λ y. ((ltb p key && ltb q (length cells)) && arrow D (code_at cells p) (code_at cells q))
        || (eqb p key && (ltb q (length cells) && y))) (sym (any-append (code_at cells q) done (c ∷ [])));
  }
    where
      length-linked-is : length (linked_heads now.heads.items u.id key (key_of keys c)) ≡ width now
      length-linked-is =
          length-linked now.pool.nodes now.heads.items a.listed u.id u.fresh u.is_id key
          (key_of keys c) source-in target-in (no_node now a.listed key (key_of keys c) not-yet)

pub arrows-end : (D : Complex ℤ) (cells : List Cell) (key : ℕ) (done : List ℕ) (now : Links)
    → ArrowsPlace D cells key done now → ((t : ℕ) → among t done ≡ arrow D (code_at cells key) t)
    → AreLinksBelow D cells (key + 1) now
arrows-end D cells key done now a all = record {
  listed = a.listed;
  whole = a.whole;
  arrows = λ p q.
      a.arrows p q
      ∙ ap (λ y. ((ltb p key && ltb q (length cells)) && arrow D (code_at cells p) (code_at cells q))
      || (eqb p key && (ltb q (length cells) && y))) (all (code_at cells q))
      ∙ by p q (eqb p key) refl
      ∙ ap (λ b. (b && ltb q (length cells)) && arrow D (code_at cells p) (code_at cells q)) (sym (ltb-next p key));
}
  where
    by : (p q : ℕ) (b : Bool) → eqb p key ≡ b
        → (((ltb p key && ltb q (length cells)) && arrow D (code_at cells p) (code_at cells q))
        || (eqb p key && (ltb q (length cells) && arrow D (code_at cells key) (code_at cells q))))
        ≡ (((ltb p key || eqb p key) && ltb q (length cells)) && arrow D (code_at cells p) (code_at cells q))
    by p q true e =
        ap₂ (λ b s. ((ltb p key && ltb q (length cells)) && arrow D (code_at cells p) (code_at cells q))
        || (b && (ltb q (length cells) && arrow D (code_at cells s) (code_at cells q)))) e
        (sym (eqb-true p key e))
        ∙ same 3 (λ l m a. ((l && m) && a) || (m && a)) (λ l m a. ((l || true) && m) && a) refl (ltb p key)
        (ltb q (length cells)) (arrow D (code_at cells p) (code_at cells q))
        ∙ ap (λ b. ((ltb p key || b) && ltb q (length cells)) && arrow D (code_at cells p) (code_at cells q)) (sym e)
    by p q false e =
        ap (λ b. ((ltb p key && ltb q (length cells)) && arrow D (code_at cells p) (code_at cells q))
        || (b && (ltb q (length cells) && arrow D (code_at cells key) (code_at cells q)))) e
        ∙ same 3 (λ l m a. ((l && m) && a) || false) (λ l m a. ((l || false) && m) && a) refl (ltb p key)
        (ltb q (length cells)) (arrow D (code_at cells p) (code_at cells q))
        ∙ ap (λ b. ((ltb p key || b) && ltb q (length cells)) && arrow D (code_at cells p) (code_at cells q)) (sym e)

-- ---- the codes that were read
distinct-too : (xs : List ℕ) → IsApart xs → AreDistinct xs
distinct-too [] a = tt
distinct-too (x ∷ xs) a = (a.0, distinct-too xs a.1)

-- an element is among all
in-all : (cs : List ℕ) (i d : ℕ) → i < length cs → among (get_or cs i d) cs ≡ true
in-all [] i d l = absurd (omega arith)
in-all (c ∷ cs) zero d l = in_head c cs
in-all (c ∷ cs) (suc i) d l = in_tail (get_or cs i d) c cs (in-all cs i d (omega arith))

-- an element is not among those before it
not-before : (cs : List ℕ) (i d : ℕ) → i < length cs → AreDistinct cs → among (get_or cs i d) (take i cs) ≡ false
not-before [] i d l a = absurd (omega arith)
not-before (c ∷ cs) zero d l a = refl
not-before (c ∷ cs) (suc i) d l a =
    ap₂ (λ b c. b || c) (ne_eqb (get_or cs i d) c
    (λ e. true≢false (sym (in-all cs i d (omega arith)) ∙ ap (λ r. among r cs) e ∙ a.0)))
    (not-before cs i d (omega arith) a.1)

-- ---- the arrows of a cell of a grid
-- the indices that are listed are the codes of the border of the state of the cell
pub listed-border : (g : Marks) (a : ℤ) (cells : List Cell)
    → AreCells (at_alexander a (grid_complex g)) (factorial (size g)) cells → (key : ℕ) → key < length cells
    → (x : List ℕ) → x ≡ unrank (size g) (code_at cells key) → (items : List ℕ)
    → items ≡ map rank (members (size g) (border_of g (single x))) → items ≡ codes (border_of_state g x)
listed-border g a cells s key l x x_is items e =
    let below = code-below (at_alexander a (grid_complex g)) (factorial (size g)) cells s key l in
    let sx = IsBijection-unrank (size g) (code_at cells key) below in
    e ∙ targets_codes g x (subst (IsBijection (size g)) (sym x_is) sx) (members (size g) (border_of g (single x))) refl

module _ (g : Marks) (a : ℤ) (grid : IsGrid g) (cells : List Cell)
    (s : AreCells (at_alexander a (grid_complex g)) (factorial (size g)) cells) (keys : List ℕ) (k : AreKeys keys cells)
    (key : ℕ) (l : key < length cells)
    (items : List ℕ) (x : List ℕ) (x_is : x ≡ unrank (size g) (code_at cells key))
    (border : items ≡ codes (border_of_state g x)) where
  -- the indices are the targets
  pub all-targets : (t : ℕ) → among t items ≡ arrow (at_alexander a (grid_complex g)) (code_at cells key) t
  all-targets t =
      ap (among t) border ∙ sym (holds-codes (border_of_state g x) t) ∙ ap (λ y. holds (border_of_state g y) t) x_is
      ∙ ap (λ z. holds z t) (sym (targets-live g a (code_at cells key)
      (code-below (at_alexander a (grid_complex g)) (factorial (size g)) cells s key l)
      (ap is_some (degree-at (at_alexander a (grid_complex g)) (factorial (size g)) cells s key l))))

  distinct-items : AreDistinct items
  distinct-items =
      subst AreDistinct (sym border) (distinct-too (codes (border_of_state g x)) (IsApart-codes (border_of_state g x)))

  -- each is live
  pub target-live : (i d : ℕ) → i < length items → is_live keys (get_or items i d) ≡ true
  target-live i d m =
      let h : arrow (at_alexander a (grid_complex g)) (code_at cells key) (get_or items i d) ≡ true =
      sym (all-targets (get_or items i d)) ∙ in-all items i d m in
      let (deg, up, down) = (part_rules g a grid).lowers (code_at cells key) (get_or items i d) h in
      cell-live (at_alexander a (grid_complex g)) (factorial (size g)) (part_rules g a grid) refl
      (no_cell_past g a) cells s keys k (get_or items i d) (ap is_some down)

  -- and comes once
  pub target-fresh : (i d : ℕ) → i < length items → among (get_or items i d) (take i items) ≡ false
  target-fresh i d m = not-before items i d m distinct-items
