-- Counting cells in a map from bidegrees to ranks.
use Rattle.std.proofs.Common.{◌≡◌, ℕ, ◌+◌, ◌<◌, ◌≤◌, ℤ, Bool, true, false, cond, List, [], ◌∷◌, ◌++◌, length, length-append, Option, Some, None, refl, sym, ap, subst, ◌∙◌, arith}
use Rattle.std.specs.List.{filter}
use Rattle.std.specs.Option.{unwrap_or, IfSome}
use Rattle.std.specs.Ordering.{int_eq, is_eq}
use Rattle.std.specs.declared.cmp.Ordering.{Ordering}
use Rattle.std.specs.declared.cmp.Ordering.TheVariants.{Less, Equal, Greater}
use Rattle.std.specs.BTreeMap as tree
use Rattle.std.proofs.lemmas.Bool.{false≢true, true≢false}
use Rattle.std.proofs.lemmas.Bool.Decides.{Decides-int_eq}
use Rattle.std.proofs.lemmas.Cmp.{tied_itself}
use Rattle.f2_algebra.proofs.Cancelling.LogLemmas.{none_where}
use Rattle.sparse_complex.specs.declared.slices.Cell.{Cell}
use Rattle.torus_geom.specs.Marks.{Marks}
use Rattle.torus_geom.specs.Inner.CodeHomology.{IsHomologyRank}
use Rattle.gradings.specs.Degrees.{bidegree_cmp}
use Rattle.gradings.specs.declared.degrees.Bidegree.{Bidegree}
use Rattle.gradings.proofs.OrderLemmas.{bidegree_cmp_total, bidegree_cmp_exact}
use Rattle.hat_division.proofs.RankMapLemmas.{key_itself, key_other}
use Rattle.hat_division.specs.RankMaps.{bidegree_key, Ranks, rank_in}
use Rattle.homology_cert.specs.Inner.Ranks.{degree_count, HasRanks, AreCounted, IsTold}

-- ---- how many cells have a degree
count-none : (m : ℤ) → degree_count m [] ≡ 0
count-none m = refl

filter-push : (p : Cell → Bool) (xs : List Cell) (c : Cell)
    → filter p (xs ++ c ∷ []) ≡ filter p xs ++ cond (p c) (c ∷ []) []
filter-push p [] c = by (p c)
  where
    by : (b : Bool) → cond b (c ∷ []) [] ≡ cond b (c ∷ []) []
    by b = refl
filter-push p (x ∷ xs) c = by (p x) (filter-push p xs c)
  where
    by : (b : Bool) → filter p (xs ++ c ∷ []) ≡ filter p xs ++ cond (p c) (c ∷ []) []
        → cond b (x ∷ filter p (xs ++ c ∷ [])) (filter p (xs ++ c ∷ []))
        ≡ cond b (x ∷ filter p xs) (filter p xs) ++ cond (p c) (c ∷ []) []
    by true e = ap (λ ys. x ∷ ys) e
    by false e = e

count-push : (m : ℤ) (xs : List Cell) (c : Cell)
    → degree_count m (xs ++ c ∷ []) ≡ degree_count m xs + cond (int_eq c.maslov m) 1 0
count-push m xs c =
    ap length (filter-push (λ x. int_eq x.maslov m) xs c)
    ∙ length-append (filter (λ x. int_eq x.maslov m) xs) (cond (int_eq c.maslov m) (c ∷ []) [])
    ∙ ap (λ k. degree_count m xs + k) (by (int_eq c.maslov m))
  where
    by : (b : Bool) → length (cond b (c ∷ []) []) ≡ cond b 1 0
    by true = refl
    by false = refl

-- no more than there are cells
pub count_at_most : (m : ℤ) (xs : List Cell) → degree_count m xs ≤ length xs
count_at_most m [] = omega arith
count_at_most m (x ∷ xs) = by (int_eq x.maslov m) (count_at_most m xs)
  where
    by : (b : Bool) → degree_count m xs ≤ length xs
        → length (cond b (x ∷ filter (λ c. int_eq c.maslov m) xs) (filter (λ c. int_eq c.maslov m) xs))
        ≤ length (x ∷ xs)
    by true l = omega arith
    by false l = omega arith

-- ---- the cells of a degree, one by one
-- none is counted if the degree is new
pub counted-none : (a : ℤ) (ranks : Ranks) → ((m : ℤ) → tree.get bidegree_cmp ranks (bidegree_key (m, a)) ≡ None)
    → ((b m : ℤ) → IfSome (tree.get bidegree_cmp ranks (bidegree_key (m, b))) (λ d. 0 < d))
    → AreCounted a [] ranks ranks
counted-none a ranks fresh positive = record {
  counts = λ m. ap (λ o. unwrap_or o 0) (fresh m);
  others = λ b m other. refl;
  positive = positive;
}

pub counted-next : (a : ℤ) (xs : List Cell) (c : Cell) (first old new : Ranks) (count : ℕ)
    → count ≡ rank_in old a c.maslov
    → ((q : Bidegree)
    → tree.get bidegree_cmp new q
    ≡ cond (is_eq (bidegree_cmp (bidegree_key (c.maslov, a)) q)) (Some (count + 1)) (tree.get bidegree_cmp old q))
    → AreCounted a xs first old → AreCounted a (xs ++ c ∷ []) first new
counted-next a xs c first old new count read adds before = record {
  counts = λ m. ap (λ o. unwrap_or o 0) (adds (bidegree_key (m, a))) ∙ at m (int_eq c.maslov m) refl
      ∙ sym (count-push m xs c);
  others = λ b m other.
      adds (bidegree_key (m, b))
      ∙ ap (λ t. cond t (Some (count + 1)) (tree.get bidegree_cmp old (bidegree_key (m, b))))
      (key_other (bidegree_key (c.maslov, a)) (bidegree_key (m, b)) (λ e. other (sym (ap (λ (p : Bidegree). p.a) e))))
      ∙ before.others b m other;
  positive =
      λ b m. subst (λ o. IfSome o (λ d. 0 < d)) (sym (adds (bidegree_key (m, b))))
      (above (is_eq (bidegree_cmp (bidegree_key (c.maslov, a)) (bidegree_key (m, b))))
      (tree.get bidegree_cmp old (bidegree_key (m, b)))
      (before.positive b m));
}
  where
    above : (t : Bool) (o : Option ℕ) → IfSome o (λ d. 0 < d) → IfSome (cond t (Some (count + 1)) o) (λ d. 0 < d)
    above true o p = omega arith
    above false o p = p

    no_more : (k : ℕ) → k ≡ k + 0
    no_more k = omega arith

    at : (m : ℤ) (t : Bool) → int_eq c.maslov m ≡ t
        → unwrap_or (cond (is_eq (bidegree_cmp (bidegree_key (c.maslov, a)) (bidegree_key (m, a)))) (Some (count + 1))
        (tree.get bidegree_cmp old (bidegree_key (m, a)))) 0 ≡ degree_count m xs + cond (int_eq c.maslov m) 1 0
    at m true e =
        let same : c.maslov ≡ m = (Decides-int_eq c.maslov m).0 e in
        ap (λ t. unwrap_or (cond t (Some (count + 1)) (tree.get bidegree_cmp old (bidegree_key (m, a)))) 0)
        (ap (λ n. is_eq (bidegree_cmp (bidegree_key (c.maslov, a)) (bidegree_key (n, a)))) (sym same)
        ∙ key_itself (bidegree_key (c.maslov, a)))
        ∙ ap (λ k. k + 1) (read ∙ ap (rank_in old a) same ∙ before.counts m)
        ∙ ap (λ b. degree_count m xs + cond b 1 0) (sym e)
    at m false e =
        ap (λ t. unwrap_or (cond t (Some (count + 1)) (tree.get bidegree_cmp old (bidegree_key (m, a)))) 0)
        (key_other (bidegree_key (c.maslov, a)) (bidegree_key (m, a))
        (λ s. true≢false (sym ((Decides-int_eq c.maslov m).1 (ap (λ (p : Bidegree). p.m) s)) ∙ e)))
        ∙ before.counts m ∙ no_more (degree_count m xs)
        ∙ ap (λ b. degree_count m xs + cond b 1 0) (sym e)

-- a count is no greater than the number of cells
pub count_fits : (a m : ℤ) (xs : List Cell) (first old : Ranks) (count : ℕ) → count ≡ rank_in old a m
    → AreCounted a xs first old → count ≤ length xs
count_fits a m xs first old count read before =
    let counted : count ≡ degree_count m xs = read ∙ before.counts m in
    let most = count_at_most m xs in
    omega arith

-- ---- the degrees, one by one
-- what is told of one degree, after its cells were counted
pub told-counted : (g : Marks) (a : ℤ) (cells : List Cell) (old new : Ranks) → HasRanks g a cells
    → AreCounted a cells old new → IsTold g new a
told-counted g a cells old new has counted = record {
  told = λ m. subst (IsHomologyRank g m a) (sym (counted.counts m)) (has.ranks m);
  small = λ m.
      let few = has.few in
      let most = count_at_most m cells in
      let same = counted.counts m in
      omega arith;
}

-- other degrees keep what is told of them
pub told-other : (g : Marks) (a b : ℤ) (cells : List Cell) (old new : Ranks) → (b ≡ a → ⊥) → AreCounted a cells old new
    → IsTold g old b → IsTold g new b
told-other g a b cells old new other counted told = record {
  told = λ m. subst (IsHomologyRank g m b) (ap (λ o. unwrap_or o 0) (sym (counted.others b m other))) (told.told m);
  small = λ m. subst (λ k. k < 4294967296) (ap (λ o. unwrap_or o 0) (sym (counted.others b m other))) (told.small m);
}
