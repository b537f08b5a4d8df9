-- From all sources.
use Rattle.std.proofs.Common.{◌≡◌, ℕ, suc, ◌+◌, ◌*◌, ◌<◌, ◌≤◌, true, false, not, ◌&&◌, eqb, ◌∷◌, ◌++◌, length, refl, sym, ap, subst, ◌∙◌, arith}
use Rattle.std.proofs.lemmas.List.{map-append}
use Rattle.f2_algebra.proofs.Chains.Tables.{◌⊻◌, same}
use Rattle.node_pool.specs.declared.Node.{Node}
use Rattle.sparse_complex.specs.declared.links.Links.{Links}
use Rattle.sparse_complex.specs.Inner.Lists.{no_id, among, AreDistinct, node_at, ins_from}
use Rattle.sparse_complex.specs.Inner.Graph.{AreListed, width, ins_of, froms, targets, sources, has_arrow, others, SameOuts, SameIns, IsToggledFrom, IsFilled}
use Rattle.sparse_complex.proofs.ListLemmas.{in_head}
use Rattle.sparse_complex.proofs.GraphLemmas.{has_arrow-targets, has_arrow-sources, distinct-sources}
use Rattle.sparse_complex.proofs.WalkLemmas.{IsOn, InStep, in-moved, in-none}
use Rattle.sparse_complex.proofs.FillLemmas.{SameIns-refl, SameIns-then, SameOuts-refl, SameOuts-then, among-ahead, among-others, distinct-ahead, front, others-keep, others-skip, targets-same}

-- the sources ahead of i are still to be gone through
pub record FillPlace (x y : ℕ) (old now : Links) (i : ℕ) : Type 0 where
  pub listed : AreListed now
  pub width : width now ≡ width old
  pub on : IsOn (ins_from now.pool.nodes) (ins_of now y) i
  pub same_outs : SameOuts x old now
  pub same_ins : SameIns y old now
  pub arrows : (s t : ℕ)
      → has_arrow now s t
      ≡ (has_arrow old s t
      ⊻ (((has_arrow old s y && not (eqb s x)) ⊻ among s (others x (froms old (ins_from now.pool.nodes i))))
      && (has_arrow old x t && not (eqb t y))))
  pub room : length (others x (froms old (ins_from now.pool.nodes i))) * length (others y (targets old x))
      ≤ now.pool.spare

module _ (x y : ℕ) (old : Links) (t : AreListed old) where
  pub fill-start : (h : ℕ) → IsOn (ins_from old.pool.nodes) (ins_of old y) h → ins_from old.pool.nodes h ≡ ins_of old y
      → length (others x (sources old y)) * length (others y (targets old x)) ≤ old.pool.spare → FillPlace x y old old h
  fill-start h on all enough = record {
    listed = t;
    width = refl;
    on = on;
    same_outs = SameOuts-refl x old;
    same_ins = SameIns-refl y old;
    arrows = λ s u.
        let e : among s (others x (froms old (ins_from old.pool.nodes h))) ≡ (has_arrow old s y && not (eqb s x)) =
        ap (λ is. among s (others x (froms old is))) all ∙ among-others s x (sources old y)
        ∙ ap (λ b. b && not (eqb s x)) (has_arrow-sources old t s y) in
        sym (ap (λ b. has_arrow old s u
        ⊻ (((has_arrow old s y && not (eqb s x)) ⊻ b) && (has_arrow old x u && not (eqb u y)))) e
        ∙ same 3 (λ h a b. h ⊻ ((a ⊻ a) && b)) (λ h a b. h) refl (has_arrow old s u)
        (has_arrow old s y && not (eqb s x)) (has_arrow old x u && not (eqb u y)));
    room = subst (λ is. length (others x (froms old is)) * length (others y (targets old x)) ≤ old.pool.spare)
        (sym all) enough;
  }

  module _ (now : Links) (i : ℕ) (f : FillPlace x y old now i) (n : Node) (s : InStep now y i n) where
    from_here : (node_at old.pool.nodes i).from ≡ n.from
    from_here = sym (f.same_ins.ends i (ap (among i) (sym f.same_ins.list) ∙ here)) ∙ s.from_is
      where
        here : among i (ins_of now y) ≡ true
        here = among-ahead (ins_from now.pool.nodes) (ins_of now y) i f.on i
            (ap (among i) s.ahead ∙ in_head i (ins_from now.pool.nodes n.next_in))

    froms-ahead : froms old (ins_from now.pool.nodes i)
        ≡ (node_at old.pool.nodes i).from ∷ froms old (ins_from now.pool.nodes n.next_in)
    froms-ahead = ap (froms old) s.ahead

    pub fill-skip : eqb n.from x ≡ true → FillPlace x y old now n.next_in
    fill-skip e = record {
      listed = f.listed;
      width = f.width;
      on = s.on;
      same_outs = f.same_outs;
      same_ins = f.same_ins;
      arrows = λ a b. f.arrows a b
          ∙ ap (λ ks. has_arrow old a b
          ⊻ (((has_arrow old a y && not (eqb a x)) ⊻ among a ks) && (has_arrow old x b && not (eqb b y)))) (less e);
      room = subst (λ ks. length ks * length (others y (targets old x)) ≤ now.pool.spare) (less e) f.room;
    }
      where
        less : eqb n.from x ≡ true
            → others x (froms old (ins_from now.pool.nodes i))
            ≡ others x (froms old (ins_from now.pool.nodes n.next_in))
        less e = ap (others x) froms-ahead
            ∙ others-skip x (node_at old.pool.nodes i).from n.from
            (froms old (ins_from now.pool.nodes n.next_in)) from_here e

    same-room : length (others y (targets now x)) ≡ length (others y (targets old x))
    same-room = ap (λ ks. length (others y ks)) (targets-same x old now f.same_outs)

    pub fill-room : eqb n.from x ≡ false → length (others y (targets now x)) ≤ now.pool.spare
    fill-room e =
        let k = ap length (ap (others x) froms-ahead ∙ others-keep x (node_at old.pool.nodes i).from n.from
        (froms old (ins_from now.pool.nodes n.next_in)) from_here e) in
        enough (length (others x (froms old (ins_from now.pool.nodes i))))
        (length (others x (froms old (ins_from now.pool.nodes n.next_in)))) (length (others y (targets old x)))
        (length (others y (targets now x))) k same-room f.room
      where
        enough : (a b m r : ℕ) → a ≡ suc b → r ≡ m → a * m ≤ now.pool.spare → r ≤ now.pool.spare
        enough a b m r e f l = let l' : suc b * m ≤ now.pool.spare = subst (λ c. c * m ≤ now.pool.spare) e l in
            omega arith

    module _ (e : eqb n.from x ≡ false) (new : Links) (d : IsToggledFrom n.from x y now new) where
      in-moved-on : IsOn (ins_from new.pool.nodes) (ins_of new y) n.next_in
          × (ins_from new.pool.nodes n.next_in ≡ ins_from now.pool.nodes n.next_in)
      in-moved-on = in-moved new d.listed y now d.same_ins.list n.next_in s.on

      one-source-less : others x (froms old (ins_from now.pool.nodes i))
          ≡ n.from ∷ others x (froms old (ins_from new.pool.nodes n.next_in))
      one-source-less =
          ap (others x) froms-ahead
          ∙ others-keep x (node_at old.pool.nodes i).from n.from
          (froms old (ins_from now.pool.nodes n.next_in)) from_here e
          ∙ ap (λ is. n.from ∷ others x (froms old is)) (sym in-moved-on.1)

      not-source-again : among n.from (others x (froms old (ins_from new.pool.nodes n.next_in))) ≡ false
      not-source-again =
          among-others n.from x (froms old (ins_from new.pool.nodes n.next_in))
          ∙ ap (λ b. b && not (eqb n.from x))
          (ap (λ is. among n.from (froms old is)) in-moved-on.1
          ∙ ap (λ k. among k (froms old (ins_from now.pool.nodes n.next_in))) (sym from_here) ∙ first-distinct)
        where
          whole : ins_of old y ≡ f.on.passed ++ (i ∷ ins_from now.pool.nodes n.next_in)
          whole = sym f.same_ins.list ∙ f.on.whole ∙ ap (λ is. f.on.passed ++ is) s.ahead

          all-distinct : AreDistinct (froms old (f.on.passed ++ (i ∷ ins_from now.pool.nodes n.next_in)))
          all-distinct = subst (λ is. AreDistinct (froms old is)) whole (distinct-sources old t y)

          first-distinct : among (node_at old.pool.nodes i).from (froms old (ins_from now.pool.nodes n.next_in)) ≡ false
          first-distinct =
              distinct-ahead (froms old f.on.passed) (froms old (ins_from now.pool.nodes n.next_in))
              (node_at old.pool.nodes i).from
              (subst AreDistinct (map-append (λ j. (node_at old.pool.nodes j).from) f.on.passed
              (i ∷ ins_from now.pool.nodes n.next_in)) all-distinct)

      -- the targets of x have not changed
      same-target : (b : ℕ) → has_arrow now x b ≡ has_arrow old x b
      same-target b = sym (has_arrow-targets now f.listed x b) ∙ ap (among b) (targets-same x old now f.same_outs)
          ∙ has_arrow-targets old t x b

      pub fill-toggle : FillPlace x y old new n.next_in
      fill-toggle = record {
        listed = d.listed;
        width = d.width ∙ f.width;
        on = in-moved-on.0;
        same_outs = SameOuts-then x old now new f.same_outs d.same_outs;
        same_ins = SameIns-then y old now new f.same_ins d.same_ins;
        arrows = λ a b.
            d.arrows a b
            ∙ ap (λ c. has_arrow now a b ⊻ (eqb a n.from && (c && not (eqb b y)))) (same-target b)
            ∙ ap (λ c. c ⊻ (eqb a n.from && (has_arrow old x b && not (eqb b y))))
            (f.arrows a b
            ∙ ap (λ c. has_arrow old a b
            ⊻ (((has_arrow old a y && not (eqb a x)) ⊻ c) && (has_arrow old x b && not (eqb b y))))
            (ap (among a) one-source-less
            ∙ front a n.from (others x (froms old (ins_from new.pool.nodes n.next_in))) not-source-again))
            ∙ same 5 (λ h a q r b. (h ⊻ ((a ⊻ (q ⊻ r)) && b)) ⊻ (q && b)) (λ h a q r b. h ⊻ ((a ⊻ r) && b)) refl
            (has_arrow old a b) (has_arrow old a y && not (eqb a x)) (eqb a n.from)
            (among a (others x (froms old (ins_from new.pool.nodes n.next_in)))) (has_arrow old x b && not (eqb b y));
        room =
            left (length (others x (froms old (ins_from now.pool.nodes i))))
            (length (others x (froms old (ins_from new.pool.nodes n.next_in)))) (length (others y (targets old x)))
            (length (others y (targets now x)))
            (ap length one-source-less) same-room f.room d.room;
      }
        where
          left : (a b m r : ℕ) → a ≡ suc b → r ≡ m → a * m ≤ now.pool.spare → now.pool.spare ≤ new.pool.spare + r
              → b * m ≤ new.pool.spare
          left a b m r e f l g = let l' : suc b * m ≤ now.pool.spare = subst (λ c. c * m ≤ now.pool.spare) e l in
              omega arith

      pub fill-smaller : length (ins_from new.pool.nodes n.next_in) < length (ins_from now.pool.nodes i)
      fill-smaller = let k = ap length in-moved-on.1 in let l = s.smaller in omega arith

  pub fill-end : (now : Links) (i : ℕ) → FillPlace x y old now i → i ≡ no_id → IsFilled x y old now
  fill-end now i f e = record {
    listed = f.listed;
    width = f.width;
    arrows = λ a b.
        f.arrows a b
        ∙ ap (λ is. has_arrow old a b
        ⊻ (((has_arrow old a y && not (eqb a x)) ⊻ among a (others x (froms old is)))
        && (has_arrow old x b && not (eqb b y)))) (in-none now f.listed i e)
        ∙ same 3 (λ h a b. h ⊻ ((a ⊻ false) && b)) (λ h a b. h ⊻ (a && b)) refl (has_arrow old a b)
        (has_arrow old a y && not (eqb a x)) (has_arrow old x b && not (eqb b y));
  }
