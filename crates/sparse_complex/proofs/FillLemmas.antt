-- Toggling the arrows from each other source of y to each other target of x, place by place.
use Rattle.std.proofs.Common.{◌≡◌, ℕ, ◌+◌, ◌<◌, ◌≤◌, Bool, true, false, not, cond, ◌&&◌, ◌||◌, eqb, List, [], ◌∷◌, ◌++◌, length, refl, sym, ap, subst, ◌∙◌, arith}
use Rattle.std.proofs.lemmas.Bool.{eqb-true}
use Rattle.std.proofs.lemmas.List.{map-append}
use Rattle.f2_algebra.proofs.Chains.Tables.{◌⊻◌, same, eqb_comm}
use Rattle.f2_algebra.proofs.Chains.Sets.{any-append, any-filter}
use Rattle.node_pool.specs.declared.Node.{Node}
use Rattle.sparse_complex.specs.declared.links.Links.{Links}
use Rattle.sparse_complex.specs.Inner.Lists.{no_id, among, AreDistinct, node_at, outs_from}
use Rattle.sparse_complex.specs.Inner.Graph.{AreListed, width, outs_of, ins_of, tos, froms, targets, sources, has_arrow, others, IsToggled, SameOuts, SameIns, IsToggledFrom}
use Rattle.sparse_complex.proofs.ListLemmas.{in_head}
use Rattle.sparse_complex.proofs.GraphLemmas.{out_member, in_member, map-same, has_arrow-targets, distinct-targets}
use Rattle.sparse_complex.proofs.WalkLemmas.{IsOn, OutStep, out-moved, out-none}

-- ---- what one toggle leaves
module _ (p q : ℕ) (old new : Links) (t : AreListed old) (d : IsToggled p q old new) where
  SameOuts-toggled : (k : ℕ) → eqb k p ≡ false → SameOuts k old new
  SameOuts-toggled k ne = record {
    list = d.other_outs k ne;
    ends = λ i m. (d.ends i (out_member old t k i m).0 (out_member new d.listed k i
        (ap (among i) (d.other_outs k ne) ∙ m)).0).1;
  }

  SameIns-toggled : (k : ℕ) → eqb k q ≡ false → SameIns k old new
  SameIns-toggled k ne = record {
    list = d.other_ins k ne;
    ends = λ i m. (d.ends i (in_member old t k i m).0 (in_member new d.listed k i
        (ap (among i) (d.other_ins k ne) ∙ m)).0).0;
  }

pub SameOuts-refl : (k : ℕ) (l : Links) → SameOuts k l l
SameOuts-refl k l = record { list = refl; ends = λ i m. refl }

pub SameIns-refl : (k : ℕ) (l : Links) → SameIns k l l
SameIns-refl k l = record { list = refl; ends = λ i m. refl }

pub SameOuts-then : (k : ℕ) (a b c : Links) → SameOuts k a b → SameOuts k b c → SameOuts k a c
SameOuts-then k a b c f g =
    record { list = g.list ∙ f.list; ends = λ i m. g.ends i (ap (among i) f.list ∙ m) ∙ f.ends i m }

pub SameIns-then : (k : ℕ) (a b c : Links) → SameIns k a b → SameIns k b c → SameIns k a c
SameIns-then k a b c f g =
    record { list = g.list ∙ f.list; ends = λ i m. g.ends i (ap (among i) f.list ∙ m) ∙ f.ends i m }

-- the targets are the same
pub targets-same : (k : ℕ) (old new : Links) → SameOuts k old new → targets new k ≡ targets old k
targets-same k old new d = ap (tos new) d.list ∙ map-same _ _ (outs_of old k) d.ends

sources-same : (k : ℕ) (old new : Links) → SameIns k old new → sources new k ≡ sources old k
sources-same k old new d = ap (froms new) d.list ∙ map-same _ _ (ins_of old k) d.ends

-- ---- the keys that are ahead
-- the first is one of the others, or not
pub others-skip : (y a b : ℕ) (ks : List ℕ) → a ≡ b → eqb b y ≡ true → others y (a ∷ ks) ≡ others y ks
others-skip y a b ks e h = ap (λ c. cond (not c) (a ∷ others y ks) (others y ks)) (ap (λ j. eqb j y) e ∙ h)

pub others-keep : (y a b : ℕ) (ks : List ℕ) → a ≡ b → eqb b y ≡ false → others y (a ∷ ks) ≡ b ∷ others y ks
others-keep y a b ks e h =
    ap (λ c. cond (not c) (a ∷ others y ks) (others y ks)) (ap (λ j. eqb j y) e ∙ h) ∙ ap (λ j. j ∷ others y ks) e

-- an element in front of a list that does not have it
pub front : (t b : ℕ) (ks : List ℕ) → among b ks ≡ false → among t (b ∷ ks) ≡ (eqb t b ⊻ among t ks)
front t b ks h = by (eqb t b) refl
  where
    by : (c : Bool) → eqb t b ≡ c → (c || among t ks) ≡ (c ⊻ among t ks)
    by true e = sym (ap not (ap (λ j. among j ks) (eqb-true t b e) ∙ h))
    by false e = refl

pub among-others : (t y : ℕ) (ks : List ℕ) → among t (others y ks) ≡ (among t ks && not (eqb t y))
among-others t y ks = any-filter t (λ j. not (eqb j y)) ks

-- what was passed and what is ahead are apart
pub distinct-ahead : (done is : List ℕ) (i : ℕ) → AreDistinct (done ++ i ∷ is) → among i is ≡ false
distinct-ahead [] is i a = a.0
distinct-ahead (x ∷ done) is i a = distinct-ahead done is i a.1

-- the ids ahead are in the list
pub among-ahead : (ahead : ℕ → List ℕ) (list : List ℕ) (i : ℕ) → IsOn ahead list i → (j : ℕ) → among j (ahead i) ≡ true
    → among j list ≡ true
among-ahead ahead list i on j m = ap (among j) on.whole ∙ any-append j on.passed (ahead i)
    ∙ ap (λ b. among j on.passed || b) m ∙ or_true (among j on.passed)
  where
    or_true : (b : Bool) → (b || true) ≡ true
    or_true true = refl
    or_true false = refl

-- ---- from one source
-- the targets ahead of i are still to be toggled
pub record FromPlace (p x y : ℕ) (old now : Links) (i : ℕ) : Type 0 where
  pub listed : AreListed now
  pub width : width now ≡ width old
  pub on : IsOn (outs_from now.pool.nodes) (outs_of now x) i
  pub same_outs : SameOuts x old now
  pub same_ins : SameIns y old now
  pub arrows : (s t : ℕ)
      → has_arrow now s t
      ≡ (has_arrow old s t
      ⊻ (eqb s p
      && ((has_arrow old x t && not (eqb t y)) ⊻ among t (others y (tos old (outs_from now.pool.nodes i))))))
  pub room : old.pool.spare + length (others y (tos old (outs_from now.pool.nodes i)))
      ≤ now.pool.spare + length (others y (targets old x))

module _ (p x y : ℕ) (old : Links) (t : AreListed old) where
  pub from-start : (h : ℕ) → IsOn (outs_from old.pool.nodes) (outs_of old x) h
      → outs_from old.pool.nodes h ≡ outs_of old x → FromPlace p x y old old h
  from-start h on all = record {
    listed = t;
    width = refl;
    on = on;
    same_outs = SameOuts-refl x old;
    same_ins = SameIns-refl y old;
    arrows = λ s u.
        let e : among u (others y (tos old (outs_from old.pool.nodes h))) ≡ (has_arrow old x u && not (eqb u y)) =
        ap (λ is. among u (others y (tos old is))) all ∙ among-others u y (targets old x)
        ∙ ap (λ b. b && not (eqb u y)) (has_arrow-targets old t x u) in
        sym (ap (λ b. has_arrow old s u ⊻ (eqb s p && ((has_arrow old x u && not (eqb u y)) ⊻ b))) e
        ∙ same 3 (λ h e a. h ⊻ (e && (a ⊻ a))) (λ h e a. h) refl (has_arrow old s u) (eqb s p)
        (has_arrow old x u && not (eqb u y)));
    room = let e = ap (λ is. length (others y (tos old is))) all in omega arith;
  }

  module _ (now : Links) (i : ℕ) (f : FromPlace p x y old now i) (n : Node) (s : OutStep now x i n) where
    -- the target here, as the old nodes have it
    to_here : (node_at old.pool.nodes i).to ≡ n.to
    to_here = sym (f.same_outs.ends i (ap (among i) (sym f.same_outs.list) ∙ here)) ∙ s.to_is
      where
        here : among i (outs_of now x) ≡ true
        here = among-ahead (outs_from now.pool.nodes) (outs_of now x) i f.on i
            (ap (among i) s.ahead ∙ in_head i (outs_from now.pool.nodes n.next_out))

    ahead-is : tos old (outs_from now.pool.nodes i)
        ≡ (node_at old.pool.nodes i).to ∷ tos old (outs_from now.pool.nodes n.next_out)
    ahead-is = ap (tos old) s.ahead

    pub from-skip : eqb n.to y ≡ true → FromPlace p x y old now n.next_out
    from-skip e = record {
      listed = f.listed;
      width = f.width;
      on = s.on;
      same_outs = f.same_outs;
      same_ins = f.same_ins;
      arrows = λ a b. f.arrows a b
          ∙ ap (λ ks. has_arrow old a b ⊻ (eqb a p && ((has_arrow old x b && not (eqb b y)) ⊻ among b ks))) (less e);
      room = let k = ap length (less e) in let r = f.room in omega arith;
    }
      where
        less : eqb n.to y ≡ true
            → others y (tos old (outs_from now.pool.nodes i)) ≡ others y (tos old (outs_from now.pool.nodes n.next_out))
        less e = ap (others y) ahead-is
            ∙ others-skip y (node_at old.pool.nodes i).to n.to (tos old (outs_from now.pool.nodes n.next_out)) to_here e

    pub from-room : eqb n.to y ≡ false → length (others y (targets old x)) ≤ old.pool.spare → 0 < now.pool.spare
    from-room e enough =
        let k = ap length (ap (others y) ahead-is ∙ others-keep y (node_at old.pool.nodes i).to n.to
        (tos old (outs_from now.pool.nodes n.next_out)) to_here e) in
        let r = f.room in
        omega arith

    module _ (e : eqb n.to y ≡ false) (distinct : eqb p x ≡ false) (new : Links) (d : IsToggled p n.to now new) where
      outs-stay : SameOuts x now new
      outs-stay = SameOuts-toggled p n.to now new f.listed d x (eqb_comm x p ∙ distinct)

      ins-stay : SameIns y now new
      ins-stay = SameIns-toggled p n.to now new f.listed d y (eqb_comm y n.to ∙ e)

      moved : IsOn (outs_from new.pool.nodes) (outs_of new x) n.next_out
          × (outs_from new.pool.nodes n.next_out ≡ outs_from now.pool.nodes n.next_out)
      moved = out-moved new d.listed x now outs-stay.list n.next_out s.on

      one-less : others y (tos old (outs_from now.pool.nodes i))
          ≡ n.to ∷ others y (tos old (outs_from new.pool.nodes n.next_out))
      one-less =
          ap (others y) ahead-is
          ∙ others-keep y (node_at old.pool.nodes i).to n.to (tos old (outs_from now.pool.nodes n.next_out)) to_here e
          ∙ ap (λ is. n.to ∷ others y (tos old is)) (sym moved.1)

      not-again : among n.to (others y (tos old (outs_from new.pool.nodes n.next_out))) ≡ false
      not-again =
          among-others n.to y (tos old (outs_from new.pool.nodes n.next_out))
          ∙ ap (λ b. b && not (eqb n.to y))
          (ap (λ is. among n.to (tos old is)) moved.1
          ∙ ap (λ k. among k (tos old (outs_from now.pool.nodes n.next_out))) (sym to_here) ∙ first-distinct)
        where
          whole : outs_of old x ≡ f.on.passed ++ (i ∷ outs_from now.pool.nodes n.next_out)
          whole = sym f.same_outs.list ∙ f.on.whole ∙ ap (λ is. f.on.passed ++ is) s.ahead

          all-distinct : AreDistinct (tos old (f.on.passed ++ (i ∷ outs_from now.pool.nodes n.next_out)))
          all-distinct = subst (λ is. AreDistinct (tos old is)) whole (distinct-targets old t x)

          first-distinct : among (node_at old.pool.nodes i).to (tos old (outs_from now.pool.nodes n.next_out)) ≡ false
          first-distinct =
              distinct-ahead (tos old f.on.passed) (tos old (outs_from now.pool.nodes n.next_out))
              (node_at old.pool.nodes i).to (subst AreDistinct (map-append
              (λ j. (node_at old.pool.nodes j).to) f.on.passed (i ∷ outs_from now.pool.nodes n.next_out))
              all-distinct)

      pub from-toggle : FromPlace p x y old new n.next_out
      from-toggle = record {
        listed = d.listed;
        width = d.width ∙ f.width;
        on = moved.0;
        same_outs = SameOuts-then x old now new f.same_outs outs-stay;
        same_ins = SameIns-then y old now new f.same_ins ins-stay;
        arrows = λ a b.
            d.arrows a b
            ∙ ap (λ c. c ⊻ (eqb a p && eqb b n.to))
            (f.arrows a b
            ∙ ap (λ c. has_arrow old a b ⊻ (eqb a p && ((has_arrow old x b && not (eqb b y)) ⊻ c)))
            (ap (among b) one-less
            ∙ front b n.to (others y (tos old (outs_from new.pool.nodes n.next_out))) not-again))
            ∙ same 5 (λ h e a q r. (h ⊻ (e && (a ⊻ (q ⊻ r)))) ⊻ (e && q)) (λ h e a q r. h ⊻ (e && (a ⊻ r))) refl
            (has_arrow old a b) (eqb a p) (has_arrow old x b && not (eqb b y)) (eqb b n.to)
            (among b (others y (tos old (outs_from new.pool.nodes n.next_out))));
        room = let k = ap length one-less in let r = f.room in let m = d.room in omega arith;
      }

      -- fewer are ahead
      pub from-smaller : length (outs_from new.pool.nodes n.next_out) < length (outs_from now.pool.nodes i)
      from-smaller = let k = ap length moved.1 in let l = s.smaller in omega arith

  pub from-end : (now : Links) (i : ℕ) → FromPlace p x y old now i → i ≡ no_id → IsToggledFrom p x y old now
  from-end now i f e = record {
    listed = f.listed;
    width = f.width;
    arrows = λ a b.
        f.arrows a b
        ∙ ap (λ is. has_arrow old a b
        ⊻ (eqb a p && ((has_arrow old x b && not (eqb b y)) ⊻ among b (others y (tos old is)))))
        (out-none now f.listed i e)
        ∙ same 3 (λ h e a. h ⊻ (e && (a ⊻ false))) (λ h e a. h ⊻ (e && a)) refl (has_arrow old a b) (eqb a p)
        (has_arrow old x b && not (eqb b y));
    same_outs = f.same_outs;
    same_ins = f.same_ins;
    room = let k = ap (λ is. length (others y (tos old is))) (out-none now f.listed i e) in let r = f.room in
        omega arith;
  }
