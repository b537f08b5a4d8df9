-- The cells of live codes, found place by place: a cell is live if its code has its place as key.
use Rattle.std.proofs.Common.{◌≡◌, ◌≢◌, ℕ, ◌+◌, ◌<◌, List, [], ◌∷◌, ◌++◌, length, get_or, Some, Contains, inl, inr, sym, ap, subst, ◌∙◌, arith}
use Rattle.std.proofs.lemmas.List.Elements.{Contains-get_or, Contains-append_left, Contains-append_right, Contains-append_cases}
use Rattle.std.proofs.lemmas.List.Quantifiers.{all_pairs_push}
use Rattle.f2_algebra.specs.Slice.{slice_complex}
use Rattle.state_rank.proofs.MemberLemmas.{member_cases, member_head, no_member}
use Rattle.sparse_complex.specs.declared.links.Links.{Links}
use Rattle.sparse_complex.specs.declared.slices.Cell.{Cell}
use Rattle.sparse_complex.specs.Slices.{ListsCells}
use Rattle.sparse_complex.specs.Inner.Graph.{no_cell, code_at}
use Rattle.sparse_complex.specs.Inner.Stored.{key_of, is_live, maslov_at, slice_of, IsStoredByKey, ListsLive}
use Rattle.sparse_complex.proofs.ArrowChangeLemmas.{lt_or_eq}
use Rattle.sparse_complex.proofs.StoredLemmas.{live_is, degree-live, degree-slice_of}
use Rattle.f2_algebra.proofs.Ranks.Bigraded.{some_if}

module _ (keys : List ℕ) (cells : List Cell) where
  -- before the first place there is none
  pub ListsLive-none : ListsLive keys cells 0 []
  ListsLive-none =
      record {
        each = λ c. ((λ m. absurd (no_member c m)), (λ h. absurd (omega arith)));
        once = λ i j d l m. absurd (omega arith);
      }

  module _ (k : ℕ) (live : List Cell) (d : Cell) (is : get_or cells k no_cell ≡ d)
      (before : ListsLive keys cells k live) where
    -- a cell whose code has its place as key is one more
    pub ListsLive-more : key_of keys d.code ≡ k → ListsLive keys cells (k + 1) (live ++ d ∷ [])
    ListsLive-more at =
        record {
          each = λ c. (forth c, back c);
          once = all_pairs_push (λ (b c : Cell). b.code ≢ c.code) live d before.once others;
        }
      where
        here : (key_of keys d.code < k + 1) × (get_or cells (key_of keys d.code) no_cell ≡ d)
        here = (omega arith, ap (λ j. get_or cells j no_cell) at ∙ is)

        forth : (c : Cell) → Contains (live ++ d ∷ []) c
            → (key_of keys c.code < k + 1) × (get_or cells (key_of keys c.code) no_cell ≡ c)
        forth c m = elim (Contains-append_cases live (d ∷ []) c m) [
          | inl old ↦ let p = (before.each c).0 old in let l = p.0 in (omega arith, p.1)
          | inr new ↦ elim (member_cases d [] c new) [
            | inl e ↦
                subst (λ (x : Cell). (key_of keys x.code < k + 1) × (get_or cells (key_of keys x.code) no_cell ≡ x)) e
                here
            | inr past ↦ absurd (no_member c past)
          ]
        ]

        back : (c : Cell) → (key_of keys c.code < k + 1) × (get_or cells (key_of keys c.code) no_cell ≡ c)
            → Contains (live ++ d ∷ []) c
        back c p = elim (lt_or_eq (key_of keys c.code) k p.0) [
          | inl low ↦ Contains-append_left live (d ∷ []) c ((before.each c).1 (low, p.1))
          | inr last ↦
              Contains-append_right live (d ∷ []) c
              (subst (λ x. Contains (d ∷ []) x) (sym is ∙ ap (λ j. get_or cells j no_cell) (sym last) ∙ p.1)
              (member_head d []))
        ]

        others : (i : ℕ) (x : Cell) → i < length live → (get_or live i x).code ≢ d.code
        others i x l e =
            let low = ((before.each (get_or live i x)).0 (Contains-get_or live i x l)).0 in
            let same : key_of keys (get_or live i x).code ≡ k = ap (key_of keys) e ∙ at in
            absurd (omega arith)

    -- one whose code has another key is none
    pub ListsLive-same : (key_of keys d.code ≡ k → ⊥) → ListsLive keys cells (k + 1) live
    ListsLive-same other =
        record {
          each = λ c. ((λ m. let p = (before.each c).0 m in let l = p.0 in (omega arith, p.1)), back c);
          once = before.once;
        }
      where
        back : (c : Cell) → (key_of keys c.code < k + 1) × (get_or cells (key_of keys c.code) no_cell ≡ c)
            → Contains live c
        back c p = elim (lt_or_eq (key_of keys c.code) k p.0) [
          | inl low ↦ (before.each c).1 (low, p.1)
          | inr last ↦ let this : d ≡ c = sym is ∙ ap (λ j. get_or cells j no_cell) (sym last) ∙ p.1 in
              absurd (other (ap (λ (x : Cell). key_of keys x.code) this ∙ last))
        ]

-- all live cells are the cells of the slice
pub ListsCells-live : (keys : List ℕ) (cells : List Cell) (links : Links) (s : IsStoredByKey keys cells links)
    (live : List Cell)
    → ListsLive keys cells (length cells) live → ListsCells (slice_complex (slice_of keys cells links)) live
unfolding maslov_at code_at
ListsCells-live keys cells links s live l = record { each = λ c. (forth c, back c); once = l.once }
  where
    forth : (c : Cell) → Contains live c → (slice_complex (slice_of keys cells links)).degree c.code ≡ Some c.maslov
    forth c m =
        let p = (l.each c).0 m in
        let low = p.0 in
        let few = s.small in
        let whole = s.whole in
        degree-live keys cells links c.code (live_is keys c.code (λ e. absurd (omega arith)))
        ∙ ap (λ (x : Cell). Some x.maslov) p.1

    back : (c : Cell) → (slice_complex (slice_of keys cells links)).degree c.code ≡ Some c.maslov → Contains live c
    back c h =
        let p = some_if (is_live keys c.code) (maslov_at cells (key_of keys c.code)) c.maslov
        (sym (degree-slice_of keys cells links c.code) ∙ h) in
        let k = s.keyed c.code p.0 in
        let low = k.0 in
        let whole = s.whole in
        (l.each c).1 (omega arith, λ i. record { code = k.1 i; maslov = p.1 i })
