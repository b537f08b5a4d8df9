-- A block, as its parts. Assumes `Logic`. It has the machine value of a `Box`: a pointer, then the allocator's handle.
--     Row, D                  the block as a row, and its values
--     block_row_laws          the laws of what a `&` to a block holds
--     shows_ptr               a `&` to the fields of a block shows a `&` to the pointer
--     block_out, block_in     a block by value is [what a box owns; the handle]
--     block_opens             behind a `&mut`: [the value; the token with the handle; the word; the open borrow; its
--                             two names]
use mathlib.Core.Path.{◌≡◌, refl, subst}
use Prim.Native.Nat.{ℕ, ◌+◌}
use mathlib.Core.List.{List, [], ◌∷◌, ◌++◌}
use seplogic.Ra.Ura.{Ura}
use base.Fraction.{full_share}
use mir.Raw.{raw as bare}
use mir.Val.{Val, vptr, vstruct, of_list}
use base.Logic.{ent, sep, fst∗, never}
use base.Fml.{Lft, GName, Share, Fml, fsep, flft, fobs, fauth, fbor, fobor}
use types.Logic.{Logic, sem}
use types.Kit.{Goal, Soaks, Step, step, Seq, Item, ‵, ◌$◌, ◌∵◌, !, qed, move, keep, drop, rewrite, fsplit, fjoin, fpick, fpack, feq_l, feq_i, done}
use types.SemTy.{Body as Borrowed}
use denote.RattleType.{RattleType, RowLaws, Valss}
use denote.Memory.{cell_at, part_at, mem, hidden_shr}
use denote.Opens.{shr_dup, unhide, hide}
use denote.RawPtr.{Ptr, RawPtr, block_ptr, null_ptr, ptr_val, in_a_block, ptr_row_laws}
use denote.SharingLaws.{beside_shr_laws}
use denote.Steps.{nothing, opens}
use denote.Struct.Lending.{lent_at, lent_at_shr_laws}
use denote.Struct.Owning.{Owning, shape}
use denote.Struct.Struct.{Struct, Struct-row_laws, within}
use Rattle.core.proofs.alloc.Calls.{token, Fits, handle_tells}
use Rattle.std_alloc.specs.Box.Ownership.{box_owns}
use Rattle.std_alloc.proofs.BoxSteps.Form.{Bx, X, τ, R, P, word, handle}
use Rattle.node_pool.specs.declared.blocks.Block.{Block}
use Rattle.node_pool.specs.contracts.blocks.Block as block

module _ (E : Bx) where
  abbrev pub D : Type 0
  D = Block (X E) E.al.row.Denot

  abbrev pub owning : Owning
  owning = block.the_type (R E) (P E) E.al.g

  abbrev pub Row : RattleType
  Row = block.the_row (R E) (P E) E.al.g

  abbrev pub Words : RattleType
  Words = Struct (shape owning)

  abbrev pub fields : D → Words.Denot
  fields d = (d.ptr, (d.alloc, tt))

  pub words_row_laws : RowLaws Words
  words_row_laws = Struct-row_laws (shape owning) (ptr_row_laws, (E.al.laws.shr_laws, tt))

  pub block_row_laws : RowLaws Row
  block_row_laws d b o =
      beside_shr_laws (Words.shr_at (fields d) b o) (lent_at (R E) d.ptr d.value) (words_row_laws (fields d) b o)
      (lent_at_shr_laws (R E) E.laws.shr_laws d.ptr d.value)

module _ (E : Bx) {M : Type 1} {𝓤 : Ura M} (𝓛 : Logic 𝓤) (κ : Lft) (b o : ℕ) (d : D E) where
  abbrev S : Fml
  S = hidden_shr (Words E) κ (fields E d) b o

  pub shows_ptr : ent 𝓤 (sem 𝓛 S) (sep 𝓤 (sem 𝓛 (hidden_shr RawPtr κ d.ptr b (o + 0))) (sem 𝓛 S))
  shows_ptr = qed 𝓛 (‵ S ∷ []) ∵ shr_dup ! (Words E) (words_row_laws E) (fields E d) b o κ $ unhide ! $ fsplit
      ! $ fsplit ! $ hide ! $ keep ! (0 ∷ 3 ∷ []) $ done !

module _ (E : Bx) {M : Type 1} {𝓤 : Ura M} {𝓛 : Logic 𝓤} {K : Type 0} {Γ : List (Item 𝓤)} {G : Goal 𝓤 𝓛.H} where
  pub block_out : K → (d : D E) (vs : List Val)
      → ((b o : ℕ) (hv : Val) → d.ptr ≡ block_ptr b o → vs ≡ word E hv b o ∷ [] → Fits E.al hv
      → Seq K 𝓛 (‵ (box_owns (token E.al d.alloc) (R E) (block_ptr b o) d.value) ∷ ‵ (handle E d.alloc hv) ∷ Γ) G)
      → Seq K 𝓛 (‵ ((Row E).own_val d vs) ∷ Γ) G
  block_out t d vs k =
      fsplit t $ fpick t (λ vss. fsplit t $ feq_l t (λ ev. fsplit t
      $ feq_l t (λ ep. fsplit t $ handle_tells E.al t d.alloc vss.1.0
      (λ hv ea fits. move t (1 ∷ []) $ drop t $ move t (1 ∷ []) $
      in_a_block t d.ptr (λ p. box_owns (token E.al d.alloc) (R E) p d.value)
      (fst∗ 𝓤 (never 𝓤) (sem 𝓛 (token E.al d.alloc (bare (τ E)) null_ptr))) (λ b o e. k b o hv e
      (subst (λ (p : Ptr). vs ≡ vstruct (of_list (ptr_val p ∷ hv ∷ [])) ∷ []) e
      (subst (λ (ws : List Val). vs ≡ vstruct (of_list (ptr_val d.ptr ∷ (ws ++ []))) ∷ []) ea
      (subst (λ (ps : List Val). vs ≡ vstruct (of_list (ps ++ (vss.1.0 ++ []))) ∷ []) ep ev))) fits)))))

  pub block_in : K → {hv : Val} (a : E.al.row.Denot) (x : X E) (b o : ℕ)
      → Step K 𝓛 (‵ ((Row E).own_val (record { ptr = block_ptr b o; alloc = a; value = x }) (word E hv b o ∷ [])) ∷ Γ) G
      (‵ (box_owns (token E.al a) (R E) (block_ptr b o) x) ∷ ‵ (handle E a hv) ∷ Γ) G
  block_in t {hv} a x b o = step (λ s.
      nothing t $ move t (2 ∷ 0 ∷ []) $ fjoin t $ feq_i t (List Val) (vptr b o ∷ []) (vptr b o ∷ []) refl $ fjoin t
      $ feq_i t (List Val) (word E hv b o ∷ []) (word E hv b o ∷ []) refl $ fjoin t $
      fpack t (Valss (RawPtr ∷ P E ∷ [])) (within (shape (owning E)) (block_ptr b o, (a, tt)) (word E hv b o ∷ []))
      (vptr b o ∷ [], (hv ∷ [], tt)) $ fjoin t $ s)

-- the borrow is opened in a context of its own
module _ (E : Bx) {M : Type 1} {𝓤 : Ura M} {𝓛 : Logic 𝓤} {K : Type 0} {Γ : List (Item 𝓤)} {G : Goal 𝓤 𝓛.H} where
  pub block_opens : K → Soaks G → {κ : Lft} {q : Share} {γ : GName} (d : D E) (rb ro : ℕ)
      → ((b o : ℕ) (hv : Val) → d.ptr ≡ block_ptr b o
      → Seq K 𝓛 (‵ (part_at (R E) full_share d.value b o)
      ∷ ‵ (fsep (token E.al d.alloc (bare (τ E)) (block_ptr b o)) (handle E d.alloc hv))
      ∷ ‵ (cell_at full_share (Row E).mir (word E hv b o ∷ []) rb ro)
      ∷ ‵ (fobor κ q (Borrowed (mem (Row E)) rb ro γ)) ∷ ‵ (fobs γ ((Row E).coded.code d))
      ∷ ‵ (fauth γ ((Row E).coded.code d)) ∷ Γ) G)
      → Seq K 𝓛 (‵ (fobs γ ((Row E).coded.code d)) ∷ ‵ (fbor κ (Borrowed (mem (Row E)) rb ro γ)) ∷ ‵ (flft κ q) ∷ Γ) G
  block_opens t z d rb ro k =
      opens t z (Row E) {h = d} rb ro
      (λ vs. move t (1 ∷ [])
      $ block_out E t d vs (λ b o hv e ws fits. fsplit t $ move t (1 ∷ 2 ∷ []) $ fjoin t $ move t (1 ∷ []) $
      rewrite t 2 (λ (us : List Val). ‵ (cell_at full_share (Row E).mir us rb ro)) ws refl $ k b o hv e))
