-- `as_ref` reads through a `&` to the block. Assumes `Logic`.
use mathlib.Core.Path.{◌≡◌, refl}
use Prim.Native.Nat.{ℕ, ◌+◌}
use mathlib.Core.List.{List, [], ◌∷◌}
use seplogic.Ra.Ura.{Ura}
use mir.Syntax.{Fn, named}
use mir.MapTy.{inst_fn}
use mir.Val.{Val, vptr}
use base.Logic.{SProp, ent, sep, emp, via, fst∗}
use base.Fml.{Lft, Share, ftrue, fhide, flft}
use prog.Wp.{Calls, Loops, WpFn, Tables}
use types.Logic.{Logic, sem}
use sound.WpLaws.{WpFn-mono}
use types.Kit.{at_ret, ‵, ◌⊛◌, ◌$◌, ◌∵◌, !, qed, by, move, keep, use1, drop, split, join, fsplit, fjoin, feq_i, raw, suffices, frame, done}
use types.Run.{look, stop, hop, fld, of_opd, first, blocks, exec, returns, enter, addr}
use types.ByLocal.{alloc_all, pass_all, free_all, look_at, get, through, sets, sets_last, env}
use contract.Monad.{fact}
use contract.Running.{tables, tables_of}
use denote.Builtin.{RefOf}
use denote.Exit.{yes}
use denote.RattleType.{owns}
use denote.Memory.{hidden_shr}
use denote.Opens.{shr_dup, unhide, hide}
use denote.RawPtr.{block_of, count_of, InBlock}
use denote.Ref.{Bor, ShrRef, shr_vals, shr_Tells}
use denote.Signature.{plain}
use denote.Steps.{heard, nothing}
use denote.Struct.Lending.{in_block_says, lent_out}
use denote.Triple.Carry.{spared}
use denote.Triple.Clauses.{Clauses, Ended, closing}
use denote.Triple.Entry.{on_entry}
use denote.Triple.Spec.{Meets, triple_of}
use denote.Triple.Table.{entered, run_framed}
use denote.Triple.Walked.{says, Stays, stay_none_ref, walk_of, ends_at, walked, Goes-none_ref, walk_Meets}
use Rattle.core.proofs.alloc.Shapes.{after}
use Rattle.std_alloc.proofs.Words.{pointer_in, pointer_out}
use Rattle.std_alloc.proofs.BoxSteps.Form.{Bx, args, X, R, P}
use Rattle.node_pool.proofs.BlockLemmas.{D, Row, Words, fields, block_row_laws, shows_ptr}
use Rattle.node_pool.specs.contracts.blocks.Block as block
use Rattle.node_pool.specs.contracts.blocks.Block.as_ref.Key.{name as #self}
use Rattle.node_pool.proofs.blocks.Block.as_ref.Statement.{statement}
use Rattle.node_pool.proofs.blocks.Block.as_ref.Code as code

-- the contract with one lifetime
module _ (E : Bx) where
  abbrev fn' : Fn
  fn' = inst_fn (args E) code.function

  abbrev ended : Ended
  ended = record {
    signature =
        record {
          lifetimes = 1;
          outlives = [];
          params = RefOf (0 ∷ []) tt (plain (λ _. Row E)) (λ _. tt) ∷ [];
          result = RefOf (0 ∷ []) tt (plain (λ _. R E)) (λ _. tt);
        };
    kept = (yes, tt);
  }

  abbrev stayed : Stays ended.signature.params ended.kept
  stayed = (stay_none_ref (0 ∷ []) tt (plain (λ _. Row E)) yes, tt)

  abbrev spec : {M : Type 1} (𝓤 : Ura M) → Clauses 𝓤 ended
  spec 𝓤 κs a = record { ghost = Unit {0}; requires = λ _. emp 𝓤; ensures = λ _ r _. fact 𝓤 (r.now ≡ a.0.now.value) }

module _ (E : Bx) {M : Type 1} {𝓤 : Ura M} (𝓛 : Logic 𝓤) (κ : Lft) (q : Share) (b o : ℕ) (d : D E) where
  open 𝓛 use {H, A}

  abbrev self : Bor (D E)
  self = record { ref_ptr = (b, o); now = d }

  abbrev bound : (walk_of 𝓛 (ended E) (stayed E) (spec E 𝓤)).Ghost
  bound = (((κ, tt), (q, tt), tt, (self, tt), (vptr b o ∷ [], tt)), tt)

  abbrev Post : Val → SProp 𝓤
  Post = (walk_of 𝓛 (ended E) (stayed E) (spec E 𝓤)).post bound

  abbrev at : ℕ × ℕ
  at = (block_of d.ptr, count_of d.ptr)

  exits : ent 𝓤 (sep 𝓤 (A.lft κ q) (sep 𝓤 (sem 𝓛 (hidden_shr (Row E) κ d b o))
      (sem 𝓛 (hidden_shr (R E) κ d.value at.0 at.1)))) (Post (vptr at.0 at.1))
  exits =
      qed 𝓛 (‵ (flft κ q) ∷ ‵ (hidden_shr (Row E) κ d b o) ∷ ‵ (hidden_shr (R E) κ d.value at.0 at.1) ∷ []) ∵
      suffices ! _ (ends_at 𝓛 (ended E) (stayed E) (spec E 𝓤) bound (vptr at.0 at.1)
      (record { ref_ptr = at; now = d.value }) (tt, tt) (tt, tt)) $ says ! refl $
      nothing ! $ move ! (1 ∷ 0 ∷ []) $ join ! $ frame ! $ feq_i ! (List Val) (vptr b o ∷ []) (vptr b o ∷ []) refl
      $ fjoin ! $
      nothing ! $ move ! (1 ∷ 0 ∷ []) $ fjoin ! $ frame ! $ feq_i
      ! (List Val) (vptr at.0 at.1 ∷ []) (vptr at.0 at.1 ∷ []) refl $ fjoin ! $ done !

  module _ (C : Calls 𝓤 H) (Λ : Loops 𝓤 H) where
    walk : ent 𝓤 (on_entry 𝓛 (ended E).signature (κ, tt) (q, tt) (self, tt) (vptr b o ∷ [], tt))
        (WpFn 𝓤 H C Λ (fn' E) (vptr b o ∷ []) Post)
    walk =
        qed 𝓛 ((‵ (flft κ q) ⊛ ‵ ftrue) ∷ ‵ (owns (ShrRef (named 0) κ (Row E) ∷ []) (self, tt) (vptr b o ∷ [], tt))
        ∷ []) ∵
        enter ! C Λ (fn' E) (vptr b o ∷ []) _ $ alloc_all ! (λ l. pass_all ! refl ((tt, tt), tt) $
        move ! (1 ∷ []) $ fsplit ! $ fsplit ! $ drop ! $ shr_dup ! (Row E) (block_row_laws E) d b o κ $
        use1 𝓛 (‵ (hidden_shr (Words E) κ (fields E d) b o) ⊛ ‵ (fhide (block.the_lent (R E) (P E) E.al.g d d.ptr κ)))
        (lent_out 𝓛 (block.struct (R E) (P E) E.al.g) (block.the_codes (X E) (P E).Denot (R E).coded (P E).coded)
        (block.the_heap (R E) (P E) E.al.g) (block.the_lent (R E) (P E) E.al.g) κ d b o) $ split ! $
        move ! (1 ∷ []) $ unhide ! $ fsplit ! $ use1 𝓛 (raw (fact 𝓤 (InBlock d.ptr))) (in_block_says 𝓛 d.ptr) $ heard
        ! (InBlock d.ptr) (λ inb. hide ! $
        -- [a `&` to the value; one to the fields; one to the block; nothing; the token]
        move ! (4 ∷ []) $ split ! $ move ! (3 ∷ 0 ∷ []) $
        first ! $ blocks ! $ pointer_in ! tt d.ptr inb b (o + 0) (shows_ptr E 𝓛 κ b o d) (λ q'.
        sets_last ! (addr ! (through ! refl (fld ! refl (hop ! (look ! 1 refl) (stop !))))) refl (tt, tt) $
        exec ! C Λ (env (fn' E).locals l) (after 1 (fn' E).body) (at_ret (env (fn' E).locals l) Post) $ pointer_out
        ! tt d.ptr inb b (o + 0) $
        sets ! (of_opd ! (get ! refl)) refl (tt, tt) $
        -- [the token; one to the fields; nothing; a `&` to the value; one to the block]
        returns ! (look_at ! 0 refl) $ free_all ! refl $ keep ! (0 ∷ 4 ∷ 3 ∷ []) $ by ! exits)))

meets : (E : Bx) {M : Type 1} {𝓤 : Ura M} (𝓛 : Logic 𝓤) (𝓣 : Tables 𝓤 𝓛.H)
    → Meets 𝓛 (ended E).signature (WpFn 𝓤 𝓛.H 𝓣.C 𝓣.Λ (fn' E)) (closing 𝓛 (ended E) (spec E 𝓤))
meets E {𝓤 = 𝓤} 𝓛 𝓣 =
    walk_Meets 𝓛 (ended E) (stayed E) (Goes-none_ref 𝓛 1 (0 ∷ []) tt (plain (λ _. Row E)) yes, tt) (spec E 𝓤)
    (WpFn 𝓤 𝓛.H 𝓣.C 𝓣.Λ (fn' E)) (WpFn-mono 𝓤 𝓛.H 𝓛.laws 𝓣 (fn' E))
    (walked 𝓛 (ended E) (stayed E) (spec E 𝓤) (WpFn 𝓤 𝓛.H 𝓣.C 𝓣.Λ (fn' E)) (λ κs. (shr_vals, tt))
    (λ κs. (shr_Tells (named 0) κs.0 (Row E), tt))
    (λ κs qs bounds a g are. via 𝓤 _ (fst∗ 𝓤 _ (emp 𝓤))
    (walk E 𝓛 κs.0 qs.0 a.0.ref_ptr.0 a.0.ref_ptr.1 a.0.now 𝓣.C 𝓣.Λ)))

pub as_ref_spec : {M : Type 1} → statement M
unfolding tables_of
as_ref_spec 𝓤 𝓛 𝓜 𝓡 wired T A L LA g d dd allocator glue y =
    let E : Bx = record { row = T; laws = L; al = record { row = A; laws = LA; g = g; d = d; drops = dd } } in
    let 𝓣 : Tables 𝓤 𝓛.H = tables_of 𝓤 𝓛.H 𝓜 (tables 𝓤 𝓛.H 𝓜 𝓡 𝓡.env) in
    spared 𝓛 (ended E).signature (𝓡.run (𝓡.env (#self (args E)))) (run_framed 𝓤 𝓛.H 𝓜 𝓡 (𝓡.env (#self (args E)))) 2
    (T.lives, (A.lives, tt)) (closing 𝓛 (ended E) (spec E 𝓤))
    (entered 𝓤 𝓛.H (triple_of 𝓛 (ended E).signature (closing 𝓛 (ended E) (spec E 𝓤))) 𝓣.C 𝓣.Λ (#self (args E)) (fn' E)
    (code.unfolded 𝓤 𝓛.H 𝓜 𝓡 wired (T, (A, tt)) d dd) (meets E 𝓛 𝓣))
    ((y.0.0, y.0.1, tt, y.0.3, y.0.4), y.1)
