-- The arrows between keys, as the contracts of private functions see them.
--     AreListed l              the nodes of the arrows stand in the lists of their keys
--     width l                  how many keys there are
--     outs_of l k, ins_of l k  the ids of the arrows out of the key k, and into it
--     targets l k, sources l k the keys at their other ends
--     tos l is, froms l is     the targets, and the sources, of the arrows with these ids
--     has_arrow l s t          there is an arrow from s to t
--     IsArrow l s t i          the node of the id i is an arrow from s to t
--     code_at cells k          the code of the key k
--     no_cell                  what stands for a cell past the last key
--     others k ks              the keys of the list other than k
--     IsPrefix xs ys           the list ys begins with the list xs
--     IsLinked p q old new     a node of an arrow from p to q was put in
--     IsUnlinked id old new    the node of the id was taken out
--     KeepsEnds old new        nodes that were there are there, with the same ends
--     SameOuts k old new       the list of the arrows out of k is the same, with the same targets
--     SameIns k old new        the list of the arrows into k is the same, with the same sources
--     IsToggled p q old new    the arrow from p to q was taken out if it was there, and else put in
--     IsToggledFrom p x y ..   so were the arrows from p to each target of x other than y
--     IsFilled x y old new     so were those from each source of y other than x
--     IsCleared gone old new   the arrows that pass the test are gone
use Rattle.std.specs.Prelude.{◌≡◌, ℕ, ◌+◌, ◌≤◌, Bool, true, false, not, ◌&&◌, eqb, List, map, ◌++◌, length, get_or, pos}
use Rattle.std.specs.List.{filter}
use Rattle.f2_algebra.proofs.Chains.Tables.{◌⊻◌}
use Rattle.sparse_complex.specs.declared.links.Links.{Links}
use Rattle.sparse_complex.specs.declared.slices.Cell.{Cell}
use Rattle.sparse_complex.specs.Inner.Lists.{no_id, among, node_at, is_node, outs, ins, AreInLists, linked_nodes, linked_heads, unlinked_nodes, unlinked_heads}

abbrev pub AreListed : Links → Type 0
AreListed l = AreInLists l.pool.nodes l.heads.items

abbrev pub width : Links → ℕ
width l = length l.heads.items

abbrev pub outs_of : Links → ℕ → List ℕ
outs_of l k = outs l.pool.nodes l.heads.items k

abbrev pub ins_of : Links → ℕ → List ℕ
ins_of l k = ins l.pool.nodes l.heads.items k

abbrev pub tos : Links → List ℕ → List ℕ
tos l is = map (λ i. (node_at l.pool.nodes i).to) is

abbrev pub froms : Links → List ℕ → List ℕ
froms l is = map (λ i. (node_at l.pool.nodes i).from) is

abbrev pub targets : Links → ℕ → List ℕ
targets l k = tos l (outs_of l k)

abbrev pub sources : Links → ℕ → List ℕ
sources l k = froms l (ins_of l k)

unfoldable pub has_arrow : Links → ℕ → ℕ → Bool
has_arrow l s t = among t (targets l s)

-- the node is an arrow from s to t
abbrev pub IsArrow : Links → ℕ → ℕ → ℕ → Type 0
IsArrow l s t i =
    (is_node l.pool.nodes i ≡ true) × ((node_at l.pool.nodes i).from ≡ s) × ((node_at l.pool.nodes i).to ≡ t)

-- the code of a key
abbrev pub no_cell : Cell
no_cell = record { code = 0; maslov = pos 0 }

unfoldable pub code_at : List Cell → ℕ → ℕ
code_at cells k = (get_or cells k no_cell).code

-- the keys of the list other than k
abbrev pub others : ℕ → List ℕ → List ℕ
others k ks = filter (λ j. not (eqb j k)) ks

abbrev pub IsPrefix : List ℕ → List ℕ → Type 0
IsPrefix xs ys = (rest : List ℕ) × (xs ++ rest ≡ ys)

pub record IsLinked (p q : ℕ) (old new : Links) : Type 0 where
  pub id : ℕ
  pub fresh : is_node old.pool.nodes id ≡ false
  pub is_id : eqb id no_id ≡ false
  pub nodes : new.pool.nodes ≡ linked_nodes old.pool.nodes old.heads.items id p q
  pub heads : new.heads.items ≡ linked_heads old.heads.items id p q

pub record IsUnlinked (id : ℕ) (old new : Links) : Type 0 where
  pub nodes : new.pool.nodes ≡ unlinked_nodes old.pool.nodes id
  pub heads : new.heads.items ≡ unlinked_heads old.pool.nodes old.heads.items id

-- the nodes that stay have the same ends
abbrev pub KeepsEnds : Links → Links → Type 0
KeepsEnds old new =
    (i : ℕ) → is_node old.pool.nodes i ≡ true → is_node new.pool.nodes i ≡ true
    → ((node_at new.pool.nodes i).from ≡ (node_at old.pool.nodes i).from)
    × ((node_at new.pool.nodes i).to ≡ (node_at old.pool.nodes i).to)

pub record IsToggled (p q : ℕ) (old new : Links) : Type 0 where
  pub listed : AreListed new
  pub width : width new ≡ width old
  pub arrows : (s t : ℕ) → has_arrow new s t ≡ (has_arrow old s t ⊻ (eqb s p && eqb t q))
  pub other_outs : (k : ℕ) → eqb k p ≡ false → outs_of new k ≡ outs_of old k
  pub other_ins : (k : ℕ) → eqb k q ≡ false → ins_of new k ≡ ins_of old k
  pub ends : KeepsEnds old new
  pub room : old.pool.spare ≤ new.pool.spare + 1

-- the list of the arrows out of k has not changed, nor have their targets
pub record SameOuts (k : ℕ) (old new : Links) : Type 0 where
  pub list : outs_of new k ≡ outs_of old k
  pub ends : (i : ℕ) → among i (outs_of old k) ≡ true → (node_at new.pool.nodes i).to ≡ (node_at old.pool.nodes i).to

pub record SameIns (k : ℕ) (old new : Links) : Type 0 where
  pub list : ins_of new k ≡ ins_of old k
  pub ends : (i : ℕ) → among i (ins_of old k) ≡ true → (node_at new.pool.nodes i).from ≡ (node_at old.pool.nodes i).from

pub record IsToggledFrom (p x y : ℕ) (old new : Links) : Type 0 where
  pub listed : AreListed new
  pub width : width new ≡ width old
  pub arrows : (s t : ℕ) → has_arrow new s t ≡ (has_arrow old s t ⊻ (eqb s p && (has_arrow old x t && not (eqb t y))))
  pub same_outs : SameOuts x old new
  pub same_ins : SameIns y old new
  pub room : old.pool.spare ≤ new.pool.spare + length (others y (targets old x))

pub record IsFilled (x y : ℕ) (old new : Links) : Type 0 where
  pub listed : AreListed new
  pub width : width new ≡ width old
  pub arrows : (s t : ℕ)
      → has_arrow new s t
      ≡ (has_arrow old s t ⊻ ((has_arrow old s y && not (eqb s x)) && (has_arrow old x t && not (eqb t y))))

-- the arrows out of k, or into k, are gone
pub record IsCleared (gone : ℕ → ℕ → Bool) (old new : Links) : Type 0 where
  pub listed : AreListed new
  pub width : width new ≡ width old
  pub arrows : (s t : ℕ) → has_arrow new s t ≡ (has_arrow old s t && not (gone s t))
