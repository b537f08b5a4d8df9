-- How a block follows what is written through a `&mut` to its value.
--     with_value b w         the block b, with the value w
--     block_follows T Z g b r    once the borrow r ends, the block behind b has the last value written through r
use Rattle.std.specs.Borrow.{MutBor}
use base.Fml.{Fml}
use denote.RattleType.{RattleType}
use denote.Follow.{follows}
use Rattle.core.specs.declared.alloc.Allocator.{Ghosts}
use Rattle.node_pool.specs.declared.blocks.Block.{Block}
use Rattle.node_pool.specs.contracts.blocks.Block.{the_row as block_row}

abbrev pub with_value : {X Z : Type 0} → Block X Z → X → Block X Z
with_value b w = record b { value = w }

abbrev pub block_follows : (T Z : RattleType) (g : Ghosts Z.Denot) → MutBor (Block T.Denot Z.Denot) → MutBor T.Denot
    → Fml
block_follows T Z g b r = follows (block_row T Z g) T b.ghost_name r.ghost_name (with_value b.now)
