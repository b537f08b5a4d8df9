-- The laws hold of any chain and any state.
use Rattle.hexagon_map.proofs.States.StateHomotopies.{homotopy_of_chain-law}
use Rattle.hexagon_map.proofs.States.RaisedDegrees.{alexander-in_homotopy, maslov_o-in_homotopy}
use Rattle.hexagon_map.proofs.WayBack.SameHomology.{Bounds-image, homology_rank-swapped, homology_table-swapped}
use Rattle.hexagon_map.proofs.homotopies.homotopy.Goals as goal

pub returns-clause-law : goal.returns-clause-law
returns-clause-law c =
    homotopy_of_chain-law c.args.axis c.args.g.now c.size.ensures.grid c.args.c c.requires.below c.requires.commutes
    c.args.corner

pub returns-clause-raises_maslov : goal.returns-clause-raises_maslov
returns-clause-raises_maslov c =
    maslov_o-in_homotopy c.args.axis c.args.g.now c.size.ensures.grid c.args.c c.requires.below c.requires.commutes
    c.args.corner

pub returns-clause-keeps_alexander : goal.returns-clause-keeps_alexander
returns-clause-keeps_alexander c =
    alexander-in_homotopy c.args.axis c.args.g.now c.size.ensures.grid c.args.c c.requires.below c.requires.commutes
    c.args.corner

pub returns-clause-ranks_alike : goal.returns-clause-ranks_alike
returns-clause-ranks_alike c =
    homology_rank-swapped c.args.axis c.args.g.now c.size.ensures.grid c.args.c c.requires.below c.requires.commutes

pub returns-clause-table : goal.returns-clause-table
returns-clause-table c =
    homology_table-swapped c.args.axis c.args.g.now c.size.ensures.grid c.args.c c.requires.below c.requires.commutes

pub returns-clause-bounds : goal.returns-clause-bounds
returns-clause-bounds c =
    Bounds-image c.args.axis c.args.g.now c.size.ensures.grid c.args.c c.requires.below c.requires.commutes
    c.args.corner
