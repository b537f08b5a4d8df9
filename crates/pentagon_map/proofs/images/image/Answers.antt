-- The laws hold of any chain and any state.
use Rattle.pentagon_map.proofs.States.StateImages.{alexander-in_image, image-border, image-minus_state, image-plus_state, image-turned, maslov_o-in_image}
use Rattle.pentagon_map.proofs.images.image.Goals as goal

pub returns-clause-chain_map : goal.returns-clause-chain_map
returns-clause-chain_map c =
    image-border c.args.axis c.args.g.now c.size.ensures.grid c.args.c c.requires.below c.requires.commutes
    c.args.corner

pub returns-clause-over : goal.returns-clause-over
returns-clause-over c =
    image-plus_state c.args.axis c.args.g.now c.size.ensures.grid c.args.c c.requires.below c.requires.commutes

pub returns-clause-under : goal.returns-clause-under
returns-clause-under c =
    image-minus_state c.args.axis c.args.g.now c.size.ensures.grid c.args.c c.requires.below c.requires.commutes

pub returns-clause-keeps_maslov : goal.returns-clause-keeps_maslov
returns-clause-keeps_maslov c =
    maslov_o-in_image c.args.axis c.args.g.now c.size.ensures.grid c.args.c c.requires.below c.requires.commutes
    c.args.corner

pub returns-clause-keeps_alexander : goal.returns-clause-keeps_alexander
returns-clause-keeps_alexander c =
    alexander-in_image c.args.axis c.args.g.now c.size.ensures.grid c.args.c c.requires.below c.requires.commutes
    c.args.corner

pub returns-clause-turns : goal.returns-clause-turns
returns-clause-turns c side y =
    image-turned c.args.axis side c.args.g.now c.size.ensures.grid c.args.c c.requires.below c.args.corner y
