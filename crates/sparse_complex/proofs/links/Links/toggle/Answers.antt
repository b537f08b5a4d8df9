-- What was found is taken out, and what was not is put in.
use Rattle.std.proofs.Common.{◌+◌, ◌≤◌, refl, arith}
use Rattle.sparse_complex.proofs.ArrowChangeLemmas.{IsToggled-unlinked, IsToggled-linked}
use Rattle.sparse_complex.proofs.links.Links.toggle.Goals as goal

pub returns-in-Some : goal.returns-in-Some
returns-in-Some c =
    let f = c.in-Some.ensures.found in
    let room : c.args.self.now.pool.spare ≤ c.unlink.new.self.pool.spare + 1 = omega (arith, c.unlink.ensures.room) in
    IsToggled-unlinked c.args.self.now c.unlink.new.self c.requires.listed c.in-Some.id f.0 c.unlink.ensures.unlinked
    c.args.from c.args.to f.1 f.2 room

pub returns-in-None : goal.returns-in-None
returns-in-None c =
    let room : c.args.self.now.pool.spare ≤ c.link.new.self.pool.spare + 1 = omega (arith, c.link.ensures.room) in
    IsToggled-linked c.args.self.now c.link.new.self c.requires.listed c.args.from c.args.to c.requires.ends.0
    c.requires.ends.1 (c.in-None.ensures.none refl) c.link.ensures.linked room
