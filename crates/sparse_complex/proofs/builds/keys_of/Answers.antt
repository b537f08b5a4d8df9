-- Each step gives one cell its key.
use Rattle.std.proofs.Common.{◌≡◌, ◌≤◌, length, replicate, ap, subst, ◌∙◌, arith, rules}
use Rattle.f2_algebra.specs.Bigraded.{at_alexander}
use Rattle.state_rank.specs.declared.TheConstants.{MAX_SIZE}
use Rattle.state_rank.specs.States.{factorial}
use Rattle.torus_geom.specs.Marks.{size}
use Rattle.torus_geom.specs.Inner.GridComplex.{grid_complex}
use Rattle.sparse_complex.specs.Inner.Graph.{code_at}
use Rattle.sparse_complex.specs.Inner.Stored.{no_key}
use Rattle.sparse_complex.proofs.KeyLemmas.{KeysPlace, keys-start, keys-step, keys-end}
use Rattle.sparse_complex.proofs.BuildLemmas.{states_fit_keys}
use Rattle.sparse_complex.proofs.builds.keys_of.Goals as goal

pub loop-key-init : goal.loop-key-init
loop-key-init c =
    let n : c.state_count.result ≡ factorial (size c.args.g.now) =
    c.state_count.ensures ∙ ap factorial c.size.ensures.size in
    keys-start (factorial (size c.args.g.now)) c.args.cells.now c.in_ok-keys.keys.items
    (c.in_ok-keys.ensures.items_if_clones_equal (λ y e. e) ∙ ap (λ m. replicate m no_key) n)

pub loop-key-preserved : goal.loop-key-preserved
unfolding code_at
loop-key-preserved c =
    let m : size c.args.g.now ≤ MAX_SIZE = search rules in
    let f = states_fit_keys (size c.args.g.now) m in
    let few = c.requires.few in
    keys-step (at_alexander c.args.a (grid_complex c.args.g.now))
    (factorial (size c.args.g.now)) c.args.cells.now c.requires c.loop-key.key c.loop-key-test.true
    (omega arith) c.loop-key.keys.items c.loop-key.invariant

pub returns : goal.returns
returns c =
    let m : size c.args.g.now ≤ MAX_SIZE = search rules in
    let f = states_fit_keys (size c.args.g.now) m in
    let few = c.requires.few in
    let all : c.loop-key.key ≡ length c.args.cells.now = omega arith in
    keys-end (factorial (size c.args.g.now)) c.args.cells.now c.loop-key.keys.items (omega arith)
    (subst (λ i. KeysPlace (factorial (size c.args.g.now)) c.args.cells.now i c.loop-key.keys.items) all
    c.loop-key.invariant)
