use Rattle.std.proofs.Common.{◌≡◌, ◌+◌, ◌*◌, ◌^◌, ◌≤◌, ◌<◌, [], ◌∷◌, ◌++◌, length, take, sym, ap, ◌∙◌, subst, arith, length-append}
use Rattle.std.proofs.Math.Seq.{take-append_seam}
use Rattle.node_pool.specs.Inner.Chunks.{joined, AreWhole}
use Rattle.node_pool.proofs.ChunkLemmas.{length-joined, AreWhole-push, joined-push}
use Rattle.node_pool.proofs.nodes.Nodes.grow.Goals as goal

pub invariant_of-self-2 : goal.invariant_of-self-2
invariant_of-self-2 c =
    let cs = c.self.inside.chunks.items in let whole = c.self.invariant.0 in let chunk = c.in_ok-chunk.chunk in
    let now : c.push.new.self.items ≡ cs ++ chunk ∷ [] = c.in_ok-push.ensures.items in
    let few : length cs * 4096 < 2 ^ 49 =
    subst (λ n. n < 2 ^ 49) (sym (ap (λ ns. length ns) c.self.view_is) ∙ length-joined cs whole) c.requires in
    subst (λ xs. AreWhole xs × (length xs ≤ 2 ^ 37)) (sym now)
    (AreWhole-push cs chunk whole c.in_ok-chunk.ensures, omega (arith, length-append cs (chunk ∷ []), few))

pub returns-clause-kept : goal.returns-clause-kept
returns-clause-kept c =
    let cs = c.self.inside.chunks.items in let chunk = c.in_ok-chunk.chunk in let old = c.args.self.now in
    let now : joined c.push.new.self.items ≡ old ++ chunk =
    ap (λ xs. joined xs) c.in_ok-push.ensures.items ∙ joined-push cs chunk ∙ ap (λ ns. ns ++ chunk) c.self.view_is in
    ap (λ ns. take (length old) ns) now ∙ take-append_seam old chunk

pub returns-clause-grown : goal.returns-clause-grown
returns-clause-grown c =
    let cs = c.self.inside.chunks.items in let chunk = c.in_ok-chunk.chunk in let old = c.args.self.now in
    let now : joined c.push.new.self.items ≡ old ++ chunk =
    ap (λ xs. joined xs) c.in_ok-push.ensures.items ∙ joined-push cs chunk ∙ ap (λ ns. ns ++ chunk) c.self.view_is in
    ap (λ ns. length ns) now ∙ length-append old chunk ∙ ap (λ n. length old + n) c.in_ok-chunk.ensures
