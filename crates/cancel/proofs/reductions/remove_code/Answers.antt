-- What is kept passes the test.
use Rattle.std.proofs.Common.{not, ◌&&◌, eqb, subst, sym, rules}
use Rattle.std.proofs.lemmas.Fn.{filter_same}
use Rattle.sparse_complex.specs.Slices.{ListsOnce}
use Rattle.cancel.proofs.ListLemmas.{ListsOnce-without}
use Rattle.cancel.proofs.reductions.remove_code.Goals as goal

pub returns : goal.returns
returns c = λ test l.
    subst (λ xs. ListsOnce xs (λ other. test other && not (eqb other c.args.code)))
    (sym (filter_same _ (λ other. not (eqb other c.args.code)) _
    (λ a b f k. search rules) _ _ c.retain.ensures.filtered))
    (ListsOnce-without _ test c.args.code l)
