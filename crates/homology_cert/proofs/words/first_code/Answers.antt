use Rattle.std.proofs.Common.{◌+◌, ◌∷◌, ◌++◌, arith, ◌∙◌, sym, ap, take, drop}
use Rattle.sparse_complex.proofs.BuildLemmas.{states_fit_keys}
use Rattle.state_rank.specs.States.{unrank, state_word}
use Rattle.state_rank.proofs.RankLemmas.{IsState-unrank}
use Rattle.homology_cert.proofs.Texts.ByteLemmas.{state_first, state_bytes}
use Rattle.f2_chain.proofs.MergeLemmas.{take-drop}
use Rattle.homology_cert.proofs.words.first_code.Goals as goal
use Rattle.homology_cert.proofs.words.first_code.Goals.{then-bytes-digits-via-then-bytes-digits, then-bytes-digits-via-else-bytes-digits+then-bytes-ne32}

pub returns-then-bytes-digits-clause-none : goal.returns-then-bytes-digits-clause-none
returns-then-bytes-digits-clause-none c s more below e =
    let is = state_first c.args.n s c.args.bytes.now more below e in
    elim c.then-bytes-digits.branch [
      | then-bytes-digits-via-then-bytes-digits w ↦ omega (arith, is.0, w.if-bytes-digits.true, c.from-digits.ensures)
      | then-bytes-digits-via-else-bytes-digits+then-bytes-ne32 w ↦ w.if-bytes-ne32.true is.1
    ]

pub returns-in_default-clause-none : goal.returns-in_default-clause-none
returns-in_default-clause-none c s more below e =
    let is = state_first c.args.n s c.args.bytes.now more below e in
    c.in_default.ensures.none (unrank c.args.n s) (IsState-unrank c.args.n s c.requires below)
    (ap (λ k. take k (drop 1 c.args.bytes.now)) (omega (arith, c.from-digits.ensures)) ∙ is.2)

pub returns-clause-some : goal.returns-clause-some
returns-clause-some c =
    let is = state_bytes c.args.n c.args.bytes.now c.in-Some.state c.rank.result
    (omega (arith, c.if-bytes-digits.false, c.from-digits.ensures)) c.if-bytes-ne32.false
    c.in-Some.ensures.state (ap (λ k. take k (drop 1 c.args.bytes.now)) (omega (arith, c.from-digits.ensures))
    ∙ c.in-Some.ensures.word) c.rank.ensures.rank c.rank.ensures.below in
    let small = states_fit_keys c.args.n c.requires.greatest in (
      is.0,
      omega (arith, is.0, small),
      is.2 ∙ ap (λ t. (32 ∷ state_word (unrank c.args.n c.rank.result)) ++ t)
          (ap (λ k. drop (k + 1) c.args.bytes.now) (sym c.from-digits.ensures)
          ∙ sym (take-drop (c.from-digits.result + 1) c.args.bytes.now)),
    )
