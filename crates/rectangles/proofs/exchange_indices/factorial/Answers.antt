-- The numbers are those of the definition.
use Rattle.std.proofs.Common.{◌≡◌, ℕ, zero, suc, ◌<◌, [], ◌∷◌, slice_index, refl, arith}
use Rattle.state_rank.specs.States.{factorial}
use Rattle.rectangles.proofs.exchange_indices.factorial.Goals as goal

is_factorial : (n : ℕ) → n < 10
    → slice_index (1 ∷ 1 ∷ 2 ∷ 6 ∷ 24 ∷ 120 ∷ 720 ∷ 5040 ∷ 40320 ∷ 362880 ∷ []) n ≡ factorial n
unfolding factorial
is_factorial zero l = refl
is_factorial (suc zero) l = refl
is_factorial (suc (suc zero)) l = refl
is_factorial (suc (suc (suc zero))) l = refl
is_factorial (suc (suc (suc (suc zero)))) l = refl
is_factorial (suc (suc (suc (suc (suc zero))))) l = refl
is_factorial (suc (suc (suc (suc (suc (suc zero)))))) l = refl
is_factorial (suc (suc (suc (suc (suc (suc (suc zero))))))) l = refl
is_factorial (suc (suc (suc (suc (suc (suc (suc (suc zero)))))))) l = refl
is_factorial (suc (suc (suc (suc (suc (suc (suc (suc (suc zero))))))))) l = refl
is_factorial (suc (suc (suc (suc (suc (suc (suc (suc (suc (suc n)))))))))) l = absurd (omega arith)

pub returns-clause-value : goal.returns-clause-value
returns-clause-value c = is_factorial c.args.n c.requires
