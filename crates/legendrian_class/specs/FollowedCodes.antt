-- The grid and the chain that the code follows: the chain is a set of codes.
--     FollowedCodes       a grid and a set of codes
--     followed_code       how its values are told apart
--     followed_of p       the grid of p, and the chain of the states that its codes stand for
use Rattle.std.specs.Prelude.{List, ℕ, refl}
use Rattle.std.specs.Coded.{Coded, code_by, coded×, coded_list, coded_ℕ}
use Rattle.std.specs.FinSet as finite_set
use Rattle.f2_algebra.specs.Chain.{Chain}
use Rattle.torus_geom.specs.Codes.{states_of}
use Rattle.torus_geom.specs.Marks.{Marks, size}
use Rattle.legendrian_class.specs.Followed.{Followed}

pub record FollowedCodes : Type 0 where
  pub grid : Marks
  pub chain : Chain

abbrev pub followed_code : Coded FollowedCodes
followed_code =
    code_by (List ℕ × (List ℕ × Chain))
    (coded× (coded_list coded_ℕ) (coded× (coded_list coded_ℕ) (finite_set.code coded_ℕ)))
    (λ p. (p.grid.o, (p.grid.x, p.chain))) (λ t. record { grid = record { o = t.0; x = t.1.0 }; chain = t.1.1 })
    (λ _. refl)

abbrev pub followed_of : FollowedCodes → Followed
followed_of p = record { grid = p.grid; chain = states_of (size p.grid) p.chain }
