-- States as functions from columns to rows, and the exchange of two of their rows: two exchanges at
-- four columns commute, and at three columns they turn in a circle.
use Rattle.std.proofs.Common.{◌≡◌, ◌≢◌, ℕ, Bool, false, ◌&&◌, refl, ap, ap₂, ◌∙◌, sym, eqb, arith, cond}
use mathlib.Core.Path.{fun_ext}
use Rattle.std.proofs.lemmas.Bool.{eq-eqb, ne_eqb}

-- the state that has the rows of f at a and b exchanged
abbrev pub with_exchanged : (ℕ → ℕ) → ℕ → ℕ → ℕ → ℕ
with_exchanged f a b c = cond (eqb c a) (f b) (cond (eqb c b) (f a) (f c))

-- at a it has the row of b
pub with_exchanged-first : (f : ℕ → ℕ) (a b : ℕ) → with_exchanged f a b a ≡ f b
with_exchanged-first f a b = ap (λ r. cond r (f b) (cond (eqb a b) (f a) (f a))) (eq-eqb a a refl)

-- at b it has the row of a
pub with_exchanged-second : (f : ℕ → ℕ) (a b : ℕ) → a ≢ b → with_exchanged f a b b ≡ f a
with_exchanged-second f a b p =
    ap₂ (λ r s. cond r (f b) (cond s (f a) (f b))) (ne_eqb b a (λ e. p (sym e))) (eq-eqb b b refl)

-- elsewhere it has its row
pub with_exchanged-other : (f : ℕ → ℕ) (a b c : ℕ) → c ≢ a → c ≢ b → with_exchanged f a b c ≡ f c
with_exchanged-other f a b c p q = ap₂ (λ r s. cond r (f b) (cond s (f a) (f c))) (ne_eqb c a p) (ne_eqb c b q)

-- the order of a and b does not matter
pub exchanged_comm : (f : ℕ → ℕ) (a b : ℕ) → with_exchanged f a b ≡ with_exchanged f b a
exchanged_comm f a b = fun_ext (λ c. grind arith)

-- of two different numbers t is at most one
pub not_both : (t a b : ℕ) → a ≢ b → (eqb t a && eqb t b) ≡ false
not_both t a b p = grind arith

order4 : (ta tb tc td : Bool) (x y z w v : ℕ) → (ta && tc) ≡ false → (ta && td) ≡ false → (tb && tc) ≡ false
    → (tb && td) ≡ false
    → cond tc w (cond td z (cond ta y (cond tb x v))) ≡ cond ta y (cond tb x (cond tc w (cond td z v)))
order4 ta tb tc td x y z w v ac ad bc bd = grind arith

order3 : (ta tb tc : Bool) (x y z v : ℕ) → (ta && tb) ≡ false → (tb && tc) ≡ false → (tc && ta) ≡ false
    → cond tb z (cond tc x (cond ta y (cond tb x v))) ≡ cond tc x (cond ta y (cond tb z (cond tc y v)))
order3 ta tb tc x y z v ab bc ca = grind arith

-- exchanges at four columns commute
pub exchanged_apart : (f : ℕ → ℕ) (a b c d : ℕ) → a ≢ c → a ≢ d → b ≢ c → b ≢ d
    → with_exchanged (with_exchanged f a b) c d ≡ with_exchanged (with_exchanged f c d) a b
exchanged_apart f a b c d ac ad bc bd = fun_ext (λ t.
    ap₂ (λ x y. cond (eqb t c) x (cond (eqb t d) y (with_exchanged f a b t)))
    (with_exchanged-other f a b d (λ e. ad (sym e)) (λ e. bd (sym e)))
    (with_exchanged-other f a b c (λ e. ac (sym e)) (λ e. bc (sym e)))
    ∙ order4 (eqb t a) (eqb t b) (eqb t c) (eqb t d) (f a) (f b) (f c) (f d) (f t) (not_both t a c ac)
    (not_both t a d ad) (not_both t b c bc) (not_both t b d bd)
    ∙ sym (ap₂ (λ x y. cond (eqb t a) x (cond (eqb t b) y (with_exchanged f c d t)))
    (with_exchanged-other f c d b bc bd)
    (with_exchanged-other f c d a ac ad)))

-- exchanges at three columns, the next two after the first two, turn in a circle
pub exchanged_three : (f : ℕ → ℕ) (a b c : ℕ) → a ≢ b → b ≢ c → c ≢ a
    → with_exchanged (with_exchanged f a b) b c ≡ with_exchanged (with_exchanged f b c) c a
exchanged_three f a b c p q r = fun_ext (λ t.
    ap₂ (λ x y. cond (eqb t b) x (cond (eqb t c) y (with_exchanged f a b t)))
    (with_exchanged-other f a b c r (λ e. q (sym e)))
    (with_exchanged-second f a b p)
    ∙ order3 (eqb t a) (eqb t b) (eqb t c) (f a) (f b) (f c) (f t) (not_both t a b p) (not_both t b c q)
    (not_both t c a r)
    ∙ sym (ap₂ (λ x y. cond (eqb t c) x (cond (eqb t a) y (with_exchanged f b c t)))
    (with_exchanged-other f b c a p (λ e. r (sym e))) (with_exchanged-second f b c q)))

-- an exchange undoes itself
pub exchanged-exchanged : (f : ℕ → ℕ) (a b : ℕ) → with_exchanged (with_exchanged f a b) a b ≡ f
exchanged-exchanged f a b = fun_ext (λ t. grind arith)
