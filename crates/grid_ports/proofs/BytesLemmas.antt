-- Bytes taken, or written, in steps.
use Rattle.std.proofs.Common.{◌≡◌, ℕ, ◌+◌, ◌-◌, ◌≤◌, List, [], ◌++◌, length, take, drop, Option, None, Some, refl, sym, ap, subst, ◌∙◌, append_assoc, arith, length-append}
use Rattle.std.proofs.lemmas.Grind.{common_steps}
use Rattle.std.specs.Io.KnownBytes.{Consumes, Appends, Keeps}
use Rattle.std.proofs.lemmas.List.{length-take, length-drop, take_all, take-append-drop}
use Rattle.std.proofs.Math.Seq.{take-add}
use Rattle.grid_ports.specs.Bytes.{Takes, TakesAtMost, AppendsPrefix}

-- nothing is taken, or written, at first
pub Consumes-none : (a : Option (List ℕ)) → Consumes a a []
Consumes-none None = tt
Consumes-none (Some x) = refl

pub Appends-none : (a : Option (List ℕ)) → Appends a a []
Appends-none None = tt
Appends-none (Some x) = grind (arith, common_steps)

-- two steps are one
pub Consumes-append : (a b c : Option (List ℕ)) (xs ys : List ℕ) → Consumes a b xs → Consumes b c ys
    → Consumes a c (xs ++ ys)
Consumes-append None b c xs ys first second = tt
Consumes-append (Some x) None c xs ys first second = absurd first
Consumes-append (Some x) (Some y) None xs ys first second = absurd second
Consumes-append (Some x) (Some y) (Some z) xs ys first second =
    first ∙ ap (λ s. xs ++ s) second ∙ sym (append_assoc xs ys z)

pub Appends-append : (a b c : Option (List ℕ)) (xs ys : List ℕ) → Appends a b xs → Appends b c ys
    → Appends a c (xs ++ ys)
Appends-append None b c xs ys first second = tt
Appends-append (Some x) None c xs ys first second = absurd first
Appends-append (Some x) (Some y) None xs ys first second = absurd second
Appends-append (Some x) (Some y) (Some z) xs ys first second = second ∙ ap (λ s. s ++ ys) first ∙ append_assoc x xs ys

-- a step that failed moves nothing
pub Consumes-keep : (a b c : Option (List ℕ)) (xs : List ℕ) → Consumes a b xs → Keeps b c → Consumes a c xs
Consumes-keep None b c xs step kept = tt
Consumes-keep (Some x) None c xs step kept = absurd step
Consumes-keep (Some x) (Some y) None xs step kept = absurd kept
Consumes-keep (Some x) (Some y) (Some z) xs step kept = step ∙ ap (λ s. xs ++ s) (sym kept)

pub Appends-keep : (a b c : Option (List ℕ)) (xs : List ℕ) → Appends a b xs → Keeps b c → Appends a c xs
Appends-keep None b c xs step kept = tt
Appends-keep (Some x) None c xs step kept = absurd step
Appends-keep (Some x) (Some y) None xs step kept = absurd kept
Appends-keep (Some x) (Some y) (Some z) xs step kept = kept ∙ step

-- what was taken is gone from the front
pub Takes-from_consumed : (a b : Option (List ℕ)) (xs : List ℕ) (k : ℕ) → Consumes a b xs → k ≡ length xs → Takes k a b
Takes-from_consumed None b xs k step e = tt
Takes-from_consumed (Some x) None xs k step e = absurd step
Takes-from_consumed (Some x) (Some y) xs k step e = grind (arith, common_steps)

-- a part taken, and then a part of a buffer
pub TakesAtMost-append : (a b c : Option (List ℕ)) (xs buffer : List ℕ) (n k most : ℕ) → n ≡ length xs → Consumes a b xs
    → Consumes b c (take k buffer) → n + k ≤ most → TakesAtMost most a c
TakesAtMost-append a b c xs buffer n k most long first second bounded =
    let taken = Consumes-append a b c xs (take k buffer) first second in (
      length (xs ++ take k buffer),
      omega (arith, length-append xs (take k buffer), length-take k buffer),
      Takes-from_consumed a c (xs ++ take k buffer) _ taken refl,
    )

-- the same, for all of the part of the buffer
pub Takes-append : (a b c : Option (List ℕ)) (xs buffer : List ℕ) (n k most : ℕ) → n ≡ length xs → Consumes a b xs
    → Consumes b c (take k buffer) → k ≤ length buffer → n + k ≡ most → Takes most a c
Takes-append a b c xs buffer n k most long first second within whole =
    Takes-from_consumed a c (xs ++ take k buffer) most (Consumes-append a b c xs (take k buffer) first second)
    (omega (arith, length-append xs (take k buffer), length-take k buffer))

-- if a write failed, what was written before is a prefix
pub AppendsPrefix-keep : (a b c : Option (List ℕ)) (n : ℕ) (bs : List ℕ) → Appends a b (take n bs) → Keeps b c
    → AppendsPrefix a c bs
AppendsPrefix-keep a b c n bs written kept =
    (take n bs, (drop n bs, take-append-drop n bs), Appends-keep a b c (take n bs) written kept)

-- the first n bytes and then some of the rest
pub Appends-take-add : (a b c : Option (List ℕ)) (n k : ℕ) (bs : List ℕ) → n ≤ length bs → Appends a b (take n bs)
    → Appends b c (take k (take (length bs - n) (drop n bs))) → Appends a c (take (n + k) bs)
Appends-take-add a b c n k bs within first second =
    let whole : take (length bs - n) (drop n bs) ≡ drop n bs =
    take_all _ (drop n bs) (omega (arith, length-drop n bs)) in
    let step = Appends-append a b c (take n bs) (take k (take (length bs - n) (drop n bs))) first second in
    subst (λ s. Appends a c s) (ap (λ s. take n bs ++ take k s) whole ∙ sym (take-add n k bs)) step
