-- The order of lists of degrees, and of degrees with a Maslov degree: it is total.
use Rattle.std.proofs.Common.{◌≡◌, ◌↔◌, ◌⊎◌, ℤ, Bool, true, false, ◌&&◌, ◌||◌, List, [], ◌∷◌, inl, inr, refl, sym, subst, arith}
use Rattle.std.specs.Prelude.{int_lt}
use Rattle.std.specs.Ordering.{int_eq}
use Rattle.std.proofs.lemmas.Bool.{cases_Bool, false≢true, and_parts, and_from, or_left, or_right, or_cases}
use Rattle.std.proofs.lemmas.Bool.Decides.{Decides-int_eq}
use Rattle.std.proofs.lemmas.Int.{ints}
use Rattle.hat_division.specs.DegreeLists.{is_higher, same_degrees, stands_before_by_component}

-- ---- the test of two lists
pub same_degrees-itself : (ds : List ℤ) → same_degrees ds ds ≡ true
same_degrees-itself [] = refl
same_degrees-itself (d ∷ ds) =
    and_from (int_eq d d) (same_degrees ds ds) ((Decides-int_eq d d).1 refl) (same_degrees-itself ds)

same_degrees-from : (ds es : List ℤ) → same_degrees ds es ≡ true → ds ≡ es
same_degrees-from [] [] h = refl
same_degrees-from [] (e ∷ es) h = absurd (false≢true h)
same_degrees-from (d ∷ ds) [] h = absurd (false≢true h)
same_degrees-from (d ∷ ds) (e ∷ es) h =
    let (first, second) = and_parts (int_eq d e) (same_degrees ds es) h in
    let p = (Decides-int_eq d e).0 first in
    let q = same_degrees-from ds es second in
    λ i. p i ∷ q i

pub same_degrees-is : (ds es : List ℤ) → (same_degrees ds es ≡ true) ↔ (ds ≡ es)
same_degrees-is ds es = (
  same_degrees-from ds es,
  λ e. subst (λ l. same_degrees ds l ≡ true) e (same_degrees-itself ds),
)

-- with a Maslov degree
abbrev pub same_multidegree : ℤ × List ℤ → ℤ × List ℤ → Bool
same_multidegree p q = int_eq p.0 q.0 && same_degrees p.1 q.1

pub same_multidegree-is : (p q : ℤ × List ℤ) → (same_multidegree p q ≡ true) ↔ (p ≡ q)
same_multidegree-is p q = (
  λ h.
      let (first, second) = and_parts (int_eq p.0 q.0) (same_degrees p.1 q.1) h in
      let m = (Decides-int_eq p.0 q.0).0 first in
      let ds = same_degrees-from p.1 q.1 second in
      λ i. (m i, ds i),
  λ e. subst (λ r. (int_eq p.0 r.0 && same_degrees p.1 r.1) ≡ true) e
      (and_from (int_eq p.0 p.0) (same_degrees p.1 p.1) ((Decides-int_eq p.0 p.0).1 refl) (same_degrees-itself p.1)),
)

-- ---- the order of lists
int_lt-transitive : (a b c : ℤ) → int_lt a b ≡ true → int_lt b c ≡ true → int_lt a c ≡ true
int_lt-transitive a b c h k = grind (arith, ints)

int_lt-itself : (a : ℤ) → int_lt a a ≡ false
int_lt-itself a = grind (arith, ints)

int_lt-or : (a b : ℤ) → int_lt a b ≡ false → int_lt b a ≡ false → int_eq a b ≡ true
int_lt-or a b h k = grind (arith, ints)

pub is_higher-itself : (ds : List ℤ) → is_higher ds ds ≡ false
is_higher-itself [] = refl
is_higher-itself (d ∷ ds) = by (int_lt d d) (int_lt-itself d) (int_eq d d) (is_higher ds ds) (is_higher-itself ds)
  where
    by : (a : Bool) → a ≡ false → (b c : Bool) → c ≡ false → (a || (b && c)) ≡ false
    by true h b c k = h
    by false h true c k = k
    by false h false c k = refl

pub is_higher-transitive : (ds es fs : List ℤ) → is_higher ds es ≡ true → is_higher es fs ≡ true
    → is_higher ds fs ≡ true
is_higher-transitive [] es fs h k = absurd (false≢true h)
is_higher-transitive (d ∷ ds) [] fs h k = absurd (false≢true k)
is_higher-transitive (d ∷ ds) (e ∷ es) [] h k = refl
is_higher-transitive (d ∷ ds) (e ∷ es) (f ∷ fs) h k =
    elim (or_cases (int_lt e d) (int_eq e d && is_higher ds es) h) [
      | inl ed ↦ elim (or_cases (int_lt f e) (int_eq f e && is_higher es fs) k) [
        | inl fe ↦ or_left (int_lt f d) _ (int_lt-transitive f e d fe ed)
        | inr same ↦
            let f_is = (Decides-int_eq f e).0 (and_parts (int_eq f e) (is_higher es fs) same).0 in
            or_left (int_lt f d) _ (subst (λ z. int_lt z d ≡ true) (sym f_is) ed)
      ]
      | inr same ↦
          let (at, later) = and_parts (int_eq e d) (is_higher ds es) same in
          let e_is = (Decides-int_eq e d).0 at in
          elim (or_cases (int_lt f e) (int_eq f e && is_higher es fs) k) [
            | inl fe ↦ or_left (int_lt f d) _ (subst (λ z. int_lt f z ≡ true) e_is fe)
            | inr also ↦
                let (at_f, later_f) = and_parts (int_eq f e) (is_higher es fs) also in
                or_right (int_lt f d) (int_eq f d && is_higher ds fs)
                (and_from (int_eq f d) (is_higher ds fs) (subst (λ z. int_eq f z ≡ true) e_is at_f)
                (is_higher-transitive ds es fs later later_f))
          ]
    ]

pub is_higher-or : (ds es : List ℤ)
    → (is_higher ds es ≡ true) ⊎ ((is_higher es ds ≡ true) ⊎ (same_degrees ds es ≡ true))
is_higher-or [] [] = inr (inr refl)
is_higher-or [] (e ∷ es) = inr (inl refl)
is_higher-or (d ∷ ds) [] = inl refl
is_higher-or (d ∷ ds) (e ∷ es) = elim (cases_Bool (int_lt e d)) [
  | inl h ↦ inl (or_left (int_lt e d) _ h)
  | inr h ↦ elim (cases_Bool (int_lt d e)) [
    | inl k ↦ inr (inl (or_left (int_lt d e) _ k))
    | inr k ↦ elim (is_higher-or ds es) [
      | inl later ↦ inl (or_right (int_lt e d) _ (and_from (int_eq e d) (is_higher ds es) (int_lt-or e d h k) later))
      | inr other ↦ elim other [
        | inl later ↦ inr (inl (or_right (int_lt d e) _
            (and_from (int_eq d e) (is_higher es ds) (int_lt-or d e k h) later)))
        | inr same ↦ inr (inr (and_from (int_eq d e) (same_degrees ds es) (int_lt-or d e k h) same))
      ]
    ]
  ]
]

-- ---- the order of rows
pub multidegree_before-itself : (p : ℤ × List ℤ) → stands_before_by_component p p ≡ false
multidegree_before-itself p =
    by (is_higher p.1 p.1) (is_higher-itself p.1) (same_degrees p.1 p.1) (int_lt p.0 p.0) (int_lt-itself p.0)
  where
    by : (a : Bool) → a ≡ false → (b c : Bool) → c ≡ false → (a || (b && c)) ≡ false
    by true h b c k = h
    by false h true c k = k
    by false h false c k = refl

pub multidegree_before-transitive : (p q r : ℤ × List ℤ) → stands_before_by_component p q ≡ true
    → stands_before_by_component q r ≡ true
    → stands_before_by_component p r ≡ true
multidegree_before-transitive p q r h k =
    elim (or_cases (is_higher p.1 q.1) (same_degrees p.1 q.1 && int_lt q.0 p.0) h) [
      | inl pq ↦ elim (or_cases (is_higher q.1 r.1) (same_degrees q.1 r.1 && int_lt r.0 q.0) k) [
        | inl qr ↦ or_left (is_higher p.1 r.1) _ (is_higher-transitive p.1 q.1 r.1 pq qr)
        | inr same ↦
            let is = same_degrees-from q.1 r.1 (and_parts (same_degrees q.1 r.1) (int_lt r.0 q.0) same).0 in
            or_left (is_higher p.1 r.1) _ (subst (λ z. is_higher p.1 z ≡ true) is pq)
      ]
      | inr same ↦
          let (at, m_pq) = and_parts (same_degrees p.1 q.1) (int_lt q.0 p.0) same in
          let is = same_degrees-from p.1 q.1 at in
          elim (or_cases (is_higher q.1 r.1) (same_degrees q.1 r.1 && int_lt r.0 q.0) k) [
            | inl qr ↦ or_left (is_higher p.1 r.1) _ (subst (λ z. is_higher z r.1 ≡ true) (sym is) qr)
            | inr also ↦
                let (at_r, m_qr) = and_parts (same_degrees q.1 r.1) (int_lt r.0 q.0) also in
                or_right (is_higher p.1 r.1) _
                (and_from (same_degrees p.1 r.1) (int_lt r.0 p.0)
                (subst (λ z. same_degrees z r.1 ≡ true) (sym is) at_r) (int_lt-transitive r.0 q.0 p.0 m_qr m_pq))
          ]
    ]

pub multidegree_before-or : (p q : ℤ × List ℤ)
    → (stands_before_by_component p q ≡ true) ⊎ ((stands_before_by_component q p ≡ true) ⊎ (p ≡ q))
multidegree_before-or p q = elim (is_higher-or p.1 q.1) [
  | inl h ↦ inl (or_left (is_higher p.1 q.1) _ h)
  | inr other ↦ elim other [
    | inl h ↦ inr (inl (or_left (is_higher q.1 p.1) _ h))
    | inr same ↦
        let is = same_degrees-from p.1 q.1 same in
        elim (cases_Bool (int_lt q.0 p.0)) [
          | inl h ↦ inl (or_right (is_higher p.1 q.1) _ (and_from (same_degrees p.1 q.1) (int_lt q.0 p.0) same h))
          | inr h ↦ elim (cases_Bool (int_lt p.0 q.0)) [
            | inl k ↦ inr (inl (or_right (is_higher q.1 p.1) _
                (and_from (same_degrees q.1 p.1) (int_lt p.0 q.0) ((same_degrees-is q.1 p.1).1 (sym is)) k)))
            | inr k ↦
                let m = (Decides-int_eq p.0 q.0).0 (int_lt-or p.0 q.0 k h) in
                inr (inr (λ i. (m i, is i)))
          ]
        ]
  ]
]
