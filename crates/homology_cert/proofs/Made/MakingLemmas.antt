-- The loops that make a certificate: the bidegrees of the states so far, the cycle pairs of the codes so far, the step
-- pairs of the entries so far, and the cells of the bidegrees so far.
use Rattle.std.proofs.Common.{◌≡◌, ℕ, zero, suc, ◌+◌, ◌<◌, ℤ, Bool, true, false, cond, ◌||◌, List, [], ◌∷◌, ◌++◌, map, length, get_or, take, drop, All, AllPairs, Contains, IsTrue, is_some, refl, sym, ap, ap₂, subst, ◌∙◌, arith, inl, inr, below_more, add-one, append_assoc, append-nil}
use Rattle.std.specs.List.{filter, list_any, AllByRecursion}
use Rattle.std.specs.List.Sorted.{IsStrictlySortedBy}
use Rattle.std.specs.Ordering.{is_eq}
use Rattle.std.specs.declared.cmp.Ordering.{Ordering}
use Rattle.std.specs.declared.cmp.Ordering.TheVariants.{Less, Equal, Greater}
use Rattle.std.specs.BTreeSet as sorted
use Rattle.std.specs.BTreeSet.{BTreeSet}
use Rattle.std.proofs.lemmas.Bool.{false≢true}
use Rattle.std.proofs.lemmas.Cmp.{tied_itself}
use Rattle.std.proofs.lemmas.List.{length-map, get_or-map, map-append, take_more, drop_more}
use Rattle.std.proofs.lemmas.List.Elements.{filter-append, Contains-append_right, All-append, All-cons, All-nil}
use Rattle.std.proofs.lemmas.Map.Views.{btree_set_contains_iff}
use Rattle.f2_algebra.specs.Chain.{Chain}
use Rattle.f2_algebra.specs.Complex.{Complex, IsComplex}
use Rattle.f2_algebra.specs.Cancel.{Entry, IsLog, after, cancelled}
use Rattle.f2_algebra.specs.Certificate.{CyclePair, StepPair}
use Rattle.f2_algebra.specs.Slice.{Slice, slice_complex, IsReduced}
use Rattle.f2_algebra.specs.Bigraded.{stands_before}
use Rattle.f2_algebra.proofs.Cancelling.Cancellation.{cancelled_IsComplex}
use Rattle.f2_algebra.proofs.Cancelling.LogLemmas.{live_below}
use Rattle.f2_algebra.proofs.Ranks.Bigraded.{at_alexander_IsComplex}
use Rattle.cancel.specs.declared.logs.LogEntry.{LogEntry}
use Rattle.cancel.specs.Logs.{entry_of, log_of}
use Rattle.state_rank.specs.Bijection.{ascending}
use Rattle.state_rank.specs.States.{factorial, unrank}
use Rattle.state_rank.proofs.MemberLemmas.{no_member, member_head, member_cases, member_of_map, pairs_cons}
use Rattle.torus_geom.specs.Marks.{Marks, size, IsGrid}
use Rattle.torus_geom.specs.Degrees.{bidegree}
use Rattle.torus_geom.specs.Inner.GridComplex.{grid_complex}
use Rattle.torus_geom.proofs.Sums.TabulateLemmas.{tabulate-suc}
use Rattle.torus_geom.proofs.Sums.AllBelowLemmas.{all_below-true}
use Rattle.rectangles.proofs.Law.GridComplexLemmas.{grid_complex_rules}
use Rattle.homology_cert.specs.CertificateCodes.{Cell}
use Rattle.homology_cert.specs.Inner.CodeTests.{has_bidegree}
use Rattle.gradings.specs.Degrees.{bidegree_cmp}
use Rattle.gradings.specs.declared.degrees.Bidegree.{Bidegree}
use Rattle.gradings.proofs.OrderLemmas.{bidegree_cmp_total, bidegree_cmp_exact, stands_before-bidegree_cmp}
use Rattle.hat_division.specs.RankMaps.{bidegree_key}
use Rattle.homology_cert.specs.Inner.Making.{cycle_pair, left_codes, step_pair, steps_after, HasState, HasBidegrees, IsMadeCell, AreMade}
use Rattle.homology_cert.proofs.Homology.SliceRanks.{slice_of, slice-below, reduction_of}
use Rattle.homology_cert.proofs.Certified.CertifiedLemmas.{same_degree-is}

-- ---- cycle pairs
-- the codes that pass, with one more
filter-more : (p : ℕ → Bool) (n : ℕ) → filter p (ascending (n + 1)) ≡ filter p (ascending n) ++ filter p (n ∷ [])
filter-more p n = ap (λ k. filter p (ascending k)) (add-one n) ∙ ap (filter p) (tabulate-suc n (λ c. c))
    ∙ filter-append p (ascending n) (n ∷ [])

-- a code that passes gives one more pair
pub cycles-pushed : (f : ℕ → CyclePair) (p : ℕ → Bool) (n : ℕ) (old new : List CyclePair) (z w : Chain)
    → old ≡ map f (filter p (ascending n)) → p n ≡ true → z ≡ (f n).cycle → w ≡ (f n).cocycle
    → new ≡ old ++ record { cycle = z; cocycle = w } ∷ [] → new ≡ map f (filter p (ascending (n + 1)))
cycles-pushed f p n old new z w so_far passes z_is w_is pushed =
    pushed
    ∙ ap₂ (λ xs (q : CyclePair). xs ++ q ∷ []) so_far (λ i. record { cycle = z_is i; cocycle = w_is i })
    ∙ sym (ap (map f) (filter-more p n ∙ ap (λ b. filter p (ascending n) ++ cond b (n ∷ []) []) passes)
    ∙ map-append f (filter p (ascending n)) (n ∷ []))

-- another gives none
pub cycles-kept : (f : ℕ → CyclePair) (p : ℕ → Bool) (n : ℕ) (old : List CyclePair)
    → old ≡ map f (filter p (ascending n)) → p n ≡ false → old ≡ map f (filter p (ascending (n + 1)))
cycles-kept f p n old so_far fails =
    so_far ∙ sym (ap (map f) (filter-more p n ∙ ap (λ b. filter p (ascending n) ++ cond b (n ∷ []) []) fails
    ∙ append-nil (filter p (ascending n))))

-- ---- step pairs
module _ (p : ℕ → Bool) (entries : List LogEntry) where
  -- the log of the entries
  abbrev log : List Entry
  log = log_of entries

  -- the steps from an entry on
  steps-from : (k : ℕ) (d : LogEntry) → k < length entries
      → steps_after p (take k log) (drop k log) ≡ cond (p (get_or entries k d).x)
      (step_pair (take k log) (entry_of (get_or entries k d)) ∷ []) [] ++ steps_after p (take (k + 1) log)
      (drop (k + 1) log)
  steps-from k d within =
      let long : k < length log = omega (arith, within, length-map entries entry_of) in
      let here : get_or log k (entry_of d) ≡ entry_of (get_or entries k d) =
      get_or-map entry_of entries k d (entry_of d) within in
      ap (steps_after p (take k log)) (drop_more log k (entry_of d) long ∙ ap (λ e. e ∷ drop (k + 1) log) here)
      ∙ ap (λ done. cond (p (get_or entries k d).x) (step_pair (take k log) (entry_of (get_or entries k d)) ∷ []) [] ++
      steps_after p done (drop (k + 1) log))
      (sym (take_more log k (entry_of d) long ∙ ap (λ e. take k log ++ e ∷ []) here))

  -- an entry whose x passes gives one more pair
  pub steps-pushed : (k : ℕ) (d : LogEntry) (old new : List StepPair) (z w : Chain) → k < length entries
      → old ++ steps_after p (take k log) (drop k log) ≡ steps_after p [] log
      → p (get_or entries k d).x ≡ true → z ≡ (step_pair (take k log) (entry_of (get_or entries k d))).step
      → w ≡ (step_pair (take k log) (entry_of (get_or entries k d))).probe
      → new ≡ old ++ record { step = z; probe = w } ∷ []
      → new ++ steps_after p (take (k + 1) log) (drop (k + 1) log) ≡ steps_after p [] log
  steps-pushed k d old new z w within so_far passes z_is w_is pushed =
      ap (λ xs. xs ++ steps_after p (take (k + 1) log) (drop (k + 1) log))
      (pushed ∙ ap (λ (q : StepPair). old ++ q ∷ []) (λ i. record { step = z_is i; probe = w_is i }))
      ∙ append_assoc old (step_pair (take k log) (entry_of (get_or entries k d)) ∷ [])
      (steps_after p (take (k + 1) log) (drop (k + 1) log))
      ∙ sym (ap (λ xs. old ++ xs) (steps-from k d within
      ∙ ap (λ b. cond b (step_pair (take k log) (entry_of (get_or entries k d)) ∷ []) [] ++ steps_after p
      (take (k + 1) log) (drop (k + 1) log)) passes))
      ∙ so_far

  -- another gives none
  pub steps-kept : (k : ℕ) (d : LogEntry) (old : List StepPair) → k < length entries
      → old ++ steps_after p (take k log) (drop k log) ≡ steps_after p [] log
      → p (get_or entries k d).x ≡ false → old ++ steps_after p (take (k + 1) log) (drop (k + 1) log) ≡ steps_after p []
      log
  steps-kept k d old within so_far fails =
      sym (ap (λ xs. old ++ xs) (steps-from k d within ∙ ap
      (λ b. cond b (step_pair (take k log) (entry_of (get_or entries k d)) ∷ []) [] ++ steps_after p
      (take (k + 1) log) (drop (k + 1) log)) fails))
      ∙ so_far

-- the sources of a log are cells of the first complex
sources-live : {G : Type 0} (C : Complex G) → IsComplex C → (entries : List LogEntry) → IsLog C (log_of entries)
    → (k : ℕ) (d : LogEntry) → k < length entries → is_some (C.degree (get_or entries k d).x) ≡ true
sources-live C laws [] stands k d within = absurd (omega (arith, within))
sources-live C laws (e ∷ entries) stands zero d within = let (m, above, below) =
    laws.lowers e.x e.y stands.0.arrows in ap is_some above
sources-live C laws (e ∷ entries) stands (suc k) d within =
    let later = sources-live (cancelled C e.x e.y) (cancelled_IsComplex C laws (entry_of e) stands.0) entries stands.1 k
    d (omega (arith, within)) in
    sym (ap is_some (live_below C laws (entry_of e) stands.0 (get_or entries k d).x later)) ∙ later

-- so they are indices of states
pub sources-below : (g : Marks) → IsGrid g → (a : ℤ) (entries : List LogEntry) → IsLog (slice_of g a) (log_of entries)
    → (k : ℕ) (d : LogEntry) → k < length entries → (get_or entries k d).x < factorial (size g)
sources-below g grid a entries stands k d within =
    slice-below g a (get_or entries k d).x (sources-live (slice_of g a)
    (at_alexander_IsComplex a (grid_complex g) refl (grid_complex_rules g grid)) entries stands k d within)

-- ---- bidegrees
-- before the first state there is none
pub bidegrees-none : (g : Marks) (degrees : BTreeSet Bidegree) → degrees.keys ≡ [] → HasBidegrees g 0 degrees
bidegrees-none g degrees empty = record {
  found = λ s l. absurd (omega (arith, l));
  of_states = λ q h. absurd (no_member q (subst (λ ks. Contains ks q) empty
      ((btree_set_contains_iff bidegree_cmp_total bidegree_cmp_exact degrees q).0 h)));
}

-- a state adds its bidegree
pub bidegrees-next : (g : Marks) (n : ℕ) (d : Bidegree) (old new : BTreeSet Bidegree)
    → d ≡ bidegree_key (bidegree g (unrank (size g) n))
    → ((q : Bidegree) → sorted.contains bidegree_cmp new q ≡ cond (is_eq (bidegree_cmp d q)) true
    (sorted.contains bidegree_cmp old q))
    → HasBidegrees g n old → HasBidegrees g (n + 1) new
bidegrees-next g n d old new d_is adds before = record {
  found = below_more (λ s. sorted.contains bidegree_cmp new (bidegree_key (bidegree g (unrank (size g) s))) ≡ true) n
      (λ s l. adds (bidegree_key (bidegree g (unrank (size g) s)))
      ∙ kept (is_eq (bidegree_cmp d (bidegree_key (bidegree g (unrank (size g) s))))) _ (before.found s l))
      (subst (λ q. sorted.contains bidegree_cmp new q ≡ true) d_is
      (adds d ∙ ap (λ o. cond (is_eq o) true (sorted.contains bidegree_cmp old d)) (tied_itself bidegree_cmp_total d)));
  of_states = λ q h. by_test q (is_eq (bidegree_cmp d q)) refl h;
}
  where
    kept : (b c : Bool) → c ≡ true → cond b true c ≡ true
    kept true c h = refl
    kept false c h = h

    equal : (o : Ordering) → is_eq o ≡ true → o ≡ Equal
    equal Less h = absurd (false≢true h)
    equal Equal h = refl
    equal Greater h = absurd (false≢true h)

    by_test : (q : Bidegree) (b : Bool) → is_eq (bidegree_cmp d q) ≡ b → sorted.contains bidegree_cmp new q ≡ true
        → (s : ℕ) × (s < n + 1) × (bidegree_key (bidegree g (unrank (size g) s)) ≡ q)
    by_test q true e h = (n, omega arith, sym d_is ∙ bidegree_cmp_exact d q (equal (bidegree_cmp d q) e))
    by_test q false e h =
        let (s, below, is) = before.of_states q (sym (adds q
        ∙ ap (λ b. cond b true (sorted.contains bidegree_cmp old q)) e) ∙ h) in
        (s, omega (arith, below), is)

-- a bidegree of the set is that of a state
pub state_of-key : (g : Marks) (degrees : BTreeSet Bidegree) → HasBidegrees g (factorial (size g)) degrees
    → (q : Bidegree)
    → Contains degrees.keys q → HasState g (q.m, q.a)
state_of-key g degrees has q inside =
    let (s, below, is) = has.of_states q
    ((btree_set_contains_iff bidegree_cmp_total bidegree_cmp_exact degrees q).1 inside) in
    (s, below, ap (λ (d : Bidegree). (d.m, d.a)) is)

-- ---- a cell
-- the pairs of a log of a slice that was built and reduced
pub made_cell : (g : Marks) (m a : ℤ) (d : ℤ × ℤ) (old new : Slice) (log : List Entry) (cycles : List CyclePair)
    (steps : List StepPair) → d ≡ (m, a) → HasState g (m, a) → slice_complex old ≡ slice_of g a → IsReduced old new log
    → cycles ≡ map (cycle_pair log) (left_codes g (slice_complex new) m)
    → steps ≡ steps_after (has_bidegree g (m, a)) [] log
    → IsMadeCell g (record { at = d; cycles = cycles; steps = steps })
made_cell g m a d old new log cycles steps at state built reduced cycles_are steps_are =
    let reduction = reduction_of g a old new log built reduced in
    record {
      state = state.0;
      below = state.1;
      is_state = state.2 ∙ sym at;
      log = log;
      left = slice_complex new;
      stands = subst (λ (e : ℤ × ℤ). IsLog (slice_of g e.1) log) (sym at) reduction.stands;
      is_after = subst (λ (e : ℤ × ℤ). slice_complex new ≡ after (slice_of g e.1) log) (sym at) reduction.is_after;
      no_arrow = reduction.no_arrow;
      cycles = subst (λ (e : ℤ × ℤ). cycles ≡ map (cycle_pair log) (left_codes g (slice_complex new) e.0)) (sym at)
          cycles_are;
      steps = subst (λ (e : ℤ × ℤ). steps ≡ steps_after (has_bidegree g e) [] log) (sym at) steps_are;
    }

-- ---- cells, in order
abbrev pub keys_of : List Cell → List Bidegree
keys_of cells = map (λ (c : Cell). bidegree_key c.at) cells

-- what is ahead is among all
pub ahead : (made ks all : List Bidegree) (q : Bidegree) → made ++ q ∷ ks ≡ all → Contains all q
ahead made ks all q e = subst (λ xs. Contains xs q) e (Contains-append_right made (q ∷ ks) q (member_head q ks))

-- one cell more
pub keys-pushed : (old new : List Cell) (cell : Cell) (ks all : List Bidegree) (q : Bidegree)
    → keys_of old ++ q ∷ ks ≡ all
    → new ≡ old ++ cell ∷ [] → bidegree_key cell.at ≡ q → keys_of new ++ ks ≡ all
keys-pushed old new cell ks all q so_far pushed at =
    ap (λ cells. keys_of cells ++ ks) pushed
    ∙ ap (λ xs. xs ++ ks) (map-append (λ (c : Cell). bidegree_key c.at) old (cell ∷ []))
    ∙ append_assoc (keys_of old) (bidegree_key cell.at ∷ []) ks
    ∙ ap (λ k. keys_of old ++ k ∷ ks) at
    ∙ so_far

-- which was made
pub made-pushed : (g : Marks) (old new : List Cell) (cell : Cell) → All (IsMadeCell g) old → new ≡ old ++ cell ∷ []
    → IsMadeCell g cell → All (IsMadeCell g) new
made-pushed g old new cell so_far pushed made = subst (All (IsMadeCell g)) (sym pushed)
    (All-append (IsMadeCell g) old (cell ∷ []) so_far (All-cons (IsMadeCell g) cell [] made (All-nil (IsMadeCell g))))

-- keys in order rise pair by pair
keys-rise : (ks : List Bidegree) → IsStrictlySortedBy bidegree_cmp ks → AllPairs (λ p q. bidegree_cmp p q ≡ Less) ks
unfolding IsStrictlySortedBy
keys-rise [] h = λ i j d l k. absurd (omega (arith, k))
keys-rise (p ∷ ks) h = pairs_cons (λ p q. bidegree_cmp p q ≡ Less) p ks (all_later ks h.0) (keys-rise ks h.1)
  where
    all_later : (qs : List Bidegree) → AllByRecursion (λ q. bidegree_cmp p q ≡ Less) qs → (q : Bidegree) → Contains qs q
        → bidegree_cmp p q ≡ Less
    all_later [] h q inside = absurd (no_member q inside)
    all_later (r ∷ qs) h q inside = elim (member_cases r qs q inside) [
      | inl is ↦ subst (λ s. bidegree_cmp p s ≡ Less) is h.0
      | inr later ↦ all_later qs h.1 q later
    ]

-- cells whose keys rise are in order
cells-rise : (cells : List Cell) → AllPairs (λ p q. bidegree_cmp p q ≡ Less) (keys_of cells)
    → AllPairs (λ (p q : Cell). IsTrue (stands_before p.at q.at)) cells
cells-rise cells pairs i j d less within =
    let k = λ (c : Cell). bidegree_key c.at in
    let p = get_or cells i d in
    let q = get_or cells j d in
    let first : get_or (keys_of cells) i (k d) ≡ k p = get_or-map k cells i d (k d) (omega (arith, less, within)) in
    let second : get_or (keys_of cells) j (k d) ≡ k q = get_or-map k cells j d (k d) within in
    stands_before-bidegree_cmp (k p) (k q) (ap₂ bidegree_cmp (sym first) (sym second)
    ∙ pairs i j (k d) less (omega (arith, within, length-map cells k)))

-- a member that passes is found
any_member : (p : Cell → Bool) (cells : List Cell) (cell : Cell) → Contains cells cell → p cell ≡ true
    → list_any p cells ≡ true
any_member p [] cell inside h = absurd (no_member cell inside)
any_member p (first ∷ cells) cell inside h = elim (member_cases first cells cell inside) [
  | inl e ↦ ap (λ b. b || list_any p cells) (ap p e ∙ h)
  | inr later ↦ ap (λ b. p first || b) (any_member p cells cell later h) ∙ either (p first)
]
  where
    either : (b : Bool) → (b || true) ≡ true
    either true = refl
    either false = refl

-- cells that were made for all bidegrees in turn
pub made-all : (g : Marks) (degrees : BTreeSet Bidegree) (cells : List Cell)
    → HasBidegrees g (factorial (size g)) degrees
    → IsStrictlySortedBy bidegree_cmp degrees.keys → keys_of cells ≡ degrees.keys → All (IsMadeCell g) cells
    → AreMade g cells
made-all g degrees cells has ordered all made = record {
  ordered = cells-rise cells (keys-rise (keys_of cells) (subst (IsStrictlySortedBy bidegree_cmp) (sym all) ordered));
  each = made;
  complete = all_below-true (factorial (size g)) (λ s. list_any (λ (c : Cell). has_bidegree g c.at s) cells) one;
}
  where
    one : (s : ℕ) → s < factorial (size g) → list_any (λ (c : Cell). has_bidegree g c.at s) cells ≡ true
    one s below =
        let d = bidegree g (unrank (size g) s) in
        let stood = (btree_set_contains_iff bidegree_cmp_total bidegree_cmp_exact degrees (bidegree_key d)).0
        (has.found s below) in
        let (cell, inside, at) = member_of_map (λ (c : Cell). bidegree_key c.at) cells (bidegree_key d)
        (subst (λ ks. Contains ks (bidegree_key d)) (sym all) stood) in
        any_member (λ (c : Cell). has_bidegree g c.at s) cells cell inside
        ((same_degree-is d cell.at).1 (sym (ap (λ (b : Bidegree). (b.m, b.a)) at)))
