-- The first states of the second circuit are those that the map gives.
use Rattle.std.proofs.Common.{inl, inr, ℕ, ◌+◌, ◌<◌, ◌≤◌, ◌≡◌, suc, zero, Bool, true, false, not, List, [], ◌∷◌, ◌++◌, length, map, get_or, slice_get, Option, Some, None, refl, arith, ap, sym, ◌∙◌, subst}
use Rattle.std.specs.List.{All}
use Rattle.std.specs.List.Sorted.{IsStrictlyIncreasing}
use Rattle.std.proofs.Math.ListN.{get_or-eq_default}
use Rattle.std.proofs.Math.Seq.{get_or-append_seam}
use Rattle.std.proofs.lemmas.Bool.{cases_lt, cases_eq, false≢true}
use Rattle.std.proofs.lemmas.List.{get_or-map, get_or_append_left, get_or_default, length-map, length_push}
use Rattle.std.proofs.lemmas.List.Sums.{count_by_more_no, count_by_more_yes}
use Rattle.std.proofs.lemmas.Option.{get_or_from_slice_get, none-some, same_Some, slice_get_within}
use Rattle.aig_graph.specs.declared.graph.Latch.{Latch}
use Rattle.aig_graph.specs.declared.graph.Reset.{Reset}
use Rattle.aig_graph.specs.declared.graph.Reset.TheVariants.{Zero, One, Free}
use Rattle.aig_graph.specs.Circuits.{Netlist, IsNetlist}
use Rattle.aig_graph.specs.Graph.{Graph, first_latch, free_before, free_latches, is_free, is_free_latch, variables_end}
use Rattle.aig_graph.specs.Streams.{chosen}
use Rattle.aig_graph.specs.Value.{Choice, opening, opening_at, value_within}
use Rattle.aig_graph.proofs.FreeLaws.{is_free_at, free-count}
use Rattle.aig_graph.proofs.KindLaws.{latch_at-first_latch}
use Rattle.aig_graph.specs.Counting.{count_below}
use Rattle.aig_graph.proofs.PlacesLaws.{count-lt}
use Rattle.state_maps.specs.States.{opening_state}
use Rattle.state_maps.specs.MapCircuits.{mapped}
use Rattle.gate_sharing.specs.Copies.{Copy, copy_of}
use Rattle.map_checks.specs.Starts.{AreRising, AreStarts, IsFreeLatch, IsOpening, IsResetImage, StartsAs, Takes}
use Rattle.map_checks.specs.Answers.{MapsFirstStates}
use Rattle.map_checks.proofs.ImageLaws.{copied-ones}
use Rattle.aig_graph.proofs.StreamLaws.{funext}

-- a rising list that is followed by a number greater than each entry is rising
pub push-rising : (xs : List ℕ) (g : ℕ) → IsStrictlyIncreasing xs → ((k : ℕ) → k < length xs → get_or xs k 0 < g) → IsStrictlyIncreasing (xs ++ g ∷ [])
push-rising xs g rising below k h = elim (cases_lt (k + 1) (length xs)) [
  | inl less ↦ (
      let this : get_or (xs ++ g ∷ []) k 0 ≡ get_or xs k 0 = get_or_append_left xs (g ∷ []) 0 k (omega (arith, less)) in
      let next : get_or (xs ++ g ∷ []) (k + 1) 0 ≡ get_or xs (k + 1) 0 = get_or_append_left xs (g ∷ []) 0 (k + 1) less in
      omega (arith, this, next, rising k less))
  | inr past ↦ (
      let last : k + 1 ≡ length xs = omega (arith, past, h, length_push xs g) in
      let this : get_or (xs ++ g ∷ []) k 0 ≡ get_or xs k 0 = get_or_append_left xs (g ∷ []) 0 k (omega (arith, last)) in
      let next : get_or (xs ++ g ∷ []) (k + 1) 0 ≡ g = ap (λ (n : ℕ). get_or (xs ++ g ∷ []) n 0) last ∙ get_or-append_seam xs g [] 0 in
      omega (arith, this, next, below k (omega (arith, last))))
]

-- what holds of each entry holds of each, with one more
pub below-push : (xs : List ℕ) (g n : ℕ) → ((k : ℕ) → k < length xs → get_or xs k 0 < n) → g < n → (k : ℕ) → k < length (xs ++ g ∷ []) → get_or (xs ++ g ∷ []) k 0 < n
below-push xs g n below here k h = elim (cases_lt k (length xs)) [
  | inl less ↦ (let this : get_or (xs ++ g ∷ []) k 0 ≡ get_or xs k 0 = get_or_append_left xs (g ∷ []) 0 k less in omega (arith, this, below k less))
  | inr past ↦ (
      let last : k ≡ length xs = omega (arith, past, h, length_push xs g) in
      let this : get_or (xs ++ g ∷ []) k 0 ≡ g = ap (λ (n : ℕ). get_or (xs ++ g ∷ []) n 0) last ∙ get_or-append_seam xs g [] 0 in
      omega (arith, this, here))
]

-- places that rise, with one more that isn't before the next one, rise and lie before what follows
-- that place
pub rising-push : (xs new : List ℕ) (next place after : ℕ) → AreRising xs next → next ≤ place → new ≡ xs ++ place ∷ [] → after ≡ place + 1 → AreRising new after
rising-push xs new next place after are from pushed is =
    let P : List ℕ → Type 0 = λ ys. AreRising ys after in
    subst P (sym pushed) (record {
      rising = push-rising xs place are.rising (λ k h. omega (arith, are.below k h, from));
      below = below-push xs place after (λ k h. omega (arith, are.below k h, from, is)) (omega (arith, is));
    })

-- how many free latches come before the next latch
pub free-next : (g : Graph) (k : ℕ) (latch : Latch) → slice_get g.latches k ≡ Some latch → is_free latch ≡ true → free_before g (k + 1) ≡ free_before g k + 1
free-next g k latch there free =
    count_by_more_yes is_free g.latches k latch (slice_get_within g.latches k latch there) (ap is_free (get_or_from_slice_get g.latches k latch latch there) ∙ free)

-- a latch with a known reset adds none to the free latches before the next one
pub known-next : (g : Graph) (k : ℕ) (latch : Latch) → slice_get g.latches k ≡ Some latch → is_free latch ≡ false → free_before g (k + 1) ≡ free_before g k
known-next g k latch there known =
    count_by_more_no is_free g.latches k latch (slice_get_within g.latches k latch there) (ap is_free (get_or_from_slice_get g.latches k latch latch there) ∙ known)

-- fewer free latches come before a free one than there are, and no more before an earlier one
pub free-less : (g : Graph) (k : ℕ) (latch : Latch) → slice_get g.latches k ≡ Some latch → is_free latch ≡ true → (n : ℕ) → k < n → n ≤ length g.latches → free_before g k < free_before g n
free-less g k latch there free n less within =
    let here : is_free_at g (first_latch g + k) ≡ true = ap is_free_latch (latch_at-first_latch g k ∙ there) ∙ free in
    let counted : count_below (is_free_at g) (first_latch g + k) < count_below (is_free_at g) (first_latch g + n) = count-lt (is_free_at g) (first_latch g + k) (first_latch g + n) (omega (arith, less)) here in
    omega (arith, counted, free-count g k (omega (arith, less, within)), free-count g n within)

-- a reset of a latch that is free
pub free-reset : (latch : Latch) → is_free latch ≡ true → latch.reset ≡ Free
free-reset latch = go latch.reset
  where
    go : (r : Reset) → (elim r [ Zero ↦ false | One ↦ false | Free ↦ true ]) ≡ true → r ≡ Free
    go Zero e = absurd (false≢true e)
    go One e = absurd (false≢true e)
    go Free e = refl

-- what a latch starts as rests on its place alone where it is free
starts-kept : (c : Graph) (r : Reset) (lit p q : ℕ) → (r ≡ Free → p ≡ q) → StartsAs c r lit p → StartsAs c r lit q
starts-kept c Zero lit p q same starts = starts
starts-kept c One lit p q same starts = starts
starts-kept c Free lit p q same starts = subst (λ (n : ℕ). IsFreeLatch c lit n) (same refl) starts

module _ (c d : Graph) (lits : ℕ → ℕ) where
  -- an empty list of places says as what the first none of the latches start
  pub starts-none : AreStarts c d lits 0 []
  starts-none = record { each = refl; below = λ k h. absurd (omega arith); starts = λ j latch less there. absurd (omega arith) }

  -- with what a latch takes by reset and literal, the places say as what one latch more starts
  pub starts-more : (n : ℕ) (latch : Latch) (old new : List ℕ) → slice_get d.latches n ≡ Some latch → AreStarts c d lits n old → Takes c latch.reset (lits n) old new → AreStarts c d lits (n + 1) new
  starts-more n latch old new there are takes = go latch.reset refl takes
    where
      within : n < length d.latches
      within = slice_get_within d.latches n latch there

      same-latch : (j : ℕ) (other : Latch) → j ≡ n → slice_get d.latches j ≡ Some other → other ≡ latch
      same-latch j other same at = same_Some other latch (sym at ∙ ap (λ (i : ℕ). slice_get d.latches i) same ∙ there)

      -- a latch that is known takes no place
      known : is_free latch ≡ false → StartsAs c latch.reset (lits n) (get_or old (free_before d n) 0) → new ≡ old → AreStarts c d lits (n + 1) new
      known not_free here is =
          let P : List ℕ → Type 0 = λ ks. AreStarts c d lits (n + 1) ks in
          subst P (sym is) (record {
            each = are.each ∙ sym (known-next d n latch there not_free);
            below = are.below;
            starts = λ j other less at. elim (cases_eq j n) [
              | inl same ↦ (
                  let Q : Latch → ℕ → Type 0 = λ l i. StartsAs c l.reset (lits i) (get_or old (free_before d i) 0) in
                  subst (λ (l : Latch). Q l j) (sym (same-latch j other same at)) (subst (λ (i : ℕ). Q latch i) (sym same) here))
              | inr before ↦ are.starts j other (omega (arith, less, before)) at
            ];
          })

      free : (place : ℕ) → latch.reset ≡ Free → is_free latch ≡ true → IsFreeLatch c (lits n) place → new ≡ old ++ place ∷ [] → AreStarts c d lits (n + 1) new
      free place reset is_open found is =
          let P : List ℕ → Type 0 = λ ks. AreStarts c d lits (n + 1) ks in
          let less_c : place < free_latches c =
          omega (arith, found.place_is, free-less c found.position found.latch found.there found.free (length c.latches) (slice_get_within c.latches found.position found.latch found.there) (omega arith)) in
          let last : get_or (old ++ place ∷ []) (free_before d n) 0 ≡ place = ap (λ (i : ℕ). get_or (old ++ place ∷ []) i 0) (sym are.each) ∙ get_or-append_seam old place [] 0 in
          subst P (sym is) (record {
            each = omega (arith, length_push old place, are.each, free-next d n latch there is_open);
            below = below-push old place (free_latches c) are.below less_c;
            starts = λ j other less at. elim (cases_eq j n) [
              | inl same ↦ (
                  let Q : Latch → ℕ → Type 0 = λ l i. StartsAs c l.reset (lits i) (get_or (old ++ place ∷ []) (free_before d i) 0) in
                  let R : Reset → Type 0 = λ r. StartsAs c r (lits n) (get_or (old ++ place ∷ []) (free_before d n) 0) in
                  let here : R latch.reset = subst R (sym reset) (subst (λ (p : ℕ). IsFreeLatch c (lits n) p) (sym last) found) in
                  subst (λ (l : Latch). Q l j) (sym (same-latch j other same at)) (subst (λ (i : ℕ). Q latch i) (sym same) here))
              | inr before ↦ (
                  let earlier : j < n = omega (arith, less, before) in
                  starts-kept c other.reset (lits j) (get_or old (free_before d j) 0) (get_or (old ++ place ∷ []) (free_before d j) 0)
                  (λ r.
                  let other_free : is_free other ≡ true = ap (λ (q : Reset). elim q [ Zero ↦ false | One ↦ false | Free ↦ true ]) r in
                  sym (get_or_append_left old (place ∷ []) 0 (free_before d j) (omega (arith, are.each, free-less d j other at other_free n earlier (omega (arith, within))))))
                  (are.starts j other earlier at))
            ];
          })

      go : (r : Reset) → latch.reset ≡ r → Takes c r (lits n) old new → AreStarts c d lits (n + 1) new
      go Zero e took = known (ap (λ (q : Reset). elim q [ Zero ↦ false | One ↦ false | Free ↦ true ]) e)
          (subst (λ (r : Reset). StartsAs c r (lits n) (get_or old (free_before d n) 0)) (sym e) took.0) took.1
      go One e took = known (ap (λ (q : Reset). elim q [ Zero ↦ false | One ↦ false | Free ↦ true ]) e)
          (subst (λ (r : Reset). StartsAs c r (lits n) (get_or old (free_before d n) 0)) (sym e) took.0) took.1
      go Free e took = free took.0 e (ap (λ (q : Reset). elim q [ Zero ↦ false | One ↦ false | Free ↦ true ]) e) took.1 took.2

-- where step 0 is as the map says, the first states are
module _ (c d m : Netlist) (image : Copy) (kept : List ℕ) (is : IsResetImage c.aig m.aig image) (netlist : IsNetlist m) (wide : length m.props.outputs ≡ length d.aig.latches)
    (ones : All (λ lit. copy_of image lit ≡ 1) m.props.constraints) (rising : IsStrictlyIncreasing kept)
    (starts : AreStarts c.aig d.aig (λ j. copy_of image (get_or m.props.outputs j 0)) (length d.aig.latches) kept) where
  module _ (f : Choice) where
    abbrev at : IsOpening c.aig m.aig image f
    at = is.opening f

    abbrev own : ℕ → Bool
    own = value_within m.aig (opening_state c.aig f) (λ j. false)

    latch-starts : (r : Reset) (lit place : ℕ) → StartsAs c.aig r lit place → at.values lit ≡ opening r (f place)
    latch-starts Zero lit place e = ap at.values e ∙ at.constant
    latch-starts One lit place e = ap at.values e ∙ at.negation 0 ∙ ap not at.constant
    latch-starts Free lit place e =
        ap at.values e.literal
        ∙ at.latches e.position (slice_get_within c.aig.latches e.position e.latch e.there)
        ∙ ap (opening_at c.aig f e.position) e.there
        ∙ ap (λ (r : Reset). opening r (f (free_before c.aig e.position))) (free-reset e.latch e.free)
        ∙ sym (ap f e.place_is)

    state-at : (j : ℕ) → mapped m (opening_state c.aig f) j ≡ opening_state d.aig (chosen kept f) j
    state-at j = go (slice_get d.aig.latches j) refl
      where
        past : (xs : List Latch) (i : ℕ) → slice_get xs i ≡ None → length xs ≤ i
        past [] i e = omega arith
        past (x ∷ xs) zero e = absurd (none-some x (sym e))
        past (x ∷ xs) (suc i) e = omega (arith, past xs i e)

        go : (o : Option Latch) → slice_get d.aig.latches j ≡ o → mapped m (opening_state c.aig f) j ≡ opening_state d.aig (chosen kept f) j
        go None e =
            get_or-eq_default (map own m.props.outputs) false {n = j} (omega (arith, length-map m.props.outputs own, wide, past d.aig.latches j e))
            ∙ sym (ap (opening_at d.aig (chosen kept f) j) e)
        go (Some latch) e =
            let within : j < length d.aig.latches = slice_get_within d.aig.latches j latch e in
            let inside : j < length m.props.outputs = omega (arith, within, wide) in
            get_or-map own m.props.outputs j 0 false inside
            ∙ sym (at.follows (get_or m.props.outputs j 0) (netlist.props.outputs j 0 inside))
            ∙ latch-starts latch.reset (copy_of image (get_or m.props.outputs j 0)) (get_or kept (free_before d.aig j) 0) (starts.starts j latch within e)
            ∙ sym (ap (opening_at d.aig (chosen kept f) j) e)

  -- if the map's constraints are 1 at step 0 and the places say as what each latch starts, first
  -- states go to first states
  pub begins : MapsFirstStates c d m kept
  begins = record {
    places = record {
      rising = rising;
      below = λ k e h. go k e h;
      each = starts.each;
    };
    holds = λ f. copied-ones image (variables_end m.aig) (at f).values (own f) (at f).follows (at f).constant (at f).negation m.props.constraints netlist.props.constraints ones;
    states = λ f. funext _ _ (state-at f);
  }
    where
      go : (k e : ℕ) → k < length kept → get_or kept k e < free_latches c.aig
      go k e h = omega (arith, starts.below k h, get_or_default kept k e 0 h)
