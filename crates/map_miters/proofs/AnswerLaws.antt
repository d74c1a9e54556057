-- If the questions of a map have the answers that they should, both circuits have equal streams. A
-- map of states by which free latches stay has them.
use Rattle.std.proofs.Common.{inl, inr, ℕ, suc, zero, ◌+◌, ◌-◌, ◌*◌, ◌/◌, ◌<◌, ◌≤◌, ◌≡◌, Bool, true, false, Option, Some, None, List, [], ◌∷◌, length, map, take, count_by, get_or, slice_get, cond, if◌then◌else◌, refl, arith, ap, sym, ◌∙◌, subst}
use Rattle.std.proofs.Math.Seq.{take-length}
use Rattle.std.proofs.lemmas.Bool.{cases_lt}
use Rattle.std.proofs.lemmas.List.{get_or-map, get_or_past, length-map}
use Rattle.std.proofs.lemmas.Option.{none-some, same_Some, slice_get_past, slice_get_within}
use Rattle.aig_graph.proofs.ListLaws.{count_by-cons}
use Rattle.aig_graph.specs.declared.graph.Latch.{Latch}
use Rattle.aig_graph.specs.declared.graph.Reset.{Reset}
use Rattle.aig_graph.specs.declared.graph.Reset.TheVariants.{Zero, One, Free}
use Rattle.aig_graph.specs.Circuits.{Netlist}
use Rattle.aig_graph.specs.Graph.{Graph, IsGraph, free_before, free_latches, is_free, is_free_latch, variable}
use Rattle.aig_graph.specs.Streams.{AreKept, chosen, property_literals}
use Rattle.aig_graph.specs.Value.{Choice, Inputs, latch_value, next_value, opening, opening_at, value, value_within}
use Rattle.aig_graph.proofs.KindLaws.{element}
use Rattle.aig_graph.proofs.StreamLaws.{funext}
use Rattle.aig_graph.proofs.FreeLaws.{free-where}
use Rattle.state_maps.specs.MapCircuits.{FreeStay, IsFreeInput, IsMapCircuit, free_outputs, is_kept, mapped}
use Rattle.state_maps.specs.States.{State, after_step, opening_state}
use Rattle.state_maps.proofs.FreeLaws.{free-fewer, free-within}
use Rattle.state_maps.proofs.MapLaws.{all-read}
use Rattle.witness_circuits.proofs.OpeningLaws.{held_choice, opened, opening-known, opening-twice}
use Rattle.witness_circuits.proofs.ViewLaws.{input-value}
use Rattle.map_miters.specs.Holding.{reset_at, reset_state}
use Rattle.map_miters.specs.Questions.{Begins, IsAskable, IsFirst}
use Rattle.map_miters.specs.Laws.{GiveStreams, MapsAreNeverOne, MapsMeetQuestions, MeetsQuestions, free_places}
use Rattle.map_miters.specs.Miters.{output_in, state_in}

-- ---- outputs that stand for free latches, by their places
read-first : (b : Bool) (x : ℕ) (xs : List ℕ) → b ≡ true → get_or (if b then x ∷ xs else xs) 0 0 ≡ x
read-first true x xs e = refl
read-first false x xs e = absurd (cc)

read-rest : (b : Bool) (x n : ℕ) (xs : List ℕ) → get_or (if b then x ∷ xs else xs) (cond {A = ℕ} b 1 0 + n) 0 ≡ get_or xs n 0
read-rest true x n xs = let next : 1 + n ≡ suc n = omega arith in ap (λ (k : ℕ). get_or (x ∷ xs) k 0) next
read-rest false x n xs = let same : 0 + n ≡ n = omega arith in ap (λ (k : ℕ). get_or xs k 0) same

put-long : (b : Bool) (x : ℕ) (xs : List ℕ) → length (if b then x ∷ xs else xs) ≡ cond {A = ℕ} b 1 0 + length xs
put-long true x xs = omega arith
put-long false x xs = omega arith

-- the output of a free latch stands at a place that as many free latches come before
free-output : (latches : List Latch) (lits : List ℕ) (j : ℕ) (latch : Latch) → slice_get latches j ≡ Some latch → is_free latch ≡ true → j < length lits
    → get_or (free_outputs latches lits) (count_by is_free (take j latches)) 0 ≡ get_or lits j 0
free-output [] lits j latch there free less = absurd (none-some latch there)
free-output (l ∷ ls) [] j latch there free less = absurd (omega (arith, less))
free-output (l ∷ ls) (x ∷ xs) zero latch there free less = read-first (is_free l) x (free_outputs ls xs) (ap is_free (same_Some l latch there) ∙ free)
free-output (l ∷ ls) (x ∷ xs) (suc j) latch there free less =
    ap (λ (k : ℕ). get_or (free_outputs (l ∷ ls) (x ∷ xs)) k 0) (count_by-cons is_free l (take j ls))
    ∙ read-rest (is_free l) x (count_by is_free (take j ls)) (free_outputs ls xs)
    ∙ free-output ls xs j latch there free (omega (arith, less))

-- there is one for each free latch
free-many : (latches : List Latch) (lits : List ℕ) → length lits ≡ length latches → length (free_outputs latches lits) ≡ count_by is_free latches
free-many [] lits long = refl
free-many (l ∷ ls) [] long = absurd (omega (arith, long))
free-many (l ∷ ls) (x ∷ xs) long =
    put-long (is_free l) x (free_outputs ls xs)
    ∙ ap (λ (n : ℕ). cond {A = ℕ} (is_free l) 1 0 + n) (free-many ls xs (omega (arith, long)))
    ∙ sym (count_by-cons is_free l ls)

-- a free latch holds at step 0 what is chosen for it
chosen-opening : (g : Graph) (f : Choice) (j : ℕ) (o : Option Latch) → is_free_latch o ≡ true → opening_at g f j o ≡ f (free_before g j)
chosen-opening g f j None free = absurd (cc)
chosen-opening g f j (Some latch) free = go latch.reset free
  where
    go : (r : Reset) → (elim r [ Zero ↦ false | One ↦ false | Free ↦ true ]) ≡ true → opening r (f (free_before g j)) ≡ f (free_before g j)
    go Zero e = absurd (cc)
    go One e = absurd (cc)
    go Free e = refl

-- what a state at the resets holds at step 0 is itself
resets-itself : (g : Graph) (f : Choice) → reset_state g (opening_state g f) ≡ opening_state g f
resets-itself g f = funext _ _ at
  where
    at : (j : ℕ) → reset_state g (opening_state g f) j ≡ opening_state g f j
    at j = go (slice_get g.latches j) refl
      where
        go : (o : Option Latch) → slice_get g.latches j ≡ o → reset_state g (opening_state g f) j ≡ opening_state g f j
        go None e = ap (reset_at (opening_state g f j)) e ∙ sym (ap (opening_at g f j) e)
        go (Some latch) e =
            ap (reset_at (opening_state g f j)) e
            ∙ ap (opening latch.reset) (ap (opening_at g f j) e)
            ∙ opening-twice latch.reset (f (free_before g j))
            ∙ sym (ap (opening_at g f j) e)

module _ (c d m : Netlist) (askable : IsAskable c d m) (stay : FreeStay c d m) where
  abbrev lits : List ℕ
  lits = free_outputs d.aig.latches m.props.outputs

  abbrev kept : List ℕ
  kept = free_places c.aig lits

  input-at : (k : ℕ) → k < length lits → IsFreeInput c.aig (get_or lits k 0)
  input-at k less = stay.are k 0 less

  place-at : (k : ℕ) (less : k < length lits) → get_or kept k 0 ≡ free_before c.aig (input-at k less).place
  place-at k less =
      let is : get_or lits k 0 ≡ 2 * (1 + (input-at k less).place) = (input-at k less).is in
      let at : get_or lits k 0 / 2 - 1 ≡ (input-at k less).place = omega (arith, is) in
      get_or-map (λ lit. free_before c.aig (variable lit - 1)) lits k 0 0 less ∙ ap (free_before c.aig) at

  many : length lits ≡ free_latches d.aig
  many = free-many d.aig.latches m.props.outputs askable.outputs ∙ ap (count_by is_free) (sym (take-length d.aig.latches))

  as-long : length kept ≡ length lits
  as-long = length-map lits (λ lit. free_before c.aig (variable lit - 1))

  -- places of free latches, in their order
  pub are-kept : AreKept c d kept
  are-kept = record {
    rising = λ k less.
        let one : k < length lits = omega (arith, less, as-long) in
        let next : k + 1 < length lits = omega (arith, less, as-long) in
        let p = input-at k one in
        let q = input-at (k + 1) next in
        let before : p.place < q.place = omega (arith, p.is, q.is, stay.rising k next) in
        omega (
          arith,
          place-at k one,
          place-at (k + 1) next,
          free-fewer c.aig p.place q.place p.free before (omega (arith, free-within c.aig.latches q.place q.free)),
        );
    below = λ k e less.
        let here : k < length lits = omega (arith, less, as-long) in
        let p = input-at k here in
        let short : p.place < length c.aig.latches = free-within c.aig.latches p.place p.free in
        let at : get_or kept k e ≡ free_before c.aig p.place =
        get_or-map (λ lit. free_before c.aig (variable lit - 1)) lits k 0 e here ∙ sym (get_or-map (λ lit. free_before c.aig (variable lit - 1)) lits k 0 0 here) ∙ place-at k here in
        omega (arith, at, free-fewer c.aig p.place (length c.aig.latches) p.free short (omega arith));
    each = as-long ∙ many;
  }

  module _ (map_graph : IsGraph m.aig) (meets : MeetsQuestions c d m) where
    mapped-past : (s : State) (j : ℕ) → length d.aig.latches ≤ j → mapped m s j ≡ false
    mapped-past s j past =
        get_or_past (map (value_within m.aig s (λ k. false)) m.props.outputs) j false (omega (arith, past, askable.outputs, length-map m.props.outputs (value_within m.aig s (λ k. false))))

    module _ (x : Inputs) (f : Choice) where
      starts : Begins c d m (opening_state c.aig f)
      starts = meets.reset (opening_state c.aig f)

      kept-first : is_kept m (opening_state c.aig f)
      kept-first = subst (is_kept m) (resets-itself c.aig f) starts.kept

      first-known : IsFirst d.aig (mapped m (opening_state c.aig f))
      first-known = subst (λ (s : State). IsFirst d.aig (mapped m s)) (resets-itself c.aig f) starts.first

      -- what the map gives for a free latch is what is chosen for it
      free-first : (j : ℕ) (latch : Latch) → slice_get d.aig.latches j ≡ Some latch → is_free latch ≡ true → chosen kept f (free_before d.aig j) ≡ mapped m (opening_state c.aig f) j
      free-first j latch there free =
          let short : j < length d.aig.latches = slice_get_within d.aig.latches j latch there in
          let inside : j < length m.props.outputs = omega (arith, short, askable.outputs) in
          let counted : free_before d.aig j < free_latches d.aig = free-fewer d.aig j (length d.aig.latches) (ap is_free_latch there ∙ free) short (omega arith) in
          let here : free_before d.aig j < length lits = omega (arith, counted, many) in
          let p = input-at (free_before d.aig j) here in
          let output : get_or lits (free_before d.aig j) 0 ≡ get_or m.props.outputs j 0 = free-output d.aig.latches m.props.outputs j latch there free inside in
          let low : p.place < m.aig.inputs = omega (arith, free-within c.aig.latches p.place p.free, askable.inputs) in
          let own : ℕ → Bool = value_within m.aig (opening_state c.aig f) (λ k. false) in
          ap f (place-at (free_before d.aig j) here)
          ∙ sym (chosen-opening c.aig f p.place (slice_get c.aig.latches p.place) p.free)
          ∙ sym (input-value m.aig map_graph (opening_state c.aig f) (λ k. false) p.place low)
          ∙ ap own (sym p.is ∙ output)
          ∙ sym (get_or-map own m.props.outputs j 0 false inside)

      first-at : (j : ℕ) → mapped m (opening_state c.aig f) j ≡ opening_state d.aig (chosen kept f) j
      first-at j = elim (cases_lt j (length d.aig.latches)) [
        | inl short ↦ (
            let own = element d.aig.latches j short in
            sym (ap (opening_at d.aig (chosen kept f) j) own.1
            ∙ opening-known own.0.reset (chosen kept f (free_before d.aig j)) (mapped m (opening_state c.aig f) j) (λ e. free-first j own.0 own.1 (free-where own.0 e)) (first-known j own.0 own.1)))
        | inr past ↦ mapped-past (opening_state c.aig f) j past ∙ sym (ap (opening_at d.aig (chosen kept f) j) (slice_get_past d.aig.latches j past))
      ]

      after-at : (t : ℕ) → is_kept m (latch_value c.aig x f t) → mapped m (latch_value c.aig x f t) ≡ latch_value d.aig x (chosen kept f) t → (j : ℕ)
          → mapped m (after_step c.aig (x t) (latch_value c.aig x f t)) j ≡ after_step d.aig (x t) (latch_value d.aig x (chosen kept f) t) j
      after-at t here now j = elim (cases_lt j (length d.aig.latches)) [
        | inl short ↦ meets.next (x t) (latch_value c.aig x f t) here j short ∙ ap (λ (s : State). after_step d.aig (x t) s j) now
        | inr past ↦ (
            mapped-past (after_step c.aig (x t) (latch_value c.aig x f t)) j past
            ∙ sym (ap (next_value (value_within d.aig (x t) (latch_value d.aig x (chosen kept f) t))) (slice_get_past d.aig.latches j past)))
      ]

      -- step by step the second circuit is where the map says
      along : (t : ℕ) → is_kept m (latch_value c.aig x f t) × (mapped m (latch_value c.aig x f t) ≡ latch_value d.aig x (chosen kept f) t)
      unfolding latch_value
      along zero = (kept-first, funext _ _ first-at)
      along (suc t) =
          let now = along t in
          (meets.keep (x t) (latch_value c.aig x f t) now.0, funext _ _ (after-at t now.0 now.1))

      same-values : (t : ℕ) → map (value d.aig x (chosen kept f) t) (property_literals d.props) ≡ map (value c.aig x f t) (property_literals c.props)
      unfolding value
      same-values t =
          let now = along t in
          ap (λ (s : State). map (value_within d.aig (x t) s) (property_literals d.props)) (sym now.1) ∙ meets.read (x t) (latch_value c.aig x f t) now.0

-- the answers give the streams
pub give-streams : (c d m : Netlist) → GiveStreams c d m
give-streams c d m graph askable meets =
    let stay : FreeStay c d m = (meets.reset (λ j. false)).free in
    record {
      shape = askable.shape;
      places = are-kept c d m askable stay;
      values = λ x f t. same-values c d m askable stay graph meets x f t;
    }

-- ---- the other way
module _ (c d : Netlist) (kept : List ℕ) (m : Netlist) (is : IsMapCircuit c d kept m) (stay : FreeStay c d m) where
  module _ (s : State) where
    abbrev choice : Choice
    choice = held_choice c.aig (reset_state c.aig s)

    opens : opening_state c.aig choice ≡ reset_state c.aig s
    opens = opened c.aig (reset_state c.aig s)
        (λ j latch there. ap (opening latch.reset) (ap (reset_at (s j)) there) ∙ opening-twice latch.reset (s j) ∙ sym (ap (reset_at (s j)) there))
        (λ j past. ap (reset_at (s j)) (slice_get_past c.aig.latches j past))

    begins : Begins c d m s
    begins = record {
      free = stay;
      kept = subst (is_kept m) opens (is.maps.holds_first choice);
      first = subst (λ (t : State). IsFirst d.aig t) (sym (is.maps.first choice) ∙ ap (mapped m) opens) (λ j latch there.
          let at : opening_state d.aig (chosen kept choice) j ≡ opening latch.reset (chosen kept choice (free_before d.aig j)) = ap (opening_at d.aig (chosen kept choice) j) there in
          ap (opening latch.reset) at ∙ opening-twice latch.reset (chosen kept choice (free_before d.aig j)) ∙ sym at);
    }

  answers : MeetsQuestions c d m
  answers = record {
    reset = begins;
    keep = is.maps.keeps;
    next = λ x s here j less. ap (λ (t : State). t j) (is.maps.steps x s here);
    read = λ x s here. all-read c d x s (mapped m s) (is.maps.reads x s here);
  }

-- a map of states has the answers
pub maps-meet : (c d m : Netlist) (kept : List ℕ) → MapsMeetQuestions c d kept m
maps-meet c d m kept is stay = answers c d kept m is stay

-- so no output of its miter is ever 1
pub maps-never : (c d m r : Netlist) (kept : List ℕ) → MapsAreNeverOne c d kept m r
maps-never c d m r kept is stay miter z k less =
    let met : MeetsQuestions c d m = answers c d kept m is stay in
    let s : State = state_in c.aig z in
    elim (cases_lt k 2) [
      | inl low ↦ elim (cases_lt k 1) [
        | inl first ↦ (let at : k ≡ 0 = omega (arith, first) in ap (λ (i : ℕ). output_in r i z) at ∙ (miter.reset z).1 (met.reset s))
        | inr second ↦ (let at : k ≡ 1 = omega (arith, low, second) in ap (λ (i : ℕ). output_in r i z) at ∙ (miter.keep z).1 (met.keep z s))
      ]
      | inr high ↦ elim (cases_lt k 3) [
        | inl third ↦ (let at : k ≡ 2 = omega (arith, high, third) in ap (λ (i : ℕ). output_in r i z) at ∙ (miter.next z).1 (met.next z s))
        | inr last ↦ (let at : k ≡ 3 = omega (arith, last, less) in ap (λ (i : ℕ). output_in r i z) at ∙ (miter.read z).1 (met.read z s))
      ]
    ]
