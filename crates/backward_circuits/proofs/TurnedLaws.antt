-- Equal streams the other way, where both circuits have as many free latches.
use Rattle.std.proofs.Common.{ℕ, ◌+◌, ◌-◌, ◌<◌, ◌≤◌, ◌≡◌, List, length, get_or, sym, arith, ap, ◌∙◌, subst, suc, zero, zero-add}
use Rattle.std.specs.List.Sorted.{IsStrictlyIncreasing}
use Rattle.std.proofs.lemmas.Grind.{same_number_lists}
use Rattle.std.proofs.lemmas.List.FromFn.{get_or-range_with_len, length-range_with_len}
use Rattle.aig_graph.specs.Graph.{free_latches}
use Rattle.aig_graph.specs.Circuits.{Netlist}
use Rattle.aig_graph.specs.Streams.{SameStreams, property_literals, chosen}
use Rattle.aig_graph.specs.Laws.{all_free}
use Rattle.aig_graph.proofs.StreamLaws.{same_streams-reflexive, values-same}
use Rattle.state_maps.specs.MapCircuits.{FreeStay, IsMapCircuit}
use Rattle.map_checks.specs.Answers.{IsAnswer}
use Rattle.map_checks.specs.declared.answer.Answer.{Answer}
use Rattle.map_checks.specs.declared.answer.Answer.TheVariants.{Retiming}
use Rattle.backward_circuits.specs.MovedBack.{IsMapBack}

one-more : (k : ℕ) → k + 1 ≡ suc k
one-more k = omega arith

-- a rising number is at least its place
at-least : (l : List ℕ) → IsStrictlyIncreasing l → (k : ℕ) → k < length l → k ≤ get_or l k 0
at-least l rising zero h = omega arith
at-least l rising (suc k) h =
    let before : k ≤ get_or l k 0 = at-least l rising k (omega (arith, h)) in
    let step : get_or l k 0 < get_or l (k + 1) 0 = rising k (omega (arith, h)) in
    let next : get_or l (k + 1) 0 ≡ get_or l (suc k) 0 = ap (λ j. get_or l j 0) (one-more k) in
    omega (arith, before, step, next)

-- and at most, where as many numbers as there are below a bound are all below it
at-most : (l : List ℕ) → IsStrictlyIncreasing l → ((k : ℕ) → k < length l → get_or l k 0 < length l) → (m k : ℕ) → k + suc m ≡ length l → get_or l k 0 ≤ k
at-most l rising below zero k e = let last : get_or l k 0 < length l = below k (omega (arith, e)) in omega (arith, last, e)
at-most l rising below (suc m) k e =
    let after : get_or l (k + 1) 0 ≤ k + 1 = at-most l rising below m (k + 1) (omega (arith, e)) in
    let step : get_or l k 0 < get_or l (k + 1) 0 = rising k (omega (arith, e)) in
    omega (arith, after, step)

-- each free latch is kept, in its place
each-kept : (l : List ℕ) → IsStrictlyIncreasing l → ((k : ℕ) → k < length l → get_or l k 0 < length l) → (k m : ℕ) → k + suc m ≡ length l → get_or l k 0 ≡ k
each-kept l rising below k m e =
    let least : k ≤ get_or l k 0 = at-least l rising k (omega (arith, e)) in
    let most : get_or l k 0 ≤ k = at-most l rising below m k e in
    omega (arith, least, most)

module _ (c d : Netlist) (kept : List ℕ) (p : SameStreams c d kept) (many : free_latches d.aig ≡ free_latches c.aig) where
  long : length kept ≡ free_latches c.aig
  long = p.places.each ∙ many

  place : (k : ℕ) → k < free_latches c.aig → get_or kept k 0 ≡ k
  place k h = each-kept kept p.places.rising (λ j short. rw long (p.places.below j 0 short)) k (length kept - suc k) (omega (arith, long, h))

  -- all free latches are kept
  all-kept : kept ≡ all_free c.aig
  all-kept = same_number_lists kept (all_free c.aig) (long ∙ sym (length-range_with_len 0 (free_latches c.aig)))
      (λ k h. let short : k < free_latches c.aig = omega (arith, h, long) in
      place k short ∙ sym (get_or-range_with_len 0 (free_latches c.aig) k 0 short ∙ zero-add k))

  -- equal streams of c and d are equal ones of d and c
  same_streams-back : SameStreams d c (all_free d.aig)
  same_streams-back =
      let here : SameStreams d d (all_free d.aig) = same_streams-reflexive d in
      record {
        shape = record {
          inputs = sym p.shape.inputs;
          outputs = sym p.shape.outputs;
          bad = sym p.shape.bad;
          constraints = sym p.shape.constraints;
          justice = sym p.shape.justice;
          fairness = sym p.shape.fairness;
        };
        places = record { rising = here.places.rising; below = here.places.below; each = here.places.each ∙ many };
        values = λ x f t.
            values-same c.aig x (chosen (all_free d.aig) f) f t (property_literals c.props) (λ j h. ap f (get_or-range_with_len 0 (free_latches d.aig) j 0 (omega (arith, many, h)) ∙ zero-add j))
            ∙ sym (p.values x f t)
            ∙ values-same d.aig x (chosen kept f) f t (property_literals d.props) (λ j h. ap f (place j (omega (arith, many, h))));
      }

-- if the check answers that c is a retiming of d, with equal numbers of free latches, each of which
-- stays, the map turns around
turned-by : (c d m : Netlist) (kept : List ℕ) → IsAnswer d c m (Retiming kept) → free_latches d.aig ≡ free_latches c.aig → FreeStay d c m → IsMapBack c d m
turned-by c d m kept answer many stay = record {
  streams = same_streams-back d c kept answer.1 (sym many);
  map = subst (λ (places : List ℕ). IsMapCircuit d c places m) (all-kept d c kept answer.1 (sym many)) answer.0;
  free = stay;
}

-- so for an answer that is one
pub turned-answer : (c d m : Netlist) (answer : Answer) (kept : List ℕ) → answer ≡ Retiming kept → IsAnswer d c m answer → free_latches d.aig ≡ free_latches c.aig → FreeStay d c m → IsMapBack c d m
turned-answer c d m answer kept is holds many stay = turned-by c d m kept (subst (λ (a : Answer). IsAnswer d c m a) is holds) many stay

-- in the map of such an answer each latch of c has an output
pub outputs-of : (c d m : Netlist) (answer : Answer) (kept : List ℕ) → answer ≡ Retiming kept → IsAnswer d c m answer → length m.props.outputs ≡ length c.aig.latches
outputs-of c d m answer kept is holds = let parts : IsAnswer d c m (Retiming kept) = subst (λ (a : Answer). IsAnswer d c m a) is holds in parts.0.outputs
