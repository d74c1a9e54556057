-- A pass changes nothing in a normalised circuit.
use Rattle.std.proofs.Common.{ℕ, ◌+◌, ◌-◌, ◌<◌, ◌≤◌, ◌≡◌, inl, inr, List, length, map, Bool, true, ◌&&◌, nat_le, nat_lt, get_or, refl, arith, ap, sym, ◌∙◌, subst}
use Rattle.std.specs.List.{All}
use Rattle.std.proofs.lemmas.Bool.{cases_lt, and_from, and_parts, le-leb, lt-ltb, leb-true, ltb-true}
use Rattle.aig_graph.specs.Circuits.{Netlist}
use Rattle.aig_graph.specs.Graph.{Graph, IsGateAt, variable, first_latch, variables_end, free_latches}
use Rattle.aig_graph.specs.Laws.{all_free}
use Rattle.aig_graph.specs.Streams.{AreKept, property_literals}
use Rattle.aig_graph.proofs.FoldingLaws.{gate_at-is}
use Rattle.aig_graph.proofs.KindLaws.{GatePlace, LatchPlace, gate_place, latch_place}
use Rattle.aig_graph.proofs.PropsLaws.{literals_within}
use Rattle.cleaned_circuits.specs.Merged.{merged_of, substitutes_of}
use Rattle.cleaned_circuits.specs.Reached.{AreReached, stays}
use Rattle.cleaned_circuits.specs.Trimmed.{kept_free, new_position, new_variable, trimmed_of}
use Rattle.cleaned_circuits.specs.Cleaned.{IsPass, Cleans, unchanged}
use Rattle.cleaned_circuits.proofs.KeptFreeLaws.{are_kept}
use Rattle.cleaned_circuits.proofs.PassLaws.{IsCircuit}
use Rattle.cleaned_circuits.proofs.PickedLaws.{count-all}
use Rattle.cleaned_circuits.proofs.TrimmedLaws.{stays-low, stays-reached}
use Rattle.cleaned_circuits.proofs.UnchangedLaws.{map-fixed_all, replaced_circuit-same, trimmed-same}
use Rattle.clean.specs.Normalised.{IsNormalised}
use Rattle.clean.proofs.KeptPlacesLaws.{all-below}
use Rattle.clean.proofs.OwnLaws.{normalised-own}

-- the latches and gates
abbrev pub is_inner : Graph → ℕ → Bool
is_inner g v = nat_le (first_latch g) v && nat_lt v (variables_end g)

-- if all latches and gates are reached, each variable stays
pub inner-stays : (g : Graph) (v : ℕ) → v < variables_end g → stays g (is_inner g) v ≡ true
inner-stays g v h = elim (cases_lt v (first_latch g)) [
  | inl low ↦ stays-low g (is_inner g) v low
  | inr past ↦ stays-reached g (is_inner g) v (and_from (nat_le (first_latch g) v) (nat_lt v (variables_end g)) (le-leb (first_latch g) v past) (lt-ltb v (variables_end g) h))
]

-- if all is reached, the free latches that stay are all
pub kept-all : (c : Netlist) (s : ℕ → Bool) → trimmed_of c s ≡ c → kept_free c.aig s ≡ all_free c.aig
kept-all c s same =
    let kept : AreKept c (trimmed_of c s) (kept_free c.aig s) = are_kept c s in
    all-below (free_latches c.aig) (kept_free c.aig s) (kept.each ∙ ap (λ (d : Netlist). free_latches d.aig) same) kept.rising kept.below

-- what makes a pass of one that changes nothing
record Unchanging (held : List ℕ) (c m : Netlist) (s : ℕ → Bool) : Type 0 where
  are_reached : AreReached m.aig m.props held s
  circuit : c ≡ trimmed_of m s
  free : all_free c.aig ≡ kept_free m.aig s
  positions : held ≡ map (new_position m.aig s) held

module _ (held : List ℕ) (c : Netlist) (valid : IsCircuit c) (in_range : All (λ j. j < length c.aig.latches) held) (normalised : IsNormalised held c) where
  all-reached : AreReached c.aig c.props held (is_inner c.aig)
  all-reached = record {
    holds = record {
      all_held = λ k d h.
          let j : ℕ = get_or held k d in
          let below : j < length c.aig.latches = in_range k d h in
          and_from (nat_le (first_latch c.aig) (first_latch c.aig + j)) (nat_lt (first_latch c.aig + j) (variables_end c.aig))
          (le-leb (first_latch c.aig) (first_latch c.aig + j) (omega arith)) (lt-ltb (first_latch c.aig + j) (variables_end c.aig) (omega (arith, below)));
      properties = λ k d h. inner-stays c.aig (variable (get_or (property_literals c.props) k d)) (literals_within c.aig c.props valid.netlist.props k d h);
      gates = λ v gate e told.
          let at : IsGateAt v gate = gate_at-is c.aig valid.graph v gate e in
          let place : GatePlace c.aig v gate = gate_place c.aig v gate e in (
            inner-stays c.aig (variable gate.rhs0) (omega (arith, at.below, place.below)),
            inner-stays c.aig (variable gate.rhs1) (omega (arith, at.below, at.ordered, place.below)),
          );
      latches = λ v latch e told.
          let place : LatchPlace c.aig v latch = latch_place c.aig v latch e in
          inner-stays c.aig (variable latch.next) (valid.graph.latches (v - first_latch c.aig) latch place.there);
    };
    least = λ r holds v e.
        let parts = and_parts (nat_le (first_latch c.aig) v) (nat_lt v (variables_end c.aig)) e in
        normalised.reached r holds v (leb-true (first_latch c.aig) v parts.0) (ltb-true v (variables_end c.aig) parts.1);
  }

  same-variable : (v : ℕ) → v ≤ variables_end c.aig → new_variable c.aig (is_inner c.aig) v ≡ v
  same-variable v h = count-all (stays c.aig (is_inner c.aig)) v (λ w less. inner-stays c.aig w (omega (arith, less, h)))

  unchanging : Unchanging held c c (is_inner c.aig)
  unchanging =
      let same : trimmed_of c (is_inner c.aig) ≡ c = trimmed-same c (is_inner c.aig) valid (inner-stays c.aig) in
      record {
        are_reached = all-reached;
        circuit = sym same;
        free = sym (kept-all c (is_inner c.aig) same);
        positions = sym (map-fixed_all (λ j. j < length c.aig.latches) (new_position c.aig (is_inner c.aig))
            (λ j below. omega (arith, same-variable (first_latch c.aig + j) (omega (arith, below)))) held in_range);
      }

  -- a pass of cleaning changes nothing in a normalised circuit
  pub normalised-pass : IsPass held c c (all_free c.aig) held
  normalised-pass =
      let merged : merged_of held c ≡ c = replaced_circuit-same (substitutes_of c.aig held) c valid (normalised-own held c valid.graph normalised) in
      let P : Netlist → Type 0 = λ m. Unchanging held c m (is_inner c.aig) in
      let all : Unchanging held c (merged_of held c) (is_inner c.aig) = subst P (sym merged) unchanging in
      record { reached = is_inner c.aig; are_reached = all.are_reached; circuit = all.circuit; free = all.free; positions = all.positions }

  -- a normalised circuit is what it is cleaned to, with all its free latches
  pub normalised-cleans : Cleans c held c (all_free c.aig)
  normalised-cleans = unchanged held c (all_free c.aig) normalised-pass refl
