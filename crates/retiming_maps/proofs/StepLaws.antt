-- A map that follows passes and moves is one to what they make.
use Rattle.std.proofs.Common.{ℕ, ◌<◌, ◌≤◌, ◌≡◌, Bool, slice_get, List, length, get_or, ap, sym, ◌∙◌, subst}
use Rattle.std.specs.List.{All}
use Rattle.aig_graph.specs.declared.literal.TheConstants.{MAX_VARIABLES}
use Rattle.aig_graph.specs.Circuits.{Netlist}
use Rattle.aig_graph.specs.Closed.{IsClosedSet}
use Rattle.aig_graph.specs.Graph.{Graph, first_latch, free_latches, variables_end}
use Rattle.aig_graph.specs.Laws.{all_free, composed}
use Rattle.aig_graph.specs.Move.{Move}
use Rattle.aig_graph.specs.Streams.{AreKept, SameStreams}
use Rattle.cleaned_circuits.specs.Cleaned.{IsPass}
use Rattle.cleaned_circuits.specs.Merged.{merged_of}
use Rattle.cleaned_circuits.proofs.MergedLaws.{IsGraph-merged}
use Rattle.cleaned_circuits.proofs.PassLaws.{IsCircuit, IsCircuit-pass, pass-streams}
use Rattle.rebuild.specs.Moved.{moved_graph, moved_of}
use Rattle.rebuild.proofs.MovedLaws.{IsGraph-moved}
use Rattle.state_maps.specs.States.{IsStateMap, State}
use Rattle.state_maps.specs.CleanedStates.{SubstitutesHold, held_by, trimmed_state}
use Rattle.state_maps.specs.MovedStates.{moved_state}
use Rattle.state_maps.proofs.FrameMapLaws.{restated}
use Rattle.state_maps.proofs.MapLaws.{maps-compose, moving-maps}
use Rattle.state_maps.proofs.PassStepLaws.{cleaning-maps, small-many}
use Rattle.map_circuits.specs.Constraining.{AddsSubstitutes, AreOne}
use Rattle.map_circuits.specs.Following.{state_of}
use Rattle.map_circuits.specs.Growing.{Extends}
use Rattle.map_circuits.specs.Stepping.{AreMoved, ArePassed}
use Rattle.map_circuits.proofs.ConstrainingLaws.{ones-before, ones-later}
use Rattle.map_circuits.proofs.SteppingLaws.{state-kept}
use Rattle.retiming_maps.specs.declared.parts.MapParts.{MapParts}
use Rattle.retiming_maps.specs.Mapping.{IsMapBy, IsMapTo, LeadsOn}
use Rattle.retiming_maps.proofs.FreeLaws.{free-moved, free-passed, kept-then, pass-places}
use Rattle.retiming_maps.proofs.SubstitutesLaws.{latch_substitutes, substitutes-below, substitutes-hold}
use Rattle.clean.proofs.CleaningLaws.{composed-then}
use Rattle.aig_graph.proofs.StreamLaws.{funext, composed-every}

module _ (c d e : Netlist) (held kept second still : List ℕ) (g h : Graph) (functions new old constraints : List ℕ) where
  -- a map that goes on through a pass, with constraints of what stands for each latch, is a map to
  -- what the pass makes
  pub pass-map : IsCircuit d → (pass : IsPass held d e second still) → IsMapBy c d kept g functions old
      → AddsSubstitutes g (first_latch d.aig) functions (latch_substitutes d.aig held) (length (latch_substitutes d.aig held)) h old constraints
      → ArePassed h functions d.aig pass.reached new → IsMapBy c e (composed kept second) h new constraints
  pass-map valid pass p adds passed = record {
    graph = adds.extends.graph;
    inputs = adds.extends.inputs ∙ p.inputs;
    latches = adds.extends.latches ∙ p.latches;
    functions_within = passed.within;
    constraints_within = adds.within;
    many = passed.many ∙ sym (ap (λ (n : Netlist). length n.aig.latches) pass.circuit ∙ small-many m held r (IsGraph-merged d.aig held valid.graph) pass.are_reached.holds ∙ ap (λ (js : List ℕ). length js) (pass-places d held r));
    places = kept-then c d e kept second p.places streams.places;
    free = free-passed c d e held kept second still h functions new pass streams passed p.free;
    maps = subst (λ (to : State → State). IsStateMap c e (composed kept second) (AreOne h constraints) to) (sym whole) (restated c e (composed kept second)
        (λ s. AreOne g old s × SubstitutesHold d.aig held (state_of g functions s)) (AreOne h constraints) (λ s. trimmed_state m.aig r (state_of g functions s))
        (λ s both. (adds.says s).1 (both.0, substitutes-below d.aig held functions p.many g p.graph valid.graph s both.1))
        (λ s ones. let both = (adds.says s).0 ones in (both.0, substitutes-hold d.aig held functions p.many g p.graph valid.graph s both.1))
        (maps-compose c d e kept second (AreOne g old) (SubstitutesHold d.aig held) (state_of g functions) (trimmed_state m.aig r) after.graph streams.places p.maps
        (cleaning-maps held d e second still valid.graph valid.netlist pass)));
  }
    where
      m : Netlist
      m = merged_of held d

      r : ℕ → Bool
      r = pass.reached

      after : IsCircuit e
      after = IsCircuit-pass held d e second still valid pass

      streams : SameStreams d e second
      streams = pass-streams held d e second still valid pass

      whole : state_of h new ≡ (λ s. trimmed_state m.aig r (state_of g functions s))
      whole = funext _ _ (λ s.
          passed.states s ∙ ap (trimmed_state d.aig r) (state-kept g h functions adds.extends p.functions_within s)
          ∙ sym (ap (λ (js : List ℕ). λ (k : ℕ). held_by (state_of g functions s) (slice_get js k)) (pass-places d held r)))

module _ (c : Netlist) (m : Move) (kept : List ℕ) (g h : Graph) (functions new constraints : List ℕ) where
  -- a map that goes on through a move is a map to the moved circuit
  pub move-map : IsCircuit m.circuit → IsClosedSet m.circuit.aig m.held m.set → variables_end (moved_graph m) ≤ MAX_VARIABLES → AreKept m.circuit (moved_of m) (all_free m.circuit.aig)
      → IsMapBy c m.circuit kept g functions constraints → Extends g h → AreMoved g functions m h new → IsMapBy c (moved_of m) kept h new constraints
  move-map valid set room free p extends moved = subst (λ (js : List ℕ). IsMapBy c (moved_of m) js h new constraints) (composed-every kept (free_latches m.circuit.aig) p.places.each) (record {
    graph = extends.graph;
    inputs = extends.inputs ∙ p.inputs;
    latches = extends.latches ∙ p.latches;
    functions_within = moved.within;
    constraints_within = λ k a less. extends.literals (get_or constraints k a) (p.constraints_within k a less);
    many = moved.many;
    places = kept-then c m.circuit (moved_of m) kept (all_free m.circuit.aig) p.places free;
    free = free-moved c m kept g h functions new set free moved p.free;
    maps = subst (λ (to : State → State). IsStateMap c (moved_of m) (composed kept (all_free m.circuit.aig)) (AreOne h constraints) to) (sym (funext _ _ moved.states))
        (restated c (moved_of m) (composed kept (all_free m.circuit.aig)) (λ s. AreOne g constraints s × Unit {0}) (AreOne h constraints) (λ s. moved_state m (state_of g functions s))
        (λ s both. ones-later g h extends constraints p.constraints_within s both.0)
        (λ s ones. (ones-before g h extends constraints p.constraints_within s ones, tt))
        (maps-compose c m.circuit (moved_of m) kept (all_free m.circuit.aig) (AreOne g constraints) (λ s. Unit {0}) (state_of g functions) (moved_state m)
        (IsGraph-moved m valid.graph set room) free p.maps (moving-maps m valid.graph valid.netlist set room)));
  })

-- what leads on twice leads on
pub leads-more : (c d e : Netlist) (old mid new : MapParts) (first second both : List ℕ) → LeadsOn c old d first mid → LeadsOn d mid e second new → both ≡ composed first second
    → All (λ place. place < length first) second → LeadsOn c old e both new
leads-more c d e old mid new first second both p q is below b k m =
    subst (λ (js : List ℕ). IsMapTo b e js new) (sym (ap (composed k) is ∙ composed-then k first second below)) (q b (composed k first) (p b k m))
