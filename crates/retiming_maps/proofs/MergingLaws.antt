-- A map that follows a merging is one to what is merged, and so is one that follows a cleaning
-- before it.
use Rattle.std.proofs.Common.{ℕ, ◌<◌, List, length, ap, sym, ◌∙◌, subst}
use Rattle.std.specs.List.{All}
use Rattle.std.proofs.lemmas.List.{length-map}
use Rattle.aig_graph.specs.Circuits.{Netlist}
use Rattle.aig_graph.specs.Graph.{Graph, first_latch, free_latches}
use Rattle.aig_graph.specs.Laws.{all_free, composed}
use Rattle.aig_graph.specs.Streams.{AreKept, SameStreams}
use Rattle.aig_graph.proofs.StreamLaws.{composed-every}
use Rattle.clean.specs.declared.cleaning.Cleaned.{Cleaned}
use Rattle.cleaned_circuits.proofs.MergedLaws.{length-replaced_latches}
use Rattle.cleaned_circuits.proofs.PassLaws.{IsCircuit}
use Rattle.certificates.specs.declared.merged.MergedLatch.{MergedLatch}
use Rattle.latch_merging.specs.declared.given.GivenStart.{GivenStart}
use Rattle.latch_merging.specs.declared.given.GivenStart.TheVariants.{Merged, Misread, NotShown}
use Rattle.latch_merging.specs.declared.start.MergedStart.{MergedStart}
use Rattle.latch_merging.proofs.StartLaws.{start-of}
use Rattle.merged_circuits.specs.Inductive.{IsMergedBy}
use Rattle.merged_circuits.specs.Readings.{substitutes_by}
use Rattle.merged_circuits.proofs.MergingLaws.{merged_by-streams}
use Rattle.map_circuits.specs.Constraining.{AddsSubstitutes, substitute_function}
use Rattle.map_circuits.specs.Steps.{read_functions}
use Rattle.map_circuits.proofs.ReadFunctionLaws.{merged-step, read-within}
use Rattle.retimed_circuits.specs.Frames.{CleansTo}
use Rattle.retiming_maps.specs.declared.parts.MapParts.{MapParts}
use Rattle.retiming_maps.specs.Mapping.{IsCleanedAlong, IsMapBy, LeadsOn}
use Rattle.retiming_maps.specs.Merging.{IsGivenAfter, IsGivenStartAlong, IsMergedAfter, IsStartAlong}
use Rattle.retiming_maps.proofs.FreeLaws.{free-merged, kept-then}

module _ (b d e : Netlist) (held kept reads : List ℕ) (g h : Graph) (functions old new : List ℕ) where
  -- A map to a circuit, with the constraints of its latches' readings, is one to what the circuit
  -- is merged to. Latches have the functions of their readings.
  pub merged-map : IsCircuit d → IsMergedBy held reads d e → IsMapBy b d kept g functions old
      → AddsSubstitutes g (first_latch d.aig) functions reads (length reads) h old new → IsMapBy b e kept h (read_functions (first_latch d.aig) functions reads) new
  merged-map valid merged p adds = record {
    graph = adds.extends.graph;
    inputs = adds.extends.inputs ∙ p.inputs;
    latches = adds.extends.latches ∙ p.latches;
    functions_within = read-within d.aig held reads functions merged.inductive.reading p.many g h old new p.graph p.functions_within adds;
    constraints_within = adds.within;
    many = length-map reads (substitute_function (first_latch d.aig) functions) ∙ merged.inductive.reading.long ∙ sym (ap (λ (n : Netlist). length n.aig.latches) merged.circuit ∙ length-replaced_latches (substitutes_by d.aig reads) d.aig);
    places = subst (AreKept b e) (composed-every kept (free_latches d.aig) p.places.each) (kept-then b d e kept (all_free d.aig) p.places streams.places);
    free = free-merged b d e held kept reads functions merged.inductive.reading merged.circuit merged.inductive.reading.long p.free;
    maps = merged-step b d e held reads kept g h functions old new valid.graph valid.netlist merged p.graph p.functions_within p.many p.places.each p.maps adds;
  }
    where
      streams : SameStreams d e (all_free d.aig)
      streams = merged_by-streams held reads d e valid.graph valid.netlist merged

-- a map that follows a cleaning and then a merging is one to what frames start from
pub started : (held : List ℕ) (c : Netlist) (d : Cleaned) (old mid new : MapParts) (m : MergedStart) → IsCircuit c → All (λ j. j < length c.aig.latches) held → IsCleanedAlong held c old mid d
    → IsMergedAfter d mid new m → IsStartAlong held c old new m
started held c d old mid new m valid in_range along after =
    let cleans : CleansTo held c d.circuit d.kept_free d.keep = record { cleans = along.cleaned; held_after = along.held_after } in
    let P : List ℕ → Type 0 = λ places. LeadsOn c old m.circuit places new in
    record {
      start = start-of held c d m valid in_range cleans along.in_range after.start;
      leads = subst P (sym after.start.kept_free) (λ b kept p. after.leads b (composed kept d.kept_free) (along.leads b kept p));
    }

-- so by lines that are given
pub given-started : (held : List ℕ) (c : Netlist) (d : Cleaned) (lines : List MergedLatch) (old mid new : MapParts) (given : GivenStart) → IsCircuit c → All (λ j. j < length c.aig.latches) held
    → IsCleanedAlong held c old mid d → IsGivenAfter d lines mid new given → IsGivenStartAlong held c lines old new given
given-started held c d lines old mid new (Merged m) valid in_range along after = (started held c d old mid new m valid in_range along after.0, after.1)
given-started held c d lines old mid new (Misread latch) valid in_range along after = tt
given-started held c d lines old mid new (NotShown latch) valid in_range along after = tt
