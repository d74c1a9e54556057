use Rattle.std.proofs.Common.{List, Bool, sym, subst}
use Rattle.aig_graph.specs.Marking.{mark_at}
use Rattle.aig_graph.specs.Graph.{first_latch}
use Rattle.aig_graph.specs.Border.{IsSmallestLeast}
use Rattle.unit_flows.specs.Onward.{AreFarFromLeft}
use Rattle.unit_flows.proofs.OffLaws.{off-members}
use Rattle.unit_flows.proofs.NearLaws.{shown-smallest-law}
use Rattle.unit_flows.proofs.ShownLaws.{if_some}
use Rattle.unit_flows.proofs.nearest.shown_by_tallies.Goals as goal

pub returns : goal.returns
returns c = if_some c.new.result _ _ (λ set. IsSmallestLeast c.args.frame.now.circuit.now c.args.frame.now.keep.now set) c.new.ensures (λ rising.
    shown-smallest-law c.args.frame.now.circuit.now c.args.frame.now.keep.now c.args.flows.now c.args.went.now c.args.came.now c.as_slice-before.result.now c.as_slice-after.result.now c.in_ok-vars.vars.items
    c.aig.ensures.graph c.requires.tallies (c.is_full_cut.ensures.balanced c.if-not-is_full_cut.false) (c.is_full_cut.ensures.cut c.if-not-is_full_cut.false)
    (subst (λ (xs : List Bool). AreFarFromLeft c.args.frame.now.circuit.now c.args.frame.now.keep.now c.args.flows.now c.args.went.now c.args.came.now xs) (sym c.as_slice-before.ensures.value) c.in_ok-far.ensures.far)
    rising
    (λ v. off-members c.args.frame.now.circuit.now c.args.frame.now.keep.now (mark_at (first_latch c.args.frame.now.circuit.now.aig) c.as_slice-before.result.now) c.in_ok-vars.vars.items v c.in_ok-vars.ensures))
