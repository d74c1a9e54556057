use Rattle.std.proofs.Common.{◌==◌, ◌&&◌, not, Bool, arith, ap, ap₂, ◌∙◌, slice_index}
use Rattle.aig_graph.specs.Graph.{Graph}
use Rattle.unit_flows.specs.Units.{comes_after}
use Rattle.unit_flows.proofs.FrameLaws.{leaving-long, leaving-read}
use Rattle.unit_flows.proofs.onward_sweeps.waits.Goals as goal

pub index-requires : goal.index-requires
index-requires c = omega (arith, c.requires.place, leaving-long c.args.frame.now.circuit.now c.args.frame.now.keep.now c.args.frame.now.leaving.items c.args.frame.now.leaving_are)

pub returns : goal.returns
returns c = ap₂ (λ (l m : Bool). (not l && m) && (slice_index c.args.went.now c.args.place == 0))
    (leaving-read c.args.frame.now.circuit.now c.args.frame.now.keep.now c.args.frame.now.leaving.items c.args.place c.index.result.now c.args.frame.now.leaving_are c.requires.place c.index.ensures)
    (c.comes_after-comes.ensures ∙ ap (λ (g : Graph). comes_after g c.args.flows.now c.args.place) c.aig.ensures.value)
