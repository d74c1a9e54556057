use Rattle.std.proofs.lemmas.Result.{IfOk-weaker}
use Rattle.aig_graph.specs.Laws.{composed}
use Rattle.retiming_maps.specs.Merging.{IsMergedAfter, IsStartAlong}
use Rattle.retiming_maps.proofs.MergingLaws.{started}
use Rattle.retiming_maps.proofs.merging.start_along.Goals as goal

pub cleaned_along-requires-clause-map : goal.cleaned_along-requires-clause-map
cleaned_along-requires-clause-map c = c.requires.map

pub cleaned_along-requires-clause-in_range : goal.cleaned_along-requires-clause-in_range
cleaned_along-requires-clause-in_range c = c.requires.in_range

pub merged_after-requires : goal.merged_after-requires
merged_after-requires c =
    let start = c.requires.map in
    (start.0, composed start.1 c.in_ok-cleaned.cleaned.kept_free, c.in_ok-cleaned.ensures.leads start.0 start.1 start.2)

pub returns : goal.returns
returns c =
    let held = c.args.keep.now in
    let before = c.args.circuit.now in
    let cleaned = c.in_ok-cleaned.cleaned in
    let old = c.args.parts.now in
    let mid = c.cleaned_along.new.parts in
    let new = c.merged_after.new.parts in
    IfOk-weaker c.merged_after.result (IsMergedAfter cleaned mid new) (IsStartAlong held before old new)
    (λ m after. started held before cleaned old mid new m (record { graph = c.known.ensures.graph; netlist = c.known.ensures.netlist }) c.requires.in_range c.in_ok-cleaned.ensures after)
    c.merged_after.ensures
