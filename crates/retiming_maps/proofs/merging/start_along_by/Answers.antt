use Rattle.std.proofs.lemmas.Result.{IfOk-weaker}
use Rattle.aig_graph.specs.Laws.{composed}
use Rattle.retiming_maps.specs.Merging.{IsGivenAfter, IsGivenStartAlong}
use Rattle.retiming_maps.proofs.MergingLaws.{given-started}
use Rattle.retiming_maps.proofs.merging.start_along_by.Goals as goal

pub cleaned_along-requires-clause-map : goal.cleaned_along-requires-clause-map
cleaned_along-requires-clause-map c = c.requires.map

pub cleaned_along-requires-clause-in_range : goal.cleaned_along-requires-clause-in_range
cleaned_along-requires-clause-in_range c = c.requires.in_range

pub given_after-requires : goal.given_after-requires
given_after-requires c =
    let start = c.requires.map in
    (start.0, composed start.1 c.in_ok-cleaned.cleaned.kept_free, c.in_ok-cleaned.ensures.leads start.0 start.1 start.2)

pub returns : goal.returns
returns c =
    let held = c.args.keep.now in
    let before = c.args.circuit.now in
    let cleaned = c.in_ok-cleaned.cleaned in
    let old = c.args.parts.now in
    let mid = c.cleaned_along.new.parts in
    let new = c.given_after.new.parts in
    let lines = c.args.lines.now in
    IfOk-weaker c.given_after.result (IsGivenAfter cleaned lines mid new) (IsGivenStartAlong held before lines old new)
    (λ given after. given-started held before cleaned lines old mid new given (record { graph = c.known.ensures.graph; netlist = c.known.ensures.netlist }) c.requires.in_range c.in_ok-cleaned.ensures after)
    c.given_after.ensures
