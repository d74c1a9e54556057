use Rattle.std.proofs.Common.{◌∙◌, ap, map, filter, List}
use Rattle.aig_graph.specs.declared.properties.Symbol.{Symbol}
use Rattle.rebuild.proofs.BuildLaws.{symbols-are}
use Rattle.rebuild.specs.Moved.{moved_name, stays}
use Rattle.rebuild.specs.Planned.{planned}
use Rattle.rebuild.proofs.names.moved_symbols.Goals as goal

pub returns : goal.returns
returns c =
    let m = planned c.args.plan.now in
    symbols-are m c.symbols-symbols.result.now c.in_ok-latches.latches _ c.symbols-symbols.ensures.value
    (c.in_ok-latches.ensures ∙ ap (λ (names : List Symbol). map (moved_name m) (filter (stays m) names)) c.as_slice.ensures) c.with_latches.ensures
