use Rattle.std.proofs.Common.{◌≡◌, length, List, ℕ}
use Rattle.aig_graph.specs.Graph.{Graph, variables_end}
use Rattle.clean.proofs.MappingLaws.{substitutes-long, props-within}
use Rattle.clean.proofs.merged.merged_by.Goals as goal

pub mapped-requires : goal.mapped-requires
mapped-requires c =
    let g : Graph = c.args.aig in
    let substitutes : List ℕ = c.merged_graph.new.tables.literals in
    let long : length substitutes ≡ variables_end g = substitutes-long g c.args.held.now substitutes c.in_ok-aig.ensures.substitutes in
    props-within g c.args.props.now (length substitutes) c.requires.props long
