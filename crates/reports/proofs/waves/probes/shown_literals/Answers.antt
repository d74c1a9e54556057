use Rattle.std.proofs.Common.{◌∙◌, ap, ap₂, ◌++◌}
use Rattle.aig_graph.specs.Streams.{property_literals}
use Rattle.reports.specs.waves.Probes.{leaf_literals, shown_literals}
use Rattle.reports.proofs.waves.probes.shown_literals.Goals as goal

pub returns : goal.returns
unfolding shown_literals
returns c =
    c.in_ok-append.ensures
    ∙ ap₂ (λ xs ys. xs ++ ys) (c.in_ok-literals.ensures ∙ ap leaf_literals c.aig.ensures.value)
    (c.as_slice.ensures.value ∙ c.in_ok-properties.ensures ∙ ap property_literals c.props.ensures.value)
