use Rattle.std.proofs.Common.{◌∙◌, ap}
use Rattle.binary_file.specs.Contents.{section_to_fill}
use Rattle.binary_file.proofs.CircuitLaws.{graph_kept, netlist_kept}
use Rattle.binary_file.proofs.sections.Sections.into_circuit.Goals as goal

pub from_parts-aig-requires : goal.from_parts-aig-requires
from_parts-aig-requires c = graph_kept _ c.self.invariant (ap section_to_fill c.self.view_is ∙ c.requires)

pub new-requires : goal.new-requires
new-requires c = rw (c.from_parts-aig.ensures, c.in_ok-props.ensures, c.in_ok-symbols.ensures) (netlist_kept _ c.self.invariant (ap section_to_fill c.self.view_is ∙ c.requires))
