-- What a witness may speak of.
use Rattle.std.specs.Prelude.{ℕ, ◌==◌, List, length, if◌then◌else◌}
use Rattle.aig_graph.specs.declared.properties.Props.{Props}
use Rattle.aig_graph.specs.Circuits.{Netlist}
use Rattle.witnesses.specs.declared.widths.Widths.{Widths}

-- the bad states; circuits were written before there were any, and then the outputs are meant
abbrev pub bad_literals : Props → List ℕ
bad_literals p = if length p.bad == 0 then p.outputs else p.bad

-- how many bad states, justice properties, latches and inputs there are; without bad states outputs
-- count as those
abbrev pub widths_of : Netlist → Widths
widths_of c = record {
  bad = length (bad_literals c.props);
  justice = length c.props.justice;
  latches = length c.aig.latches;
  inputs = c.aig.inputs;
}
