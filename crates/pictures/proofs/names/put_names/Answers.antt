use Rattle.std.proofs.Common.{sym, subst, arith}
use Rattle.aig_graph.specs.declared.properties.Symbols.{Symbols}
use Rattle.aig_graph.specs.Circuits.{AreNamesBelow}
use Rattle.counted_io.proofs.BufferedLaws.{puts-then}
use Rattle.pictures.specs.Pictures.{all_names}
use Rattle.pictures.proofs.NameLaws.{in_range}
use Rattle.pictures.proofs.names.put_names.Goals as goal

pub put_variable_names-requires : goal.put_variable_names-requires
put_variable_names-requires g c =
    let names = c.symbols-symbols.ensures in
    let below = subst (λ (s : Symbols). AreNamesBelow c.args.circuit.now.aig.inputs s.inputs) (sym names.value) names.netlist.symbols.inputs in
    in_range c.args.circuit.now.aig.inputs 1 _ _ c.as_slice.ensures (omega (arith, c.aig-aig.ensures.graph.small)) below

pub returns : goal.returns
unfolding all_names
returns g c =
    let inputs = rw (c.as_slice.ensures, c.symbols-symbols.ensures.value) at c.put_variable_names.ensures in
    let latches = rw (c.as_slice-2.ensures, c.symbols-symbols.ensures.value, c.first_latch.ensures.value, c.aig-aig.ensures.value) at c.put_variable_names-2.ensures in
    let properties = rw (c.symbols-symbols.ensures.value, c.props.ensures.value) at c.put_property_names.ensures in
    puts-then inputs (puts-then latches properties)
