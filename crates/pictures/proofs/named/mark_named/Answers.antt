use Rattle.std.proofs.Common.{sym, subst, arith}
use Rattle.aig_graph.specs.declared.properties.Symbols.{Symbols}
use Rattle.aig_graph.specs.Circuits.{AreNamesBelow}
use Rattle.pictures.proofs.NameLaws.{in_range}
use Rattle.aig_graph.proofs.MarkingLaws.{Marks-then}
use Rattle.pictures.specs.Near.{is_named}
use Rattle.pictures.proofs.named.mark_named.Goals as goal

pub mark_variables_named-requires : goal.mark_variables_named-requires
mark_variables_named-requires c =
    let names = c.symbols-symbols.ensures in
    let below = subst (λ (s : Symbols). AreNamesBelow c.args.circuit.now.aig.inputs s.inputs) (sym names.value) names.netlist.symbols.inputs in
    in_range c.args.circuit.now.aig.inputs 1 _ _ c.as_slice.ensures (omega (arith, c.aig-aig.ensures.graph.small)) below

pub returns : goal.returns
unfolding is_named
returns c =
    let inputs = rw (c.as_slice.ensures, c.symbols-symbols.ensures.value) at c.mark_variables_named.ensures in
    let latches = rw (c.as_slice-2.ensures, c.symbols-symbols.ensures.value, c.first_latch.ensures.value, c.aig-aig.ensures.value) at c.mark_variables_named-2.ensures in
    let properties = rw (c.symbols-symbols.ensures.value, c.props.ensures.value) at c.mark_properties_named.ensures in
    Marks-then 0 _ _ _ _ _ (Marks-then 0 _ _ _ _ _ inputs latches) properties
