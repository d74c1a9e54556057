use Rattle.std.proofs.Common.{ap, subst, sym}
use Rattle.aig_graph.specs.Circuits.{AreSymbolsOf, Netlist}
use Rattle.retiming_maps.proofs.packed_maps.StateMap.with_symbols.Goals as goal

pub invariant_of-result : goal.invariant_of-result
invariant_of-result c =
    let was = c.self.invariant in
    record {
      netlist = record { props = was.netlist.props; symbols = subst (λ (m : Netlist). AreSymbolsOf m.aig m.props c.args.symbols) (sym c.self.view_is) c.requires };
      bad = was.bad;
      justice = was.justice;
      fairness = was.fairness;
    }

pub returns : goal.returns
returns c = ap (λ (m : Netlist). record m { symbols = c.args.symbols }) c.self.view_is
