use Rattle.std.proofs.Common.{ℕ, Bool, refl, sym, subst}
use Rattle.aig_graph.specs.Circuits.{Netlist, IsNetlist}
use Rattle.cleaned_circuits.specs.Trimmed.{trimmed_graph}
use Rattle.clean.specs.Sweep.{is_marked}
use Rattle.clean.proofs.TrimLaws.{netlist-is}
use Rattle.clean.proofs.pass.trimmed.Goals as goal

pub closed-requires-clause-netlist : goal.closed-requires-clause-netlist
closed-requires-clause-netlist c =
    let n : Netlist = record { aig = c.args.merged.aig; props = c.args.merged.props; symbols = c.args.symbols.now } in
    let s : ℕ → Bool = is_marked c.args.reached in
    subst IsNetlist (sym (netlist-is n s (trimmed_graph n.aig s) c.in-Ok.rest.props c.in-Ok.rest.symbols refl c.in-Ok.ensures.props c.in-Ok.ensures.symbols)) c.requires.netlist
