use Rattle.clean.specs.Sweep.{is_marked}
use Rattle.clean.proofs.NamesLaws.{symbols-are}
use Rattle.clean.proofs.names.trimmed_symbols.Goals as goal

pub returns : goal.returns
returns c =
    symbols-are c.args.trim.now.aig.now (is_marked c.args.trim.now.reached.now) c.args.symbols.now c.in_ok-latches.latches _ c.in_ok-latches.ensures c.with_latches.ensures
