use Rattle.circuit_files.proofs.FaultNameLaws.{named_of}
use Rattle.circuit_files.proofs.pages.named_fault.Fault.named.Goals as goal

pub returns : goal.returns
returns c = named_of c.args.name.now _ (rw c.all.ensures at c.named_among.ensures)
