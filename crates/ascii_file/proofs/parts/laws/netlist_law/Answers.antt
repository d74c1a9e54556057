use Rattle.ascii_file.proofs.PartLaws.{netlist}
use Rattle.ascii_file.proofs.parts.laws.netlist_law.Goals as goal

pub returns : goal.returns
returns c = λ h g symbols l. netlist h g symbols l
