use Rattle.std.proofs.Common.{arith}
use Rattle.ascii_file.specs.parts.Names.{symbol_at}
use Rattle.binary_file.proofs.KeptLaws.{names_kept}
use Rattle.binary_file.proofs.sections.Sections.take_name.Goals as goal

pub invariant_of-self : goal.invariant_of-self
invariant_of-self c =
    names_kept _ c.insert.new.self (symbol_at c.args.kind c.args.position c.args.name) c.insert.result c.self.invariant (omega arith)
    (c.insert.ensures.new c.self.invariant.named.symbols c.self.invariant.named.names) (c.insert.ensures.names c.self.invariant.named.symbols c.self.invariant.named.names) c.insert.ensures.err
