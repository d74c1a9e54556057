use Rattle.ascii_file.specs.parts.Names.{symbol_at}
use Rattle.ascii_file.proofs.KindNameLaws.{insert_new, insert_names}
use Rattle.ascii_file.proofs.parts.names.Names.insert.Goals as goal

pub returns-clause-new : goal.returns-clause-new
returns-clause-new c = λ symbols are. insert_new c.args.self.now c.args.kind c.args.position c.args.name c.put.result symbols are c.put.ensures.new

pub returns-clause-names : goal.returns-clause-names
returns-clause-names c = λ symbols are. insert_names c.args.self.now c.put.new.self (symbol_at c.args.kind c.args.position c.args.name) c.put.result symbols are c.put.ensures.names
