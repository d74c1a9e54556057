use Rattle.std.proofs.Common.{arith, length, ◌-◌}
use Rattle.aig_graph.proofs.TableLaws.{read-table}
use Rattle.aig_graph.proofs.tables.entry.Goals as goal

pub returns : goal.returns
returns g c = λ f filled. read-table c.args.first (length c.args.entries.now) f c.args.entries.now (c.args.var - c.args.first) c.args.var _ filled (omega arith) (omega arith) c.index-entries-var.is
