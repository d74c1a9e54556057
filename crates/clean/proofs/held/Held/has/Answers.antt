use Rattle.std.proofs.Common.{length, zero-add}
use Rattle.aig_graph.specs.Marking.{has}
use Rattle.aig_graph.proofs.TableLaws.{read-table}
use Rattle.clean.proofs.held.Held.has.Goals as goal

pub returns : goal.returns
returns c =
    read-table 0 (length c.args.self.now.marks.items) (has c.args.self.now.positions.now) c.args.self.now.marks.items c.args.position c.args.position c.index.result.now
    c.args.self.now.marked c.requires (zero-add c.args.position) c.index.ensures
