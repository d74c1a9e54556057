use Rattle.std.proofs.Common.{take}
use Rattle.pictures.specs.Nodes.{edges}
use Rattle.pictures.specs.Views.{drawn_in}
use Rattle.counted_io.specs.Buffered.{Puts}
use Rattle.pictures.proofs.node.put_edges.Given as goal

abbrev pub invariant-loop-lit : goal.invariant-loop-lit
invariant-loop-lit g l = Puts g.W.CountedWrite.output l.fn.out l.out (edges (drawn_in l.view) l.to (take l.lit-index l.lits))
