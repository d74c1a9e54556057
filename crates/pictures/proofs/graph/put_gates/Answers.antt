use Rattle.counted_io.proofs.BufferedLaws.{puts-numbered_next}
use Rattle.pictures.proofs.TextLaws.{puts-numbered_end}
use Rattle.pictures.specs.Pictures.{gate_lines}
use Rattle.pictures.specs.Views.{drawn_in, look_in}
use Rattle.pictures.proofs.graph.put_gates.Goals as goal

pub loop-k-preserved : goal.loop-k-preserved
loop-k-preserved g c =
    puts-numbered_next (gate_lines (look_in c.args.view.now) (drawn_in c.args.view.now)) c.args.first c.args.gates.now c.loop-k.k _
    c.loop-k-test.true c.index-gates-k.is c.loop-k.invariant c.put_drawn_gate.ensures

pub bounds-gates-k : goal.bounds-gates-k
bounds-gates-k g c = c.loop-k-test.true

pub returns : goal.returns
returns g c = puts-numbered_end (gate_lines (look_in c.args.view.now) (drawn_in c.args.view.now)) c.args.first c.args.gates.now _ c.loop-k-test.false c.loop-k.invariant
