use Rattle.std.proofs.Common.{◌∙◌, ap, Some}
use Rattle.aig_graph.specs.Graph.{first_latch}
use Rattle.pictures.proofs.MarkLaws.{near-marks}
use Rattle.pictures.proofs.ViewLaws.{marked_drawn}
use Rattle.pictures.proofs.look.View.around.Goals as goal

pub returns : goal.returns
returns c = record {
  first = c.of_marked.ensures.first ∙ c.first_latch-first.ensures.value ∙ ap first_latch c.aig.ensures.value;
  looks = c.of_marked.ensures.looks ∙ c.in_ok-looks.ensures;
  middle = c.of_marked.ensures.centre ∙ ap Some c.in_ok-centre.ensures;
  draws = λ v. marked_drawn c.of_marked.result _ c.of_marked.ensures.drawn v ∙ near-marks c.args.circuit.now c.args.name.now c.args.depth _ c.in_ok-marks.ensures v;
}
