use Rattle.std.proofs.Common.{◌∙◌, ap}
use Rattle.aig_graph.specs.Graph.{first_latch}
use Rattle.pictures.proofs.ViewLaws.{all_drawn}
use Rattle.pictures.proofs.look.View.new.Goals as goal

pub returns : goal.returns
returns c = record {
  first = c.of_looks.ensures.first ∙ c.first_latch.ensures.value ∙ ap first_latch c.aig.ensures.value;
  looks = c.of_looks.ensures.looks ∙ c.in_ok-looks.ensures;
  middle = c.of_looks.ensures.centre;
  draws = all_drawn c.of_looks.result c.of_looks.ensures.drawn;
}
