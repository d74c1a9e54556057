use Rattle.aig_graph.proofs.ChosenLaws.{chosen-least, chosen-one}
use Rattle.aig_graph.proofs.chosen_sets.chosen_law.Goals as goal

pub returns : goal.returns
returns c = λ choice before held s r. record { least = chosen-least choice before held s; one = chosen-one choice before held s r }
