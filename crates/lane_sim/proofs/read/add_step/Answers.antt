use Rattle.std.proofs.Common.{◌∙◌, ap, ◌++◌, ◌∷◌, [], List, Bool}
use Rattle.lane_sim.specs.declared.stimulus.InputSequence.{InputSequence}
use Rattle.lane_sim.proofs.StimulusLaws.{step_added}
use Rattle.lane_sim.proofs.read.add_step.Goals as goal

pub returns : goal.returns
returns c =
    step_added c.args.inputs c.args.offset c.args.sequences.now.items c.pop.new.self.items c.in-Some.last c.args.digits.now c.push.new.self.items
    c.in-Some.ensures.items c.if-digits-inputs.false
    (c.in_ok-push.ensures.items ∙ ap (λ (s : InputSequence). c.pop.new.self.items ++ s ∷ []) c.in_ok-longer.ensures
    ∙ ap (λ (row : List Bool). c.pop.new.self.items ++ record { choice = c.in-Some.last.choice; steps = c.in-Some.last.steps ++ row ∷ [] } ∷ []) c.in_ok-row.ensures)
