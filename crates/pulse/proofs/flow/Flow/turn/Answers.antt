use Rattle.std.proofs.Common.{arith, subst}
use Rattle.std.specs.Vec.{with_items}
use Rattle.std.proofs.lemmas.Bool.{false≢true}
use Rattle.std.proofs.lemmas.List.{with_items_is}
use Rattle.pulse.specs.Values.{FlowState, flow_state}
use Rattle.pulse.specs.Phases.{Turns}
use Rattle.pulse.proofs.flow.Flow.turn.Goals as goal
use Rattle.pulse.proofs.FlowLaws.{flow_unspent}
use Rattle.pulse.proofs.TurnLaws.{turn_ready, turned}

pub turn-requires-clause-parts : goal.turn-requires-clause-parts
turn-requires-clause-parts c =
    turn_ready c.args.self.now c.self.inside.parts.items c.as_slice.result.now c.self.inside.labels.items c.as_mut_slice.result.now c.self.inside.delivered.items c.self.inside.caps c.self.inside.spent c.self.view_is c.requires
    c.as_slice.ensures.value c.as_mut_slice.ensures.value

pub returns : goal.returns
returns c =
    subst (λ (f : FlowState). Turns f (flow_state c.self.inside.parts.items (with_items c.self.inside.labels c.turn.new.labels).items (with_items c.self.inside.delivered c.unmark.new.delivered).items c.self.inside.caps c.self.inside.spent)) c.self.view_is
    (turned c.self.inside.parts.items c.as_slice.result.now c.self.inside.labels.items c.as_mut_slice.result.now c.turn.new.labels (with_items c.self.inside.labels c.turn.new.labels).items
    c.self.inside.delivered.items c.unmark.new.delivered (with_items c.self.inside.delivered c.unmark.new.delivered).items c.self.inside.caps c.self.inside.spent
    (flow_unspent c.args.self.now c.self.inside.parts.items c.self.inside.labels.items c.self.inside.delivered.items c.self.inside.caps c.self.inside.spent c.self.view_is c.requires.unspent)
    c.as_slice.ensures.value c.as_mut_slice.ensures.value (with_items_is c.self.inside.labels c.turn.new.labels (omega arith)) (with_items_is c.self.inside.delivered c.unmark.new.delivered (omega arith))
    (omega arith) c.turn.ensures (omega arith) c.unmark.ensures)

pub invariant_of-self : goal.invariant_of-self
invariant_of-self c = record { lists = λ on. absurd (false≢true on); numbered = λ free. c.self.invariant.numbered free }
