use Rattle.std.proofs.Common.{ℕ, ◌+◌, get_or, length, ◌∙◌, ap, ap₂, subst, sym, arith, map}
use Rattle.std.proofs.lemmas.List.{get_or_default, take_all}
use Rattle.aig_graph.specs.Building.{gate_of}
use Rattle.aig_graph.specs.declared.graph.Gate.{Gate}
use Rattle.aag_text.specs.Arranging.{IsBelow, moved_gate, no_gate}
use Rattle.aag_text.proofs.CollectingLaws.{mapped_more, has_room}
use Rattle.aag_text.proofs.circuit.arranging.gates.Goals as goal

pub loop-place-init : goal.loop-place-init
loop-place-init c = record { room = omega (arith, c.in_ok-found.ensures.exact); filled = c.in_ok-found.ensures.items }

pub push_reserved-requires : goal.push_reserved-requires
push_reserved-requires c = omega (arith, has_room (λ (g : ℕ). moved_gate c.args.first c.args.ranks.now (get_or c.args.gates.now g no_gate)) c.args.order.now c.loop-place.place-index _ _ c.loop-place-test.true c.loop-place.invariant.room c.loop-place.invariant.filled)

pub loop-place-preserved : goal.loop-place-preserved
loop-place-preserved c =
    record {
      room = omega (arith, c.loop-place.invariant.room, c.push_reserved.ensures.capacity);
      filled =
          mapped_more (λ (g : ℕ). moved_gate c.args.first c.args.ranks.now (get_or c.args.gates.now g no_gate)) c.args.order.now c.loop-place.place-index 0 c.of.result c.loop-place.found.items c.push_reserved.new.self.items
          c.loop-place-test.true c.loop-place.invariant.filled
          (c.of.ensures ∙ ap₂ gate_of c.literal.ensures c.literal-in-loop-place.ensures
          ∙ ap (moved_gate c.args.first c.args.ranks.now) (c.index-gates-place.is
          ∙ get_or_default c.args.gates.now (get_or c.args.order.now c.loop-place.place-index 0) c.index-gates-place.result no_gate (c.requires.order c.loop-place.place-index 0 c.loop-place-test.true)))
          c.push_reserved.ensures.items;
    }

pub literal-requires-clause-below : goal.literal-requires-clause-below
literal-requires-clause-below c =
    subst (λ (gate : Gate). IsBelow (c.args.first + length c.args.ranks.now) gate.rhs0) (sym c.index-gates-place.is) (c.requires.below _ _ (c.requires.order _ 0 c.loop-place-test.true)).0

pub literal-requires-in-loop-place-clause-below : goal.literal-requires-in-loop-place-clause-below
literal-requires-in-loop-place-clause-below c =
    subst (λ (gate : Gate). IsBelow (c.args.first + length c.args.ranks.now) gate.rhs1) (sym c.index-gates-place.is) (c.requires.below _ _ (c.requires.order _ 0 c.loop-place-test.true)).1

pub returns : goal.returns
returns c = c.loop-place.invariant.filled ∙ ap (map (λ (g : ℕ). moved_gate c.args.first c.args.ranks.now (get_or c.args.gates.now g no_gate))) (take_all _ _ c.loop-place-test.false)
