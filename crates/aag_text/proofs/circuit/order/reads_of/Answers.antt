use Rattle.aag_text.proofs.CollectingLaws.{has_room}
use Rattle.std.proofs.Common.{[], ◌∷◌, ◌++◌, ◌∙◌, ap, ap₂, sym, arith, map}
use Rattle.std.proofs.lemmas.List.{map_more, take_all}
use Rattle.aag_text.specs.Arranging.{reads_of_gate}
use Rattle.aag_text.proofs.circuit.order.reads_of.Goals as goal

pub loop-gate-init : goal.loop-gate-init
loop-gate-init c = record { room = omega (arith, c.in_ok-reads.ensures.exact); filled = c.in_ok-reads.ensures.items }

pub push_reserved-requires : goal.push_reserved-requires
push_reserved-requires c = omega (arith, has_room (reads_of_gate c.args.first) c.args.gates.now c.loop-gate.gate-index _ _ c.loop-gate-test.true c.loop-gate.invariant.room c.loop-gate.invariant.filled)

pub loop-gate-preserved : goal.loop-gate-preserved
loop-gate-preserved c =
    record {
      room = omega (arith, c.loop-gate.invariant.room, c.push_reserved.ensures.capacity);
      filled =
          let reads = reads_of_gate c.args.first in
          (rw (c.gate_place.ensures, c.gate_place-in-loop-gate.ensures) at c.push_reserved.ensures.items) ∙ ap₂ (λ xs x. xs ++ x ∷ []) c.loop-gate.invariant.filled (ap reads c.gate-item.is)
          ∙ sym (map_more reads _ _ _ c.loop-gate-test.true);
    }

pub returns : goal.returns
returns c = c.loop-gate.invariant.filled ∙ ap (map (reads_of_gate c.args.first)) (take_all _ _ c.loop-gate-test.false)
