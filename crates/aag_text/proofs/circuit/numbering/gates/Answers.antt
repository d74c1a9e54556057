use Rattle.std.proofs.Common.{inr, arith}
use Rattle.aag_text.specs.Numbering.{is_gate_placed, placed_gate}
use Rattle.aag_text.proofs.CollectingLaws.{made_more, made_all, made_unknown, has_room, made_none}
use Rattle.aag_text.proofs.circuit.numbering.gates.Goals as goal

pub returns-in_default : goal.returns-in_default
returns-in_default c =
    inr (made_unknown (is_gate_placed c.args.places.now c.args.count) (placed_gate c.args.places.now) c.args.raws.now c.loop-raw.raw-index (record { lhs = 0; rhs0 = 0; rhs1 = 0 }) _ c.loop-raw-test.true c.in_default.ensures)

pub loop-raw-init : goal.loop-raw-init
loop-raw-init c = record { room = omega (arith, c.in_ok-found.ensures.exact); filled = made_none (is_gate_placed c.args.places.now c.args.count) (placed_gate c.args.places.now) c.args.raws.now _ c.in_ok-found.ensures.items }

pub push_reserved-requires : goal.push_reserved-requires
push_reserved-requires c = omega (arith, has_room (placed_gate c.args.places.now) c.args.raws.now c.loop-raw.raw-index _ _ c.loop-raw-test.true c.loop-raw.invariant.room c.loop-raw.invariant.filled.made_of)

pub loop-raw-preserved : goal.loop-raw-preserved
loop-raw-preserved c =
    record {
      room = omega (arith, c.loop-raw.invariant.room, c.push_reserved.ensures.capacity);
      filled =
          made_more (is_gate_placed c.args.places.now c.args.count) (placed_gate c.args.places.now) c.args.raws.now c.loop-raw.raw-index (record { lhs = 0; rhs0 = 0; rhs1 = 0 }) c.in-Some.gate c.loop-raw.found.items c.push_reserved.new.self.items
          c.loop-raw-test.true c.loop-raw.invariant.filled c.in-Some.ensures c.push_reserved.ensures.items;
    }

pub returns : goal.returns
returns c = made_all (is_gate_placed c.args.places.now c.args.count) (placed_gate c.args.places.now) c.args.raws.now c.loop-raw.raw-index c.loop-raw.found.items c.loop-raw-test.false c.loop-raw.invariant.filled
