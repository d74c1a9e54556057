use Rattle.std.proofs.Common.{inr, arith}
use Rattle.aag_text.specs.Numbering.{is_placed, placed}
use Rattle.aag_text.proofs.CollectingLaws.{made_all, made_more, made_unknown, has_room, made_none}
use Rattle.aag_text.proofs.circuit.numbering.literals.Goals as goal

pub returns-in_default : goal.returns-in_default
returns-in_default c = inr (made_unknown (is_placed c.args.places.now c.args.count) (placed c.args.places.now) c.args.lits.now c.loop-lit.lit-index 0 _ c.loop-lit-test.true c.in_default.ensures)

pub loop-lit-init : goal.loop-lit-init
loop-lit-init c = record { room = omega (arith, c.in_ok-found.ensures.exact); filled = made_none (is_placed c.args.places.now c.args.count) (placed c.args.places.now) c.args.lits.now _ c.in_ok-found.ensures.items }

pub push_reserved-requires : goal.push_reserved-requires
push_reserved-requires c = omega (arith, has_room (placed c.args.places.now) c.args.lits.now c.loop-lit.lit-index _ _ c.loop-lit-test.true c.loop-lit.invariant.room c.loop-lit.invariant.filled.made_of)

pub loop-lit-preserved : goal.loop-lit-preserved
loop-lit-preserved c =
    record {
      room = omega (arith, c.loop-lit.invariant.room, c.push_reserved.ensures.capacity);
      filled =
          made_more (is_placed c.args.places.now c.args.count) (placed c.args.places.now) c.args.lits.now c.loop-lit.lit-index 0 c.in-Some.literal c.loop-lit.found.items c.push_reserved.new.self.items
          c.loop-lit-test.true c.loop-lit.invariant.filled c.in-Some.ensures c.push_reserved.ensures.items;
    }

pub returns : goal.returns
returns c = made_all (is_placed c.args.places.now c.args.count) (placed c.args.places.now) c.args.lits.now c.loop-lit.lit-index c.loop-lit.found.items c.loop-lit-test.false c.loop-lit.invariant.filled
