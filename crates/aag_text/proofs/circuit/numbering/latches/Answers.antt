use Rattle.std.proofs.Common.{ℕ, ◌∙◌, Some, ap₂, get_or, inr, sym, arith}
use Rattle.std.proofs.lemmas.Bool.{cond-true}
use Rattle.aig_graph.specs.declared.graph.Latch.{Latch}
use Rattle.aig_graph.specs.declared.graph.Reset.{Reset}
use Rattle.ascii_file.specs.declared.raw.RawLatch.{RawLatch}
use Rattle.aag_text.specs.Numbering.{is_placed, placed, placed_latch}
use Rattle.aag_text.proofs.CollectingLaws.{known_some, made_all, made_more, latch_unknown, has_room, made_none}
use Rattle.aag_text.proofs.circuit.numbering.latches.Goals as goal

abbrev latch_with : ℕ → Reset → Latch
latch_with next reset = record { next = next; reset = reset }

pub returns-in_default : goal.returns-in_default
returns-in_default c = inr (latch_unknown c.args.places.now c.args.count c.args.raws.now c.loop-latch.latch-index (record { current = 0; next = 0; reset = 0 }) _ c.loop-latch-test.true c.in_default.ensures)

pub loop-latch-init : goal.loop-latch-init
loop-latch-init c = record { room = omega (arith, c.in_ok-found.ensures.exact); filled = made_none (λ (latch : RawLatch). is_placed c.args.places.now c.args.count latch.next) (placed_latch c.args.places.now) c.args.raws.now _ c.in_ok-found.ensures.items }

pub push_reserved-requires : goal.push_reserved-requires
push_reserved-requires c = omega (arith, has_room (placed_latch c.args.places.now) c.args.raws.now c.loop-latch.latch-index _ _ c.loop-latch-test.true c.loop-latch.invariant.room c.loop-latch.invariant.filled.made_of)

pub loop-latch-preserved : goal.loop-latch-preserved
loop-latch-preserved c =
    record {
      room = omega (arith, c.loop-latch.invariant.room, c.push_reserved.ensures.capacity);
      filled =
          let raw : RawLatch = get_or c.args.raws.now c.loop-latch.latch-index (record { current = 0; next = 0; reset = 0 }) in
          let parts = known_some (is_placed c.args.places.now c.args.count raw.next) (placed c.args.places.now raw.next) c.in-Some.next c.in-Some.ensures in
          made_more (λ (latch : RawLatch). is_placed c.args.places.now c.args.count latch.next) (placed_latch c.args.places.now) c.args.raws.now c.loop-latch.latch-index (record { current = 0; next = 0; reset = 0 })
          (latch_with c.in-Some.next c.reset_of.result) c.loop-latch.found.items c.push_reserved.new.self.items c.loop-latch-test.true c.loop-latch.invariant.filled
          (ap₂ (λ (next : ℕ) (reset : Reset). Some (latch_with next reset)) parts.1 c.reset_of.ensures ∙ sym (cond-true _ _ _ parts.0)) c.push_reserved.ensures.items;
    }

pub returns : goal.returns
returns c = made_all (λ (latch : RawLatch). is_placed c.args.places.now c.args.count latch.next) (placed_latch c.args.places.now) c.args.raws.now c.loop-latch.latch-index c.loop-latch.found.items c.loop-latch-test.false c.loop-latch.invariant.filled
