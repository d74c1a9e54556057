use Rattle.std.proofs.Common.{ℕ, ◌∙◌, arith, ap, sym, zero-add, length}
use Rattle.aig_graph.proofs.TableLaws.{entry, table-end, table-none, length-table}
use Rattle.witness_circuits.specs.Naming.{place_below}
use Rattle.witness_circuits.proofs.placing.first_places.Goals as goal

pub loop-place-init : goal.loop-place-init
loop-place-init c = record { room = omega (arith, c.in_ok-places.ensures.exact); filled = c.in_ok-places.ensures.items ∙ sym (table-none 0 _) }

pub push_reserved-requires : goal.push_reserved-requires
push_reserved-requires c =
    omega (arith, c.loop-place-test.true, c.loop-place.invariant.room, ap (λ xs. length xs) c.loop-place.invariant.filled, length-table 0 c.loop-place.place (place_below c.args.count))

pub loop-place-preserved : goal.loop-place-preserved
loop-place-preserved c =
    record {
      room = omega (arith, c.loop-place.invariant.room, c.push_reserved.ensures.capacity);
      filled =
          let k : ℕ = c.loop-place.place in
          entry 0 k (place_below c.args.count) c.loop-place.places.items c.push_reserved.new.self.items c.place_below.result c.loop-place.invariant.filled c.push_reserved.ensures.items
          (c.place_below.ensures ∙ ap (place_below c.args.count) (sym (zero-add k)));
    }

pub returns : goal.returns
returns c = table-end 0 c.loop-place.place c.args.many (place_below c.args.count) c.loop-place.places.items (omega (arith, c.loop-place.auto.place-end)) (omega (arith, c.loop-place-test.false)) c.loop-place.invariant.filled
