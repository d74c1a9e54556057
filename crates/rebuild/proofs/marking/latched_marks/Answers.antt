use Rattle.std.proofs.Common.{◌≡◌, ◌∙◌, ap, arith, sym, refl, length, List, Some, slice_get}
use Rattle.aig_graph.specs.Graph.{first_latch, latches_and_gates}
use Rattle.aig_graph.specs.declared.graph.Latch.{Latch}
use Rattle.rebuild.proofs.BuildLaws.{latch-there}
use Rattle.rebuild.proofs.MarkLaws.{latched_by-gate, latched_by-latch}
use Rattle.rebuild.specs.Entries.{latched_by}
use Rattle.aig_graph.proofs.TableLaws.{entry, length-table, table-end, table-none}
use Rattle.rebuild.proofs.marking.latched_marks.Goals as goal

pub loop-k-init : goal.loop-k-init
loop-k-init c = record {
  room = omega (arith, c.in_ok-latched.ensures.exact);
  within = omega arith;
  filled = c.in_ok-latched.ensures.items ∙ sym (table-none (first_latch c.args.aig.now) (latched_by c.args.aig.now c.args.inside.now c.args.marks.now));
}

pub bounds-marks-k : goal.bounds-marks-k
bounds-marks-k c = omega (arith, c.requires.marks, c.loop-k-test.true, ap (λ (xs : List Latch). length xs) c.latches-latches.ensures.value)

pub push_reserved-requires : goal.push_reserved-requires
push_reserved-requires c =
    omega (
      arith,
      c.requires.marks,
      c.loop-k-test.true,
      ap (λ (xs : List Latch). length xs) c.latches-latches.ensures.value,
      ap length c.loop-k.invariant.filled,
      length-table (first_latch c.args.aig.now) c.loop-k.k (latched_by c.args.aig.now c.args.inside.now c.args.marks.now),
      c.loop-k.invariant.room,
    )

pub loop-k-preserved : goal.loop-k-preserved
loop-k-preserved c =
    let g = c.args.aig.now in
    let there : slice_get g.latches c.loop-k.k ≡ Some c.index-latches-k.result =
    latch-there g g c.latches-latches.result.now c.loop-k.k c.index-latches-k.result c.latches-latches.ensures.value refl c.loop-k-test.true c.index-latches-k.is in
    record {
      room = omega (arith, c.loop-k.invariant.room, c.push_reserved.ensures.capacity);
      within = omega (arith, c.loop-k-test.true, ap (λ (xs : List Latch). length xs) c.latches-latches.ensures.value);
      filled = entry (first_latch g) c.loop-k.k (latched_by g c.args.inside.now c.args.marks.now) c.loop-k.latched.items c.push_reserved.new.self.items c.stays.result
          c.loop-k.invariant.filled c.push_reserved.ensures.items (c.stays.ensures ∙ sym (latched_by-latch g c.args.inside.now c.args.marks.now c.loop-k.k c.index-latches-k.result there));
    }

pub loop-k-2-init : goal.loop-k-2-init
loop-k-2-init c =
    let g = c.args.aig.now in
    let long = ap (λ (xs : List Latch). length xs) c.latches-latches.ensures.value in
    record {
      room = c.loop-k.invariant.room;
      from = omega (arith, long);
      within = omega (arith, long, c.requires.marks);
      filled = table-end (first_latch g) c.loop-k.k (length c.latches-latches.result.now) (latched_by g c.args.inside.now c.args.marks.now) c.loop-k.latched.items
          (omega (arith, long, c.loop-k.invariant.within)) (omega (arith, c.loop-k-test.false)) c.loop-k.invariant.filled;
    }

pub bounds-inside-k : goal.bounds-inside-k
bounds-inside-k c = omega (arith, c.requires.inside, c.requires.marks, c.loop-k-2-test.true)

pub push_reserved-requires-in-loop-k-2 : goal.push_reserved-requires-in-loop-k-2
push_reserved-requires-in-loop-k-2 c =
    omega (
      arith,
      c.loop-k-2-test.true,
      ap length c.loop-k-2.invariant.filled,
      length-table (first_latch c.args.aig.now) c.loop-k-2.k (latched_by c.args.aig.now c.args.inside.now c.args.marks.now),
      c.loop-k-2.invariant.room,
    )

pub loop-k-2-preserved : goal.loop-k-2-preserved
loop-k-2-preserved c =
    let g = c.args.aig.now in
    record {
      room = omega (arith, c.loop-k-2.invariant.room, c.push_reserved-in-loop-k-2.ensures.capacity);
      from = omega (arith, c.loop-k-2.invariant.from);
      within = omega (arith, c.loop-k-2-test.true);
      filled = entry (first_latch g) c.loop-k-2.k (latched_by g c.args.inside.now c.args.marks.now) c.loop-k-2.latched.items c.push_reserved-in-loop-k-2.new.self.items c.is_border.result
          c.loop-k-2.invariant.filled c.push_reserved-in-loop-k-2.ensures.items (c.is_border.ensures ∙ sym (latched_by-gate g c.args.inside.now c.args.marks.now c.loop-k-2.k c.loop-k-2.invariant.from));
    }

pub returns : goal.returns
returns c =
    let g = c.args.aig.now in
    table-end (first_latch g) c.loop-k-2.k (latches_and_gates g) (latched_by g c.args.inside.now c.args.marks.now) c.loop-k-2.latched.items
    (omega (arith, c.requires.marks, c.loop-k-2.invariant.within)) (omega (arith, c.requires.marks, c.loop-k-2-test.false)) c.loop-k-2.invariant.filled
