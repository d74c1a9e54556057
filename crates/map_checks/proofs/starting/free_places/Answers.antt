use Rattle.std.proofs.Common.{◌≡◌, ◌∙◌, List, Some, ap, arith, sym, refl, length, slice_get, ℕ, zero-add}
use Rattle.std.proofs.lemmas.Option.{slice_get_read}
use Rattle.aig_graph.specs.declared.graph.Latch.{Latch}
use Rattle.aig_graph.specs.Graph.{Graph, free_before}
use Rattle.aig_graph.proofs.FreeLaws.{free-more}
use Rattle.aig_graph.proofs.TableLaws.{entry, table-end, table-none}
use Rattle.map_checks.proofs.starting.free_places.Goals as goal

pub loop-latch-init : goal.loop-latch-init
loop-latch-init c = record {
  places = c.in_ok-places.ensures.items ∙ sym (table-none 0 (free_before c.args.aig.now));
  free = refl;
}

pub loop-latch-preserved : goal.loop-latch-preserved
loop-latch-preserved c =
    let g : Graph = c.args.aig.now in
    let k : ℕ = c.loop-latch.latch-index in
    let items : List Latch = c.latches-latch-items.result.now in
    let latch : Latch = c.latch-item.result in
    let there : slice_get g.latches k ≡ Some latch =
    ap (λ (xs : List Latch). slice_get xs k) (sym c.latches-latch-items.ensures.value) ∙ slice_get_read items (length items) k latch refl c.loop-latch-test.true c.latch-item.is in
    record {
      places = entry 0 k (free_before g) c.loop-latch.places.items c.push.new.self.items c.loop-latch.free c.loop-latch.invariant.places c.in_ok-push.ensures.items (c.loop-latch.invariant.free ∙ ap (free_before g) (sym (zero-add k)));
      free = free-more g k c.loop-latch.free c.one_if_free-free.result latch there c.loop-latch.invariant.free c.one_if_free-free.ensures.value;
    }

pub returns : goal.returns
returns c =
    let g : Graph = c.args.aig.now in
    let many = ap (λ (xs : List Latch). length xs) c.latches-latch-items.ensures.value in
    table-end 0 c.loop-latch.latch-index (length g.latches) (free_before g) c.loop-latch.places.items (omega (arith, c.loop-latch.auto.latch-index-end, many)) (omega (arith, c.loop-latch-test.false, many))
    c.loop-latch.invariant.places
