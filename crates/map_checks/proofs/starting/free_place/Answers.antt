use Rattle.std.proofs.Common.{◌≡◌, ◌∙◌, ◌-◌, ◌<◌, ap, sym, arith, ℕ, List, Some, length, get_or, zero-add}
use Rattle.aig_graph.specs.Graph.{Graph, first_latch, free_before, latch_at, variable}
use Rattle.aig_graph.proofs.KindLaws.{LatchPlace, latch_place}
use Rattle.aig_graph.proofs.TableLaws.{length-table, table-at}
use Rattle.map_checks.proofs.FactLaws.{even-of}
use Rattle.map_checks.proofs.starting.free_place.Goals as goal

pub bounds-places-var : goal.bounds-places-var
bounds-places-var c =
    let g : Graph = c.args.aig.now in
    let at : latch_at g (variable c.args.lit) ≡ Some c.in_ok-latch.latch = ap (latch_at g) (sym c.var.ensures.variable) ∙ sym c.latch.ensures ∙ c.in_ok-latch.was in
    let place : LatchPlace g (variable c.args.lit) c.in_ok-latch.latch = latch_place g (variable c.args.lit) c.in_ok-latch.latch at in
    let long : length c.args.places.now ≡ length g.latches = ap (λ (xs : List ℕ). length xs) c.requires ∙ length-table 0 (length g.latches) (free_before g) in
    omega (arith, place.from, place.below, c.var-2.ensures.variable, c.first_latch.ensures.value, long)

pub returns : goal.returns
returns c =
    let g : Graph = c.args.aig.now in
    let at : latch_at g (variable c.args.lit) ≡ Some c.in_ok-latch.latch = ap (latch_at g) (sym c.var.ensures.variable) ∙ sym c.latch.ensures ∙ c.in_ok-latch.was in
    let place : LatchPlace g (variable c.args.lit) c.in_ok-latch.latch = latch_place g (variable c.args.lit) c.in_ok-latch.latch at in
    let position : ℕ = variable c.args.lit - first_latch g in
    let here : c.var-2.result - c.first_latch.result ≡ position = omega (arith, c.var-2.ensures.variable, c.first_latch.ensures.value) in
    let within : position < length g.latches = omega (arith, place.from, place.below) in
    record {
      position = position;
      latch = c.in_ok-latch.latch;
      there = place.there;
      free = grind (arith, c.ne.ensures, c.if-ne.false, c.if-ne.ensures);
      literal = omega (arith, place.from, even-of c.args.lit c.is_negated.result c.is_negated.ensures c.if-is_negated.false);
      place_is =
          ap (λ (n : ℕ). get_or c.args.places.now n 0) here
          ∙ ap (λ (xs : List ℕ). get_or xs position 0) c.requires
          ∙ table-at 0 (length g.latches) (free_before g) position 0 within
          ∙ ap (free_before g) (zero-add position);
    }
