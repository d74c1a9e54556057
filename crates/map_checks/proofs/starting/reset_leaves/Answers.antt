use Rattle.std.proofs.Common.{ℕ, ◌+◌, ◌*◌, ◌≡◌, ◌∙◌, List, Some, ap, ap₂, arith, get_or, length, slice_get, sym}
use Rattle.std.proofs.lemmas.Option.{get_or_from_slice_get}
use Rattle.aig_graph.specs.declared.graph.Latch.{Latch}
use Rattle.aig_graph.specs.Graph.{Graph, first_latch}
use Rattle.aig_graph.specs.Value.{opening_literal}
use Rattle.map_checks.proofs.ImageLaws.{each-push}
use Rattle.map_checks.proofs.starting.reset_leaves.Goals as goal

pub loop-place-preserved : goal.loop-place-preserved
loop-place-preserved c =
    let g : Graph = c.args.aig.now in
    let old : List ℕ = c.loop-place.literals.items in
    let k : ℕ = c.loop-place.place in
    let long : length old ≡ k = c.loop-place.invariant.long in
    let own : c.new-own.result ≡ 2 * (first_latch g + length old) = omega (arith, c.new-own.ensures, c.first_latch-first.ensures.value, long) in
    let read : c.latch-item.result ≡ get_or g.latches (length old) c.latch-item.result =
    c.latch-item.is ∙ ap₂ (λ (xs : List Latch) (i : ℕ). get_or xs i c.latch-item.result) c.latches-latch-items.ensures.value (sym long) in
    record {
      long = omega (arith, c.in_ok-push.ensures.len, long);
      each = λ j latch less.
          each-push (λ i lit. (l : Latch) → slice_get g.latches i ≡ Some l → lit ≡ opening_literal l.reset (2 * (first_latch g + i))) old c.push.new.self.items c.opening_literal.result
          c.in_ok-push.ensures.items (λ i h l. c.loop-place.invariant.each i l (omega (arith, h, long)))
          (λ l there. c.opening_literal.ensures
          ∙ ap₂ (λ (x : Latch) (lit : ℕ). opening_literal x.reset lit) (read ∙ get_or_from_slice_get g.latches (length old) l c.latch-item.result there) own)
          j (omega (arith, less, long)) latch;
    }

pub overflow_add-first : goal.overflow_add-first
overflow_add-first c =
    omega (
      arith,
      c.first_latch-first.ensures.value,
      c.first_latch-first.ensures.graph.small,
      c.loop-place-test.true,
      ap (λ (xs : List Latch). length xs) c.latches-latch-items.ensures.value,
    )

pub new-own-requires : goal.new-own-requires
new-own-requires c =
    omega (
      arith,
      c.first_latch-first.ensures.value,
      c.first_latch-first.ensures.graph.small,
      c.loop-place-test.true,
      ap (λ (xs : List Latch). length xs) c.latches-latch-items.ensures.value,
    )
