use Rattle.std.proofs.Common.{◌≡◌, ◌∙◌, ◌+◌, ◌*◌, ◌≤◌, ap, sym, refl, subst, arith, ℕ, List, length}
use Rattle.aig_graph.specs.declared.graph.Latch.{Latch}
use Rattle.aig_graph.specs.Graph.{Graph, first_latch, variable}
use Rattle.gate_sharing.specs.Copies.{Copy}
use Rattle.map_checks.specs.Images.{StandForLatches}
use Rattle.map_checks.proofs.ImageLaws.{each-push}
use Rattle.map_checks.proofs.leaves.latch_leaves.Goals as goal

pub loop-place-preserved : goal.loop-place-preserved
loop-place-preserved c =
    let g : Graph = c.args.aig.now in
    let old : List ℕ = c.loop-place.literals.items in
    let k : ℕ = c.loop-place.place in
    let own : ℕ = c.new.result in
    let at : own ≡ 2 * (first_latch g + k) = omega (arith, c.new.ensures, c.first_latch-first_latch.ensures.value) in
    record {
      right = λ values negated right. c.find.ensures.right values negated (c.loop-place.invariant.right values negated right);
      long = omega (arith, c.in_ok-push.ensures.len, c.loop-place.invariant.long);
      below = λ j less.
          each-push (λ i lit. variable lit ≤ first_latch g + i) old c.push.new.self.items c.find.result c.in_ok-push.ensures.items (λ i h. c.loop-place.invariant.below i (omega (arith, h, c.loop-place.invariant.long)))
          (omega (arith, c.find.ensures.below, at, c.loop-place.invariant.long)) j (omega (arith, less, c.loop-place.invariant.long));
      values = λ values negated right j less.
          let last : 2 * (first_latch g + k) ≡ 2 * (first_latch g + length old) = omega (arith, c.loop-place.invariant.long) in
          each-push (λ i lit. values lit ≡ values (2 * (first_latch g + i))) old c.push.new.self.items c.find.result c.in_ok-push.ensures.items
          (λ i h. c.loop-place.invariant.values values negated right i (omega (arith, h, c.loop-place.invariant.long)))
          (c.find.ensures.value values negated (c.loop-place.invariant.right values negated right) ∙ ap values (at ∙ last)) j (omega (arith, less, c.loop-place.invariant.long));
    }

pub returns-clause-leaves : goal.returns-clause-leaves
returns-clause-leaves c =
    let g : Graph = c.args.aig.now in
    let end : c.loop-place.place ≡ length g.latches =
    grind (arith, c.loop-place-test.false, c.loop-place.auto.place-end, ap (λ (xs : List Latch). length xs) c.latches-2.ensures.value) in
    subst (λ (p : Copy). StandForLatches c.args.equal.now g c.args.first p) (sym c.of.ensures) (record {
      from = refl;
      long = c.loop-place.invariant.long ∙ end;
      below = λ j less. c.loop-place.invariant.below j (omega (arith, less, end));
      values = λ values negated right j less. c.loop-place.invariant.values values negated right j (omega (arith, less, end));
    })
