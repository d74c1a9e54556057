use Rattle.std.proofs.Common.{◌≡◌, ◌∙◌, ◌<◌, not, true, subst, sym, arith, ap}
use Rattle.aig_graph.specs.Graph.{Graph, first_gate, variable}
use Rattle.gate_sharing.specs.Equal.{Equal, IsRight}
use Rattle.map_checks.specs.Images.{in_first}
use Rattle.map_checks.proofs.ImageLaws.{leaf-value}
use Rattle.map_checks.proofs.cases.assume_case.Goals as goal
use Rattle.map_checks.proofs.cases.assume_case.Goals.{then-var-first_gate+in_ok-assume, else-var-first_gate}

pub loop-lit-preserved : goal.loop-lit-preserved
loop-lit-preserved c = λ k values x s views ones.
    let g : Graph = c.args.first.now.aig in
    let right : IsRight c.loop-lit.equal values = c.loop-lit.invariant k values x s views ones in
    elim c.if-var-first_gate.branch [
      | then-var-first_gate+in_ok-assume w ↦ (
          let less : variable c.lit-item.result < first_gate g = omega (arith, w.if-var-first_gate.true, c.var.ensures.variable, c.first_gate.ensures.value, ap first_gate c.aig.ensures.value) in
          let is : in_first c.args.first.now x s c.lit-item.result ≡ true = ap (in_first c.args.first.now x s) c.lit-item.is ∙ ones c.loop-lit.lit-index c.lit-item.result c.loop-lit-test.true in
          let one : values 1 ≡ true = views.respects.negation 0 ∙ ap not views.respects.constant in
          let same : values c.lit-item.result ≡ values 1 = leaf-value k c.args.equal.now g c.aig.ensures.graph x s values views c.lit-item.result less ∙ is ∙ sym one in
          subst (λ (e : Equal). IsRight e values) (sym w.equal-is) (w.in_ok-assume.ensures values views.respects.negation same right))
      | else-var-first_gate w ↦ subst (λ (e : Equal). IsRight e values) (sym w.equal-is) right
    ]
