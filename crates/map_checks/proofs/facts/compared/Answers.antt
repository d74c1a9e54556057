use Rattle.std.proofs.Common.{◌∙◌, ap, sym, arith}
use Rattle.aig_graph.specs.Graph.{gate_at}
use Rattle.map_checks.proofs.FactLaws.{even-of, is-compared, odd-of}
use Rattle.map_checks.proofs.facts.compared.Goals as goal

pub returns-then-eq-2 : goal.returns-then-eq-2
returns-then-eq-2 c =
    is-compared c.args.aig.now c.known.ensures c.args.lit c.in_ok-both.both c.in_ok-above.above c.in_ok-below.below
    (even-of c.args.lit c.is_negated.result c.is_negated.ensures c.if-is_negated.false)
    (odd-of c.in_ok-both.both.rhs0 c.is_negated-2.result c.is_negated-2.ensures (grind (arith, c.if-not-is_negated.false)))
    (odd-of c.in_ok-both.both.rhs1 c.is_negated-else-not-is_negated.result c.is_negated-else-not-is_negated.ensures (grind (arith, c.if-not-is_negated-2.false)))
    (ap (gate_at c.args.aig.now) (sym c.var.ensures.variable) ∙ sym c.gate.ensures ∙ c.in_ok-both.was)
    (ap (gate_at c.args.aig.now) (sym c.var-2.ensures.variable) ∙ sym c.gate-2.ensures ∙ c.in_ok-above.was)
    (ap (gate_at c.args.aig.now) (sym c.var-3.ensures.variable) ∙ sym c.gate-3.ensures ∙ c.in_ok-below.was)
    c.not.result c.not-then-eq.result c.not-then-eq-2.result
    (grind (arith, c.eq.ensures, c.if-eq.true, c.if-eq.ensures)) (grind (arith, c.eq-then-eq.ensures, c.if-eq-2.true, c.if-eq-2.ensures))
    c.not.ensures.same_variable c.not.ensures.other_sign c.not-then-eq.ensures.same_variable c.not-then-eq.ensures.other_sign
    c.not-then-eq-2.ensures.same_variable c.not-then-eq-2.ensures.other_sign
