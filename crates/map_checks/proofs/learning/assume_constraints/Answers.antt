use Rattle.std.proofs.Common.{◌≡◌, ◌∙◌, ◌<◌, ap, sym, refl, subst, ℕ, List, Some, true, length, slice_get}
use Rattle.std.specs.List.{All}
use Rattle.std.proofs.lemmas.Option.{get_or_from_slice_get, slice_get_read}
use Rattle.aig_graph.specs.declared.properties.Props.{Props}
use Rattle.aig_graph.specs.Graph.{Graph, IsLiteralOf, variable, variables_end}
use Rattle.aig_graph.specs.Gates.{Respects, gates_of}
use Rattle.map_checks.proofs.learning.assume_constraints.Goals as goal

pub loop-constraint-preserved : goal.loop-constraint-preserved
loop-constraint-preserved c = λ values own negated respects follows ones right.
    let items : List ℕ = c.as_slice-constraint-items.result.now in
    let k : ℕ = c.loop-constraint.constraint-index in
    let lit : ℕ = c.constraint-item.result in
    let is : items ≡ c.args.map.now.props.constraints = c.as_slice-constraint-items.ensures ∙ ap (λ (p : Props). p.constraints) c.props.ensures.value in
    let there : slice_get items k ≡ Some lit = slice_get_read items (length items) k lit refl c.loop-constraint-test.true c.constraint-item.is in
    let each : All (λ l. own l ≡ true) items = subst (λ (ls : List ℕ). All (λ l. own l ≡ true) ls) (sym is) ones in
    let holds : own lit ≡ true = ap own (sym (get_or_from_slice_get items k lit 0 there)) ∙ each k 0 c.loop-constraint-test.true in
    let there_respects : Respects (gates_of c.aig.result.now) own = subst (λ (g : Graph). Respects (gates_of g) own) (sym c.aig.ensures.value) respects in
    let first : variable c.fact-a.result.0 < variables_end c.args.map.now.aig = subst (λ (g : Graph). IsLiteralOf g c.fact-a.result.0) c.aig.ensures.value c.fact-a.ensures.first in
    let second : variable c.fact-a.result.1 < variables_end c.args.map.now.aig = subst (λ (g : Graph). IsLiteralOf g c.fact-a.result.1) c.aig.ensures.value c.fact-a.ensures.second in
    let same : values c.literal.result ≡ values c.literal-in-loop-constraint.result =
    ap values c.literal.ensures ∙ follows c.fact-a.result.0 first ∙ c.fact-a.ensures.equal own there_respects holds
    ∙ sym (ap values c.literal-in-loop-constraint.ensures ∙ follows c.fact-a.result.1 second) in
    c.in_ok-is_new.ensures values negated same (c.loop-constraint.invariant values own negated respects follows ones right)
