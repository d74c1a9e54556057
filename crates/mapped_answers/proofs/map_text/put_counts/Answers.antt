use Rattle.std.proofs.Common.{ℕ, ◌∙◌, List, length, ap, subst}
use Rattle.aig_graph.specs.declared.properties.Props.{Props}
use Rattle.aig_graph.specs.Graph.{Graph}
use Rattle.counted_io.specs.Buffered.{Puts}
use Rattle.counted_io.specs.Line.{line}
use Rattle.mapped_answers.proofs.MapTextLaws.{AreCountsOf, header-with, header-without}
use Rattle.mapped_answers.proofs.map_text.put_counts.Goals as goal

pub returns-then-constraints-eq0 : goal.returns-then-constraints-eq0
returns-then-constraints-eq0 g c =
    let m = c.args.map.now in
    let are : AreCountsOf m c.known.ensures.latches c.known.ensures.plain c.from-inputs.result c.from-gates.result c.len-outputs.result c.len-constraints.result =
    record {
      inputs_are = c.from-inputs.ensures ∙ c.inputs.ensures ∙ ap (λ (g : Graph). g.inputs) c.gates.ensures;
      gates_are = c.from-gates.ensures ∙ c.count.ensures ∙ ap (λ (g : Graph). length g.gates) c.gates-2.ensures;
      outputs_are = c.len-outputs.ensures ∙ ap (λ (p : Props). length p.outputs) c.props.ensures;
      constraints_are = c.len-constraints.ensures ∙ ap (λ (p : Props). length p.constraints) c.props-2.ensures;
    } in
    subst (λ (ns : List ℕ). Puts g.W.CountedWrite.output c.args.out.now c.put_line.new.self (line ns))
    (header-without m c.known.ensures.latches c.known.ensures.plain c.from-inputs.result c.from-gates.result c.len-outputs.result c.len-constraints.result are c.if-constraints-eq0.true) c.put_line.ensures

pub returns-else-constraints-eq0 : goal.returns-else-constraints-eq0
returns-else-constraints-eq0 g c =
    let m = c.args.map.now in
    let are : AreCountsOf m c.known.ensures.latches c.known.ensures.plain c.from-inputs.result c.from-gates.result c.len-outputs.result c.len-constraints.result =
    record {
      inputs_are = c.from-inputs.ensures ∙ c.inputs.ensures ∙ ap (λ (g : Graph). g.inputs) c.gates.ensures;
      gates_are = c.from-gates.ensures ∙ c.count.ensures ∙ ap (λ (g : Graph). length g.gates) c.gates-2.ensures;
      outputs_are = c.len-outputs.ensures ∙ ap (λ (p : Props). length p.outputs) c.props.ensures;
      constraints_are = c.len-constraints.ensures ∙ ap (λ (p : Props). length p.constraints) c.props-2.ensures;
    } in
    subst (λ (ns : List ℕ). Puts g.W.CountedWrite.output c.args.out.now c.put_line-else-constraints-eq0.new.self (line ns))
    (header-with m c.known.ensures.latches c.known.ensures.plain c.from-inputs.result c.from-gates.result c.len-outputs.result c.len-constraints.result are c.if-constraints-eq0.false) c.put_line-else-constraints-eq0.ensures
