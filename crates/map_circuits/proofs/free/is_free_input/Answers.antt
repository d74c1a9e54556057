use Rattle.std.proofs.Common.{ℕ, ◌∙◌, ◌+◌, ◌/◌, ap, false, sym}
use Rattle.aig_graph.specs.Graph.{Graph, is_free_latch, latch_at}
use Rattle.map_circuits.proofs.FreeLaws.{free-input}
use Rattle.map_circuits.proofs.free.is_free_input.Goals as goal

pub returns-in-Some : goal.returns-in-Some
returns-in-Some c =
    let g : Graph = c.args.first.now in
    free-input g c.args.code c.latch.result c.is_free.result c.if-code-lt2.false c.if-code-eq1.false (c.latch.ensures ∙ ap (λ (n : ℕ). latch_at g (n + c.args.code / 2)) c.inputs.ensures.value)
    (c.is_free.ensures ∙ sym (ap is_free_latch c.in-Some.is))

pub returns-in-None : goal.returns-in-None
returns-in-None c =
    let g : Graph = c.args.first.now in
    free-input g c.args.code c.latch.result false c.if-code-lt2.false c.if-code-eq1.false (c.latch.ensures ∙ ap (λ (n : ℕ). latch_at g (n + c.args.code / 2)) c.inputs.ensures.value)
    (sym (ap is_free_latch c.in-None.is))
