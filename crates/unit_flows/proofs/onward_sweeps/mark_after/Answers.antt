use Rattle.std.proofs.Common.{◌+◌, ◌∙◌, ℕ, ap, sym}
use Rattle.aig_graph.specs.Graph.{first_latch}
use Rattle.unit_flows.proofs.MarkLaws.{within-after_at}
use Rattle.unit_flows.proofs.onward_sweeps.mark_after.Goals as goal

pub returns-clause-within : goal.returns-clause-within
returns-clause-within c = λ b a xs left within.
    let first = c.first_latch-first.ensures.value ∙ ap first_latch c.aig.ensures.value in
    within-after_at _ _ _ _ c.args.after.now c.mark_if.new.marks xs c.waits-is_left.result b a first (ap (λ (n : ℕ). n + c.args.place) first) within c.mark_if.ensures (λ t. left (sym c.waits-is_left.ensures ∙ t))
