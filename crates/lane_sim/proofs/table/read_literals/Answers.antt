use Rattle.std.proofs.Common.{ℕ, Bool, List, [], ◌∷◌, ◌++◌, ◌∙◌, ap, ap₂, map, sym}
use Rattle.std.proofs.lemmas.List.{map_more, map_push, take_all}
use Rattle.aig_graph.specs.Graph.{variable}
use Rattle.aig_graph.specs.Value.{signed}
use Rattle.lane_sim.specs.Lanes.{lane, held}
use Rattle.lane_sim.specs.Blocks.{row_in}
use Rattle.lane_sim.proofs.table.read_literals.Goals as goal

pub loop-lit-preserved : goal.loop-lit-preserved
loop-lit-preserved c = λ k h.
    let f : ℕ → Bool = λ lit. signed lit (held c.args.table.now (variable lit) k) in
    ap (row_in k) c.in_ok-push.ensures.items ∙ map_push (λ (lanes : List ℕ). lane lanes k) c.loop-lit.row.items c.literal_lanes.result
    ∙ ap₂ (λ xs x. xs ++ x ∷ []) (c.loop-lit.invariant k h) (c.literal_lanes.ensures k h ∙ ap f c.lit-item.is)
    ∙ sym (map_more f c.args.literals.now c.loop-lit.lit-index c.lit-item.result c.loop-lit-test.true)

pub returns : goal.returns
returns c = λ k h.
    let f : ℕ → Bool = λ lit. signed lit (held c.args.table.now (variable lit) k) in
    ap (row_in k) c.from_vec.ensures ∙ c.loop-lit.invariant k h ∙ ap (map f) (take_all _ _ c.loop-lit-test.false)
