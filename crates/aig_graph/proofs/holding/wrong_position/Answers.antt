use Rattle.std.proofs.Common.{ℕ, ◌≡◌, ◌∙◌, length, ap, subst}
use Rattle.std.specs.Option.{MatchOption}
use Rattle.aig_graph.specs.Graph.{Graph}
use Rattle.aig_graph.specs.Keep.{AreLatches, IsFirstNoLatch}
use Rattle.aig_graph.proofs.holding.wrong_position.Goals as goal

pub returns : goal.returns
returns c =
    let many : length c.latches.result.now ≡ length c.args.circuit.now.aig.latches = ap length (c.latches.ensures.value ∙ ap (λ (g : Graph). g.latches) c.aig.ensures.value) in
    subst (λ (n : ℕ). MatchOption c.first_no_latch.result (AreLatches n c.args.positions.now) (IsFirstNoLatch n c.args.positions.now)) many c.first_no_latch.ensures
