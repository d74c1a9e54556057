use Rattle.std.proofs.Common.{◌≡◌, ◌∙◌, ap, subst, arith, ℕ}
use Rattle.std.proofs.lemmas.Result.{IfOk-weaker, on_ok_weaker}
use Rattle.aig_graph.specs.Graph.{Graph, first_latch}
use Rattle.gate_sharing.specs.Copies.{IsCopy}
use Rattle.map_checks.specs.Images.{StandForLatches}
use Rattle.map_checks.proofs.ImageLaws.{latches-shared, view-first}
use Rattle.map_checks.proofs.sides.first_side.Goals as goal

pub copy-requires-clause-within : goal.copy-requires-clause-within
copy-requires-clause-within c =
    let g : Graph = c.args.first.now.aig in
    let at : c.first_latch.result ≡ first_latch g = c.first_latch.ensures.value ∙ ap first_latch c.aig-2.ensures.value in
    let are : StandForLatches c.args.equal.now g (first_latch g) c.in_ok-leaves.leaves =
    subst (λ (n : ℕ). StandForLatches c.args.equal.now g n c.in_ok-leaves.leaves) at (subst (λ (h : Graph). StandForLatches c.args.equal.now h c.first_latch.result c.in_ok-leaves.leaves) c.aig.ensures.value c.in_ok-leaves.ensures.leaves) in
    latches-shared c.args.shared.now c.args.equal.now g (first_latch g) c.in_ok-leaves.leaves c.requires.after (omega arith) are

pub returns-clause-right : goal.returns-clause-right
returns-clause-right c = on_ok_weaker c.copy.result (λ stays values negated right. stays values negated (c.in_ok-leaves.ensures.right values negated right)) c.copy.ensures.right

pub returns-clause-view : goal.returns-clause-view
returns-clause-view c =
    let g : Graph = c.args.first.now.aig in
    let at : c.first_latch.result ≡ first_latch g = c.first_latch.ensures.value ∙ ap first_latch c.aig-2.ensures.value in
    let are : StandForLatches c.args.equal.now g (first_latch g) c.in_ok-leaves.leaves =
    subst (λ (n : ℕ). StandForLatches c.args.equal.now g n c.in_ok-leaves.leaves) at (subst (λ (h : Graph). StandForLatches c.args.equal.now h c.first_latch.result c.in_ok-leaves.leaves) c.aig.ensures.value c.in_ok-leaves.ensures.leaves) in
    IfOk-weaker c.copy.result _ _ (λ copied is.
    view-first c.copy.new.shared c.args.equal.now c.latch_leaves.new.equal c.args.first.now c.in_ok-leaves.leaves copied c.aig.ensures.graph are c.in_ok-leaves.ensures.right
    (subst (λ (h : Graph). IsCopy c.copy.new.shared c.latch_leaves.new.equal h c.in_ok-leaves.leaves copied) c.aig-3.ensures.value is)) c.copy.ensures.copies
