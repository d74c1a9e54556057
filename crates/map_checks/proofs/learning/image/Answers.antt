use Rattle.std.proofs.Common.{subst, arith}
use Rattle.std.proofs.lemmas.Result.{IfOk-weaker, on_ok_weaker}
use Rattle.aig_graph.specs.Graph.{Graph}
use Rattle.gate_sharing.specs.Copies.{IsCopy}
use Rattle.map_checks.proofs.ImageLaws.{latches-shared, view-map}
use Rattle.map_checks.proofs.learning.image.Goals as goal

pub copy-requires-clause-within : goal.copy-requires-clause-within
copy-requires-clause-within c = latches-shared c.args.shared.now c.args.equal.now c.args.first.now 1 c.in_ok-leaves.leaves c.requires.after (omega arith) c.in_ok-leaves.ensures.leaves

pub returns-clause-right : goal.returns-clause-right
returns-clause-right c = on_ok_weaker c.copy.result (λ stays values negated right. stays values negated (c.in_ok-leaves.ensures.right values negated right)) c.copy.ensures.right

pub returns-clause-view : goal.returns-clause-view
returns-clause-view c =
    IfOk-weaker c.copy.result _ _ (λ copied is.
    view-map c.copy.new.shared c.args.equal.now c.latch_leaves.new.equal c.args.first.now c.args.map.now c.in_ok-leaves.leaves copied c.aig.ensures.graph c.requires.inputs c.requires.latches
    c.in_ok-leaves.ensures.leaves c.in_ok-leaves.ensures.right (subst (λ (g : Graph). IsCopy c.copy.new.shared c.latch_leaves.new.equal g c.in_ok-leaves.leaves copied) c.aig.ensures.value is)) c.copy.ensures.copies
