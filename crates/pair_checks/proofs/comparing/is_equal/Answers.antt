use Rattle.std.proofs.Common.{ℕ, ◌≡◌, true, IfOk, subst}
use Rattle.aig_graph.specs.Gates.{AreEqualIn, gates_of}
use Rattle.gate_sharing.specs.Copies.{copy_of}
use Rattle.pair_checks.proofs.comparing.is_equal.Goals as goal

pub returns : goal.returns
returns c =
    subst (λ (n : ℕ). IfOk c.equal_by_probing.result (λ equal. equal ≡ true → AreEqualIn (gates_of c.args.pair.now.graph) n (copy_of c.args.pair.now.first c.args.first))) c.literal-theirs.ensures
    (subst (λ (n : ℕ). IfOk c.equal_by_probing.result (λ equal. equal ≡ true → AreEqualIn (gates_of c.args.pair.now.graph) c.literal-theirs.result n)) c.literal-ours.ensures c.equal_by_probing.ensures)
