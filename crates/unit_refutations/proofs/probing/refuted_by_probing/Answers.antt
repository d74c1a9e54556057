use Rattle.std.proofs.Common.{rules, ℕ, ◌≡◌, List, sym, subst}
use Rattle.std.proofs.lemmas.Result.{IfOk-weaker}
use Rattle.aig_graph.specs.Gates.{AreOne}
use Rattle.unit_refutations.proofs.probing.refuted_by_probing.Goals as goal

pub returns : goal.returns
returns c = IfOk-weaker c.refuted.result _ _ (λ refuted refutes is values respects all.
    let same : c.extend_from_slice.new.self.items ≡ c.args.lits.now = search rules in
    let begun = subst (λ (xs : List ℕ). AreOne values xs) (sym same) all in
    refutes is values respects
    (subst (λ (xs : List ℕ). AreOne values xs) (sym c.as_slice.ensures.value) (c.in_ok-probe.ensures values respects begun))) c.refuted.ensures
