use Rattle.std.proofs.Common.{ℕ, ◌≡◌, ◌∙◌, List, Option, ap, ap₂, subst, sym}
use Rattle.aig_graph.specs.Graph.{Graph}
use Rattle.witnesses.specs.declared.witness.Property.{Property}
use Rattle.witnesses.specs.declared.witness.Witness.{Witness}
use Rattle.witnesses.specs.Carrying.{carried}
use Rattle.witnesses.specs.Confirming.{settled_back, with_reached, IsConfirmation}
use Rattle.witnesses.specs.Found.{AreFound}
use Rattle.witnesses.specs.Runs.{run_of, settled_witness}
use Rattle.witnesses.proofs.confirming.confirm.Goals as goal

pub returns : goal.returns
returns c =
    let a = c.args.circuit.now in
    let b = c.args.retimed.now in
    let kept = c.args.kept.now in
    let w : Witness = c.args.witness in
    let wanted : Witness = settled_back a b kept w in
    let back : c.in_ok-back.back ≡ wanted =
    c.in_ok-back.ensures ∙ ap settled_witness (c.in_ok-carried.ensures ∙ ap₂ (λ (g h : Graph). carried g h kept w) c.aig.ensures.value c.aig-2.ensures.value) in
    let properties : c.as_slice-properties.result.now ≡ w.properties = c.as_slice-properties.ensures ∙ ap (λ (x : Witness). x.properties) back in
    let found : AreFound a (run_of a.aig wanted) c.as_slice-properties.result.now c.as_slice.result.now =
    subst (λ (xs : List (Option ℕ)). AreFound a (run_of a.aig wanted) c.as_slice-properties.result.now xs) (sym c.as_slice.ensures.value)
    (subst (λ (ps : List Property). AreFound a (run_of a.aig wanted) ps c.in_ok-found.found.items) (sym c.as_slice-properties.ensures)
    (subst (λ (x : Witness). AreFound a (run_of a.aig x) c.in_ok-back.back.properties c.in_ok-found.found.items) back c.in_ok-found.ensures.found)) in
    let there : AreFound b (run_of b.aig w) c.as_slice-properties.result.now c.as_slice-2.result.now =
    subst (λ (xs : List (Option ℕ)). AreFound b (run_of b.aig w) c.as_slice-properties.result.now xs) (sym c.as_slice-2.ensures.value)
    (subst (λ (ps : List Property). AreFound b (run_of b.aig w) ps c.in_ok-retimed_found.retimed_found.items) (sym properties) c.in_ok-retimed_found.ensures.found) in
    record {
      said = c.in_ok-said.said;
      is = c.with_reached.ensures ∙ ap (λ (x : Witness). with_reached x c.in_ok-said.said) back;
      agreed = subst (λ (ps : List Property). IsConfirmation a b (run_of a.aig wanted) (run_of b.aig w) ps c.in_ok-said.said) properties
          (c.in_ok-said.ensures a b (run_of a.aig wanted) (run_of b.aig w) found there);
    }
