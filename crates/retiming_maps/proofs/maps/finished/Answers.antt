use Rattle.std.proofs.Common.{ℕ, List, ◌∙◌, ap, sym, subst}
use Rattle.aig_graph.specs.declared.properties.Props.{Props}
use Rattle.aig_graph.specs.Circuits.{Netlist, outputs_alone}
use Rattle.retiming_maps.specs.Plain.{IsPlainMap}
use Rattle.retiming_maps.proofs.maps.finished.Goals as goal

pub new-requires : goal.new-requires
new-requires c =
    let m = c.args.parts in
    let P : Props → List ℕ → Type 0 = λ p ones.
    IsPlainMap (record { aig = m.gates; props = record { outputs = p.outputs; bad = p.bad; constraints = ones; justice = p.justice; fairness = p.fairness }; symbols = c.args.symbols }) in
    subst (λ (p : Props). P p c.from_vec.result) (sym c.of_outputs-props.ensures)
    (subst (λ (lits : List ℕ). P (outputs_alone lits) c.from_vec.result) (sym c.into_vec.ensures)
    (subst (λ (ones : List ℕ). P (outputs_alone m.functions) ones) (sym c.from_vec.ensures) c.requires))

pub returns : goal.returns
returns c =
    let m = c.args.parts in
    let F : Props → List ℕ → Netlist = λ p ones.
    record { aig = m.gates; props = record { outputs = p.outputs; bad = p.bad; constraints = ones; justice = p.justice; fairness = p.fairness }; symbols = c.args.symbols } in
    c.new.ensures ∙ ap (λ (p : Props). F p c.from_vec.result) c.of_outputs-props.ensures
    ∙ ap (λ (lits : List ℕ). F (outputs_alone lits) c.from_vec.result) c.into_vec.ensures
    ∙ ap (λ (ones : List ℕ). F (outputs_alone m.functions) ones) c.from_vec.ensures
