use Rattle.std.proofs.Common.{◌≡◌, ◌∙◌, ◌+◌, ◌*◌, ap, length}
use Rattle.aig_graph.specs.Tables.{table}
use Rattle.aig_graph.specs.Circuits.{Netlist}
use Rattle.aig_graph.specs.Graph.{Graph}
use Rattle.map_miters.specs.Asking.{AreLeaves, asked_state}
use Rattle.map_miters.specs.Questions.{Begins}
use Rattle.map_miters.proofs.ComparingLaws.{fails-grow}
use Rattle.map_miters.proofs.MiterLaws.{leaves-grow, leaves-hold}
use Rattle.map_miters.proofs.questions.add_failures.Goals as goal

pub add_reset_failure-requires-clause-leaves : goal.add_reset_failure-requires-clause-leaves
add_reset_failure-requires-clause-leaves c =
    let g : Graph = c.args.gates.now in
    let a : Graph = c.args.first.now.aig in
    let of_inputs : c.in_ok-leaves.leaves.inputs.items ≡ table 0 a.inputs (λ i. 2 * (1 + i)) = c.in_ok-leaves.ensures.inputs ∙ ap (λ (h : Graph). table 0 h.inputs (λ i. 2 * (1 + i))) c.aig.ensures.value in
    let of_latches : c.in_ok-leaves.leaves.latches.items ≡ table 0 (length a.latches) (λ j. 2 * (1 + a.inputs + j)) =
    c.in_ok-leaves.ensures.latches ∙ ap (λ (h : Graph). table 0 (length h.latches) (λ j. 2 * (1 + h.inputs + j))) c.aig.ensures.value in
    let leaves : AreLeaves g a c.in_ok-leaves.leaves = leaves-hold g a c.in_ok-leaves.leaves c.requires.graph c.requires.begun of_inputs of_latches in
    leaves

pub add_step_failures-requires-clause-leaves : goal.add_step_failures-requires-clause-leaves
add_step_failures-requires-clause-leaves c =
    let g : Graph = c.args.gates.now in
    let a : Graph = c.args.first.now.aig in
    let of_inputs : c.in_ok-leaves.leaves.inputs.items ≡ table 0 a.inputs (λ i. 2 * (1 + i)) = c.in_ok-leaves.ensures.inputs ∙ ap (λ (h : Graph). table 0 h.inputs (λ i. 2 * (1 + i))) c.aig.ensures.value in
    let of_latches : c.in_ok-leaves.leaves.latches.items ≡ table 0 (length a.latches) (λ j. 2 * (1 + a.inputs + j)) =
    c.in_ok-leaves.ensures.latches ∙ ap (λ (h : Graph). table 0 (length h.latches) (λ j. 2 * (1 + h.inputs + j))) c.aig.ensures.value in
    let leaves : AreLeaves g a c.in_ok-leaves.leaves = leaves-hold g a c.in_ok-leaves.leaves c.requires.graph c.requires.begun of_inputs of_latches in
    leaves-grow g c.add_reset_failure.new.gates a c.in_ok-leaves.leaves c.in_ok-reset.ensures.extends leaves

pub returns-clause-failures : goal.returns-clause-failures
returns-clause-failures c =
    let a : Netlist = c.args.first.now in
    let step = c.in_ok-step.ensures.step in
    record {
      reset = fails-grow c.add_reset_failure.new.gates c.add_step_failures.new.gates c.in_ok-reset.reset (λ z u. Begins a c.args.second.now c.args.map.now (asked_state a.aig z u)) c.in_ok-step.ensures.extends c.in_ok-reset.ensures.reset;
      keep = step.keep;
      next = step.next;
      read = step.read;
    }
