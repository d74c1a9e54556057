use Rattle.std.proofs.Common.{ℕ, ◌≡◌, ◌≤◌, ◌+◌, ◌-◌, ◌∙◌, length, slice_get, Some, refl, arith, ap, sym, subst}
use Rattle.aig_graph.specs.Gates.{Gates, gates_of}
use Rattle.aig_graph.specs.declared.graph.Latch.{Latch}
use Rattle.gate_sharing.specs.Shared.{IsSharedLiteral, shared_gates}
use Rattle.aig_graph.proofs.PushLaws.{all_taken}
use Rattle.gate_sharing.proofs.SharedLaws.{shared-gates_of, shared-graph}
use Rattle.gate_sharing.proofs.shared.SharedGates.graph.Goals as goal

pub from_parts-requires : goal.from_parts-requires
from_parts-requires c =
    let k : Gates = record { first = c.self.inside.first; gates = shared_gates c.self.inside.gates.items } in
    let all : c.loop-shared.gates.items ≡ k.gates = c.loop-shared.invariant ∙ ap shared_gates (all_taken _ _ _ refl c.loop-shared-test.false ∙ c.as_slice-shared-items.ensures.value) in
    let inputs : ℕ = k.first - 1 - c.len.result in
    let room : 1 + inputs + length c.args.latches.items ≡ k.first = omega (arith, c.requires.room, ap (λ (l : Gates). l.first) c.self.view_is, c.len.ensures) in
    let view : k ≡ c.args.self.now = c.self.view_is in
    let nexts : (place : ℕ) (latch : Latch) → slice_get c.args.latches.items place ≡ Some latch → IsSharedLiteral k latch.next = λ place latch there. subst (λ (l : Gates). IsSharedLiteral l latch.next) (sym view) (c.requires.nexts place latch there) in
    shared-graph k c.self.invariant inputs c.args.latches.items room c.loop-shared.gates.items all nexts

pub returns-clause-gates : goal.returns-clause-gates
returns-clause-gates c =
    let k : Gates = record { first = c.self.inside.first; gates = shared_gates c.self.inside.gates.items } in
    let all : c.loop-shared.gates.items ≡ k.gates = c.loop-shared.invariant ∙ ap shared_gates (all_taken _ _ _ refl c.loop-shared-test.false ∙ c.as_slice-shared-items.ensures.value) in
    let view : k ≡ c.args.self.now = c.self.view_is in
    let inputs : ℕ = k.first - 1 - c.len.result in
    let room : 1 + inputs + length c.args.latches.items ≡ k.first = omega (arith, c.requires.room, ap (λ (l : Gates). l.first) c.self.view_is, c.len.ensures) in
    ap gates_of c.from_parts.ensures ∙ shared-gates_of k c.self.invariant inputs c.args.latches.items room c.loop-shared.gates.items all ∙ view
