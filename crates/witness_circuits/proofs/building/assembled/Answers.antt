use Rattle.std.proofs.Common.{ℕ, List, Option, ◌∙◌, ◌+◌, arith, ap, length, subst, sym}
use Rattle.aig_graph.specs.declared.graph.Latch.{Latch}
use Rattle.aig_graph.specs.Building.{without_gates}
use Rattle.aig_graph.specs.Graph.{Graph}
use Rattle.witness_circuits.specs.Joining.{own_count}
use Rattle.witness_circuits.specs.Latches.{AreOwn}
use Rattle.witness_circuits.specs.Parts.{both_resets}
use Rattle.witness_circuits.proofs.building.assembled.Goals as goal

pub own_count-own_inputs-requires : goal.own_count-own_inputs-requires
own_count-own_inputs-requires c = omega (arith, ap (λ (ls : List (Option ℕ)). length ls) c.as_slice.ensures, c.requires.shares.inputs, c.known.ensures.graph.small)

pub own_latches-requires : goal.own_latches-requires
own_latches-requires c =
    omega (arith, ap (λ (ls : List (Option ℕ)). length ls) c.as_slice-2.ensures, c.requires.shares.latches, ap (λ (ls : List Latch). length ls) c.latches.ensures.value, ap (λ (g : Graph). length g.latches) c.aig.ensures.value)

pub begun-requires : goal.begun-requires
begun-requires c =
    omega (arith, c.own_count-own_inputs.ensures.small, ap (λ (ls : List (Option ℕ)). length ls) c.as_slice.ensures, c.requires.shares.inputs, c.known.ensures.graph.small)

pub filled-requires-clause-begun : goal.filled-requires-clause-begun
filled-requires-clause-begun c =
    let first : Graph = c.args.first.now.aig in
    c.in_ok-gates.ensures.is
    ∙ ap (λ (g : Graph). without_gates (g.inputs + c.own_count-own_inputs.result) (both_resets g.latches c.as_slice-3.result.now)) c.aig-2.ensures.value
    ∙ ap (λ (n : ℕ). without_gates (first.inputs + n) (both_resets first.latches c.as_slice-3.result.now)) (c.own_count-own_inputs.ensures.value ∙ ap own_count c.as_slice.ensures)
    ∙ ap (λ (own : List Latch). without_gates (first.inputs + own_count c.args.sharing.now.inputs) (both_resets first.latches own)) (c.as_slice-3.ensures.value ∙ sym c.as_slice-4.ensures.value)

pub filled-requires-clause-own : goal.filled-requires-clause-own
filled-requires-clause-own c =
    let own : List Latch = c.as_slice-4.result.now in
    subst (λ (places : List (Option ℕ)). AreOwn places c.args.witness.now.aig.latches (length places) own) c.as_slice-2.ensures
    (subst (λ (latches : List Latch). AreOwn c.as_slice-2.result.now latches (length c.as_slice-2.result.now) own) (c.latches.ensures.value ∙ ap (λ (g : Graph). g.latches) c.aig.ensures.value)
    (subst (λ (found : List Latch). AreOwn c.as_slice-2.result.now c.latches.result.now (length c.as_slice-2.result.now) found) (sym c.as_slice-4.ensures.value) c.in_ok-own.ensures))

pub returns-in-Ok : goal.returns-in-Ok
returns-in-Ok c = c.in-Ok.ensures
