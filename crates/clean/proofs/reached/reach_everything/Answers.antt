use Rattle.std.proofs.Common.{◌≡◌, ◌<◌, ◌+◌, ◌-◌, ◌*◌, ◌∙◌, ap, sym, subst, arith, ℕ, List, false, true, length, map, Some, slice_get}
use Rattle.std.specs.List.{All}
use Rattle.std.proofs.lemmas.List.{length-replicate}
use Rattle.aig_graph.specs.declared.graph.Gate.{Gate}
use Rattle.aig_graph.specs.Graph.{Graph, variable, first_latch, first_gate, variables_end, latches_and_gates, gate_at}
use Rattle.aig_graph.specs.Mapped.{OfProps}
use Rattle.aig_graph.proofs.FoldingLaws.{gate_at-first_gate}
use Rattle.cleaned_circuits.specs.Reached.{AreReached}
use Rattle.clean.specs.Sweep.{Front, front_end, is_marked, reach, reach_all, reads_of}
use Rattle.clean.proofs.MappingLaws.{gate-within, gate-there}
use Rattle.clean.proofs.FrontLaws.{reach-same, all-end, room-turn}
use Rattle.clean.proofs.ReadsLaws.{reads-within}
use Rattle.clean.proofs.SweepLaws.{sweeping-start, sweeping-down, sweeping-skip, sweeping-swept, sweeping-more, sweeping-end}
use Rattle.clean.proofs.reached.reach_everything.Goals as goal

pub reach_props-requires : goal.reach_props-requires
reach_props-requires c =
    let g : Graph = c.args.aig.now in
    let lits : List ℕ = map (λ (j : ℕ). 2 * (c.in_ok-reached.reached.first + j)) c.args.held.now in
    let long : front_end c.reach_held.new.self ≡ variables_end g =
    omega (
      arith,
      all-end reach reach-same lits c.in_ok-reached.reached c.reach_held.new.self c.in_ok-reach_held.ensures,
      ap (λ (r : Front). r.first) c.in_ok-reached.ensures,
      ap (λ (r : Front). length r.marks) c.in_ok-reached.ensures,
      length-replicate (latches_and_gates g) false,
    ) in
    subst (λ (n : ℕ). OfProps (λ (lit : ℕ). variable lit < n) c.args.props.now) (sym long) c.requires.props

pub loop-place-init : goal.loop-place-init
loop-place-init c =
    let g : Graph = c.args.aig.now in
    let r : Front = c.in_ok-reached.reached in
    let first : r.first ≡ first_latch g = ap (λ (s : Front). s.first) c.in_ok-reached.ensures in
    let held : c.reach_held.new.self ≡ reach_all reach r (map (λ (j : ℕ). 2 * (first_latch g + j)) c.args.held.now) =
    c.in_ok-reach_held.ensures ∙ ap (λ (n : ℕ). reach_all reach r (map (λ (j : ℕ). 2 * (n + j)) c.args.held.now)) first in
    let end : first_gate g + length c.gates-gates.result.now ≡ variables_end g = omega (arith, ap (λ (xs : List Gate). length xs) c.gates-gates.ensures.value) in
    sweeping-start g c.args.props.now c.args.held.now r c.reach_held.new.self c.reach_props.new.self (first_gate g + length c.gates-gates.result.now) end c.requires.held c.requires.props
    c.in_ok-reached.ensures held c.in_ok-reach_props.ensures

pub read_gate-requires-clause-larger : goal.read_gate-requires-clause-larger
read_gate-requires-clause-larger c =
    let sweeps = c.loop-place.invariant.sweeps in
    (gate-within c.args.aig.now c.gates-gates.result.now (c.loop-place.place - 1) (front_end c.loop-place.reached) c.index-gates-place.result c.gates-gates.ensures.graph c.gates-gates.ensures.value
    (omega (arith, c.loop-place.auto.place, c.loop-place-test.true)) c.index-gates-place.is (omega (arith, sweeps.first, sweeps.as_long))).0

pub read_gate-requires-clause-smaller : goal.read_gate-requires-clause-smaller
read_gate-requires-clause-smaller c =
    let sweeps = c.loop-place.invariant.sweeps in
    (gate-within c.args.aig.now c.gates-gates.result.now (c.loop-place.place - 1) (front_end c.loop-place.reached) c.index-gates-place.result c.gates-gates.ensures.graph c.gates-gates.ensures.value
    (omega (arith, c.loop-place.auto.place, c.loop-place-test.true)) c.index-gates-place.is (omega (arith, sweeps.first, sweeps.as_long))).1

pub loop-place-preserved-in-Continue-branch-4 : goal.loop-place-preserved-in-Continue-branch-4
loop-place-preserved-in-Continue-branch-4 c =
    let g : Graph = c.args.aig.now in
    let k : ℕ = c.loop-place.place - 1 in
    let gate : Gate = c.index-gates-place.result in
    let sweeps = c.loop-place.invariant.sweeps in
    let there : slice_get g.gates k ≡ Some gate = gate-there g c.gates-gates.result.now k gate c.gates-gates.ensures.value (omega (arith, c.loop-place.auto.place, c.loop-place-test.true)) c.index-gates-place.is in
    let here : gate_at g (first_gate g + k) ≡ Some gate = gate_at-first_gate g k ∙ there in
    let at : c.loop-place.reached.first + c.loop-place.reached.latches + k ≡ first_gate g + k = omega (arith, sweeps.first, sweeps.latches) in
    let marked : is_marked c.loop-place.reached (first_gate g + k) ≡ true = ap (is_marked c.loop-place.reached) (sym at) ∙ sym c.has_gate.ensures ∙ c.if-has_gate.true in
    sweeping-down g c.args.props.now c.args.held.now c.gates-gates.ensures.graph c.loop-place.reached c.read_gate.new.self (first_gate g + c.loop-place.place) (first_gate g + k) gate
    (omega (arith, c.loop-place-test.true)) here c.loop-place.invariant marked c.in_ok-read_gate.ensures

pub loop-place-preserved : goal.loop-place-preserved
loop-place-preserved c =
    let g : Graph = c.args.aig.now in
    let k : ℕ = c.loop-place.place - 1 in
    let sweeps = c.loop-place.invariant.sweeps in
    let at : c.loop-place.reached.first + c.loop-place.reached.latches + k ≡ first_gate g + k = omega (arith, sweeps.first, sweeps.latches) in
    let unmarked : is_marked c.loop-place.reached (first_gate g + k) ≡ false = ap (is_marked c.loop-place.reached) (sym at) ∙ sym c.has_gate.ensures ∙ c.if-has_gate.false in
    sweeping-skip g c.args.props.now c.args.held.now c.loop-place.reached (first_gate g + c.loop-place.place) (first_gate g + k) (omega (arith, c.loop-place-test.true)) unmarked c.loop-place.invariant

pub loop-var-init : goal.loop-var-init
loop-var-init c =
    let g : Graph = c.args.aig.now in
    sweeping-swept g c.args.props.now c.args.held.now c.loop-place.reached (first_gate g + c.loop-place.place) (omega (arith, c.loop-place-test.false)) c.loop-place.invariant

pub read-requires : goal.read-requires
read-requires c =
    let g : Graph = c.args.aig.now in
    let sweeps = c.loop-var.invariant.sweeps in
    let taken = c.in-Some.ensures in
    let long : front_end c.next.new.self ≡ variables_end g = omega (arith, ap (λ (r : Front). front_end r) taken, sweeps.first, sweeps.as_long) in
    subst (λ (n : ℕ). All (λ (lit : ℕ). variable lit < n) (reads_of g c.in-Some.var)) (sym long) (reads-within g c.gates-gates.ensures.graph c.in-Some.var)

pub loop-var-smaller : goal.loop-var-smaller
loop-var-smaller c =
    let g : Graph = c.args.aig.now in
    let sweeps = c.loop-var.invariant.sweeps in
    let taken = c.in-Some.ensures in
    let long : front_end c.next.new.self ≡ variables_end g = omega (arith, ap (λ (r : Front). front_end r) taken, sweeps.first, sweeps.as_long) in
    let within = subst (λ (n : ℕ). All (λ (lit : ℕ). variable lit < n) (reads_of g c.in-Some.var)) (sym long) (reads-within g c.gates-gates.ensures.graph c.in-Some.var) in
    room-turn c.loop-var.reached c.next.new.self c.read.new.self c.in-Some.var (reads_of g c.in-Some.var) taken within c.in_ok-read.ensures

pub loop-var-preserved : goal.loop-var-preserved
loop-var-preserved c =
    sweeping-more c.args.aig.now c.args.props.now c.args.held.now c.gates-gates.ensures.graph c.loop-var.reached c.next.new.self c.read.new.self c.in-Some.var c.loop-var.invariant
    c.in-Some.ensures c.in_ok-read.ensures

pub returns-clause-reached : goal.returns-clause-reached
returns-clause-reached c =
    let last = c.in_default.ensures in
    subst (λ (r : Front). AreReached c.args.aig.now c.args.props.now c.args.held.now (is_marked r)) (sym last.1)
    (sweeping-end c.args.aig.now c.args.props.now c.args.held.now c.loop-var.reached c.loop-var.invariant last.0)
