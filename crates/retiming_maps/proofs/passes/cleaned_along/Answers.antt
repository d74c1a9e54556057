use Rattle.std.proofs.Common.{◌≡◌, ◌<◌, ◌∙◌, ap, sym, subst, ℕ, List, length}
use Rattle.std.specs.List.{All}
use Rattle.std.specs.List.Sorted.{IsStrictlyIncreasing}
use Rattle.aig_graph.specs.Circuits.{Netlist}
use Rattle.aig_graph.specs.Graph.{Graph, latches_and_gates}
use Rattle.aig_graph.specs.Laws.{composed}
use Rattle.cleaned_circuits.specs.Cleaned.{Cleans, IsPass}
use Rattle.cleaned_circuits.specs.Held.{HeldAfter}
use Rattle.cleaned_circuits.proofs.HeldLaws.{held_after-rising}
use Rattle.cleaned_circuits.proofs.PassLaws.{IsCircuit}
use Rattle.clean.proofs.CleaningLaws.{Passed, passed-start, passed-in_range, passed-more, passed-done, passed-held, kept-long, next-below}
use Rattle.retiming_maps.specs.Mapping.{LeadsOn}
use Rattle.retiming_maps.proofs.StepLaws.{leads-more}
use Rattle.retiming_maps.proofs.passes.cleaned_along.Goals as goal

pub loop-before-init : goal.loop-before-init
loop-before-init c =
    let last = c.in_ok-last.last in
    let P : List ℕ → Type 0 = λ js. IsPass js c.args.circuit.now last.circuit last.kept_free.items last.held.items in
    let valid : IsCircuit c.args.circuit.now = record { graph = c.aig.ensures.graph; netlist = c.aig.ensures.netlist } in
    record {
      passed = passed-start c.args.keep.now c.args.circuit.now last.circuit c.latches_and_gates-before.result last.kept_free.items last.held.items valid c.requires.in_range (subst P c.positions.ensures.value c.in_ok-last.ensures.pass)
          (c.latches_and_gates-before.ensures.value ∙ ap (λ (g : Graph). latches_and_gates g) c.aig.ensures.value);
      leads = c.in_ok-last.ensures.leads;
    }

pub goes_on-requires : goal.goes_on-requires
goes_on-requires c =
    let last = c.loop-before.last in
    passed-in_range c.args.keep.now c.args.circuit.now c.loop-before.before last.circuit last.kept_free.items last.held.items c.loop-before.invariant.passed

pub next_pass-requires-clause-map : goal.next_pass-requires-clause-map
next_pass-requires-clause-map c =
    let last = c.loop-before.last in
    let start = c.requires.map in
    (start.0, composed start.1 last.kept_free.items, c.loop-before.invariant.leads start.0 start.1 start.2)

pub next_pass-requires-clause-in_range : goal.next_pass-requires-clause-in_range
next_pass-requires-clause-in_range c =
    let last = c.loop-before.last in
    passed-in_range c.args.keep.now c.args.circuit.now c.loop-before.before last.circuit last.kept_free.items last.held.items c.loop-before.invariant.passed

pub next_pass-requires-clause-places : goal.next_pass-requires-clause-places
next_pass-requires-clause-places c =
    let last = c.loop-before.last in
    kept-long c.args.keep.now c.args.circuit.now c.loop-before.before last.circuit last.kept_free.items last.held.items c.loop-before.invariant.passed

pub loop-before-preserved : goal.loop-before-preserved
loop-before-preserved c =
    let last = c.loop-before.last in
    let next = c.in_ok-last-2.last in
    let step = c.in_ok-last-2.ensures in
    let less : latches_and_gates last.circuit.aig < c.loop-before.before = c.goes_on.ensures.fewer c.loop-before-test.true in
    let size : c.latches_and_gates-before-in-loop-before.result ≡ latches_and_gates last.circuit.aig =
    c.latches_and_gates-before-in-loop-before.ensures.value ∙ ap (λ (g : Graph). latches_and_gates g) c.aig-in-loop-before.ensures.value in
    record {
      passed = subst (λ (n : ℕ). Passed c.args.keep.now c.args.circuit.now n next.circuit next.kept_free.items next.held.items) (sym size)
          (passed-more c.args.keep.now c.args.circuit.now c.loop-before.before last.circuit last.kept_free.items last.held.items c.loop-before.invariant.passed next.circuit step.second next.kept_free.items next.held.items less
          step.pass step.places);
      leads = leads-more c.args.circuit.now last.circuit next.circuit c.args.parts.now c.loop-before.parts c.next_pass.new.parts last.kept_free.items step.second next.kept_free.items c.loop-before.invariant.leads step.leads step.places
          (next-below c.args.keep.now c.args.circuit.now c.loop-before.before last.circuit last.kept_free.items last.held.items c.loop-before.invariant.passed next.circuit step.second next.held.items step.pass);
    }

pub cleaned_by-requires : goal.cleaned_by-requires
cleaned_by-requires c =
    let last = c.loop-before.last in
    let after : HeldAfter last.circuit last.held.items c.args.keep.now c.args.circuit.now =
    passed-held c.args.keep.now c.args.circuit.now c.loop-before.before last.circuit last.kept_free.items last.held.items c.loop-before.invariant.passed (c.goes_on.ensures.done c.loop-before-test.false) in
    held_after-rising last.circuit last.held.items c.args.keep.now c.args.circuit.now after (subst IsStrictlyIncreasing c.positions.ensures.value c.positions.ensures.rising)

pub returns : goal.returns
returns c =
    let held = c.args.keep.now in
    let before = c.args.circuit.now in
    let last = c.loop-before.last in
    let made = c.cleaned_by.result in
    let passed = c.loop-before.invariant.passed in
    let done = c.goes_on.ensures.done c.loop-before-test.false in
    let P : Netlist → List ℕ → List ℕ → Type 0 = λ d js now. Cleans d held before js × HeldAfter d now held before × All (λ (j : ℕ). j < length d.aig.latches) now × LeadsOn before c.args.parts.now d js c.loop-before.parts in
    let all : P last.circuit last.kept_free.items last.held.items = (
      passed-done held before c.loop-before.before last.circuit last.kept_free.items last.held.items passed done,
      passed-held held before c.loop-before.before last.circuit last.kept_free.items last.held.items passed done,
      passed-in_range held before c.loop-before.before last.circuit last.kept_free.items last.held.items passed,
      c.loop-before.invariant.leads,
    ) in
    let same : P made.circuit made.kept_free made.keep = subst (λ (d : Netlist). P d made.kept_free made.keep) (sym c.cleaned_by.ensures.circuit)
    (subst (λ (js : List ℕ). P last.circuit js made.keep) (sym c.cleaned_by.ensures.kept_free) (subst (P last.circuit last.kept_free.items) (sym c.cleaned_by.ensures.keep) all)) in
    record { cleaned = same.0; held_after = same.1; in_range = same.2; leads = same.3 }
