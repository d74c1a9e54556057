use Rattle.std.proofs.Common.{◌≡◌, ◌<◌, ◌∙◌, ap, sym, subst, ℕ, List, length}
use Rattle.std.specs.List.{All}
use Rattle.std.specs.List.Sorted.{IsStrictlyIncreasing}
use Rattle.aig_graph.specs.Graph.{Graph, latches_and_gates}
use Rattle.aig_graph.specs.Streams.{SameStreams}
use Rattle.cleaned_circuits.specs.Cleaned.{IsPass, Cleans}
use Rattle.cleaned_circuits.specs.Held.{HeldAfter}
use Rattle.cleaned_circuits.proofs.HeldLaws.{held_after-rising}
use Rattle.cleaned_circuits.proofs.PassLaws.{IsCircuit, cleans-streams}
use Rattle.clean.proofs.CleaningLaws.{Passed, passed-start, passed-in_range, passed-more, passed-done, passed-held, kept-long}
use Rattle.clean.proofs.cleaning.clean_over.Goals as goal

pub loop-before-init : goal.loop-before-init
loop-before-init c =
    let last = c.in_ok-last.last in
    let P : List ℕ → Type 0 = λ js. IsPass js c.args.circuit last.circuit last.kept_free.items last.held.items in
    let valid : IsCircuit c.args.circuit = record { graph = c.aig.ensures.graph; netlist = c.aig.ensures.netlist } in
    passed-start c.args.keep.now c.args.circuit last.circuit c.latches_and_gates-before.result last.kept_free.items last.held.items valid c.requires.in_range (subst P c.positions.ensures.value c.in_ok-last.ensures.pass)
    (c.latches_and_gates-before.ensures.value ∙ ap (λ (g : Graph). latches_and_gates g) c.aig.ensures.value)

pub goes_on-requires : goal.goes_on-requires
goes_on-requires c =
    let last = c.loop-before.last in
    passed-in_range c.args.keep.now c.args.circuit c.loop-before.before last.circuit last.kept_free.items last.held.items c.loop-before.invariant

pub next_pass-requires-clause-in_range : goal.next_pass-requires-clause-in_range
next_pass-requires-clause-in_range c =
    let last = c.loop-before.last in
    passed-in_range c.args.keep.now c.args.circuit c.loop-before.before last.circuit last.kept_free.items last.held.items c.loop-before.invariant

pub next_pass-requires-clause-places : goal.next_pass-requires-clause-places
next_pass-requires-clause-places c =
    let last = c.loop-before.last in
    kept-long c.args.keep.now c.args.circuit c.loop-before.before last.circuit last.kept_free.items last.held.items c.loop-before.invariant

pub loop-before-preserved : goal.loop-before-preserved
loop-before-preserved c =
    let last = c.loop-before.last in
    let next = c.in_ok-last-2.last in
    let less : latches_and_gates last.circuit.aig < c.loop-before.before = c.goes_on.ensures.fewer c.loop-before-test.true in
    let size : c.latches_and_gates-before-in-loop-before.result ≡ latches_and_gates last.circuit.aig =
    c.latches_and_gates-before-in-loop-before.ensures.value ∙ ap (λ (g : Graph). latches_and_gates g) c.aig-in-loop-before.ensures.value in
    subst (λ (n : ℕ). Passed c.args.keep.now c.args.circuit n next.circuit next.kept_free.items next.held.items) (sym size)
    (passed-more c.args.keep.now c.args.circuit c.loop-before.before last.circuit last.kept_free.items last.held.items c.loop-before.invariant next.circuit c.in_ok-last-2.ensures.second next.kept_free.items next.held.items less
    c.in_ok-last-2.ensures.pass c.in_ok-last-2.ensures.places)

pub returns-clause-cleaned : goal.returns-clause-cleaned
returns-clause-cleaned c =
    let last = c.loop-before.last in
    let cleaned : Cleans last.circuit c.args.keep.now c.args.circuit last.kept_free.items =
    passed-done c.args.keep.now c.args.circuit c.loop-before.before last.circuit last.kept_free.items last.held.items c.loop-before.invariant (c.goes_on.ensures.done c.loop-before-test.false) in
    subst (λ (xs : List ℕ). Cleans c.cleaned_by.result.circuit c.args.keep.now c.args.circuit xs) (sym c.cleaned_by.ensures.kept_free)
    (subst (λ d. Cleans d c.args.keep.now c.args.circuit last.kept_free.items) (sym c.cleaned_by.ensures.circuit) cleaned)

pub returns-clause-streams : goal.returns-clause-streams
returns-clause-streams c =
    let last = c.loop-before.last in
    let cleaned : Cleans last.circuit c.args.keep.now c.args.circuit last.kept_free.items =
    passed-done c.args.keep.now c.args.circuit c.loop-before.before last.circuit last.kept_free.items last.held.items c.loop-before.invariant (c.goes_on.ensures.done c.loop-before-test.false) in
    let valid : IsCircuit c.args.circuit = record { graph = c.aig.ensures.graph; netlist = c.aig.ensures.netlist } in
    subst (λ (xs : List ℕ). SameStreams c.args.circuit c.cleaned_by.result.circuit xs) (sym c.cleaned_by.ensures.kept_free)
    (subst (λ d. SameStreams c.args.circuit d last.kept_free.items) (sym c.cleaned_by.ensures.circuit)
    (cleans-streams last.circuit c.args.keep.now c.args.circuit last.kept_free.items cleaned valid))

pub cleaned_by-requires : goal.cleaned_by-requires
cleaned_by-requires c =
    let last = c.loop-before.last in
    let after : HeldAfter last.circuit last.held.items c.args.keep.now c.args.circuit =
    passed-held c.args.keep.now c.args.circuit c.loop-before.before last.circuit last.kept_free.items last.held.items c.loop-before.invariant (c.goes_on.ensures.done c.loop-before-test.false) in
    held_after-rising last.circuit last.held.items c.args.keep.now c.args.circuit after (subst IsStrictlyIncreasing c.positions.ensures.value c.positions.ensures.rising)

pub returns-clause-held : goal.returns-clause-held
returns-clause-held c =
    let last = c.loop-before.last in
    let after : HeldAfter last.circuit last.held.items c.args.keep.now c.args.circuit =
    passed-held c.args.keep.now c.args.circuit c.loop-before.before last.circuit last.kept_free.items last.held.items c.loop-before.invariant (c.goes_on.ensures.done c.loop-before-test.false) in
    subst (λ (js : List ℕ). HeldAfter c.cleaned_by.result.circuit js c.args.keep.now c.args.circuit) (sym c.cleaned_by.ensures.keep)
    (subst (λ d. HeldAfter d last.held.items c.args.keep.now c.args.circuit) (sym c.cleaned_by.ensures.circuit) after)

pub returns-clause-in_range : goal.returns-clause-in_range
returns-clause-in_range c =
    let last = c.loop-before.last in
    subst (λ (js : List ℕ). All (λ (j : ℕ). j < length c.cleaned_by.result.circuit.aig.latches) js) (sym c.cleaned_by.ensures.keep)
    (subst (λ d. All (λ (j : ℕ). j < length d.aig.latches) last.held.items) (sym c.cleaned_by.ensures.circuit)
    (passed-in_range c.args.keep.now c.args.circuit c.loop-before.before last.circuit last.kept_free.items last.held.items c.loop-before.invariant))
