use Rattle.std.proofs.Common.{◌<◌, ◌∙◌, ap, sym, subst, arith, ℕ, List, length, get_or}
use Rattle.std.specs.List.{All}
use Rattle.aig_graph.specs.Graph.{free_latches}
use Rattle.aig_graph.specs.Laws.{composed}
use Rattle.cleaned_circuits.specs.Cleaned.{IsPass}
use Rattle.clean.proofs.cleaning.next_pass.Goals as goal

pub run_pass_over-requires : goal.run_pass_over-requires
run_pass_over-requires c =
    let last = c.args.last in
    subst (λ (js : List ℕ). All (λ (j : ℕ). j < length last.circuit.aig.latches) js) (sym c.as_slice.ensures.value) c.requires.in_range

pub composed-requires : goal.composed-requires
composed-requires c =
    let last = c.args.last in
    let next = c.in_ok-next.next in
    let below : All (λ (place : ℕ). place < length last.kept_free.items) next.kept_free.items = λ k a h.
    let here : get_or next.kept_free.items k a < free_latches last.circuit.aig = c.in_ok-next.ensures.streams.places.below k a h in
    omega (arith, here, c.requires.places) in
    subst (λ (xs : List ℕ). All (λ (place : ℕ). place < length c.as_slice-2.result.now) xs) (sym c.as_slice-3.ensures.value)
    (subst (λ (xs : List ℕ). All (λ (place : ℕ). place < length xs) next.kept_free.items) (sym c.as_slice-2.ensures.value) below)

pub returns : goal.returns
returns c =
    let last = c.args.last in
    let next = c.in_ok-next.next in
    let P : List ℕ → Type 0 = λ js. IsPass js last.circuit next.circuit next.kept_free.items next.held.items in
    record {
      second = next.kept_free.items;
      pass = subst P c.as_slice.ensures.value c.in_ok-next.ensures.pass;
      places = c.in_ok-next-2.ensures ∙ ap (λ (xs : List ℕ). composed xs c.as_slice-3.result.now) c.as_slice-2.ensures.value
          ∙ ap (composed last.kept_free.items) c.as_slice-3.ensures.value;
    }
