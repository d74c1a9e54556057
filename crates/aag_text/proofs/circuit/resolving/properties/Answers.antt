use Rattle.std.proofs.Common.{ℕ, ◌+◌, ◌<◌, ◌^◌, List, length, map, All, sym, ap, subst, ◌∙◌}
use Rattle.std.proofs.lemmas.List.{length-map}
use Rattle.aag_text.specs.Numbering.{PlacedLists}
use Rattle.aag_text.specs.Arranging.{IsBelow, moved}
use Rattle.aag_text.proofs.ArrangeLaws.{all_below, movable_by, small_literals}
use Rattle.aag_text.proofs.circuit.resolving.properties.Goals as goal

pub literals-requires-clause-movable : goal.literals-requires-clause-movable
literals-requires-clause-movable c = movable_by c.args.header.now c.args.sizes.now c.args.placed.now c.args.order.now c.args.ranks.now c.requires.placed c.requires.order c.requires.ranks

pub literals-requires-2-clause-movable : goal.literals-requires-2-clause-movable
literals-requires-2-clause-movable c = movable_by c.args.header.now c.args.sizes.now c.args.placed.now c.args.order.now c.args.ranks.now c.requires.placed c.requires.order c.requires.ranks

pub literals-requires-clause-below : goal.literals-requires-clause-below
literals-requires-clause-below c =
    subst (All (IsBelow (1 + c.args.header.now.inputs + c.args.header.now.latches + length c.args.ranks.now)))
    (sym (c.as_slice.ensures.value ∙ ap (λ (p : PlacedLists). p.safety) c.placed.view_is))
    (all_below c.args.header.now c.args.sizes.now c.args.placed.now c.args.order.now c.args.ranks.now c.requires.placed c.requires.order c.requires.ranks c.args.placed.now.safety c.requires.placed.safety_below)

pub literals-requires-2-clause-below : goal.literals-requires-2-clause-below
literals-requires-2-clause-below c =
    subst (All (IsBelow (1 + c.args.header.now.inputs + c.args.header.now.latches + length c.args.ranks.now)))
    (sym (c.as_slice-2.ensures.value ∙ ap (λ (p : PlacedLists). p.liveness) c.placed.view_is))
    (all_below c.args.header.now c.args.sizes.now c.args.placed.now c.args.order.now c.args.ranks.now c.requires.placed c.requires.order c.requires.ranks c.args.placed.now.liveness c.requires.placed.liveness_below)

pub props-requires-clause-safety : goal.props-requires-clause-safety
props-requires-clause-safety c =
    let is = c.as_slice-3.ensures.value ∙ c.in_ok-safety.ensures
    ∙ ap (λ (ls : List ℕ). map (moved (1 + c.args.header.now.inputs + c.args.header.now.latches) c.args.ranks.now) ls) (c.as_slice.ensures.value ∙ ap (λ (p : PlacedLists). p.safety) c.placed.view_is) in
    ap (λ (ls : List ℕ). length ls) is ∙ length-map _ _ ∙ c.requires.placed.safety

pub props-requires-clause-liveness : goal.props-requires-clause-liveness
props-requires-clause-liveness c =
    let is = c.as_slice-4.ensures.value ∙ c.in_ok-liveness.ensures
    ∙ ap (λ (ls : List ℕ). map (moved (1 + c.args.header.now.inputs + c.args.header.now.latches) c.args.ranks.now) ls) (c.as_slice-2.ensures.value ∙ ap (λ (p : PlacedLists). p.liveness) c.placed.view_is) in
    ap (λ (ls : List ℕ). length ls) is ∙ length-map _ _ ∙ c.requires.placed.liveness

pub props-requires-clause-safety_literals : goal.props-requires-clause-safety_literals
props-requires-clause-safety_literals c =
    let is = c.as_slice-3.ensures.value ∙ c.in_ok-safety.ensures
    ∙ ap (λ (ls : List ℕ). map (moved (1 + c.args.header.now.inputs + c.args.header.now.latches) c.args.ranks.now) ls) (c.as_slice.ensures.value ∙ ap (λ (p : PlacedLists). p.safety) c.placed.view_is) in
    subst (All (λ lit. lit < 2 ^ 29)) (sym is)
    (small_literals c.args.header.now c.args.sizes.now c.args.placed.now c.args.order.now c.args.ranks.now c.requires.placed c.requires.order c.requires.ranks c.args.placed.now.safety c.requires.placed.safety_below)

pub props-requires-clause-liveness_literals : goal.props-requires-clause-liveness_literals
props-requires-clause-liveness_literals c =
    let is = c.as_slice-4.ensures.value ∙ c.in_ok-liveness.ensures
    ∙ ap (λ (ls : List ℕ). map (moved (1 + c.args.header.now.inputs + c.args.header.now.latches) c.args.ranks.now) ls) (c.as_slice-2.ensures.value ∙ ap (λ (p : PlacedLists). p.liveness) c.placed.view_is) in
    subst (All (λ lit. lit < 2 ^ 29)) (sym is)
    (small_literals c.args.header.now c.args.sizes.now c.args.placed.now c.args.order.now c.args.ranks.now c.requires.placed c.requires.order c.requires.ranks c.args.placed.now.liveness c.requires.placed.liveness_below)

pub returns : goal.returns
returns c =
    let move = λ (ls : List ℕ). map (moved (1 + c.args.header.now.inputs + c.args.header.now.latches) c.args.ranks.now) ls in
    let safety = c.as_slice-3.ensures.value ∙ c.in_ok-safety.ensures ∙ ap move (c.as_slice.ensures.value ∙ ap (λ (p : PlacedLists). p.safety) c.placed.view_is) in
    let liveness = c.as_slice-4.ensures.value ∙ c.in_ok-liveness.ensures ∙ ap move (c.as_slice-2.ensures.value ∙ ap (λ (p : PlacedLists). p.liveness) c.placed.view_is) in
    rw (safety, liveness) at c.props.ensures
