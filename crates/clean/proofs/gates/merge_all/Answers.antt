use Rattle.std.proofs.Common.{◌≡◌, ◌+◌, ◌<◌, ◌≤◌, ◌∙◌, [], ℕ, List, ap, sym, subst, refl, arith, drop, length, map, get_or}
use Rattle.std.proofs.lemmas.List.{get_or_default}
use Rattle.std.proofs.lemmas.Option.{slice_get_read}
use Rattle.aig_graph.specs.declared.graph.Gate.{Gate}
use Rattle.aig_graph.specs.Graph.{IsGateAt, variable}
use Rattle.cleaned_circuits.specs.Merged.{Merging, merge_gate, merge_gates, replaced_gate}
use Rattle.cleaned_circuits.proofs.SubstituteLaws.{length-merge_gate}
use Rattle.clean.specs.Kept.{IsEntered, next_variable, no_gate, pairs, put_at}
use Rattle.clean.proofs.MergeStepLaws.{merge-more, merge-end}
use Rattle.clean.proofs.MergeAllLaws.{HalfMerged, one-merged, all-merged, pair-stays}
use Rattle.clean.proofs.gates.merge_all.Goals as goal

pub merge_gate-requires-clause-first : goal.merge_gate-requires-clause-first
merge_gate-requires-clause-first c =
    let gs : List Gate = c.args.kept.now.gates in
    let place : ℕ = c.loop-place.place in
    let gate : Gate = c.gate-gate.result in
    let within : place < length gs = omega (arith, c.loop-place-test.true, c.len-place-end.ensures) in
    let read : gate ≡ get_or gs place gate = c.gate-gate.ensures ∙ c.loop-place.invariant.gates.left place (omega arith) ∙ get_or_default gs place no_gate gate within in
    let at : IsGateAt (next_variable c.args.kept.now + place) gate = c.requires.graph place gate (slice_get_read gs (length gs) place gate refl within read) in
    omega (arith, at.below, c.loop-place.invariant.long)

pub merge_gate-requires-clause-second : goal.merge_gate-requires-clause-second
merge_gate-requires-clause-second c =
    let gs : List Gate = c.args.kept.now.gates in
    let place : ℕ = c.loop-place.place in
    let gate : Gate = c.gate-gate.result in
    let within : place < length gs = omega (arith, c.loop-place-test.true, c.len-place-end.ensures) in
    let read : gate ≡ get_or gs place gate = c.gate-gate.ensures ∙ c.loop-place.invariant.gates.left place (omega arith) ∙ get_or_default gs place no_gate gate within in
    let at : IsGateAt (next_variable c.args.kept.now + place) gate = c.requires.graph place gate (slice_get_read gs (length gs) place gate refl within read) in
    omega (arith, at.below, at.ordered, c.loop-place.invariant.long)

pub loop-place-preserved : goal.loop-place-preserved
loop-place-preserved c =
    let gs : List Gate = c.args.kept.now.gates in
    let place : ℕ = c.loop-place.place in
    let gate : Gate = c.gate-gate.result in
    let half : List Gate = c.loop-place.kept.gates in
    let before : Merging = record { substitutes = c.loop-place.substitutes; kept = pairs c.loop-place.kept } in
    let after : Merging = record { substitutes = c.merge_gate.new.substitutes; kept = pairs c.merge_gate.new.kept } in
    let whole : Merging = merge_gates gs (record { substitutes = c.args.substitutes.now; kept = [] }) in
    let within : place < length gs = omega (arith, c.loop-place-test.true, c.len-place-end.ensures) in
    let here : gate ≡ get_or gs place no_gate = c.gate-gate.ensures ∙ c.loop-place.invariant.gates.left place (omega arith) in
    let read : gate ≡ get_or gs place gate = here ∙ get_or_default gs place no_gate gate within in
    let at : IsGateAt (next_variable c.args.kept.now + place) gate = c.requires.graph place gate (slice_get_read gs (length gs) place gate refl within read) in
    let first : variable gate.rhs0 < length before.substitutes = omega (arith, at.below, c.loop-place.invariant.long) in
    let second : variable gate.rhs1 < length before.substitutes = omega (arith, at.below, at.ordered, c.loop-place.invariant.long) in
    let step : after ≡ merge_gate before gate = c.in_ok-merge_gate.ensures.merged in
    let pair : Gate = replaced_gate before.substitutes gate in
    let entered : IsEntered c.loop-place.kept c.merge_gate.new.kept pair = c.in_ok-merge_gate.ensures.entered in
    let put : c.merge_gate.new.kept.gates ≡ put_at half place pair = entered.gates ∙ ap (λ (n : ℕ). put_at half n pair) c.loop-place.invariant.entries in
    let is : pair ≡ replaced_gate whole.substitutes (get_or gs place no_gate) =
    pair-stays (drop place gs) before whole gate c.loop-place.invariant.rest first second ∙ ap (replaced_gate whole.substitutes) here in
    record {
      rest = merge-more gs place gate before after whole within read c.loop-place.invariant.rest step;
      long = omega (arith, ap (λ (m : Merging). length m.substitutes) step, length-merge_gate before gate, c.loop-place.invariant.long);
      next = omega (arith, entered.next, c.loop-place.invariant.next);
      entries = omega (arith, entered.long, c.loop-place.invariant.entries);
      gates = subst (λ (xs : List Gate). HalfMerged gs xs whole.substitutes (place + 1)) (sym put)
          (one-merged gs half whole.substitutes place pair c.loop-place.invariant.gates within is);
    }

pub returns-clause-substitutes : goal.returns-clause-substitutes
returns-clause-substitutes c =
    let gs : List Gate = c.args.kept.now.gates in
    let before : Merging = record { substitutes = c.loop-place.substitutes; kept = pairs c.loop-place.kept } in
    let whole : Merging = merge_gates gs (record { substitutes = c.args.substitutes.now; kept = [] }) in
    let end : length gs ≤ c.loop-place.place = omega (arith, c.loop-place-test.false, c.len-place-end.ensures) in
    ap (λ (m : Merging). m.substitutes) (merge-end gs c.loop-place.place before whole end c.loop-place.invariant.rest)

pub returns-clause-gates : goal.returns-clause-gates
returns-clause-gates c =
    let gs : List Gate = c.args.kept.now.gates in
    let before : Merging = record { substitutes = c.loop-place.substitutes; kept = pairs c.loop-place.kept } in
    let whole : Merging = merge_gates gs (record { substitutes = c.args.substitutes.now; kept = [] }) in
    let end : length gs ≤ c.loop-place.place = omega (arith, c.loop-place-test.false, c.len-place-end.ensures) in
    all-merged gs c.loop-place.kept.gates whole.substitutes c.loop-place.place c.loop-place.invariant.gates end
    ∙ ap (λ (m : Merging). map (replaced_gate m.substitutes) gs) (sym (merge-end gs c.loop-place.place before whole end c.loop-place.invariant.rest))
