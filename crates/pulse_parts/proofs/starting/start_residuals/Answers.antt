use Rattle.std.proofs.Common.{◌≡◌, ℕ, List, ◌+◌, ◌-◌, ◌++◌, ◌∙◌, arith, ap, length, slice_index, take, drop}
use Rattle.std.proofs.lemmas.List.{with_items_is}
use Rattle.pulse_parts.proofs.CopyLaws.{slice_at, slice_len}
use Rattle.pulse_parts.proofs.starting.start_residuals.Goals as goal

pub add-requires-clause-within : goal.add-requires-clause-within
add-requires-clause-within c = omega (arith, c.requires, c.known.ensures.network.same_caps, ap length c.caps.ensures)

pub replace_caps-requires-clause-within : goal.replace_caps-requires-clause-within
replace_caps-requires-clause-within c =
    let is : c.as_mut_slice.result.now ≡ take (c.args.base + c.args.size - c.args.base) (drop c.args.base c.caps.result.now) =
    c.as_mut_slice.ensures.value ∙ c.in_ok-add.ensures ∙ ap (λ (xs : List ℕ). xs ++ take (c.args.base + c.args.size - c.args.base) (drop c.args.base c.caps.result.now)) c.in_ok-residuals.ensures.items in
    omega (
      arith,
      ap length is,
      c.requires,
      slice_len c.caps.result.now c.args.base (c.args.base + c.args.size) (omega arith) (omega (arith, c.requires, c.known.ensures.network.same_caps, ap length c.caps.ensures)),
    )

pub replace_caps-requires-clause-caps : goal.replace_caps-requires-clause-caps
replace_caps-requires-clause-caps c = λ i h.
    let is : c.as_mut_slice.result.now ≡ take (c.args.base + c.args.size - c.args.base) (drop c.args.base c.caps.result.now) =
    c.as_mut_slice.ensures.value ∙ c.in_ok-add.ensures ∙ ap (λ (xs : List ℕ). xs ++ take (c.args.base + c.args.size - c.args.base) (drop c.args.base c.caps.result.now)) c.in_ok-residuals.ensures.items in
    let long = slice_len c.caps.result.now c.args.base (c.args.base + c.args.size) (omega arith) (omega (arith, c.requires, c.known.ensures.network.same_caps, ap length c.caps.ensures)) in
    ap (λ (xs : List ℕ). slice_index xs i) is ∙ slice_at c.caps.result.now c.args.base (c.args.base + c.args.size) i (omega (arith, h, ap length is, long))
    ∙ ap (λ (xs : List ℕ). slice_index xs (c.args.base + i)) c.caps.ensures

pub returns-clause-len : goal.returns-clause-len
returns-clause-len c =
    let is : c.as_mut_slice.result.now ≡ take (c.args.base + c.args.size - c.args.base) (drop c.args.base c.caps.result.now) =
    c.as_mut_slice.ensures.value ∙ c.in_ok-add.ensures ∙ ap (λ (xs : List ℕ). xs ++ take (c.args.base + c.args.size - c.args.base) (drop c.args.base c.caps.result.now)) c.in_ok-residuals.ensures.items in
    let long = slice_len c.caps.result.now c.args.base (c.args.base + c.args.size) (omega arith) (omega (arith, c.requires, c.known.ensures.network.same_caps, ap length c.caps.ensures)) in
    let back = with_items_is c.add.new.all c.replace_caps.new.residuals (c.replace_caps.ensures.len ∙ c.as_mut_slice.ensures.len) in
    omega (arith, ap length back, c.replace_caps.ensures.len, ap length is, long)

pub returns-clause-each : goal.returns-clause-each
returns-clause-each c =
    let back = with_items_is c.add.new.all c.replace_caps.new.residuals (c.replace_caps.ensures.len ∙ c.as_mut_slice.ensures.len) in
    λ i h. ap (λ (xs : List ℕ). slice_index xs i) back ∙ c.replace_caps.ensures.each i (omega (arith, h, ap length back))
