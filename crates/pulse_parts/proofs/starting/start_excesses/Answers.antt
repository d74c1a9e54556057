use Rattle.std.proofs.Common.{◌≡◌, ℕ, List, ◌∙◌, arith, ap, length, replicate, slice_index}
use Rattle.std.proofs.lemmas.List.{with_items_is, length-replicate, get_or-replicate}
use Rattle.pulse_parts.proofs.starting.start_excesses.Goals as goal

pub fill_excesses-requires-clause-within : goal.fill_excesses-requires-clause-within
fill_excesses-requires-clause-within c =
    let is : c.as_mut_slice.result.now ≡ replicate c.args.count 0 = c.as_mut_slice.ensures.value ∙ c.in_ok-excess.ensures.items_if_clones_equal (λ y h. h) in
    omega (arith, ap length is, length-replicate {A = ℕ} c.args.count 0, c.requires)

pub fill_excesses-requires-clause-none : goal.fill_excesses-requires-clause-none
fill_excesses-requires-clause-none c = λ i h.
    let is : c.as_mut_slice.result.now ≡ replicate c.args.count 0 = c.as_mut_slice.ensures.value ∙ c.in_ok-excess.ensures.items_if_clones_equal (λ y h. h) in
    ap (λ (xs : List ℕ). slice_index xs i) is ∙ get_or-replicate c.args.count i 0 0 (omega (arith, h, ap length is, length-replicate {A = ℕ} c.args.count 0))

pub returns-clause-len : goal.returns-clause-len
returns-clause-len c =
    let is : c.as_mut_slice.result.now ≡ replicate c.args.count 0 = c.as_mut_slice.ensures.value ∙ c.in_ok-excess.ensures.items_if_clones_equal (λ y h. h) in
    let back = with_items_is c.in_ok-excess.excess c.fill_excesses.new.excess (c.fill_excesses.ensures.len ∙ c.as_mut_slice.ensures.len) in
    omega (arith, ap length back, c.fill_excesses.ensures.len, ap length is, length-replicate {A = ℕ} c.args.count 0)

pub returns-clause-each : goal.returns-clause-each
returns-clause-each c =
    let back = with_items_is c.in_ok-excess.excess c.fill_excesses.new.excess (c.fill_excesses.ensures.len ∙ c.as_mut_slice.ensures.len) in
    λ i h. ap (λ (xs : List ℕ). slice_index xs i) back ∙ c.fill_excesses.ensures.each i (omega (arith, h, ap length back))
