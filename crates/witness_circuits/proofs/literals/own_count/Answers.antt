use Rattle.std.proofs.Common.{ℕ, ◌∙◌, List, Option, arith, ap, get_or, None}
use Rattle.std.proofs.lemmas.List.{take_all}
use Rattle.std.proofs.lemmas.List.Sums.{count_by-le-length}
use Rattle.std.proofs.lemmas.Option.{slice_get-get_or}
use Rattle.witness_circuits.specs.Joining.{is_own, own_count}
use Rattle.witness_circuits.proofs.CountLaws.{count-le, count-more}
use Rattle.witness_circuits.proofs.literals.own_count.Goals as goal

pub loop-place-preserved : goal.loop-place-preserved
loop-place-preserved c =
    let places : List (Option ℕ) = c.args.places.now in
    let k : ℕ = c.loop-place.place-index in
    let o : Option ℕ = get_or places k None in
    count-more places k c.loop-place.count c.one_if_own-count.result o (slice_get-get_or places k None c.loop-place-test.true) c.loop-place.invariant c.one_if_own-count.ensures.value

pub overflow_add-count : goal.overflow_add-count
overflow_add-count c =
    let places : List (Option ℕ) = c.args.places.now in
    let k : ℕ = c.loop-place.place-index in
    omega (arith, c.loop-place.invariant, count-le places k, count_by-le-length is_own places, c.requires, c.one_if_own-count.ensures.small)

pub returns-clause-value : goal.returns-clause-value
returns-clause-value c =
    c.loop-place.invariant ∙ ap own_count (take_all c.loop-place.place-index c.args.places.now (omega (arith, c.loop-place-test.false)))

pub returns-clause-small : goal.returns-clause-small
returns-clause-small c = omega (arith, c.loop-place.invariant, count-le c.args.places.now c.loop-place.place-index, count_by-le-length is_own c.args.places.now)
