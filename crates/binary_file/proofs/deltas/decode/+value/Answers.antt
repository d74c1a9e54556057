use Rattle.std.proofs.Common.{◌<◌, ◌^◌, length, arith, sym, ◌∙◌}
use Rattle.binary_file.proofs.DeltaLaws.{value-none, value-split, few_bytes, rest-few}
use Rattle.binary_file.proofs.deltas.decode.+value.Goals as goal

pub overflow_mul-result : goal.overflow_mul-result
overflow_mul-result t c =
    let small : c.value.result < 2 ^ 28 =
    few_bytes (length c.in-Some.rest.now) c.value.result (rest-few c.in-Some.ensures.cases c.requires) c.value.ensures.small in
    omega arith

pub overflow_add-result : goal.overflow_add-result
overflow_add-result t c =
    let small : c.value.result < 2 ^ 28 =
    few_bytes (length c.in-Some.rest.now) c.value.result (rest-few c.in-Some.ensures.cases c.requires) c.value.ensures.small in
    let group = c.from-in-Some.ensures in
    omega arith

pub returns-in-None-clause-value : goal.returns-in-None-clause-value
returns-in-None-clause-value t c =
    let spelled = value-none c.args.before.now c.args.last c.in-None.ensures.cases in
    c.from.ensures ∙ sym spelled

pub returns-in-Some-clause-value : goal.returns-in-Some-clause-value
returns-in-Some-clause-value t c =
    let spelled = value-split c.args.before.now c.in-Some.rest.now c.in-Some.byte.now c.args.last c.in-Some.ensures.cases in
    let group = c.from-in-Some.ensures in
    let rest = c.value.ensures.value in
    omega arith
