use Rattle.std.proofs.Common.{◌/◌, arith}
use Rattle.mapped_answers.proofs.MapTextLaws.{IsFollowedBy, begins-last, begins-more, begins-none}
use Rattle.mapped_answers.proofs.map_text.+read_delta.Goals as goal

pub read_delta-others-requires : goal.read_delta-others-requires
read_delta-others-requires t c =
    let r = c.requires in
    let m : IsFollowedBy r.1 c.in-Some.byte.now r.2 c.in-Some.rest.now =
    begins-more r.0 r.1 c.in-Some.byte.now r.2 c.in-Some.rest.now c.args.bytes.now c.in-Some.ensures.cases.0 c.if-byte-lt128.false r.3 in
    (omega (arith, c.in-Some.ensures.cases.1, c.decreases), (m.less, r.1 / 128, r.2, m.begins))

pub overflow_mul-result : goal.overflow_mul-result
overflow_mul-result t c =
    let r = c.requires in
    let m : IsFollowedBy r.1 c.in-Some.byte.now r.2 c.in-Some.rest.now =
    begins-more r.0 r.1 c.in-Some.byte.now r.2 c.in-Some.rest.now c.args.bytes.now c.in-Some.ensures.cases.0 c.if-byte-lt128.false r.3 in
    let left = c.read_delta-others.ensures m.less (r.1 / 128) r.2 m.begins in
    omega (arith, left.0, m.word)

pub overflow_add-result : goal.overflow_add-result
overflow_add-result t c =
    let r = c.requires in
    let m : IsFollowedBy r.1 c.in-Some.byte.now r.2 c.in-Some.rest.now =
    begins-more r.0 r.1 c.in-Some.byte.now r.2 c.in-Some.rest.now c.args.bytes.now c.in-Some.ensures.cases.0 c.if-byte-lt128.false r.3 in
    let left = c.read_delta-others.ensures m.less (r.1 / 128) r.2 m.begins in
    omega (arith, left.0, m.word, m.whole, c.from-in-Some.ensures)

pub returns-in-None : goal.returns-in-None
returns-in-None t c = λ more n tail h. absurd (begins-none more n tail c.args.bytes.now c.in-None.ensures.cases h)

pub returns-then-byte-lt128 : goal.returns-then-byte-lt128
returns-then-byte-lt128 t c = λ more n tail h.
    let last = begins-last more n c.in-Some.byte.now tail c.in-Some.rest.now c.args.bytes.now c.in-Some.ensures.cases.0 c.if-byte-lt128.true h in
    (omega (arith, last.0, c.from.ensures), last.1)

pub returns-else-byte-lt128 : goal.returns-else-byte-lt128
returns-else-byte-lt128 t c = λ more n tail h.
    let m : IsFollowedBy n c.in-Some.byte.now tail c.in-Some.rest.now =
    begins-more more n c.in-Some.byte.now tail c.in-Some.rest.now c.args.bytes.now c.in-Some.ensures.cases.0 c.if-byte-lt128.false h in
    let left = c.read_delta-others.ensures m.less (n / 128) tail m.begins in
    (omega (arith, left.0, m.whole, c.from-in-Some.ensures), left.1)
