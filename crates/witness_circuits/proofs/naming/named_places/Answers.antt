use Rattle.std.proofs.Common.{ℕ, ◌≡◌, ◌<◌, Some, arith, ap, refl, length, slice_get, get_or}
use Rattle.std.proofs.lemmas.Option.{slice_get_read}
use Rattle.aig_graph.specs.declared.properties.Symbol.{Symbol}
use Rattle.witness_circuits.proofs.NamingLaws.{taken-all, taken-more, taken-none}
use Rattle.witness_circuits.proofs.RefusalLaws.{refused-all}
use Rattle.witness_circuits.proofs.naming.named_places.Goals as goal

pub loop-name-init : goal.loop-name-init
loop-name-init c =
    taken-none c.args.first c.args.count c.args.names.now c.args.many c.in_ok-named.named.places.items c.in_ok-named.named.taken.items c.in_ok-named.ensures.places c.in_ok-named.ensures.taken

pub take-requires-clause-position : goal.take-requires-clause-position
take-requires-clause-position c =
    let k : ℕ = c.loop-name.name-index in
    let item : Symbol = c.name-item.result in
    let below : (get_or c.args.names.now k item).position < c.args.many = c.requires.below k item c.loop-name-test.true in
    omega (arith, below, ap (λ (s : Symbol). s.position) c.name-item.is, c.loop-name.invariant.long)

pub take-requires-clause-few : goal.take-requires-clause-few
take-requires-clause-few c = omega (arith, c.loop-name.invariant.wide, c.requires.few)

pub loop-name-preserved : goal.loop-name-preserved
loop-name-preserved c =
    let k : ℕ = c.loop-name.name-index in
    let item : Symbol = c.name-item.result in
    let here : slice_get c.args.names.now k ≡ Some item = slice_get_read c.args.names.now (length c.args.names.now) k item refl c.loop-name-test.true c.name-item.is in
    let below : (get_or c.args.names.now k item).position < c.args.many = c.requires.below k item c.loop-name-test.true in
    let within : item.position < c.args.many = omega (arith, below, ap (λ (s : Symbol). s.position) c.name-item.is) in
    taken-more c.args.first c.args.count c.args.names.now c.args.many k c.loop-name.named.places.items c.loop-name.named.taken.items item here c.requires.rising within c.loop-name.invariant
    c.take.new.self.places.items c.take.new.self.taken.items c.in_ok-take.ensures.takes

pub returns-in_err-take-clause-refused : goal.returns-in_err-take-clause-refused
returns-in_err-take-clause-refused c = λ is.
    let k : ℕ = c.loop-name.name-index in
    let item : Symbol = c.name-item.result in
    let here : slice_get c.args.names.now k ≡ Some item = slice_get_read c.args.names.now (length c.args.names.now) k item refl c.loop-name-test.true c.name-item.is in
    refused-all c.args.names.now c.requires.rising c.args.first c.args.count c.args.many k c.loop-name.named.places.items c.loop-name.named.taken.items item c.loop-name.invariant here c.in_err-take.ensures.refused

pub returns-clause-named : goal.returns-clause-named
returns-clause-named c =
    taken-all c.args.first c.args.count c.args.names.now c.args.many c.loop-name.name-index c.loop-name.named.places.items c.loop-name.named.taken.items
    (omega (arith, c.loop-name-test.false, c.loop-name.auto.name-index-end)) c.loop-name.invariant
