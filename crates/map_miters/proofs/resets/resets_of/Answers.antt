use Rattle.std.proofs.Common.{ℕ, ◌<◌, ◌≡◌, ◌∙◌, List, Some, arith, ap, get_or, length, refl, slice_get, sym, subst}
use Rattle.std.proofs.lemmas.Option.{slice_get_read}
use Rattle.aig_graph.specs.declared.graph.Latch.{Latch}
use Rattle.map_circuits.proofs.ConstrainingLaws.{read-entry}
use Rattle.map_miters.proofs.FirstLaws.{AreFirstResets, first-all, first-more, first-none}
use Rattle.aig_graph.specs.Value.{opening_literal}
use Rattle.map_miters.proofs.resets.resets_of.Goals as goal

pub loop-place-init : goal.loop-place-init
loop-place-init c = subst (λ (ls : List ℕ). AreFirstResets c.args.latches.now c.args.own.now 0 ls) (sym c.new-lits.ensures.items) (first-none c.args.latches.now c.args.own.now)

pub loop-place-preserved : goal.loop-place-preserved
loop-place-preserved c =
    let latches : List Latch = c.args.latches.now in
    let own : List ℕ = c.args.own.now in
    let k : ℕ = c.loop-place.place in
    let latch : Latch = c.index-latches-place.result in
    let there : slice_get latches k ≡ Some latch = slice_get_read latches (length latches) k latch refl c.loop-place-test.true c.index-latches-place.is in
    let short : k < length own = omega (arith, c.loop-place-test.true, c.requires) in
    let read : c.index-own-place.result ≡ get_or own k 0 = read-entry own k c.index-own-place.result short c.index-own-place.is in
    first-more latches own k c.opening_literal.result latch c.loop-place.lits.items c.push.new.self.items there
    (c.opening_literal.ensures ∙ ap (opening_literal latch.reset) read) c.loop-place.invariant c.in_ok-push.ensures.items

pub returns : goal.returns
returns c =
    first-all c.args.latches.now c.args.own.now c.loop-place.place c.loop-place.lits.items (omega (arith, c.loop-place-test.false, c.loop-place.auto.place-end)) c.loop-place.invariant
