use Rattle.std.proofs.Common.{ℕ, ◌≡◌, ◌∙◌, ◌+◌, List, Option, Some, None, arith, ap, sym, refl, subst, length, slice_get, get_or}
use Rattle.std.proofs.lemmas.Option.{slice_get-get_or, slice_get_read}
use Rattle.aig_graph.specs.declared.graph.Latch.{Latch}
use Rattle.witness_circuits.specs.Latches.{AreOwn}
use Rattle.witness_circuits.proofs.CountLaws.{own-none, own-some}
use Rattle.witness_circuits.proofs.LatchLaws.{own-skips, own-start, own-takes}
use Rattle.witness_circuits.proofs.latches.own_latches.Goals as goal
use Rattle.witness_circuits.proofs.latches.own_latches.Goals.{then-is_own+in_ok-push, else-is_own}

pub loop-place-init : goal.loop-place-init
loop-place-init c = own-start c.args.places.now c.args.latches.now c.new-own.result.items c.new-own.ensures.items

pub loop-place-preserved : goal.loop-place-preserved
loop-place-preserved c =
    let places : List (Option ℕ) = c.args.places.now in
    let latches : List Latch = c.args.latches.now in
    let k : ℕ = c.loop-place.place in
    let o : Option ℕ = get_or places k None in
    let latch : Latch = c.index-latches-place.result in
    let there : slice_get latches k ≡ Some latch = slice_get_read latches (length latches) k latch refl c.loop-place-test.true c.index-latches-place.is in
    let at : slice_get places k ≡ Some o = slice_get-get_or places k None (omega (arith, c.loop-place-test.true, c.requires)) in
    elim c.if-is_own.branch [
      | then-is_own+in_ok-push w ↦ (
          let mine : slice_get places k ≡ Some None = at ∙ ap (λ (p : Option ℕ). Some p) (own-none o (sym c.is_own.ensures ∙ w.if-is_own.true)) in
          subst (λ (ls : List Latch). AreOwn places latches (k + 1) ls) (ap (λ (v : _). v.items) (sym w.own-is))
          (own-takes places latches c.loop-place.own.items w.push.new.self.items k latch mine there c.loop-place.invariant w.in_ok-push.ensures.items))
      | else-is_own w ↦ (
          let some = own-some o (sym c.is_own.ensures ∙ w.if-is_own.false) in
          subst (λ (ls : List Latch). AreOwn places latches (k + 1) ls) (ap (λ (v : _). v.items) (sym w.own-is))
          (own-skips places latches c.loop-place.own.items k some.0 (at ∙ ap (λ (p : Option ℕ). Some p) some.1) c.loop-place.invariant))
    ]

pub returns : goal.returns
returns c =
    let end : c.loop-place.place ≡ length c.args.places.now = omega (arith, c.loop-place-test.false, c.loop-place.auto.place-end, c.requires) in
    subst (λ (n : ℕ). AreOwn c.args.places.now c.args.latches.now n c.loop-place.own.items) end c.loop-place.invariant
