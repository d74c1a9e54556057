use Rattle.std.proofs.lemmas.List.{take_all}
use Rattle.std.proofs.Common.{ℕ, ◌<◌, ◌≡◌, ◌∙◌, ◌+◌, List, Some, arith, ap, length, refl, slice_get, subst, sym, take}
use Rattle.std.proofs.lemmas.Option.{slice_get_read}
use Rattle.aig_graph.specs.declared.graph.Latch.{Latch}
use Rattle.map_circuits.proofs.ConstrainingLaws.{read-entry}
use Rattle.state_maps.specs.MapCircuits.{free_outputs}
use Rattle.map_circuits.proofs.FreeLaws.{free-more, known-more}
use Rattle.map_circuits.proofs.free.free_outputs.Goals as goal
use Rattle.map_circuits.proofs.free.free_outputs.Goals.{then-is_free+in_ok-push, else-is_free}

pub loop-place-preserved : goal.loop-place-preserved
loop-place-preserved c =
    let latches : List Latch = c.args.latches.now in
    let outputs : List ℕ = c.args.outputs.now in
    let k : ℕ = c.loop-place.place in
    let latch : Latch = c.index-latches-place.result in
    let there : slice_get latches k ≡ Some latch = slice_get_read latches (length latches) k latch refl c.loop-place-test.true c.index-latches-place.is in
    let short : k < length outputs = omega (arith, c.loop-place-test.true, c.requires) in
    elim c.if-is_free.branch [
      | then-is_free+in_ok-push w ↦ free-more latches outputs k latch there short c.loop-place.codes.items c.if-is_free.codes.items w.code.result (sym c.is_free.ensures ∙ w.if-is_free.true)
          (w.code.ensures.code ∙ read-entry outputs k w.index-outputs-place.result short w.index-outputs-place.is) c.loop-place.invariant
          (ap (λ (v : _). v.items) w.codes-is ∙ w.in_ok-push.ensures.items)
      | else-is_free w ↦ subst (λ (ls : List ℕ). ls ≡ free_outputs (take (k + 1) latches) (take (k + 1) outputs)) (ap (λ (v : _). v.items) (sym w.codes-is))
          (known-more latches outputs k latch there short c.loop-place.codes.items (sym c.is_free.ensures ∙ w.if-is_free.false) c.loop-place.invariant)
    ]

pub returns : goal.returns
returns c =
    let latches : List Latch = c.args.latches.now in
    let outputs : List ℕ = c.args.outputs.now in
    let k : ℕ = c.loop-place.place in
    c.loop-place.invariant ∙ ap (λ (ls : List Latch). free_outputs ls (take k outputs)) (take_all k latches c.loop-place-test.false)
    ∙ ap (λ (ls : List ℕ). free_outputs latches ls) (take_all k outputs (omega (arith, c.loop-place-test.false, c.requires)))
