use Rattle.std.proofs.Common.{◌≡◌, ◌∙◌, ◌<◌, List, ℕ, Some, ap, sym, refl, arith, subst, length, slice_get, get_or}
use Rattle.std.proofs.lemmas.List.{get_or_read}
use Rattle.std.proofs.lemmas.Option.{slice_get_read}
use Rattle.aig_graph.specs.declared.graph.Latch.{Latch}
use Rattle.aig_graph.specs.Graph.{Graph}
use Rattle.gate_sharing.specs.Copies.{copy_of}
use Rattle.map_checks.specs.Starts.{Takes}
use Rattle.map_checks.proofs.StartLaws.{starts-more}
use Rattle.map_checks.proofs.openings.start_of.Goals as goal

pub loop-place-preserved : goal.loop-place-preserved
loop-place-preserved c =
    let g : Graph = c.args.second.now in
    let k : ℕ = c.loop-place.place in
    let items : List Latch = c.latches-latch-items.result.now in
    let latch : Latch = c.latch-item.result in
    let lits : ℕ → ℕ = λ j. copy_of c.args.image.now (get_or c.args.outputs.now j 0) in
    let there : slice_get g.latches k ≡ Some latch =
    ap (λ (xs : List Latch). slice_get xs k) (sym c.latches-latch-items.ensures.value) ∙ slice_get_read items (length items) k latch refl c.loop-place-test.true c.latch-item.is in
    let long : length items ≡ length c.args.outputs.now = ap (λ (xs : List Latch). length xs) c.latches-latch-items.ensures.value ∙ sym c.requires.long in
    let within : k < length c.args.outputs.now = omega (arith, c.loop-place-test.true, long) in
    let lit : c.literal-lit.result ≡ lits k = c.literal-lit.ensures ∙ ap (copy_of c.args.image.now) (get_or_read c.args.outputs.now k c.index-outputs-place.result within c.index-outputs-place.is 0) in
    let takes : Takes c.args.first.now latch.reset (lits k) c.loop-place.kept c.take.new.self =
    subst (λ (n : ℕ). Takes c.args.first.now latch.reset n c.loop-place.kept c.take.new.self) lit (c.in_ok-take.ensures (grind (arith, c.if-not-branch.false))) in
    starts-more c.args.first.now g lits k latch c.loop-place.kept c.take.new.self there c.loop-place.invariant takes
