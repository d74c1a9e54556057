use Rattle.std.proofs.Common.{◌≡◌, ◌∙◌, ◌+◌, sym, ap, arith, length, List, ℕ, slice_get, Some, refl}
use Rattle.std.proofs.lemmas.Option.{slice_get_read}
use Rattle.aig_graph.specs.declared.graph.Latch.{Latch}
use Rattle.aig_graph.specs.Graph.{first_latch, IsGraph}
use Rattle.aig_graph.specs.Tables.{table}
use Rattle.aig_graph.proofs.TableLaws.{length-table}
use Rattle.cleaned_circuits.specs.Latches.{leaf_substitute}
use Rattle.clean.proofs.FirstsLaws.{firsts-start, own-substitutes, substitutes-more}
use Rattle.clean.proofs.latches.latch_substitutes.Goals as goal

pub loop-place-init : goal.loop-place-init
loop-place-init c =
    let g = c.args.aig.now in
    let held = c.args.held.now.positions.now in
    let start : first_latch g ≡ first_latch g + 0 = omega arith in
    record {
      substitutes = c.requires.inputs ∙ own-substitutes g held ∙ ap (λ (n : ℕ). table 0 n (leaf_substitute g held)) start;
      firsts = rw c.new-firsts.ensures (firsts-start g held);
    }

pub substitute_for_latch-requires-clause-there : goal.substitute_for_latch-requires-clause-there
substitute_for_latch-requires-clause-there c =
    let items : List Latch = c.latches-latch-items.result.now in
    ap (λ (xs : List Latch). slice_get xs c.loop-place.place) (sym c.latches-latch-items.ensures.value)
    ∙ slice_get_read items (length items) c.loop-place.place c.latch-item.result refl c.loop-place-test.true c.latch-item.is

pub push-requires : goal.push-requires
push-requires c =
    let g = c.args.aig.now in
    let valid : IsGraph g = c.latches-latch-items.ensures.graph in
    omega (
      arith,
      ap (λ (xs : List ℕ). length xs) c.loop-place.invariant.substitutes,
      length-table 0 (first_latch g + c.loop-place.place) (leaf_substitute g c.args.held.now.positions.now),
      valid.small,
      c.loop-place-test.true,
      ap (λ (xs : List Latch). length xs) c.latches-latch-items.ensures.value,
    )

pub loop-place-preserved : goal.loop-place-preserved
loop-place-preserved c =
    let g = c.args.aig.now in
    let held = c.args.held.now.positions.now in
    let items : List Latch = c.latches-latch-items.result.now in
    let there : slice_get g.latches c.loop-place.place ≡ Some c.latch-item.result =
    ap (λ (xs : List Latch). slice_get xs c.loop-place.place) (sym c.latches-latch-items.ensures.value)
    ∙ slice_get_read items (length items) c.loop-place.place c.latch-item.result refl c.loop-place-test.true c.latch-item.is in
    record {
      substitutes = substitutes-more g held c.loop-place.place c.latch-item.result c.loop-place.substitutes c.push.new.self c.in_ok-substitute.substitute there c.loop-place.invariant.substitutes c.in_ok-substitute.ensures.literal c.in_ok-push.ensures;
      firsts = c.in_ok-substitute.ensures.firsts;
    }
