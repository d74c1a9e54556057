use Rattle.std.proofs.Common.{◌≡◌, ◌∙◌, ◌<◌, ap, sym, subst, arith, ℕ, List}
use Rattle.std.specs.List.{All}
use Rattle.aig_graph.specs.Graph.{Graph, variable}
use Rattle.gate_sharing.specs.Copies.{AreShared, Copy, IsCopy, copied_end}
use Rattle.map_checks.specs.Images.{nexts_of, copy_of_literals}
use Rattle.map_checks.proofs.ImageLaws.{nexts-within, picked-shared, view-later_map}
use Rattle.map_checks.proofs.sides.later_side.Goals as goal

pub picked-requires : goal.picked-requires
picked-requires c =
    let g : Graph = c.args.first.now.aig in
    let is : c.as_slice.result.now ≡ nexts_of g.latches = c.as_slice.ensures.value ∙ c.in_ok-nexts.ensures ∙ ap (λ (h : Graph). nexts_of h.latches) c.aig.ensures.value in
    let P : List ℕ → Type 0 = λ lits. All (λ lit. variable lit < copied_end c.args.before.now) lits in
    subst P (sym is) (subst (λ (n : ℕ). All (λ lit. variable lit < n) (nexts_of g.latches)) (sym c.requires.long) (nexts-within g c.aig.ensures.graph))

pub copy-requires-clause-within : goal.copy-requires-clause-within
copy-requires-clause-within c =
    let g : Graph = c.args.first.now.aig in
    let is : c.as_slice.result.now ≡ nexts_of g.latches = c.as_slice.ensures.value ∙ c.in_ok-nexts.ensures ∙ ap (λ (h : Graph). nexts_of h.latches) c.aig.ensures.value in
    let leaves : c.in_ok-leaves.leaves ≡ copy_of_literals 1 c.args.before.now (nexts_of g.latches) = c.in_ok-leaves.ensures ∙ ap (copy_of_literals 1 c.args.before.now) is in
    subst (λ (p : Copy). AreShared c.args.shared.now p) (sym leaves)
    (picked-shared c.args.shared.now 1 c.args.before.now (nexts_of g.latches) (omega (arith, c.requires.after)) c.requires.within
    (subst (λ (n : ℕ). All (λ lit. variable lit < n) (nexts_of g.latches)) (sym c.requires.long) (nexts-within g c.aig.ensures.graph)))

pub returns-clause-view : goal.returns-clause-view
returns-clause-view c = λ e stays view.
    let g : Graph = c.args.first.now.aig in
    let m : Graph = c.args.map.now.aig in
    let is : c.as_slice.result.now ≡ nexts_of g.latches = c.as_slice.ensures.value ∙ c.in_ok-nexts.ensures ∙ ap (λ (h : Graph). nexts_of h.latches) c.aig.ensures.value in
    let leaves : c.in_ok-leaves.leaves ≡ copy_of_literals 1 c.args.before.now (nexts_of g.latches) = c.in_ok-leaves.ensures ∙ ap (copy_of_literals 1 c.args.before.now) is in
    let copied : Copy = c.in_ok-copied.copied in
    let there : IsCopy c.copy.new.shared c.args.equal.now m (copy_of_literals 1 c.args.before.now (nexts_of g.latches)) copied =
    subst (λ (p : Copy). IsCopy c.copy.new.shared c.args.equal.now m p copied) leaves
    (subst (λ (h : Graph). IsCopy c.copy.new.shared c.args.equal.now h c.in_ok-leaves.leaves copied) c.aig-2.ensures.value c.in_ok-copied.ensures.copies) in
    view-later_map c.args.shared.now c.copy.new.shared e c.args.equal.now c.args.first.now c.args.map.now c.args.before.now copied c.aig-2.ensures.graph c.aig.ensures.graph
    c.requires.inputs c.requires.latches c.in_ok-copied.ensures.grows view stays there
