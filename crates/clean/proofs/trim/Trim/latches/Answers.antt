use Rattle.std.proofs.Common.{◌≡◌, ◌<◌, ◌+◌, ◌∙◌, ap, sym, arith, ℕ, List, Bool, length, get_or, Vec, Global}
use Rattle.aig_graph.specs.declared.graph.Latch.{Latch}
use Rattle.aig_graph.specs.Graph.{Graph, IsLiteralOf, first_latch}
use Rattle.cleaned_circuits.specs.Reached.{stays}
use Rattle.cleaned_circuits.specs.Trimmed.{renumbered_latch}
use Rattle.cleaned_circuits.proofs.TrimmedLaws.{stays-past, stays-reached}
use Rattle.clean.specs.Sweep.{is_marked}
use Rattle.clean.proofs.MappingLaws.{latch-there}
use Rattle.clean.proofs.TrimLaws.{length-new_literals, latch-new, picked-nil, picked-more, picked-skip}
use Rattle.clean.proofs.trim.Trim.latches.Goals as goal
use Rattle.clean.proofs.trim.Trim.latches.Goals.{then-keeps_latch+in_ok-push, else-keeps_latch}

pub loop-place-init : goal.loop-place-init
loop-place-init c =
    let g : Graph = c.args.self.now.aig.now in
    let s : ℕ → Bool = is_marked c.args.self.now.reached.now in
    picked-nil (stays g s) (renumbered_latch g s) (first_latch g) c.new-latches.result.items c.new-latches.ensures.items

pub latch-requires : goal.latch-requires
latch-requires c =
    let g : Graph = c.args.self.now.aig.now in
    let there = latch-there g c.latches-latch-items.result.now c.loop-place.place c.latch-item.result c.latches-latch-items.ensures.value c.loop-place-test.true c.latch-item.is in
    let within : IsLiteralOf g c.latch-item.result.next = c.latches-latch-items.ensures.graph.latches c.loop-place.place c.latch-item.result there in
    omega (arith, within, ap (λ (xs : List ℕ). length xs) c.args.self.now.renumbers, length-new_literals g (is_marked c.args.self.now.reached.now))

pub loop-place-preserved : goal.loop-place-preserved
loop-place-preserved c =
    let g : Graph = c.args.self.now.aig.now in
    let s : ℕ → Bool = is_marked c.args.self.now.reached.now in
    let k : ℕ = c.loop-place.place in
    let same : c.latches-latch-items.result.now ≡ g.latches = c.latches-latch-items.ensures.value in
    let there = latch-there g c.latches-latch-items.result.now k c.latch-item.result same c.loop-place-test.true c.latch-item.is in
    let within : k < length g.latches = omega (arith, c.loop-place-test.true, ap (λ (xs : List Latch). length xs) same) in
    let read : c.latch-item.result ≡ get_or g.latches k c.latch-item.result = c.latch-item.is ∙ ap (λ (xs : List Latch). get_or xs k c.latch-item.result) same in
    elim c.if-keeps_latch.branch [
      | then-keeps_latch+in_ok-push w ↦
          ap (λ (v : Vec Latch Global). v.items) w.latches-is
          ∙ picked-more (stays g s) (renumbered_latch g s) (first_latch g) k g.latches c.latch-item.result within read c.loop-place.latches.items w.push.new.self.items w.latch.result
          (stays-reached g s (first_latch g + k) (sym c.keeps_latch.ensures ∙ w.if-keeps_latch.true)) c.loop-place.invariant w.in_ok-push.ensures.items
          (w.latch.ensures ∙ latch-new g s c.args.self.now.literals.now k c.latch-item.result c.latches-latch-items.ensures.graph c.args.self.now.renumbers there)
      | else-keeps_latch w ↦
          ap (λ (v : Vec Latch Global). v.items) w.latches-is
          ∙ picked-skip (stays g s) (renumbered_latch g s) (first_latch g) k g.latches c.latch-item.result within read c.loop-place.latches.items
          (stays-past g s (first_latch g + k) (omega arith) ∙ sym c.keeps_latch.ensures ∙ w.if-keeps_latch.false) c.loop-place.invariant
    ]
