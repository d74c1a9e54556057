use Rattle.std.proofs.Common.{◌≡◌, ◌∙◌, ap, sym, arith, ℕ, List, Bool, length, Vec, Global, refl}
use Rattle.aig_graph.specs.declared.graph.Latch.{Latch}
use Rattle.aig_graph.specs.Graph.{Graph}
use Rattle.aig_graph.proofs.FreeLaws.{free-more}
use Rattle.clean.specs.Sweep.{is_marked}
use Rattle.clean.proofs.MappingLaws.{latch-there}
use Rattle.clean.proofs.TrimLaws.{kept-start, kept-more, kept-skip, kept-end}
use Rattle.clean.proofs.trim.Trim.kept_free.Goals as goal
use Rattle.clean.proofs.trim.Trim.kept_free.Goals.{then-keeps_free+in_ok-push, else-keeps_free}

pub loop-place-init : goal.loop-place-init
loop-place-init c = record { kept = kept-start c.args.self.now.aig.now (is_marked c.args.self.now.reached.now) c.new-kept.result.items c.new-kept.ensures.items; free = refl }

pub keeps_free-requires : goal.keeps_free-requires
keeps_free-requires c = latch-there c.args.self.now.aig.now c.latches-latch-items.result.now c.loop-place.place c.latch-item.result c.latches-latch-items.ensures.value c.loop-place-test.true c.latch-item.is

pub loop-place-preserved : goal.loop-place-preserved
loop-place-preserved c =
    let g : Graph = c.args.self.now.aig.now in
    let s : ℕ → Bool = is_marked c.args.self.now.reached.now in
    let k : ℕ = c.loop-place.place in
    let there = latch-there g c.latches-latch-items.result.now k c.latch-item.result c.latches-latch-items.ensures.value c.loop-place-test.true c.latch-item.is in
    record {
      kept = elim c.if-keeps_free.branch [
        | then-keeps_free+in_ok-push w ↦
            ap (λ (v : Vec ℕ Global). v.items) w.kept-is
            ∙ kept-more g s k c.loop-place.free c.loop-place.kept.items w.push.new.self.items (sym c.keeps_free.ensures ∙ w.if-keeps_free.true) c.loop-place.invariant.kept w.in_ok-push.ensures.items c.loop-place.invariant.free
        | else-keeps_free w ↦
            ap (λ (v : Vec ℕ Global). v.items) w.kept-is
            ∙ kept-skip g s k c.loop-place.kept.items (sym c.keeps_free.ensures ∙ w.if-keeps_free.false) c.loop-place.invariant.kept
      ];
      free = free-more g k c.loop-place.free c.one_if_free-free.result c.latch-item.result there c.loop-place.invariant.free c.one_if_free-free.ensures.value;
    }

pub returns : goal.returns
returns c =
    let g : Graph = c.args.self.now.aig.now in
    let end : c.loop-place.place ≡ length g.latches = omega (arith, c.loop-place-test.false, c.loop-place.auto.place-end, ap (λ (xs : List Latch). length xs) c.latches-latch-items.ensures.value) in
    kept-end g (is_marked c.args.self.now.reached.now) c.loop-place.place c.loop-place.kept.items end c.loop-place.invariant.kept
