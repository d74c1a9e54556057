use Rattle.aag_text.proofs.CollectingLaws.{has_room}
use Rattle.std.proofs.Common.{ℕ, ◌+◌, ◌≡◌, [], ◌∷◌, ◌++◌, ◌∙◌, ap, ap₂, length, map, sym, subst, arith}
use Rattle.std.proofs.lemmas.List.{map_more, take_all}
use Rattle.aig_graph.specs.declared.graph.Latch.{Latch}
use Rattle.aag_text.specs.Arranging.{IsBelow, moved_latch}
use Rattle.aag_text.proofs.circuit.arranging.latches.Goals as goal

pub literal-requires-clause-below : goal.literal-requires-clause-below
literal-requires-clause-below c =
    subst (λ (latch : Latch). IsBelow (c.args.first + length c.args.ranks.now) latch.next) (sym c.latch-item.is) (c.requires.below _ _ c.loop-latch-test.true)

pub loop-latch-init : goal.loop-latch-init
loop-latch-init c = record { room = omega (arith, c.in_ok-found.ensures.exact); filled = c.in_ok-found.ensures.items }

pub push_reserved-requires : goal.push_reserved-requires
push_reserved-requires c = omega (arith, has_room (moved_latch c.args.first c.args.ranks.now) c.args.latches.now c.loop-latch.latch-index _ _ c.loop-latch-test.true c.loop-latch.invariant.room c.loop-latch.invariant.filled)

pub loop-latch-preserved : goal.loop-latch-preserved
loop-latch-preserved c =
    record {
      room = omega (arith, c.loop-latch.invariant.room, c.push_reserved.ensures.capacity);
      filled =
          let move = moved_latch c.args.first c.args.ranks.now in
          let read : _ ≡ move c.latch-item.result = ap (λ (lit : ℕ). record c.latch-item.result { next = lit }) c.literal.ensures in
          c.push_reserved.ensures.items ∙ ap₂ (λ xs x. xs ++ x ∷ []) c.loop-latch.invariant.filled (read ∙ ap move c.latch-item.is)
          ∙ sym (map_more move _ _ _ c.loop-latch-test.true);
    }

pub literal-requires-clause-movable : goal.literal-requires-clause-movable
literal-requires-clause-movable c = c.requires.movable

pub returns : goal.returns
returns c = c.loop-latch.invariant.filled ∙ ap (map (moved_latch c.args.first c.args.ranks.now)) (take_all _ _ c.loop-latch-test.false)
