use Rattle.aag_text.proofs.CollectingLaws.{has_room}
use Rattle.std.proofs.Common.{◌+◌, [], ◌∷◌, ◌++◌, ◌∙◌, ap, ap₂, length, map, sym, subst, arith}
use Rattle.std.proofs.lemmas.List.{map_more, take_all}
use Rattle.aag_text.specs.Arranging.{IsBelow, moved}
use Rattle.aag_text.proofs.circuit.arranging.literals.Goals as goal

pub literal-requires-clause-below : goal.literal-requires-clause-below
literal-requires-clause-below c = subst (IsBelow (c.args.first + length c.args.ranks.now)) (sym c.lit-item.is) (c.requires.below _ _ c.loop-lit-test.true)

pub loop-lit-init : goal.loop-lit-init
loop-lit-init c = record { room = omega (arith, c.in_ok-codes.ensures.exact); filled = c.in_ok-codes.ensures.items }

pub push_reserved-requires : goal.push_reserved-requires
push_reserved-requires c = omega (arith, has_room (moved c.args.first c.args.ranks.now) c.args.lits.now c.loop-lit.lit-index _ _ c.loop-lit-test.true c.loop-lit.invariant.room c.loop-lit.invariant.filled)

pub loop-lit-preserved : goal.loop-lit-preserved
loop-lit-preserved c =
    record {
      room = omega (arith, c.loop-lit.invariant.room, c.push_reserved.ensures.capacity);
      filled =
          let move = moved c.args.first c.args.ranks.now in
          c.push_reserved.ensures.items ∙ ap₂ (λ xs x. xs ++ x ∷ []) c.loop-lit.invariant.filled (c.code.ensures.code ∙ c.literal.ensures ∙ ap move c.lit-item.is)
          ∙ sym (map_more move _ _ _ c.loop-lit-test.true);
    }

pub literal-requires-clause-movable : goal.literal-requires-clause-movable
literal-requires-clause-movable c = c.requires.movable

pub returns : goal.returns
returns c = c.loop-lit.invariant.filled ∙ ap (map (moved c.args.first c.args.ranks.now)) (take_all _ _ c.loop-lit-test.false)
