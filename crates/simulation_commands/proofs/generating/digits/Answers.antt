use Rattle.std.proofs.Common.{ℕ, ◌/◌, ◌∙◌, arith, ap, length}
use Rattle.simulation_commands.proofs.WordLaws.{IsAtHand, at_hand-same, digits-more, drawn-before, drawn-more, drawn-start}
use Rattle.simulation_commands.proofs.generating.digits.Goals.{then-place-eq0, else-place-eq0}
use Rattle.simulation_commands.proofs.generating.digits.Goals as goal

pub loop-place-init : goal.loop-place-init
loop-place-init c = record {
  drawn = drawn-start c.args.seed c.seed_from_u64-generator.result 0 c.seed_from_u64-generator.ensures.same;
  made = c.in_ok-values.ensures.items;
  long = ap length c.in_ok-values.ensures.items;
  room = c.in_ok-values.ensures.capacity;
}

pub push_reserved-requires : goal.push_reserved-requires
push_reserved-requires c = omega (arith, c.loop-place.invariant.long, c.loop-place.invariant.room, c.loop-place-test.true)

pub loop-place-preserved : goal.loop-place-preserved
loop-place-preserved c =
    let before = c.loop-place.invariant in
    let seed : ℕ = c.args.seed in
    let place : ℕ = c.loop-place.place in
    let at_hand : IsAtHand seed place c.if-place-eq0.generator c.if-place-eq0.word = elim c.if-place-eq0.branch [
      | then-place-eq0 w ↦
          let first = drawn-before seed place c.loop-place.generator c.loop-place.word w.if-place-eq0.true before.drawn in
          record {
            drawn = w.generator-is ∙ w.next_word-word.ensures.state seed (place / 64) first;
            at = w.word-is ∙ w.next_word-word.ensures.word seed (place / 64) first;
          }
      | else-place-eq0 w ↦
          let same = at_hand-same seed place c.loop-place.generator c.loop-place.word w.if-place-eq0.false before.drawn in
          record { drawn = w.generator-is ∙ same.drawn; at = w.word-is ∙ same.at }
    ] in
    record {
      drawn = drawn-more seed place c.if-place-eq0.generator c.if-place-eq0.word at_hand;
      made = digits-more seed place c.if-place-eq0.word c.loop-place.values.items c.push_reserved.new.self.items at_hand.at before.made c.push_reserved.ensures.items;
      long = omega (arith, before.long, c.push_reserved.ensures.len);
      room = omega (arith, before.room, c.push_reserved.ensures.capacity);
    }
