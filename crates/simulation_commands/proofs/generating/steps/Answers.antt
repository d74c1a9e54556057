use Rattle.std.proofs.Common.{◌+◌, arith}
use Rattle.simulation_commands.proofs.WordLaws.{steps-more}
use Rattle.simulation_commands.proofs.generating.steps.Goals as goal

pub push_reserved-requires : goal.push_reserved-requires
push_reserved-requires c = omega (arith, c.loop.invariant.long, c.loop.invariant.room, c.loop-test.true)

pub loop-preserved : goal.loop-preserved
loop-preserved c = record {
  made = λ seed start.
      let before = c.loop.invariant.made seed start in (
        c.next_word.ensures.state seed (c.loop.counter + 1) before.0,
        steps-more c.args.inputs c.loop.counter seed c.next_word.result c.loop.rows.items c.push_reserved.new.self.items _ before.1 (c.next_word.ensures.word seed (c.loop.counter + 1) before.0)
            c.in_ok-digits.ensures c.push_reserved.ensures.items,
      );
  long = omega (arith, c.loop.invariant.long, c.push_reserved.ensures.len);
  room = omega (arith, c.loop.invariant.room, c.push_reserved.ensures.capacity);
}
