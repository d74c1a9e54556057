use Rattle.std.proofs.Common.{◌∙◌, arith, ap, length}
use Rattle.simulation_commands.proofs.WordLaws.{seeded, stimulus-more, stimulus-none}
use Rattle.simulation_commands.proofs.generating.random_stimulus.Goals as goal

pub loop-init : goal.loop-init
loop-init c = record {
  state = seeded c.args.seed c.seed_from_u64-generator.result c.seed_from_u64-generator.ensures.same;
  made = c.in_ok-made.ensures.items ∙ stimulus-none c.args.inputs c.args.free c.args.steps c.args.seed;
  long = ap length c.in_ok-made.ensures.items;
  room = c.in_ok-made.ensures.capacity;
}

pub push_reserved-requires : goal.push_reserved-requires
push_reserved-requires c = omega (arith, c.loop.invariant.long, c.loop.invariant.room, c.loop-test.true)

pub loop-preserved : goal.loop-preserved
loop-preserved c =
    let before = c.loop.invariant in
    record {
      state = c.next_word.ensures.state c.args.seed c.loop.counter before.state;
      made =
          stimulus-more c.args.inputs c.args.free c.args.steps c.args.seed c.loop.counter c.next_word.result c.loop.made.items c.push_reserved.new.self.items _ before.made
          (c.next_word.ensures.word c.args.seed c.loop.counter before.state) c.in_ok-sequence.ensures c.push_reserved.ensures.items;
      long = omega (arith, before.long, c.push_reserved.ensures.len);
      room = omega (arith, before.room, c.push_reserved.ensures.capacity);
    }
