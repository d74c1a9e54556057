use Rattle.simulation_commands.proofs.WordLaws.{seeded, sequence-made}
use Rattle.simulation_commands.proofs.generating.sequence.Goals as goal

pub returns : goal.returns
returns c =
    let start = seeded c.args.seed c.seed_from_u64-generator.result c.seed_from_u64-generator.ensures.same in
    sequence-made c.args.inputs c.args.free c.args.count c.args.seed c.next_word.result c.in_ok-choice.choice c.in_ok-steps.steps (c.next_word.ensures.word c.args.seed 0 start) c.in_ok-choice.ensures
    (c.in_ok-steps.ensures c.args.seed (c.next_word.ensures.state c.args.seed 0 start))
