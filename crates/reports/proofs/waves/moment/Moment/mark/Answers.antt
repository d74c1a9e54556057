use Rattle.std.proofs.Common.{◌∙◌, ap, arith, get_or}
use Rattle.std.proofs.lemmas.List.{get_or_default}
use Rattle.lane_sim.specs.declared.stimulus.InputSequence.{InputSequence}
use Rattle.reports.specs.waves.Dumps.{value_character}
use Rattle.reports.proofs.WaveMomentLaws.{shown-is}
use Rattle.reports.proofs.waves.moment.Moment.mark.Goals as goal

pub value_at-requires-clause-literals : goal.value_at-requires-clause-literals
value_at-requires-clause-literals c = λ k d h. omega (arith, c.requires.moment.inside k d h, c.requires.moment.values.room.long)

pub returns : goal.returns
returns c =
    let m = c.args.self.now in
    let s = c.args.sequence in
    let item = c.index-self-sequence.result in
    let run : InputSequence = get_or m.sequences.now s item in
    c.mark.ensures
    ∙ ap value_character (shown-is m m.values.now s m.time c.args.place run c.value_at.result c.requires.moment.literals c.requires.sequence
    (get_or_default m.sequences.now s item run c.requires.sequence) c.value_at.ensures c.requires.moment.values)
