use Rattle.std.proofs.Common.{◌∙◌}
use Rattle.ascii_file.proofs.SplitLaws.{props_are}
use Rattle.ascii_file.proofs.parts.by_kind.props.Goals as goal

pub returns : goal.returns
returns c =
    props_are c.args.header.now c.args.safety.now c.args.sizes.now c.args.liveness.now c.in_ok-outputs.outputs c.in_ok-outputs.bad c.in_ok-outputs.constraints c.in_ok-justice.justice c.in_ok-literals.field-0
    c.requires.liveness c.in_ok-outputs.ensures.outputs c.in_ok-outputs.ensures.bad c.in_ok-outputs.ensures.constraints c.in_ok-justice.ensures
    (c.in_ok-literals.ensures ∙ c.split_at.ensures.back)
