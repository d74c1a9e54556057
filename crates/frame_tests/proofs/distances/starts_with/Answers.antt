use Rattle.std.proofs.Common.{List, subst, sym}
use Rattle.pulse_parts.specs.declared.parts.FlowPart.{FlowPart}
use Rattle.pulse_parts.specs.Parts.{AreFlowParts}
use Rattle.pulse_parts.specs.Start.{start_res, start_excess}
use Rattle.pulse_parts.proofs.StartStateLaws.{held_cut}
use Rattle.frame_tests.proofs.distances.starts_with.Goals as goal

pub exact_labels-requires-clause-parts : goal.exact_labels-requires-clause-parts
exact_labels-requires-clause-parts c =
    subst (λ (qs : List FlowPart). AreFlowParts c.args.net.now 0 qs) (sym c.as_slice.ensures.value)
    (held_cut c.args.net.now (start_res c.args.net.now) (start_excess c.args.net.now) c.in_ok-parts.parts.items c.in_ok-parts.ensures.starts)
