use Rattle.std.proofs.Common.{◌∙◌, ap, sym, subst, Bool, List, length, not, slice_index_or, false}
use Rattle.frame_net.specs.Flow.{IsSourceSide}
use Rattle.frame_net.specs.FlowNet.{node_count}
use Rattle.pulse.specs.Conditions.{state_of}
use Rattle.cut_cert.proofs.greatest.marks_of.Goals as goal

pub returns-clause-side : goal.returns-clause-side
returns-clause-side c =
    subst (λ (xs : List Bool). IsSourceSide (node_count c.args.net.now) (state_of c.args.net.now c.args.preflow.now.flow) (λ v. not (slice_index_or xs v false))) (sym c.into_marks.ensures) c.in_ok-side.ensures.side

pub returns-clause-long : goal.returns-clause-long
returns-clause-long c = ap length c.into_marks.ensures ∙ c.in_ok-side.ensures.long
