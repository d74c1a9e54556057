use Rattle.std.proofs.Common.{◌∙◌, sym, subst, ℕ, Bool, not, List, slice_index_or, false}
use Rattle.std.specs.List.Sorted.{IsStrictlyIncreasing}
use Rattle.aig_graph.specs.Border.{IsGreatestLeast}
use Rattle.frame_net.specs.Flow.{IsSourceSide}
use Rattle.frame_net.specs.FlowNet.{node_count}
use Rattle.pulse.specs.Conditions.{state_of}
use Rattle.cut_cert.proofs.GateLaws.{are-gates, greatest-set}
use Rattle.cut_cert.proofs.greatest.greatest_cut.Goals as goal

pub returns-in-Some : goal.returns-in-Some
returns-in-Some c = λ n held is.
    let side : ℕ → Bool = λ u. not (slice_index_or c.as_slice.result.now u false) in
    let apart = subst (λ (xs : List Bool). IsSourceSide (node_count c.args.net.now) (state_of c.args.net.now c.args.preflow.now.flow) (λ u. not (slice_index_or xs u false))) (sym c.as_slice.ensures.value) c.in_ok-marks.ensures.side in
    subst (λ (s : List ℕ). IsGreatestLeast n held s) (sym (c.in-Some.ensures.1 ∙ c.in_ok-gates.ensures))
    (greatest-set n held c.args.net.now c.args.preflow.now side is c.requires apart)

pub returns : goal.returns
returns c = λ n held is.
    let side : ℕ → Bool = λ u. not (slice_index_or c.as_slice.result.now u false) in
    absurd (c.in-None.ensures (subst IsStrictlyIncreasing (sym c.in_ok-gates.ensures) (are-gates n held c.args.net.now is side).rising))
