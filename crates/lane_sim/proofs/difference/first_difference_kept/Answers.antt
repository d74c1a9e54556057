use Rattle.std.proofs.Common.{◌≡◌, ◌∙◌, map, subst, sym, rules, List}
use Rattle.std.specs.Option.{IfNone, IfSome}
use Rattle.lane_sim.specs.declared.stimulus.InputSequence.{InputSequence}
use Rattle.lane_sim.specs.Traces.{trace}
use Rattle.lane_sim.specs.Comparing.{AreAlike}
use Rattle.lane_sim.specs.Differences.{IsFirstDifference}
use Rattle.lane_sim.specs.Kept.{for_kept}
use Rattle.lane_sim.proofs.DifferenceLaws.{alike_kept, where_none, where_some}
use Rattle.lane_sim.proofs.difference.first_difference_kept.Goals as goal

pub difference-requires-clause-shape : goal.difference-requires-clause-shape
difference-requires-clause-shape g c κs within = (c.have_kept_shape.ensures.0 (search rules)).shape

pub difference-requires-clause-alike : goal.difference-requires-clause-alike
difference-requires-clause-alike g c κs within =
    subst (AreAlike c.as_slice-sequences.result.now) (sym (c.as_slice.ensures.value ∙ c.in_ok-others.ensures)) (alike_kept c.args.kept.now c.as_slice-sequences.result.now)

pub returns-clause-same_shape : goal.returns-clause-same_shape
returns-clause-same_shape g c = c.have_kept_shape.ensures.0 (search rules)

pub returns-clause-none : goal.returns-clause-none
returns-clause-none g c =
    let a = c.args.a.now in
    let b = c.args.b.now in
    let others = c.as_slice.ensures.value ∙ c.in_ok-others.ensures in
    subst (λ (sequences : List InputSequence). IfNone c.in_ok-found.found (trace a sequences ≡ trace b (map (for_kept c.args.kept.now) sequences))) c.as_slice-sequences.ensures
    (subst (λ (runs : List InputSequence). IfNone c.in_ok-found.found (trace a c.as_slice-sequences.result.now ≡ trace b runs)) others (where_none c.in_ok-found.found _ _ c.in_ok-found.ensures))

pub returns-clause-first : goal.returns-clause-first
returns-clause-first g c =
    let a = c.args.a.now in
    let b = c.args.b.now in
    let others = c.as_slice.ensures.value ∙ c.in_ok-others.ensures in
    subst (λ (sequences : List InputSequence). IfSome c.in_ok-found.found (IsFirstDifference (trace a sequences) (trace b (map (for_kept c.args.kept.now) sequences)))) c.as_slice-sequences.ensures
    (subst (λ (runs : List InputSequence). IfSome c.in_ok-found.found (IsFirstDifference (trace a c.as_slice-sequences.result.now) (trace b runs))) others (where_some c.in_ok-found.found _ _ c.in_ok-found.ensures))
