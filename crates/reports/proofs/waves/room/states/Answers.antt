use Rattle.std.proofs.Common.{ℕ, ◌+◌, ◌∙◌, All, List, ap, length, subst, sym}
use Rattle.std.proofs.lemmas.List.{length_push}
use Rattle.std.proofs.lemmas.List.Elements.{All-nil, All-push}
use Rattle.lane_sim.specs.declared.steps.State.{State}
use Rattle.lane_sim.specs.Steps.{IsStateFor}
use Rattle.reports.proofs.waves.room.states.Goals as goal

pub loop-block-init : goal.loop-block-init
loop-block-init c =
    let Each : List State → Type 0 = All (IsStateFor c.args.aig.now) in
    record {
      many = ap length c.in_ok-states.ensures.items;
      each = subst Each (sym c.in_ok-states.ensures.items) (All-nil (IsStateFor c.args.aig.now));
    }

pub loop-block-preserved : goal.loop-block-preserved
loop-block-preserved c =
    let Each : List State → Type 0 = All (IsStateFor c.args.aig.now) in
    let states = c.loop-block.states.items in
    let state = c.in_ok-state.state in
    record {
      many = ap length c.in_ok-push.ensures.items ∙ length_push states state ∙ ap (λ (n : ℕ). n + 1) c.loop-block.invariant.many;
      each = subst Each (sym c.in_ok-push.ensures.items) (All-push (IsStateFor c.args.aig.now) states state c.loop-block.invariant.each c.in_ok-state.ensures);
    }
