use Rattle.std.proofs.Common.{ℕ, ◌==◌, false, ap, sym, ◌∙◌}
use Rattle.std.proofs.lemmas.Bool.{cond-false, cond-true, eq-eqb, ne_eqb}
use Rattle.frame_net.specs.FlowNet.{node_count}
use Rattle.pulse.specs.Conditions.{active_count}
use Rattle.pulse.specs.Sharing.{next_share, share_among}
use Rattle.pulse.proofs.fast_run.first_share.Goals as goal

pub returns-then-crew-eq1-clause-share : goal.returns-then-crew-eq1-clause-share
returns-then-crew-eq1-clause-share c =
    c.among.ensures
    ∙ sym (cond-true (c.args.crew == 1) (share_among 1) (next_share (node_count c.args.net.now) (active_count c.args.net.now c.args.flow.now) false c.args.crew c.args.begun) (eq-eqb c.args.crew 1 c.if-crew-eq1.true))

pub returns-clause-share : goal.returns-clause-share
returns-clause-share c =
    c.next.ensures.share
    ∙ (ap (λ (n : ℕ). next_share (node_count c.args.net.now) n false c.args.crew c.args.begun) c.active_nodes.ensures
    ∙ sym (cond-false (c.args.crew == 1) (share_among 1) (next_share (node_count c.args.net.now) (active_count c.args.net.now c.args.flow.now) false c.args.crew c.args.begun) (ne_eqb c.args.crew 1 c.if-crew-eq1.false)))
