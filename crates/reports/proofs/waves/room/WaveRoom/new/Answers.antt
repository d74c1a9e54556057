use Rattle.std.proofs.Common.{◌∙◌, All, ap, subst, arith}
use Rattle.aig_graph.specs.Graph.{Graph}
use Rattle.aig_graph.specs.Streams.{property_literals}
use Rattle.lane_sim.specs.Steps.{AreFor, IsStateFor}
use Rattle.reports.specs.waves.Moments.{blocks}
use Rattle.reports.proofs.waves.room.WaveRoom.new.Goals as goal

pub returns : goal.returns
returns c =
    let same = c.aig-aig.ensures.value in
    let states = c.in_ok-states.states in
    record {
      literals = c.in_ok-literals.ensures ∙ ap property_literals c.props.ensures.value;
      before = subst (λ (g : Graph). AreFor g c.in_ok-before.before) same c.in_ok-before.ensures;
      values = subst (λ (g : Graph). AreFor g c.in_ok-values.values) same c.in_ok-values.ensures;
      many = c.in_ok-states.ensures.many ∙ c.div_ceil.ensures ∙ ap blocks c.sequences.ensures;
      done = λ b d none within. absurd (omega (arith, none));
      waiting = λ b d all within. subst (λ (g : Graph). All (IsStateFor g) states.items) same c.in_ok-states.ensures.each b d within;
    }
