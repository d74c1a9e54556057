use Rattle.std.proofs.Common.{List, ℕ, subst}
use Rattle.aig_graph.specs.declared.properties.Props.{Props}
use Rattle.aig_graph.specs.Graph.{Graph}
use Rattle.frame_net.specs.FlowNet.{FlowNet}
use Rattle.frame_net.specs.Capacity.{IsNetOf}
use Rattle.frame_net.proofs.BuildLaws.{built-flow_net, built-startable, built-points, built-net}
use Rattle.frame_net.proofs.net.Net.build.Goals as goal

pub invariant_of-result : goal.invariant_of-result
invariant_of-result c =
    let k = c.in_ok-layout.layout in
    let r = c.in_ok-starts.field-0 in
    let f = c.in_ok-starts.ensures in
    let net : FlowNet = record { starts = r.starts.items; heads = r.heads.items; mates = r.mates.items; caps = r.caps; latches = k.latches; variables = k.variables.items } in (
      built-flow_net k.aig.now k.props.now k.keep.now k.graph net k.variables_are k.latches_are f,
      built-startable k.aig.now k.props.now k.keep.now k.graph net k.variables_are k.latches_are f,
      built-points k.aig.now k.props.now k.keep.now k.graph net k.variables_are k.latches_are f,
    )

pub returns : goal.returns
returns c =
    let k = c.in_ok-layout.layout in
    let r = c.in_ok-starts.field-0 in
    let net : FlowNet = record { starts = r.starts.items; heads = r.heads.items; mates = r.mates.items; caps = r.caps; latches = k.latches; variables = k.variables.items } in
    subst (λ (g : Graph). IsNetOf g c.args.props.now c.args.keep.now net) c.in_ok-layout.ensures.graph
    (subst (λ (props : Props). IsNetOf k.aig.now props c.args.keep.now net) c.in_ok-layout.ensures.properties
    (subst (λ (held : List ℕ). IsNetOf k.aig.now k.props.now held net) c.in_ok-layout.ensures.held
    (built-net k.aig.now k.props.now k.keep.now k.graph net k.variables_are k.latches_are c.in_ok-starts.ensures)))
