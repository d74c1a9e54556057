use Rattle.std.proofs.Common.{◌≡◌, ◌<◌, ◌∙◌, ap, sym, arith, ℕ, List, length, slice_index, nat_lt, true}
use Rattle.frame_net.specs.FlowNet.{FlowNet, node_count, row_len, head, mate}
use Rattle.cut_cert.specs.Fronts.{SearchFront, is_marked}
use Rattle.cut_cert.specs.SinkWalk.{reach_node_in_sweep}
use Rattle.cut_cert.proofs.SinkWalkLaws.{arcs-none, arcs-long, arcs-step-on, arcs-step-off, arcs-step-marked}
use Rattle.cut_cert.proofs.sink_side.read.Goals as goal
use Rattle.cut_cert.proofs.sink_side.read.Goals.{then-not-has+then-has_residual+in_ok-reach_in_sweep, then-not-has+else-has_residual, else-not-has}

pub loop-k-init : goal.loop-k-init
loop-k-init c = sym (arcs-none c.args.net.now c.args.preflow.now.flow.cells.residuals c.args.swept c.args.w c.args.side.now)

pub has-requires : goal.has-requires
has-requires c =
    let net : FlowNet = c.args.net.now in
    let k : ℕ = c.loop-k.k in
    let less : k < row_len net c.args.w = omega (arith, c.loop-k-test.true, c.heads-heads.ensures.len) in
    let at : slice_index c.heads-heads.result.now k ≡ head net c.args.w k = c.heads-heads.ensures.value k less in
    let long : length c.loop-k.side.marks ≡ node_count net = ap (λ (s : SearchFront). length s.marks) c.loop-k.invariant ∙ arcs-long net c.args.preflow.now.flow.cells.residuals c.args.swept c.args.w k c.args.side.now ∙ c.requires.long in
    let within : head net c.args.w k < node_count net = c.known.ensures.network.heads_in c.args.w k c.requires.node less in
    omega (arith, at, long, within)

pub reach_in_sweep-requires : goal.reach_in_sweep-requires
reach_in_sweep-requires c =
    let net : FlowNet = c.args.net.now in
    let k : ℕ = c.loop-k.k in
    let less : k < row_len net c.args.w = omega (arith, c.loop-k-test.true, c.heads-heads.ensures.len) in
    let at : slice_index c.heads-heads.result.now k ≡ head net c.args.w k = c.heads-heads.ensures.value k less in
    let long : length c.loop-k.side.marks ≡ node_count net = ap (λ (s : SearchFront). length s.marks) c.loop-k.invariant ∙ arcs-long net c.args.preflow.now.flow.cells.residuals c.args.swept c.args.w k c.args.side.now ∙ c.requires.long in
    let within : head net c.args.w k < node_count net = c.known.ensures.network.heads_in c.args.w k c.requires.node less in
    omega (arith, at, long, within)

pub loop-k-preserved : goal.loop-k-preserved
loop-k-preserved c =
    let net : FlowNet = c.args.net.now in
    let xs : List ℕ = c.args.preflow.now.flow.cells.residuals in
    let k : ℕ = c.loop-k.k in
    let less : k < row_len net c.args.w = omega (arith, c.loop-k-test.true, c.heads-heads.ensures.len) in
    let to : slice_index c.heads-heads.result.now k ≡ head net c.args.w k = c.heads-heads.ensures.value k less in
    let over : slice_index c.mates-mates.result.now k ≡ mate net c.args.w k = c.mates-mates.ensures.value k less in
    elim c.if-not-has.branch [
      | then-not-has+then-has_residual+in_ok-reach_in_sweep w ↦
          (let test : nat_lt 0 (slice_index xs (mate net c.args.w k)) ≡ w.has_residual.result = sym (w.has_residual.ensures ∙ ap (λ (m : ℕ). nat_lt 0 (slice_index xs m)) over) in
          arcs-step-on net xs c.args.swept c.args.w k c.args.side.now c.loop-k.side c.if-not-has.side (test ∙ w.if-has_residual.true) c.loop-k.invariant
          (w.side-is ∙ w.in_ok-reach_in_sweep.ensures ∙ ap (reach_node_in_sweep c.args.swept c.loop-k.side) to))
      | then-not-has+else-has_residual w ↦
          (let test : nat_lt 0 (slice_index xs (mate net c.args.w k)) ≡ w.has_residual.result = sym (w.has_residual.ensures ∙ ap (λ (m : ℕ). nat_lt 0 (slice_index xs m)) over) in
          arcs-step-off net xs c.args.swept c.args.w k c.args.side.now c.loop-k.side c.if-not-has.side (test ∙ w.if-has_residual.false) c.loop-k.invariant w.side-is)
      | else-not-has w ↦
          (let marked : is_marked c.loop-k.side (head net c.args.w k) ≡ true = ap (λ (v : ℕ). is_marked c.loop-k.side v) (sym to) ∙ sym c.has.ensures ∙ w.if-not-has.false in
          arcs-step-marked net xs c.args.swept c.args.w k c.args.side.now c.loop-k.side c.if-not-has.side marked c.loop-k.invariant w.side-is)
    ]
