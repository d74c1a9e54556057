use Rattle.std.proofs.Common.{◌≡◌, ◌<◌, ◌∙◌, ap, sym, arith, ℕ, List, Bool, length, slice_index}
use Rattle.frame_net.specs.FlowNet.{FlowNet, node_count, row_len, head}
use Rattle.cut_cert.specs.Fronts.{SearchFront, reach_node}
use Rattle.cut_cert.proofs.OpenWalkLaws.{open-none, open-long, open-step, open-skip}
use Rattle.cut_cert.proofs.source_side.read.Goals as goal
use Rattle.cut_cert.proofs.source_side.read.Goals.{then-is_open+in_ok-reach, else-is_open}

pub loop-place-init : goal.loop-place-init
loop-place-init c = sym (open-none c.args.net.now c.args.used.now c.args.node c.args.side.now)

pub reach-requires : goal.reach-requires
reach-requires c =
    let net : FlowNet = c.args.net.now in
    let k : ℕ = c.loop-place.place in
    let less : k < row_len net c.args.node = omega (arith, c.loop-place-test.true, c.heads-heads.ensures.len) in
    let at : slice_index c.heads-heads.result.now k ≡ head net c.args.node k = c.heads-heads.ensures.value k less in
    let long : length c.loop-place.side.marks ≡ node_count net = ap (λ (s : SearchFront). length s.marks) c.loop-place.invariant ∙ open-long net c.args.used.now c.args.node k c.args.side.now ∙ c.requires.marks in
    omega (arith, at, long, c.known.ensures.network.heads_in c.args.node k c.requires.node less)

pub loop-place-preserved : goal.loop-place-preserved
loop-place-preserved c =
    let net : FlowNet = c.args.net.now in
    let used : List Bool = c.args.used.now in
    let k : ℕ = c.loop-place.place in
    let less : k < row_len net c.args.node = omega (arith, c.loop-place-test.true, c.heads-heads.ensures.len) in
    let to : slice_index c.heads-heads.result.now k ≡ head net c.args.node k = c.heads-heads.ensures.value k less in
    elim c.if-is_open.branch [
      | then-is_open+in_ok-reach w ↦
          open-step net used c.args.node k c.args.side.now c.loop-place.side c.if-is_open.side (sym c.is_open.ensures ∙ w.if-is_open.true) c.loop-place.invariant
          (w.side-is ∙ w.in_ok-reach.ensures ∙ ap (reach_node c.loop-place.side) to)
      | else-is_open w ↦ open-skip net used c.args.node k c.args.side.now c.loop-place.side c.if-is_open.side (sym c.is_open.ensures ∙ w.if-is_open.false) c.loop-place.invariant w.side-is
    ]
