use Rattle.std.proofs.Common.{◌≡◌, ◌∙◌, ◌+◌, ap, arith, ℕ, Some, slice_set, true}
use Rattle.std.proofs.lemmas.Option.{none-some, same_Some}
use Rattle.frame_net.specs.FlowNet.{FlowNet, start, head}
use Rattle.cut_cert.proofs.SinkWalkLaws.{arc-in}
use Rattle.cut_cert.proofs.used_arcs.mark_step.Goals as goal

pub bounds-used-start : goal.bounds-used-start
bounds-used-start c =
    omega (arith, c.start.ensures, c.requires.long, arc-in c.args.net.now c.known.ensures.network c.args.node c.in_ok-place.place c.requires.node c.in_ok-place.ensures.within)

pub returns-in_err-place-clause-there : goal.returns-in_err-place-clause-there
returns-in_err-place-clause-there c = λ rise k l at. absurd (none-some k (c.in_err-place.ensures.there rise k l at))

pub returns-clause-head : goal.returns-clause-head
returns-clause-head c =
    omega (arith, c.heads.ensures.value c.in_ok-place.place c.in_ok-place.ensures.within, c.known.ensures.network.heads_in c.args.node c.in_ok-place.place c.requires.node c.in_ok-place.ensures.within)

pub returns-clause-there : goal.returns-clause-there
returns-clause-there c = λ rise k l at.
    let net : FlowNet = c.args.net.now in
    let same : c.in_ok-place.place ≡ k = same_Some _ _ (c.in_ok-place.ensures.there rise k l at) in
    let arc : c.start.result + c.in_ok-place.place ≡ start net c.args.node + k = omega (arith, c.start.ensures, same) in (
      ap (λ (x : ℕ). Some x) (c.heads.ensures.value c.in_ok-place.place c.in_ok-place.ensures.within ∙ ap (head net c.args.node) same),
      ap (λ (x : ℕ). slice_set c.args.used.now x true) arc,
    )
