use Rattle.std.proofs.Common.{◌∙◌, ap, sym, ℕ, Bool, not, slice_index_or, false}
use Rattle.cut_cert.proofs.GateLaws.{gates-none, step-take, step-skip}
use Rattle.cut_cert.proofs.greatest.gates_of.Goals as goal
use Rattle.cut_cert.proofs.greatest.gates_of.Goals.{in-Some+in_ok-push, in_default}

pub loop-v-init : goal.loop-v-init
loop-v-init c = c.new-gates.ensures.items ∙ sym (gates-none c.args.net.now (λ u. not (slice_index_or c.args.marks.now u false)))

pub loop-v-preserved : goal.loop-v-preserved
loop-v-preserved c =
    let side : ℕ → Bool = λ u. not (slice_index_or c.args.marks.now u false) in
    elim c.match-gate_of.branch [
      | in-Some+in_ok-push w ↦
          step-take c.args.net.now side c.loop-v.v w.in-Some.gate c.loop-v.gates.items c.match-gate_of.gates.items c.gate_of.result c.gate_of.ensures w.in-Some.is c.loop-v.invariant
          (ap (λ g. g.items) w.gates-is ∙ w.in_ok-push.ensures.items)
      | in_default w ↦ step-skip c.args.net.now side c.loop-v.v c.loop-v.gates.items c.match-gate_of.gates.items c.gate_of.result c.gate_of.ensures w.in_default.is c.loop-v.invariant (ap (λ g. g.items) w.gates-is)
    ]
