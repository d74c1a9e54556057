use Rattle.std.proofs.Common.{◌∙◌, ap, sym, Bool, slice_index_or, false, Some}
use Rattle.std.proofs.lemmas.Bool.{not-false, not-true}
use Rattle.cut_cert.specs.Gates.{gate_after}
use Rattle.cut_cert.proofs.GateLaws.{gate-in, gate-out}
use Rattle.cut_cert.proofs.nearest.gate_of.Goals as goal

pub returns-then-not-marks-node : goal.returns-then-not-marks-node
returns-then-not-marks-node c = sym (gate-out c.args.net.now (λ u. slice_index_or c.args.marks.now u false) c.args.node c.if-not-marks-node.true)

pub returns-in-Some : goal.returns-in-Some
returns-in-Some c =
    sym (gate-in c.args.net.now (λ u. slice_index_or c.args.marks.now u false) c.args.node c.if-not-marks-node.false
    ∙ ap gate_after (sym c.point.ensures ∙ c.in-Some.is)
    ∙ ap (λ (b : Bool). gate_after (Some (record { var = c.in-Some.point.var; behind = b }))) (not-true c.in-Some.point.behind c.if-not-point.true))

pub returns-in_default : goal.returns-in_default
returns-in_default c =
    sym (gate-in c.args.net.now (λ u. slice_index_or c.args.marks.now u false) c.args.node c.if-not-marks-node.false
    ∙ ap gate_after (sym c.point.ensures ∙ c.in-Some.is)
    ∙ ap (λ (b : Bool). gate_after (Some (record { var = c.in-Some.point.var; behind = b }))) (not-false c.in-Some.point.behind c.if-not-point.false))

pub returns-in_default-2 : goal.returns-in_default-2
returns-in_default-2 c =
    sym (gate-in c.args.net.now (λ u. slice_index_or c.args.marks.now u false) c.args.node c.if-not-marks-node.false
    ∙ ap gate_after (sym c.point.ensures ∙ c.in_default.is))
