use Rattle.std.proofs.Common.{ℕ, ◌∙◌, List, Some, sym, ap, length, Vec, Global}
use Rattle.std.specs.List.{range_with_len}
use Rattle.std.proofs.lemmas.Result.{IfOk-weaker}
use Rattle.ascii_file.proofs.CycleLaws.{rule_where_computed}
use Rattle.ascii_file.proofs.GateOrderLaws.{ordered_law, keeps_order}
use Rattle.ascii_file.proofs.order.gate_order.Goals as goal

pub returns-in_ok-file_order-clause-computed : goal.returns-in_ok-file_order-clause-computed
returns-in_ok-file_order-clause-computed c =
    let gates = c.args.gates.now in
    ap (λ (places : List ℕ). Some places) c.in_ok-file_order.ensures
    ∙ sym ((ordered_law gates (range_with_len 0 (length gates))).1 (keeps_order gates (c.is_in_order.ensures.0 c.if-is_in_order.true)))

pub returns-in_ok-file_order-clause-rule : goal.returns-in_ok-file_order-clause-rule
returns-in_ok-file_order-clause-rule c =
    let gates = c.args.gates.now in
    rw c.in_ok-file_order.ensures (keeps_order gates (c.is_in_order.ensures.0 c.if-is_in_order.true))

pub returns-else-is_in_order-clause-rule : goal.returns-else-is_in_order-clause-rule
returns-else-is_in_order-clause-rule c =
    IfOk-weaker c.sorted.result _ _ (λ found e. rule_where_computed (λ (v : Vec ℕ Global). v.items) c.args.gates.now c.requires.in_file found e) c.sorted.ensures
