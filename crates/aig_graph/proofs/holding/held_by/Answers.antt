use Rattle.std.proofs.Common.{ap, sym, ◌∙◌, ◌≡◌, List, ℕ, map, bytes_eq}
use Rattle.std.specs.List.{list_any}
use Rattle.aig_graph.specs.Keep.{is_named}
use Rattle.aig_graph.proofs.HoldingLaws.{held-none, held-pass, held-fail}
use Rattle.aig_graph.proofs.holding.held_by.Goals.{then-is_among+in_ok-push, else-is_among}
use Rattle.aig_graph.proofs.holding.held_by.Goals as goal

pub loop-symbol-init : goal.loop-symbol-init
loop-symbol-init c = c.new-positions.ensures.items ∙ sym (held-none _)

pub loop-symbol-preserved : goal.loop-symbol-preserved
loop-symbol-preserved c =
    let named : c.is_among.result ≡ is_named (map (λ name. name.items) c.args.names.now) c.symbol-item.result =
    c.is_among.ensures ∙ c.in_ok-wanted.ensures c.as_slice.result.now ∙ ap (λ (q : List ℕ). list_any (bytes_eq q) (map (λ name. name.items) c.args.names.now)) c.as_slice.ensures in
    elim c.if-is_among.branch [
      | then-is_among+in_ok-push w ↦ held-pass _ _ c.loop-symbol.symbol-index c.symbol-item.result _ _ c.loop-symbol-test.true c.symbol-item.is (sym named ∙ w.if-is_among.true)
          c.loop-symbol.invariant (ap (λ v. v.items) w.positions-is ∙ w.in_ok-push.ensures.items)
      | else-is_among w ↦ held-fail _ _ c.loop-symbol.symbol-index c.symbol-item.result _ _ c.loop-symbol-test.true c.symbol-item.is (sym named ∙ w.if-is_among.false)
          c.loop-symbol.invariant (ap (λ v. v.items) w.positions-is)
    ]
