use Rattle.std.proofs.Common.{◌∙◌, ap, bytes_eq, List, ℕ}
use Rattle.std.specs.Cmp.Lexicographic.{nat_list_eq_equiv}
use Rattle.aig_graph.specs.declared.properties.Symbol.{Symbol}
use Rattle.aig_graph.proofs.HoldingLaws.{found-more}
use Rattle.aig_graph.proofs.holding.names_of.Goals as goal

pub loop-symbol-preserved : goal.loop-symbol-preserved
loop-symbol-preserved c = λ q.
    let name : List ℕ = c.as_slice.result.now in
    c.in_ok-insert.ensures.updates.0 (record c.as_slice.result { now = q })
    ∙ found-more (λ (s : Symbol). bytes_eq q s.name) c.args.symbols.now c.loop-symbol.symbol-index c.symbol-item.result _ _ c.loop-symbol-test.true
    (nat_list_eq_equiv.symm name q ∙ ap (bytes_eq q) c.as_slice.ensures ∙ ap (λ (s : Symbol). bytes_eq q s.name) c.symbol-item.is)
    (c.loop-symbol.invariant q)
