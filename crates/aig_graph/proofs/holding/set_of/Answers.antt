use Rattle.std.proofs.Common.{◌∙◌, ap, sym, bytes_eq, List, ℕ}
use Rattle.std.specs.List.{list_any}
use Rattle.std.proofs.lemmas.List.{take_all}
use Rattle.std.specs.Cmp.Lexicographic.{nat_list_eq_equiv}
use Rattle.aig_graph.proofs.HoldingLaws.{found-more, list_any-map}
use Rattle.aig_graph.proofs.holding.set_of.Goals as goal

pub loop-name-preserved : goal.loop-name-preserved
loop-name-preserved c = λ q.
    let name : List ℕ = c.as_slice.result.now in
    c.in_ok-insert.ensures.updates.0 (record c.as_slice.result { now = q })
    ∙ found-more (λ text. bytes_eq q text.items) c.args.names.now c.loop-name.name-index c.name-item.result _ _ c.loop-name-test.true
    (nat_list_eq_equiv.symm name q ∙ ap (bytes_eq q) c.as_slice.ensures.value ∙ ap (λ text. bytes_eq q text.items) c.name-item.is)
    (c.loop-name.invariant q)

pub returns : goal.returns
returns c = λ q.
    c.loop-name.invariant q ∙ ap (list_any (λ text. bytes_eq q text.items)) (take_all _ _ c.loop-name-test.false) ∙ sym (list_any-map (λ text. text.items) (bytes_eq q) c.args.names.now)
