use Rattle.aig_graph.proofs.SearchLaws.{found_where_contained, has_iff_contains, bool_same}
use Rattle.aig_graph.proofs.rising.contains.Goals as goal

pub returns-clause-contains : goal.returns-clause-contains
returns-clause-contains c = rw c.is_ok.ensures.value (found_where_contained _ c.args.number _ c.requires c.binary_search.ensures.position)

pub returns-clause-value : goal.returns-clause-value
returns-clause-value c =
    let laws = has_iff_contains c.args.numbers.now c.args.number in
    let found = returns-clause-contains c in
    bool_same _ _ ((λ yes. laws.1 (found.0 yes)), (λ yes. found.1 (laws.0 yes)))
