use Rattle.std.proofs.Common.{ℕ, List, subst}
use Rattle.aig_graph.specs.Graph.{Graph}
use Rattle.map_circuits.specs.Instances.{AreAll}
use Rattle.map_miters.proofs.ComparingLaws.{all-equal}
use Rattle.map_miters.proofs.comparing.add_each_equal.Goals as goal

pub returns-clause-equal : goal.returns-clause-equal
returns-clause-equal c =
    let g : Graph = c.args.gates.now in
    let h : Graph = c.add_equalities.new.gates in
    let i : Graph = c.add_conjunction_of.new.gates in
    let lits : List ℕ = c.in_ok-equal.equal.items in
    all-equal g c.args.a.now c.args.b.now h i lits c.in_ok-all.all c.in_ok-equal.ensures.pairs c.in_ok-all.ensures.extends
    (subst (λ (ls : List ℕ). AreAll i ls c.in_ok-all.all) c.as_slice.ensures.value c.in_ok-all.ensures.all)
