use Rattle.aig_graph.proofs.MarkingLaws.{Marks-then}
use Rattle.pictures.specs.Near.{is_property_named}
use Rattle.pictures.proofs.named.mark_properties_named.Goals as goal

pub returns : goal.returns
unfolding is_property_named
returns c =
    let outputs = rw (c.as_slice.ensures, c.as_slice-2.ensures) at c.mark_singles_named.ensures in
    let bad = rw (c.as_slice-3.ensures, c.as_slice-4.ensures) at c.mark_singles_named-2.ensures in
    let constraints = rw (c.as_slice-5.ensures, c.as_slice-6.ensures) at c.mark_singles_named-3.ensures in
    let justice = rw (c.as_slice-7.ensures, c.as_slice-8.ensures) at c.mark_justice_named.ensures in
    let fairness = rw (c.as_slice-9.ensures, c.as_slice-10.ensures) at c.mark_singles_named-4.ensures in
    Marks-then 0 _ _ _ _ _ (Marks-then 0 _ _ _ _ _ (Marks-then 0 _ _ _ _ _ (Marks-then 0 _ _ _ _ _ outputs bad) constraints) justice) fairness
