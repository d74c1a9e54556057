use Rattle.std.proofs.Common.{◌∙◌, ◌≡◌, ap₂, replicate, false, ℕ, List, Bool}
use Rattle.std.proofs.lemmas.List.{with_items_is}
use Rattle.aig_graph.specs.Graph.{Graph, first_latch}
use Rattle.aig_graph.specs.Marking.{has}
use Rattle.aig_graph.specs.Tables.{table}
use Rattle.pictures.proofs.LookLaws.{read_is}
use Rattle.pictures.proofs.view.read_from_outside.Goals as goal

pub returns : goal.returns
returns c =
    let g : Graph = c.aig-aig.result.now in
    let n : ℕ = c.latches_and_gates-entries.result in
    let inside : List Bool = c.as_slice.result.now in
    let filled : inside ≡ table (first_latch g) n (has c.args.set.now) =
    c.as_slice.ensures.value ∙ c.in_ok-inside.ensures ∙ ap₂ (λ (f : ℕ) (vars : List ℕ). table f n (has vars)) c.first_latch.ensures.value c.vars.ensures.value in
    let fresh : c.as_mut_slice.result.now ≡ replicate n false = c.as_mut_slice.ensures.value ∙ c.in_ok-read.ensures.items_if_clones_equal (λ y h. h) in
    with_items_is c.in_ok-read.read c.mark_read.new.read (c.mark_read.ensures.as_long ∙ c.as_mut_slice.ensures.len)
    ∙ read_is c.args.circuit.now c.args.set.now g c.props.result.now n inside c.as_mut_slice.result.now c.mark_read.new.read
    c.aig-aig.ensures.value c.props.ensures.value c.latches_and_gates-entries.ensures.value filled fresh c.mark_read.ensures
