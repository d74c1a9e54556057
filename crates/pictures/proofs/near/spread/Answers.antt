use Rattle.std.proofs.Common.{◌≡◌, ◌∙◌, Bool, List, subst, sym}
use Rattle.std.proofs.lemmas.List.{with_items_is}
use Rattle.aig_graph.specs.Marking.{Marks, mark_at}
use Rattle.pictures.specs.Near.{is_next}
use Rattle.pictures.proofs.near.spread.Goals as goal

pub returns : goal.returns
returns c =
    let before : List Bool = c.args.near.now in
    let test = is_next c.args.aig.now (mark_at 0 before) in
    let fresh : c.as_mut_slice.result.now ≡ before = c.as_mut_slice.ensures.value ∙ c.in_ok-next.ensures.items in
    let marks = subst (λ (old : List Bool). Marks 0 old c.mark_next.new.next test) fresh c.mark_next.ensures in
    subst (λ (new : List Bool). Marks 0 before new test) (sym (with_items_is c.in_ok-next.next c.mark_next.new.next (c.mark_next.ensures.as_long ∙ c.as_mut_slice.ensures.len))) marks
