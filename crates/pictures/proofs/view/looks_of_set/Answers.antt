use Rattle.std.proofs.Common.{◌∙◌}
use Rattle.std.proofs.lemmas.Result.{IfOk-weaker}
use Rattle.pictures.proofs.LookLaws.{with_is}
use Rattle.pictures.proofs.view.looks_of_set.Goals as goal

pub returns : goal.returns
returns c =
    let read = c.as_slice.ensures.value ∙ c.in_ok-read.ensures in
    IfOk-weaker c.looks_with.result _ _ (λ looks filled. with_is c.args.circuit.now c.args.keep.now c.args.set.now _ _ _ looks.items c.aig-aig.ensures.value c.in_ok-pass.ensures read filled)
    c.looks_with.ensures
