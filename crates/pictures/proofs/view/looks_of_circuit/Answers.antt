use Rattle.std.proofs.lemmas.Result.{IfOk-weaker}
use Rattle.pictures.proofs.LookLaws.{alone_is}
use Rattle.pictures.proofs.view.looks_of_circuit.Goals as goal

pub returns : goal.returns
returns c =
    IfOk-weaker c.looks_alone.result _ _ (λ looks filled. alone_is c.args.circuit.now c.args.keep.now _ _ looks.items c.aig-aig.ensures.value c.in_ok-pass.ensures filled) c.looks_alone.ensures
