use Rattle.std.proofs.Common.{rules}
use Rattle.std.proofs.lemmas.List.{places, same_lists}
use Rattle.class_circuits.proofs.names.are_same_names.Goals as goal

pub returns : goal.returns
returns c = λ yes.
    same_lists c.args.second.now c.args.first.now (search (rules, places)) (λ k d less. c.loop-place.invariant k d (search (rules, places)))
