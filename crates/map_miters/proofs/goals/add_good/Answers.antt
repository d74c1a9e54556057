use Rattle.std.proofs.Common.{IfOk, sym, subst}
use Rattle.map_miters.specs.Comparing.{SaysThat}
use Rattle.map_miters.specs.declared.goals.Goal.{Goal}
use Rattle.map_miters.specs.Products.{good_of}
use Rattle.map_miters.proofs.goals.add_good.Goals as goal

pub returns-in-Agree-clause-says : goal.returns-in-Agree-clause-says
returns-in-Agree-clause-says c =
    subst (λ (it : Goal). IfOk c.add_agreement.result (λ lit. SaysThat c.add_agreement.new.gates lit (good_of it c.args.first.now c.args.second.now c.args.map.now))) (sym c.in-Agree.is)
    c.add_agreement.ensures.says

pub returns-in-Mapped-clause-says : goal.returns-in-Mapped-clause-says
returns-in-Mapped-clause-says c =
    subst (λ (it : Goal). IfOk c.add_mapped.result (λ lit. SaysThat c.add_mapped.new.gates lit (good_of it c.args.first.now c.args.second.now c.args.map.now))) (sym c.in-Mapped.is)
    c.add_mapped.ensures.says
