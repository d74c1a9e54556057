use Rattle.std.proofs.lemmas.Result.{on_ok_weaker}
use Rattle.map_checks.proofs.CaseLaws.{tree-split}
use Rattle.map_checks.proofs.trees.Tree.part.Goals as goal

pub returns : goal.returns
returns c = on_ok_weaker c.split.result (λ split n d m valid tree.
    tree-split n d m valid c.args.self.now.pending.items c.split.new.pending.items c.args.case.now c.args.self.now.shown.items c.args.lit c.not.result c.not.ensures.same_variable c.not.ensures.other_sign split tree) c.split.ensures
