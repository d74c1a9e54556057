use Rattle.std.proofs.Common.{Bool, List, length, arith, ap, sym, subst}
use Rattle.std.proofs.lemmas.Result.{on_ok_weaker}
use Rattle.map_checks.specs.Parts.{IsMarked, IsTree}
use Rattle.map_checks.proofs.CaseLaws.{tree-narrow, tree-split}
use Rattle.map_checks.proofs.MarkLaws.{written-back}
use Rattle.map_checks.proofs.trees.Tree.answer.Goals as goal

pub returns-in-Some : goal.returns-in-Some
returns-in-Some c = on_ok_weaker c.split.result (λ split n d m valid shown tree.
    tree-split n d m valid c.args.self.now.pending.items c.split.new.pending.items c.args.case.now c.args.self.now.shown.items c.in-Some.choice.lit c.not.result c.not.ensures.same_variable c.not.ensures.other_sign split tree) c.split.ensures

pub returns-in-None : goal.returns-in-None
returns-in-None c = λ n d m valid shown tree.
    let old : List Bool = c.args.self.now.shown.items in
    let new : List Bool = c.narrow.new.shown in
    let back = written-back c.args.self.now.shown.len new old (omega (arith, c.narrow.ensures.long, c.as_mut_slice.ensures.len)) in
    subst (λ (marks : List Bool). IsTree n d m c.args.self.now.pending.items marks) (sym back)
    (tree-narrow n d m c.args.self.now.pending.items c.args.case.now old new c.args.asked.now.marks.items (omega (arith, c.narrow.ensures.long, ap length c.as_mut_slice.ensures.value))
    (λ part marked.
    let both = c.narrow.ensures.both part marked in
    (subst (λ (bs : List Bool). IsMarked bs part) c.as_mut_slice.ensures.value both.0, subst (λ (bs : List Bool). IsMarked bs part) c.as_slice.ensures.value both.1)) shown tree)
