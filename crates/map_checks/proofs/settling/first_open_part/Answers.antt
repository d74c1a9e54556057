use Rattle.std.proofs.Common.{Bool, List, [], Option, IfSome, length, arith, ap, subst, sym}
use Rattle.map_checks.specs.declared.cases.Asked.{Asked}
use Rattle.map_checks.specs.Parts.{AreShownWhere, IsMarked}
use Rattle.map_checks.proofs.MarkLaws.{if-none}
use Rattle.map_checks.proofs.StepLaws.{keeps-states}
use Rattle.map_checks.proofs.settling.first_open_part.Goals as goal

pub returns-in_default : goal.returns-in_default
returns-in_default c =
    keeps-states c.args.first.now c.args.second.now c.args.map.now c.requires.fitting (λ part less.
    c.loop.invariant.marks.shown part (subst (λ (marks : List Bool). IsMarked marks part) c.as_slice.ensures.value
    (c.in_default.ensures part (omega (arith, less, c.loop.invariant.marks.long, ap length c.as_slice.ensures.value)))))

pub returns : goal.returns
returns c = if-none c.first_unmarked-2.result (λ all.
    keeps-states c.args.first.now c.args.second.now c.args.map.now c.requires.fitting (λ part less.
    c.loop.invariant.marks.shown part (subst (λ (marks : List Bool). IsMarked marks part) c.as_slice-2.ensures.value
    (all part (omega (arith, less, c.loop.invariant.marks.long, ap length c.as_slice-2.ensures.value)))))) c.first_unmarked-2.ensures

pub settle-requires-clause-tree : goal.settle-requires-clause-tree
settle-requires-clause-tree c =
    c.in_ok-tree.ensures c.args.first.now c.args.second.now c.args.map.now (omega (arith, c.len.ensures, c.loop.invariant.marks.long)) c.known.ensures.graph
    (subst (λ (asked : Option Asked). IfSome asked (λ (a : Asked). AreShownWhere c.args.first.now c.args.second.now c.args.map.now [] a.marks.items)) (sym c.take.ensures.value) c.loop.invariant.asked)
