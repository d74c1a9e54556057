use Rattle.std.proofs.Common.{sym, ◌∙◌, ◌++◌, ◌+◌, List, ℕ, Bool, ap, cond, [], ◌∷◌, Vec, Global}
use Rattle.std.proofs.lemmas.List.{append-nil}
use Rattle.aig_graph.specs.Counting.{places}
use Rattle.aig_graph.proofs.MarkingLaws.{places-start, places-entry}
use Rattle.aig_graph.proofs.numbering.marked_variables.Goals as goal
use Rattle.aig_graph.proofs.numbering.marked_variables.Goals.{then-mark+in_ok-push, else-mark}

pub loop-k-init : goal.loop-k-init
loop-k-init c = λ p all. c.in_ok-vars.ensures.items ∙ sym (places-start c.args.first c.args.marks.now p all)

pub loop-k-preserved : goal.loop-k-preserved
loop-k-preserved c = λ p all.
    let more = places-entry c.args.first c.args.marks.now p c.loop-k.k all c.loop-k-test.true in
    let before = c.loop-k.invariant p all in
    let var : ℕ = c.args.first + c.loop-k.k in
    let then_more = λ (b : Bool). places p var ++ cond b (var ∷ []) [] in
    let items = λ (vars : Vec ℕ Global). vars.items in
    elim c.if-mark.branch [
      | then-mark+in_ok-push w ↦ ap items w.vars-is ∙ w.in_ok-push.ensures.items ∙ ap (λ (vars : List ℕ). vars ++ var ∷ []) before ∙ sym (more ∙ ap then_more w.if-mark.true)
      | else-mark w ↦ ap items w.vars-is ∙ before ∙ sym (more ∙ ap then_more w.if-mark.false ∙ append-nil (places p var))
    ]
