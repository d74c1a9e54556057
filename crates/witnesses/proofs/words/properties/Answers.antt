use Rattle.std.proofs.Common.{sym, ap, ◌∙◌, Ok}
use Rattle.std.proofs.lemmas.Result.{err_from_is_err_and}
use Rattle.witnesses.proofs.WordLaws.{word_taken, word_fails, last_taken, last_fails}
use Rattle.witnesses.proofs.words.properties.Goals as goal

pub returns-in_err-push_property : goal.returns-in_err-push_property
returns-in_err-push_property c =
    let p = err_from_is_err_and c.from_residual.result c.from_residual.ensures.1 in
    rw (p.1, p.2) (word_fails _ _ _ _ _ _ _ _ c.in-Some.ensures c.loop-word.invariant c.in_err-push_property.ensures)

pub loop-word-preserved : goal.loop-word-preserved
loop-word-preserved c = word_taken _ _ _ _ _ _ _ _ c.in-Some.ensures c.loop-word.invariant c.in_ok-push_property.ensures

pub returns-in_err-push_property-2 : goal.returns-in_err-push_property-2
returns-in_err-push_property-2 c =
    let p = err_from_is_err_and c.from_residual-in_err-push_property-2.result c.from_residual-in_err-push_property-2.ensures.1 in
    rw (p.1, p.2) (last_fails _ _ _ _ _ _ c.in_default.ensures c.loop-word.invariant c.in_err-push_property-2.ensures)

pub returns : goal.returns
returns c = last_taken _ _ _ _ _ _ c.in_default.ensures c.loop-word.invariant c.in_ok-push_property-2.ensures ∙ ap Ok (sym c.from_vec.ensures)
