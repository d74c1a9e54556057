use Rattle.std.proofs.Common.{subst}
use Rattle.aag_text.specs.declared.items.Items.{Items}
use Rattle.aag_text.proofs.FinishingLaws.{Closes, open_fails, open_closes, none_closes}
use Rattle.aag_text.proofs.items.Items.finish.Goals as goal
use Rattle.aag_text.proofs.items.Items.finish.Goals.{then-items-end+in-Ok, else-items-end}

pub returns-in-Err : goal.returns-in-Err
returns-in-Err c bytes hold whole = open_fails c.args.self bytes c.args.end hold whole c.if-items-end.true _ c.in-Err.ensures

pub returns : goal.returns
returns c bytes hold whole =
    elim c.if-items-end.branch [
      | then-items-end+in-Ok w ↦ open_closes c.args.self bytes c.args.end hold whole w.if-items-end.true (λ circuit. circuit) c.close.result w.take_line.new.self w.in-Ok.ensures (subst (λ (items : Items). Closes c.args.end (λ circuit. circuit) c.close.result items.sections) w.items-is c.close.ensures)
      | else-items-end w ↦ none_closes c.args.self bytes c.args.end hold whole (λ circuit. circuit) c.close.result w.if-items-end.false (subst (λ (items : Items). Closes c.args.end (λ circuit. circuit) c.close.result items.sections) w.items-is c.close.ensures)
    ]
