use Rattle.std.proofs.lemmas.Result.{IfOk-weaker}
use Rattle.commands.proofs.scene.shown_by.Goals as goal

pub returns : goal.returns
returns g c =
    IfOk-weaker c.shown_of.result _ _
    (λ scene shown. record { options = c.args.options.now; are = c.requires; run = c.in_ok-run.run'; is = c.in_ok-run.ensures; shown = shown }) c.shown_of.ensures
