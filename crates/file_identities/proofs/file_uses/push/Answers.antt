use Rattle.file_identities.proofs.AskingLaws.{asked-pushed}
use Rattle.file_identities.proofs.file_uses.push.Goals as goal

pub returns-in_ok-push-in-Ok : goal.returns-in_ok-push-in-Ok
returns-in_ok-push-in-Ok g c =
    asked-pushed c.args.files.now.items c.push.new.self.items c.in-Ok.asked c.args.file c.in_ok-push-in-Ok.ensures.items c.in-Ok.ensures
