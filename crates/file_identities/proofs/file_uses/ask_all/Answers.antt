use Rattle.std.proofs.Common.{Vec, Global, ◌∙◌, map, ap}
use Rattle.file_identities.proofs.AskingLaws.{given-all, given-next, given-pushed, none-pushed}
use Rattle.file_identities.specs.declared.identity.Asked.{Asked}
use Rattle.file_identities.proofs.file_uses.ask_all.Goals.{in-Some+in_ok-push, in_default}
use Rattle.file_identities.proofs.file_uses.ask_all.Goals as goal

pub loop-file-preserved : goal.loop-file-preserved
loop-file-preserved g c =
    let files_of = λ (files : Vec Asked Global). map (λ (asked : Asked). asked.file) files.items in
    given-next c.args.uses.now c.loop-file.file-index _ (files_of c.loop-file.files) (files_of c.match-file.files) c.loop-file-test.true c.loop-file.invariant (elim c.match-file.branch [
      | in-Some+in_ok-push w ↦ given-pushed _ _ _ w.in-Some.file w.in-Some.is (ap files_of w.files-is ∙ w.in_ok-push.ensures)
      | in_default w ↦ none-pushed _ _ _ w.in_default.is (ap files_of w.files-is)
    ])

pub returns : goal.returns
returns g c = given-all c.args.uses.now c.loop-file.file-index _ c.loop-file-test.false c.loop-file.invariant
