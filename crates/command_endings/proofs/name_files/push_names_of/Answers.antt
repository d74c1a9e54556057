use Rattle.std.proofs.Common.{arith}
use Rattle.command_endings.specs.HeldNames.{texts_of}
use Rattle.command_endings.proofs.NameFileLaws.{last-file, left, next-file}
use Rattle.command_endings.proofs.name_files.push_names_of.Goals as goal

pub loop-file-preserved : goal.loop-file-preserved
loop-file-preserved c =
    let files = c.args.files.now in
    next-file files c.loop-file.file-index c.file-item.result _ _ (left files (texts_of c.args.names.now.items)) c.loop-file-test.true c.file-item.is c.loop-file.invariant c.in_ok-push_to.ensures.names

pub returns : goal.returns
returns c =
    let files = c.args.files.now in
    last-file files c.loop-file.file-index _ (left files (texts_of c.args.names.now.items)) (omega (arith, c.loop-file-test.false)) c.loop-file.invariant
