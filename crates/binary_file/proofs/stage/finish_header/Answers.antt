use Rattle.std.proofs.Common.{ℕ, ap, ◌∙◌}
use Rattle.ascii_file.specs.Raw.{nothing_yet}
use Rattle.binary_file.specs.Taking.{circuit_at_end}
use Rattle.binary_file.proofs.FinishLaws.{gives_same}
use Rattle.binary_file.proofs.HoldLaws.{row_is, header_alone, header_alone_failed}
use Rattle.binary_file.proofs.stage.finish_header.Goals as goal

pub returns-in-Ok : goal.returns-in-Ok
returns-in-Ok c bytes is place =
    gives_same _ _ _ (header_alone bytes is.reading c.in-Ok.header (c.in-Ok.ensures.header bytes (row_is c.args.line bytes is)) ∙ ap (λ (n : ℕ). circuit_at_end n c.in-Ok.header nothing_yet) place)
    (c.finish.ensures c.in-Ok.header nothing_yet c.new.ensures)

pub returns-in-Err : goal.returns-in-Err
returns-in-Err c bytes is place = header_alone_failed bytes is.reading c.in-Err.fault (c.in-Err.ensures.header bytes (row_is c.args.line bytes is))
