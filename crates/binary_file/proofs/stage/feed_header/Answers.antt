use Rattle.std.proofs.Common.{List, ℕ, ◌++◌, ◌∷◌, [], subst}
use Rattle.binary_file.specs.Stages.{HoldsResult}
use Rattle.binary_file.proofs.HoldLaws.{extended_row, header_extended, header_done, header_failed, regrouped, regrouped_length}
use Rattle.binary_file.proofs.stage.feed_header.Goals as goal

pub returns-in-Ok : goal.returns-in-Ok
returns-in-Ok c bytes is place =
    subst (λ (list : List ℕ). HoldsResult c.feed_first_items.result list) (regrouped bytes c.in-Some.part.now c.in-Some.left.now c.args.piece.now c.in-Some.ensures.whole)
    (c.feed_first_items.ensures (bytes ++ (c.in-Some.part.now ++ 10 ∷ []))
    (header_done bytes c.in-Some.part.now is.reading c.in-Some.ensures.clean c.in-Ok.header (c.in-Ok.ensures.header (bytes ++ c.in-Some.part.now) (extended_row c.args.line c.extend.new.self bytes c.in-Some.part.now is c.extend.ensures)))
    (regrouped_length bytes c.in-Some.part.now c.in-Some.left.now c.args.piece.now c.args.end c.in-Some.ensures.whole place))

pub returns-in-Err : goal.returns-in-Err
returns-in-Err c bytes is place =
    header_failed bytes c.in-Some.part.now c.in-Some.left.now c.args.piece.now is.reading c.in-Some.ensures.clean c.in-Some.ensures.whole c.in-Err.fault
    (c.in-Err.ensures.header (bytes ++ c.in-Some.part.now) (extended_row c.args.line c.extend.new.self bytes c.in-Some.part.now is c.extend.ensures))

pub returns-in-None : goal.returns-in-None
returns-in-None c bytes is place = header_extended c.args.line c.extend-in-None.new.self bytes c.args.piece.now is c.in-None.ensures c.extend-in-None.ensures
