use Rattle.std.proofs.Common.{ℕ, List, ◌∷◌, ◌-◌, arith, length, length-append, refl, ap, ◌∙◌, subst}
use Rattle.std.proofs.lemmas.Result.{err_from_is_err_and}
use Rattle.ascii_file.specs.Pieces.{fed}
use Rattle.file_words.specs.declared.fault.ReadError.TheVariants.{NoMemory}
use Rattle.file_words.specs.Answering.{Fails}
use Rattle.aag_text.specs.Standing.{Hold}
use Rattle.aag_text.proofs.BeginningLaws.{awaits_more, to_line_end, whole_piece, header_fails, items_begin}
use Rattle.aag_text.proofs.header.begin.Goals as goal

pub returns-in_default : goal.returns-in_default
returns-in_default c bytes awaits whole = awaits_more c.args.line.now c.extend.new.self bytes c.args.piece.now c.in_default.ensures c.extend.ensures awaits

pub overflow_sub-end : goal.overflow_sub-end
overflow_sub-end c = omega (arith, c.requires, ap length c.in-Some.ensures.whole, length-append c.in-Some.part.now (10 ∷ c.in-Some.rest.now))

pub feed-requires : goal.feed-requires
feed-requires c = omega (arith, c.requires, ap length c.in-Some.ensures.whole, length-append c.in-Some.part.now (10 ∷ c.in-Some.rest.now))

pub returns-in_err-header : goal.returns-in_err-header
returns-in_err-header c bytes awaits whole =
    let p = err_from_is_err_and c.from_residual.result c.from_residual.ensures.1 in
    let part = c.in-Some.part.now in
    let first = awaits_more c.args.line.now c.extend-2.new.self bytes part c.in-Some.ensures.clean c.extend-2.ensures awaits in
    rw (p.1, p.2) (header_fails c.extend-2.new.self bytes part c.in-Some.rest.now c.args.piece.now c.in-Some.ensures first _ c.in_err-header.ensures.value)

pub returns-in-Err : goal.returns-in-Err
returns-in-Err c bytes awaits whole =
    let line = c.extend-2.new.self in
    let part = c.in-Some.part.now in
    let rest = c.in-Some.rest.now in
    let cuts = c.in-Some.ensures in
    let first = awaits_more c.args.line.now line bytes part cuts.clean c.extend-2.ensures awaits in
    let held = items_begin line bytes part rest c.args.piece.now cuts first c.in_ok-header.header c.new-items.result c.args.end (c.args.end - length rest) c.in_ok-header.ensures.value whole refl c.new-items.ensures.at c.new-items.ensures.stands in
    let joined = whole_piece line bytes part rest c.args.piece.now cuts first in
    subst (λ (xs : List ℕ). Fails NoMemory c.in-Err.fault (fed xs)) joined (c.in-Err.ensures (to_line_end line bytes part rest c.args.piece.now cuts first) held (ap length joined ∙ whole))

pub returns-in-Ok : goal.returns-in-Ok
returns-in-Ok c bytes awaits whole =
    let line = c.extend-2.new.self in
    let part = c.in-Some.part.now in
    let rest = c.in-Some.rest.now in
    let cuts = c.in-Some.ensures in
    let first = awaits_more c.args.line.now line bytes part cuts.clean c.extend-2.ensures awaits in
    let held = items_begin line bytes part rest c.args.piece.now cuts first c.in_ok-header.header c.new-items.result c.args.end (c.args.end - length rest) c.in_ok-header.ensures.value whole refl c.new-items.ensures.at c.new-items.ensures.stands in
    let joined = whole_piece line bytes part rest c.args.piece.now cuts first in
    subst (Hold c.feed.new.self) joined (c.in-Ok.ensures (to_line_end line bytes part rest c.args.piece.now cuts first) held (ap length joined ∙ whole))
