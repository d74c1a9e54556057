use Rattle.binary_file.proofs.CuttingLaws.{taken_where_pushed, refused_where_pushed, first_and_rest}
use Rattle.binary_file.proofs.delta.take_delta.Goals as goal

pub returns-in-Ok-clause-taken : goal.returns-in-Ok-clause-taken
returns-in-Ok-clause-taken c at state end_delta are =
    taken_where_pushed at state end_delta are c.args.reader.now c.push.new.self c.args.piece.now _ _ c.in-Ok.number (first_and_rest c.args.piece.now c.requires)
    (record { few = c.in-Ok.ensures.few; last = c.in-Ok.ensures.last; more = c.in-Ok.ensures.more; too_long = c.in-Ok.ensures.too_long })

pub returns-in-Err-clause-too_long : goal.returns-in-Err-clause-too_long
returns-in-Err-clause-too_long c at state end_delta are =
    refused_where_pushed at state end_delta are c.args.reader.now c.push.new.self c.args.piece.now _ _ c.in-Err.fault (first_and_rest c.args.piece.now c.requires)
    (record { few = c.in-Err.ensures.few; last = c.in-Err.ensures.last; more = c.in-Err.ensures.more; too_long = c.in-Err.ensures.too_long })
