use Rattle.std.proofs.Common.{◌<◌, arith, length}
use Rattle.counted_io.proofs.BufferedLaws.{puts-next}
use Rattle.certificate_files.specs.Texts.{route_text}
use Rattle.certificate_files.proofs.writing.put_routes.Goals as goal

pub loop-number-preserved : goal.loop-number-preserved
loop-number-preserved g c =
    let within : c.loop-number.number < length c.args.routes.now = omega (arith, c.loop-number-test.true, c.len-number-end.ensures) in
    puts-next route_text c.args.routes.now c.loop-number.number c.route.result.now within (c.route.ensures c.route.result.now) c.loop-number.invariant c.put_route.ensures
