use Rattle.std.proofs.Common.{arith}
use Rattle.counted_io.proofs.BufferedLaws.{puts-end, puts-next}
use Rattle.pictures.specs.Pictures.{single_name}
use Rattle.pictures.specs.Views.{drawn_in, look_in}
use Rattle.pictures.proofs.names.put_single_names.Goals as goal

pub loop-symbol-preserved : goal.loop-symbol-preserved
loop-symbol-preserved g c =
    puts-next (single_name (look_in c.args.view.now) (drawn_in c.args.view.now) c.args.letter c.args.lits.now) _ _ _ c.loop-symbol-test.true c.symbol-item.is c.loop-symbol.invariant c.put_single_name.ensures

pub returns : goal.returns
returns g c = puts-end (single_name (look_in c.args.view.now) (drawn_in c.args.view.now) c.args.letter c.args.lits.now) c.args.symbols.now _ (omega (arith, c.loop-symbol-test.false)) c.loop-symbol.invariant
