use Rattle.pictures.proofs.TextLaws.{puts-numbered_end, puts-numbered_up}
use Rattle.pictures.specs.Pictures.{property_lines}
use Rattle.pictures.specs.Views.{drawn_in, look_in}
use Rattle.std.specs.Str.{byte}
use Rattle.pictures.proofs.properties.put_justice.Goals as goal

pub loop-position-preserved : goal.loop-position-preserved
loop-position-preserved g c =
    puts-numbered_up (property_lines (look_in c.args.view.now) (drawn_in c.args.view.now) (byte "j")) c.args.justice.now c.loop-position.position _
    c.loop-position-test.true c.index-justice-position.is c.loop-position.invariant (rw c.as_slice.ensures at c.put_property.ensures)

pub bounds-justice-position : goal.bounds-justice-position
bounds-justice-position g c = c.loop-position-test.true

pub returns : goal.returns
returns g c = puts-numbered_end (property_lines (look_in c.args.view.now) (drawn_in c.args.view.now) (byte "j")) 0 c.args.justice.now _ c.loop-position-test.false c.loop-position.invariant
