use Rattle.pictures.proofs.TextLaws.{puts-numbered_end, puts-numbered_up}
use Rattle.pictures.specs.Pictures.{single_property}
use Rattle.pictures.specs.Views.{drawn_in, look_in}
use Rattle.pictures.proofs.properties.put_singles.Goals as goal

pub loop-position-preserved : goal.loop-position-preserved
unfolding single_property
loop-position-preserved g c =
    puts-numbered_up (single_property (look_in c.args.view.now) (drawn_in c.args.view.now) c.args.letter) c.args.lits.now c.loop-position.position _
    c.loop-position-test.true c.index-lits-position.is c.loop-position.invariant c.put_property.ensures

pub bounds-lits-position : goal.bounds-lits-position
bounds-lits-position g c = c.loop-position-test.true

pub returns : goal.returns
returns g c = puts-numbered_end (single_property (look_in c.args.view.now) (drawn_in c.args.view.now) c.args.letter) 0 c.args.lits.now _ c.loop-position-test.false c.loop-position.invariant
