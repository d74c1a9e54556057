use Rattle.std.proofs.Common.{◌≡◌, true, take}
use Rattle.pictures.specs.Pictures.{are_drawn}
use Rattle.pictures.specs.Views.{drawn_in, look_in}
use Rattle.pictures.proofs.properties.are_drawn.Given as goal

abbrev pub invariant-loop-lit : goal.invariant-loop-lit
invariant-loop-lit l = are_drawn (look_in l.view) (drawn_in l.view) (take l.lit-index l.lits) ≡ true
