use Rattle.std.proofs.Common.{◌∙◌, ap, arith, length, refl}
use Rattle.std.proofs.lemmas.Option.{slice_get_past, slice_get_read}
use Rattle.pictures.specs.Views.{drawn_in}
use Rattle.pictures.proofs.names.is_single_drawn_at.Goals as goal

pub returns-in-Some : goal.returns-in-Some
returns-in-Some c =
    let found = c.in-Some.ensures.lookup in
    let there = slice_get_read c.args.lits.now (length c.args.lits.now) c.args.position c.in-Some.lit.now refl found.3.0 found.1 in
    rw there (c.draws.ensures ∙ ap (drawn_in c.args.view.now) c.var.ensures.variable)

pub returns-in-None : goal.returns-in-None
returns-in-None c = rw (slice_get_past c.args.lits.now c.args.position (omega (arith, c.in-None.ensures.lookup.3))) refl
