use Rattle.std.proofs.Common.{arith, length, refl}
use Rattle.std.proofs.lemmas.Option.{slice_get_past, slice_get_read}
use Rattle.aig_graph.proofs.MarkingLaws.{Marks-none}
use Rattle.pictures.proofs.named.mark_single.Goals as goal

pub returns-in-Some : goal.returns-in-Some
returns-in-Some c =
    let found = c.in-Some.ensures.lookup in
    let there = slice_get_read c.args.lits.now (length c.args.lits.now) c.args.position c.in-Some.lit.now refl found.3.0 found.1 in
    rw there (rw c.var.ensures.variable at c.mark_variable.ensures)

pub returns-in_default : goal.returns-in_default
returns-in_default c = rw (slice_get_past c.args.lits.now c.args.position (omega (arith, c.in_default.ensures.lookup.3))) (Marks-none 0 _)
