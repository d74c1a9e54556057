use Rattle.std.proofs.Common.{Option, refl, sym, subst}
use Rattle.counted_io.specs.declared.source.Source.{Source}
use Rattle.simulation_commands.specs.Keeping.{AreSharedAt}
use Rattle.simulation_commands.specs.declared.kept.Shared.TheVariants.{Each, Kept}
use Rattle.simulation_commands.proofs.kept.shared_by.Goals as goal

pub returns-in-Ok : goal.returns-in-Ok
returns-in-Ok g c =
    let old = g.I.CountedRead.input c.args.stdin.now in
    let new = g.I.CountedRead.input c.kept_at.new.stdin in
    let P : Option Source → Type 0 = λ list. AreSharedAt list c.args.first.now c.args.second.now old new (Kept c.in-Ok.kept) in
    subst P (sym c.in-Some.is) (record { places = c.in-Ok.ensures.places; read = record { stdin = c.in-Ok.ensures.stdin; file = c.in-Ok.ensures.file } })

pub returns-in-None : goal.returns-in-None
returns-in-None g c =
    let same = g.I.CountedRead.input c.args.stdin.now in
    subst (λ (list : Option Source). AreSharedAt list c.args.first.now c.args.second.now same same Each) (sym c.in-None.is) refl
