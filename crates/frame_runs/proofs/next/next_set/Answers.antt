use Rattle.std.proofs.Common.{Option, subst, sym}
use Rattle.std.specs.Option.{MatchOption}
use Rattle.frame_runs.specs.declared.helping.Helping.{Helping}
use Rattle.frame_runs.specs.Found.{Helps}
use Rattle.frame_runs.specs.Retiming.{IsHelpingSetBy, NoneHelpsBy}
use Rattle.frame_runs.proofs.next.next_set.Goals as goal

pub returns-in-Some : goal.returns-in-Some
returns-in-Some g c =
    let options = c.args.options.now in
    let run = c.args.run.now in
    let P : Option Helping → Type 0 = λ found. MatchOption found (NoneHelpsBy options run.bound run.keep run.retimed.circuit) (Helps options run.bound run.keep run.retimed.circuit) in
    let helps : Helps options run.bound run.keep run.retimed.circuit c.in-Some.found = subst P c.in-Some.is c.in_ok-found.ensures.found in
    subst (IsHelpingSetBy options run.bound run.keep run.retimed.circuit) (sym c.set_of.ensures) helps.set

pub returns : goal.returns
returns g c =
    let options = c.args.options.now in
    let run = c.args.run.now in
    let P : Option Helping → Type 0 = λ found. MatchOption found (NoneHelpsBy options run.bound run.keep run.retimed.circuit) (Helps options run.bound run.keep run.retimed.circuit) in
    subst P c.in-None.is c.in_ok-found.ensures.found
