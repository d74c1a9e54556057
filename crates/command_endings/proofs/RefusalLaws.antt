-- What a refusal prints, however the printing ends.
use Rattle.std.proofs.Common.{ℕ, ◌≡◌, inl, inr, Result, Ok, Err, subst}
use Rattle.counted_io.specs.Output.{Output}
use Rattle.json_reports.specs.Lines.{PrintsLine}
use Rattle.json_reports.specs.Refusals.{refusal_data}
use Rattle.json_reports.specs.declared.printing.PrintError.{PrintError}
use Rattle.json_reports.specs.declared.printing.PrintError.TheVariants as printing
use Rattle.json_reports.specs.declared.refusal.Refusal.{Refusal}
use Rattle.command_endings.specs.Objects.{PrintsRefusal, SaysRefusal}

-- all of it, a beginning, or nothing where memory ran out
pub refusal_said : {T : Type 0} (printed : Result T PrintError) (refusal : Refusal) (old new : Output)
    → PrintsLine (refusal_data refusal) old new printed → SaysRefusal refusal old new
refusal_said (Ok x) refusal old new line = inr (inl line.0)
refusal_said (Err printing.NoMemory) refusal old new same = inl same
refusal_said (Err printing.Device) refusal old new part = inr (inr part)

-- so a refusal is printed by its status
pub refusal_prints : (refusal : Refusal) (status : ℕ) (old new : Output)
    → refusal.status ≡ status → SaysRefusal refusal old new → PrintsRefusal status old new
refusal_prints refusal status old new states said = record { refusal = refusal; states = states; prints = said }

-- by another name of this refusal
pub same_said : (given named : Refusal) (old new : Output) → given ≡ named → SaysRefusal given old new → SaysRefusal named old new
same_said given named old new same said = subst (λ (r : Refusal). SaysRefusal r old new) same said
