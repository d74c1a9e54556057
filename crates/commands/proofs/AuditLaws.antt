-- What is printed of an audit, by how the run ends.
use Rattle.std.proofs.Common.{ℕ, zero, suc, ◌+◌, ◌==◌, ◌≡◌, ◌∙◌, ◌<◌, Bool, true, false, All, IfOk, IfSome, List, [], ◌∷◌, Option, Some, None, Result, Ok, Err, ap, arith, drop, get_or, length, sym, subst, take}
use Rattle.std.proofs.lemmas.Bool.{eqb-true}
use Rattle.counted_io.specs.Output.{Output}
use Rattle.certificates.specs.declared.certificate.Certificate.{Certificate}
use Rattle.aig_graph.specs.Circuits.{Netlist}
use Rattle.certificate_files.specs.declared.file.CertFile.{CertFile}
use Rattle.certificate_files.specs.declared.file.CertPart.{CertPart}
use Rattle.certificates.specs.declared.merged.MergedLatch.{MergedLatch}
use Rattle.certificate_audits.specs.Replays.{IsGivenReplay, IsGuessedReplay, IsReplay}
use Rattle.certificate_audits.specs.declared.outcome.End.{End}
use Rattle.certificate_audits.specs.declared.outcome.End.TheVariants.{NoBlocks, Certified, Open, BlocksFollow, Objected, Misread, NotShown}
use Rattle.certificate_audits.specs.Parts.{IsStageInRange, ReplaysParts}
use Rattle.certificate_audits.specs.declared.outcome.Audit.{Audit}
use Rattle.certificate_audits.specs.declared.outcome.Replay.{Replay}
use Rattle.certificate_audits.specs.declared.parts.PartsReplay.{PartsReplay}
use Rattle.certificate_audits.proofs.PartLaws.{given-in-range, guessed-in-range, replay-in-range}
use Rattle.reports.specs.Audits.{audit_text, last_end}
use Rattle.reports.specs.declared.agreement.Agreement.{Agreement}
use Rattle.reports.specs.declared.agreement.Agreement.TheVariants.{Same, DiffersAt}
use Rattle.reports.specs.declared.judgement.Judgement.{Judgement}
use Rattle.json_reports.specs.Audits.{audit_data}
use Rattle.circuit_files.specs.Codes.{status_of}
use Rattle.circuit_files.specs.declared.outcome.Outcome.{Outcome}
use Rattle.circuit_files.specs.declared.outcome.Failure.{Failure}
use Rattle.command_endings.specs.Printing.{EndsPrinting, Prints, ending}
use Rattle.frame_runs.specs.Bounds.{bound_for}
use Rattle.command_line.specs.declared.task.Verification.{Verification}
use Rattle.commands.specs.Replaying.{IsJudgement, IsReplayBy, IsUnsaidReplay, ReplaysFile, from_first, no_parts, listed_on, merged_count, with_listed}
use Rattle.commands.specs.Verifying.{EndsWithAudit, EndsWithObject, IsJudgedBy, IsReplayOf, outcome_by, outcome_of_end, outcome_of_judgement}
use Rattle.command_endings.proofs.PrintingLaws.{lines_print, object_prints}

-- what blocks end in that don't say which latches were merged, as the task says
pub guessed_replay : {E : Type 0} (most : Option ℕ) (merge : Bool) (held : List ℕ) (c : Netlist) (blocks : List Certificate) (r : Result Replay E)
    → merge ≡ true → IfOk r (IsGuessedReplay most held c blocks) → IfOk r (IsUnsaidReplay most merge held c blocks)
guessed_replay most merge held c blocks r asked is = subst (λ (m : Bool). IfOk r (IsUnsaidReplay most m held c blocks)) (sym asked) is

-- so if none were merged
pub plain_replay : {E : Type 0} (most : Option ℕ) (merge : Bool) (held : List ℕ) (c : Netlist) (blocks : List Certificate) (r : Result Replay E)
    → merge ≡ false → IfOk r (IsReplay most held c blocks) → IfOk r (IsUnsaidReplay most merge held c blocks)
plain_replay most merge held c blocks r unasked is = subst (λ (m : Bool). IfOk r (IsUnsaidReplay most m held c blocks)) (sym unasked) is

-- what the blocks of a part end in that says it
pub given_replay : {E : Type 0} (most : Option ℕ) (merge : Bool) (held : List ℕ) (c : Netlist) (part : CertPart) (lines : List MergedLatch) (r : Result Replay E)
    → part.merged ≡ Some lines → IfOk r (IsGivenReplay most held c lines part.blocks) → IfOk r (IsReplayBy part.merged most merge held c part.blocks)
given_replay most merge held c part lines r said is =
    subst (λ (merged : Option (List MergedLatch)). IfOk r (IsReplayBy merged most merge held c part.blocks)) (sym said) is

-- and of one that doesn't
pub unsaid_replay : {E : Type 0} (most : Option ℕ) (merge : Bool) (held : List ℕ) (c : Netlist) (part : CertPart) (r : Result Replay E)
    → part.merged ≡ None → IfOk r (IsUnsaidReplay most merge held c part.blocks) → IfOk r (IsReplayBy part.merged most merge held c part.blocks)
unsaid_replay most merge held c part r unsaid is =
    subst (λ (merged : Option (List MergedLatch)). IfOk r (IsReplayBy merged most merge held c part.blocks)) (sym unsaid) is

-- ---- the held latches of what a replay ends in

-- of one of the circuit itself
pub range_of_plain : {E : Type 0} (most : Option ℕ) (held : List ℕ) (c : Netlist) (blocks : List Certificate) (r : Result Replay E) → All (λ j. j < length c.aig.latches) held
    → IfOk r (IsReplay most held c blocks) → IfOk r (λ replay. IfSome replay.last IsStageInRange)
range_of_plain most held c blocks (Ok replay) in_range is = replay-in-range most held c blocks replay in_range is
range_of_plain most held c blocks (Err e) in_range is = tt

-- of one that guesses merged latches
pub range_of_guessed : {E : Type 0} (most : Option ℕ) (held : List ℕ) (c : Netlist) (blocks : List Certificate) (r : Result Replay E) → All (λ j. j < length c.aig.latches) held
    → IfOk r (IsGuessedReplay most held c blocks) → IfOk r (λ replay. IfSome replay.last IsStageInRange)
range_of_guessed most held c blocks (Ok replay) in_range is = guessed-in-range most held c blocks replay in_range is
range_of_guessed most held c blocks (Err e) in_range is = tt

-- of one by given merged latches
pub range_of_given : {E : Type 0} (most : Option ℕ) (held : List ℕ) (c : Netlist) (lines : List MergedLatch) (blocks : List Certificate) (r : Result Replay E) → All (λ j. j < length c.aig.latches) held
    → IfOk r (IsGivenReplay most held c lines blocks) → IfOk r (λ replay. IfSome replay.last IsStageInRange)
range_of_given most held c lines blocks (Ok replay) in_range is = given-in-range most held c lines blocks replay in_range is
range_of_given most held c lines blocks (Err e) in_range is = tt

-- ---- all parts

-- of no part
pub no_part_replayed : (most : Option ℕ) (merge : Bool) (held : List ℕ) (c : Netlist) (parts : List CertPart) (audits : List Audit) → (length parts == 0) ≡ true → audits ≡ [] → ReplaysFile most merge held c parts audits None
no_part_replayed most merge held c [] audits none empty = subst (λ (xs : List Audit). ReplaysFile most merge held c [] xs None) (sym empty) no_parts
no_part_replayed most merge held c (p ∷ ps) audits none empty = absurd (omega (arith, eqb-true (length (p ∷ ps)) 0 none))

-- a list that isn't empty has a first part
pub some_part : (parts : List CertPart) → (length parts == 0) ≡ false → 0 < length parts
some_part [] some = absurd (cc)
some_part (p ∷ ps) some = omega arith

-- the first part and those after it
pub file_replayed : {E : Type 0} (most : Option ℕ) (merge : Bool) (held : List ℕ) (c : Netlist) (parts : List CertPart) (part : CertPart) (first : Replay) (r : Result PartsReplay E) → 0 < length parts
    → part ≡ get_or parts 0 part → IsReplayBy part.merged most merge held c part.blocks first
    → IfOk r (λ all. (others : List Audit) × (all.audits.items ≡ first.audit ∷ others) × ReplaysParts most first.last (drop 1 parts) others all.last)
    → IfOk r (λ all. ReplaysFile most merge held c parts all.audits.items all.last)
file_replayed most merge held c [] part first r some there of_first of_others = absurd (omega (arith, some))
file_replayed most merge held c (p ∷ ps) part first (Err e) some there of_first of_others = tt
file_replayed most merge held c (p ∷ ps) part first (Ok all) some there of_first of_others =
    let is : IsReplayBy p.merged most merge held c p.blocks first = subst (λ (x : CertPart). IsReplayBy x.merged most merge held c x.blocks first) there of_first in
    subst (λ (audits : List Audit). ReplaysFile most merge held c (p ∷ ps) audits all.last) (sym of_others.1) (from_first p ps first of_others.0 all.last is of_others.2)

-- what is judged of a replay is judged of the task
pub judged-result : (task : Verification) (c : Netlist) (file : CertFile) (bytes : Option (List ℕ)) (replay : PartsReplay) (bound merged : Option ℕ) (judgement : Judgement)
    → bound ≡ bound_for task.options.bound c → merged ≡ merged_count file → IsReplayOf task c file replay → IsJudgement bound merged bytes replay judgement → IsJudgedBy task c file bytes judgement
judged-result task c file bytes replay bound merged judgement is many replays judges =
    let P : Option ℕ → Option ℕ → Type 0 = λ b m. IsJudgement b m bytes replay judgement in
    record { replay = replay; replays = replays; judges = subst (λ (b : Option ℕ). P b (merged_count file)) is (subst (P bound) many judges) }

-- ---- merged latches of all parts

listed-more : (parts : List CertPart) (k : ℕ) (part : CertPart) (counted : Option ℕ) → k < length parts → part ≡ get_or parts k part
    → listed_on counted (take (suc k) parts) ≡ with_listed (listed_on counted (take k parts)) part.merged
unfolding listed_on
listed-more [] k part counted within there = absurd (omega (arith, within))
listed-more (p ∷ ps) zero part counted within there = ap (λ (x : CertPart). with_listed counted x.merged) (sym there)
listed-more (p ∷ ps) (suc k) part counted within there = let less : k < length ps = omega (arith, within) in listed-more ps k part (with_listed counted p.merged) less there

-- those of one part more
pub listed-next : (parts : List CertPart) (k : ℕ) (part : CertPart) (counted next : Option ℕ) → k < length parts → part ≡ get_or parts k part → counted ≡ listed_on None (take k parts)
    → next ≡ with_listed counted part.merged → next ≡ listed_on None (take (k + 1) parts)
listed-next parts k part counted next within there so_far is =
    let more : suc k ≡ k + 1 = omega arith in
    is ∙ ap (λ (n : Option ℕ). with_listed n part.merged) so_far ∙ sym (listed-more parts k part None within there) ∙ ap (λ (n : ℕ). listed_on None (take n parts)) more

end_may_be_printed : (e : End) (old new : Output) → Prints (outcome_of_end e) old new
end_may_be_printed NoBlocks old new = tt
end_may_be_printed Certified old new = tt
end_may_be_printed Open old new = tt
end_may_be_printed BlocksFollow old new = tt
end_may_be_printed (Objected objection) old new = tt
end_may_be_printed (Misread latch) old new = tt
end_may_be_printed (NotShown latch) old new = tt

-- whatever is printed of an audit may be
pub audit_may_be_printed : (agreement : Option Agreement) (e : End) (old new : Output) → Prints (outcome_by agreement e) old new
audit_may_be_printed None e old new = end_may_be_printed e old new
audit_may_be_printed (Some Same) e old new = end_may_be_printed e old new
audit_may_be_printed (Some (DiffersAt offset)) e old new = tt

object_of_audit : (parts : List CertPart) (judgement : Judgement) (old new : Output) (result : Result Outcome Failure)
    → EndsWithObject parts judgement (outcome_of_judgement judgement) old new result → IfOk result (EndsWithAudit true parts judgement old new)
object_of_audit parts judgement old new (Ok ended) p = record { prints = p.1; ends = p.0 }
object_of_audit parts judgement old new (Err failure) p = tt

-- the object was printed that was asked for, and the run ends by the audit
pub ends_with_object : (json : Bool) (parts : List CertPart) (judgement : Judgement) (old new : Output) (result : Result Outcome Failure)
    → json ≡ true → EndsWithObject parts judgement (outcome_of_judgement judgement) old new result → IfOk result (EndsWithAudit json parts judgement old new)
ends_with_object json parts judgement old new result asked p =
    subst (λ (j : Bool). IfOk result (EndsWithAudit j parts judgement old new)) (sym asked) (object_of_audit parts judgement old new result p)

-- so much of the object may have been printed
pub audit_object_prints : (parts : List CertPart) (judgement : Judgement) (old new : Output) (result : Result Outcome Failure)
    → EndsWithObject parts judgement (outcome_of_judgement judgement) old new result → Prints (ending result) old new
audit_object_prints parts judgement old new result p =
    object_prints (outcome_of_judgement judgement) (audit_data parts judgement (status_of (outcome_of_judgement judgement))) old new result
    (λ written. audit_may_be_printed judgement.agreement (last_end judgement.audits) old new) p

lines_of_audit : (parts : List CertPart) (judgement : Judgement) (old new : Output) (result : Result Outcome Failure)
    → EndsPrinting (outcome_of_judgement judgement) (audit_text parts judgement) old new result → IfOk result (EndsWithAudit false parts judgement old new)
lines_of_audit parts judgement old new (Ok ended) p = record { prints = p.1; ends = p.0 }
lines_of_audit parts judgement old new (Err failure) p = tt

-- the lines were printed, and the run ends by the audit
pub ends_with_lines : (json : Bool) (parts : List CertPart) (judgement : Judgement) (old new : Output) (result : Result Outcome Failure)
    → json ≡ false → EndsPrinting (outcome_of_judgement judgement) (audit_text parts judgement) old new result
    → IfOk result (EndsWithAudit json parts judgement old new)
ends_with_lines json parts judgement old new result unasked p =
    subst (λ (j : Bool). IfOk result (EndsWithAudit j parts judgement old new)) (sym unasked) (lines_of_audit parts judgement old new result p)

-- so much of the lines may have been printed
pub audit_prints : (parts : List CertPart) (judgement : Judgement) (old new : Output) (result : Result Outcome Failure)
    → EndsPrinting (outcome_of_judgement judgement) (audit_text parts judgement) old new result → Prints (ending result) old new
audit_prints parts judgement old new result p =
    lines_print (outcome_of_judgement judgement) (audit_text parts judgement) old new result
    (λ written. audit_may_be_printed judgement.agreement (last_end judgement.audits) old new) p
