-- What is printed of an audit, and of a file that is compared with what its parts end in. The run
-- ends by it.
use Rattle.std.specs.Prelude.{ℕ, ◌≡◌, Bool, true, false, List, Option, Some, None, Result}
use Rattle.aig_graph.specs.Circuits.{Netlist}
use Rattle.aig_binary.specs.declared.reading.SpeltCircuit.{SpeltCircuit}
use Rattle.counted_io.specs.Input.{Input}
use Rattle.counted_io.specs.Output.{Output, WritesAll}
use Rattle.certificate_files.specs.declared.file.CertFile.{CertFile}
use Rattle.certificate_files.specs.declared.file.CertPart.{CertPart}
use Rattle.certificate_audits.specs.declared.outcome.End.{End}
use Rattle.certificate_audits.specs.declared.outcome.End.TheVariants.{NoBlocks, Certified, Open, BlocksFollow, Objected, Misread, NotShown}
use Rattle.certificate_audits.specs.declared.parts.PartsReplay.{PartsReplay}
use Rattle.reports.specs.Audits.{audit_text, last_end}
use Rattle.reports.specs.declared.agreement.Agreement.{Agreement}
use Rattle.reports.specs.declared.agreement.Agreement.TheVariants.{Same, DiffersAt}
use Rattle.reports.specs.declared.judgement.Judgement.{Judgement}
use Rattle.frame_runs.specs.Bounds.{bound_for}
use Rattle.json_reports.specs.Audits.{audit_data}
use Rattle.json_reports.specs.Lines.{json_line}
use Rattle.command_line.specs.declared.task.Verification.{Verification}
use Rattle.circuit_files.specs.Codes.{status_of}
use Rattle.circuit_files.specs.declared.outcome.Failure.{Failure}
use Rattle.circuit_files.specs.declared.outcome.Outcome.{Outcome}
use Rattle.circuit_files.specs.declared.outcome.Outcome.TheVariants.{Done, Unconfirmed}
use Rattle.command_endings.specs.HeldNames.{held_by}
use Rattle.command_endings.specs.Objects.{EndsPrintingObject}
use Rattle.command_endings.specs.Sources.{AreCertificatesAt, IsCircuitAt}
use Rattle.commands.specs.Replaying.{AreRetimedAt, IsJudgement, IsReplayFor, merged_count}

-- how a run ends by the end of an audit: done if nothing speaks against a block or a merged latch,
-- else unconfirmed
abbrev pub outcome_of_end : End → Outcome
outcome_of_end NoBlocks = Done
outcome_of_end Certified = Done
outcome_of_end Open = Done
outcome_of_end BlocksFollow = Unconfirmed
outcome_of_end (Objected objection) = Unconfirmed
outcome_of_end (Misread latch) = Unconfirmed
outcome_of_end (NotShown latch) = Unconfirmed

-- how a run ends by what came of comparing a file, and else by the end of the audit
abbrev pub outcome_by : Option Agreement → End → Outcome
outcome_by None end = outcome_of_end end
outcome_by (Some Same) end = outcome_of_end end
outcome_by (Some (DiffersAt offset)) end = Unconfirmed

-- how a run ends by the end of an audit and the compared file: unconfirmed if that differs
abbrev pub outcome_of_judgement : Judgement → Outcome
outcome_of_judgement judgement = outcome_by judgement.agreement (last_end judgement.audits)

-- the object of a judgement after which the run ends so
abbrev pub EndsWithObject : List CertPart → Judgement → Outcome → Output → Output → Result Outcome Failure → Type 0
EndsWithObject parts judgement outcome old new result =
    EndsPrintingObject outcome (audit_data parts judgement (status_of outcome)) old new result

-- what is printed of a judgement: an object on a line if that is asked for, else lines
abbrev pub printed_audit : Bool → List CertPart → Judgement → List ℕ
printed_audit true parts judgement = json_line (audit_data parts judgement (status_of (outcome_of_judgement judgement)))
printed_audit false parts judgement = audit_text parts judgement

-- the judgement is printed in this form, and the run ends by it
pub record EndsWithAudit (json : Bool) (parts : List CertPart) (judgement : Judgement) (old new : Output) (ended : Outcome) : Type 0 where
  pub prints : WritesAll old new (printed_audit json parts judgement)
  pub ends : ended ≡ outcome_of_judgement judgement

-- what the parts of the file end in for c, with the latches held that the task names
abbrev pub IsReplayOf : Verification → Netlist → CertFile → PartsReplay → Type 0
IsReplayOf task c file replay = IsReplayFor task.options.bound task.options.merge (held_by task.options c) c file replay

-- The audits of the file's parts for this circuit, with the latches held that the task names. Also
-- the outcome of comparing these bytes with what they end in.
pub record IsJudgedBy (task : Verification) (c : Netlist) (file : CertFile) (bytes : Option (List ℕ)) (judgement : Judgement) : Type 0 where
  pub replay : PartsReplay
  pub replays : IsReplayOf task c file replay
  pub judges : IsJudgement (bound_for task.options.bound c) (merged_count file) bytes replay judgement

-- that is printed as the task asks, and the run ends by it
pub record PrintsAudit (task : Verification) (c : Netlist) (file : CertFile) (bytes : Option (List ℕ)) (ended : Outcome) (old new : Output) : Type 0 where
  pub judgement : Judgement
  pub judged : IsJudgedBy task c file bytes judgement
  pub printed : EndsWithAudit task.json file.parts judgement old new ended

-- that of the file that is read, if one is compared
pub record PrintsAuditBeside (task : Verification) (c : Netlist) (file : CertFile) (before after : Input) (old new : Output) (ended : Outcome) : Type 0 where
  pub bytes : Option (List ℕ)
  pub read : AreRetimedAt task.retimed before after bytes
  pub printed : PrintsAudit task c file bytes ended old new

-- that of the certificates that are read before it, for this circuit
pub record PrintsAuditFor (task : Verification) (c : Netlist) (before after : Input) (old new : Output) (ended : Outcome) : Type 0 where
  pub certificates : CertFile
  pub between : Input
  pub read : AreCertificatesAt task.certificates before between certificates
  pub printed : PrintsAuditBeside task c certificates between after old new ended

-- that of the certificates that are read, for the circuit that is read before them
pub record PrintsAuditOf (task : Verification) (before after : Input) (old new : Output) (ended : Outcome) : Type 0 where
  pub spelt : SpeltCircuit
  pub between : Input
  pub read : IsCircuitAt task.input before between spelt
  pub printed : PrintsAuditFor task spelt.circuit between after old new ended
