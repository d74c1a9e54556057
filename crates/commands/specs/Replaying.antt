-- The circuit that the parts of certificates end in, and a file that is compared with it.
use Rattle.std.specs.Prelude.{ℕ, ◌≡◌, Bool, true, false, List, [], ◌∷◌, Option, Some, None, IsSomeAnd, length, unwrap_or, option_map}
use Rattle.std.specs.Global.{Vec}
use Rattle.aig_graph.specs.Circuits.{Netlist}
use Rattle.aig_binary.specs.Spellings.{spelling_of, text_in}
use Rattle.file_words.specs.declared.spelling.Spelling.TheVariants.{Ascii}
use Rattle.counted_io.specs.Input.{Input, ReadsAll}
use Rattle.certificates.specs.declared.certificate.Certificate.{Certificate}
use Rattle.certificate_files.specs.declared.file.CertFile.{CertFile}
use Rattle.certificate_files.specs.declared.file.CertPart.{CertPart}
use Rattle.certificates.specs.declared.merged.MergedLatch.{MergedLatch}
use Rattle.certificate_audits.specs.Replays.{IsGivenReplay, IsGuessedReplay, IsReplay}
use Rattle.certificate_audits.specs.Parts.{ReplaysParts}
use Rattle.certificate_audits.specs.declared.moving.Stage.{Stage}
use Rattle.certificate_audits.specs.declared.outcome.Audit.{Audit}
use Rattle.certificate_audits.specs.declared.outcome.Replay.{Replay}
use Rattle.certificate_audits.specs.declared.parts.PartsReplay.{PartsReplay}
use Rattle.frame_runs.specs.Bounds.{bound_for}
use Rattle.frame_runs.specs.declared.bound.PathBound.{PathBound}
use Rattle.reports.specs.Agreements.{IsAgreement}
use Rattle.reports.specs.Audits.{counted_on}
use Rattle.reports.specs.declared.agreement.Agreement.{Agreement}
use Rattle.reports.specs.declared.judgement.Judgement.{Judgement}
use Rattle.counted_io.specs.Streams.{source_name}
use Rattle.counted_io.specs.declared.source.Source.{Source}
use Rattle.circuit_files.specs.Outcomes.{IsAbout}
use Rattle.circuit_files.specs.declared.outcome.Failure.{Failure}
use Rattle.command_endings.specs.Sources.{IsReadAt}

-- What blocks end in for c, with the latches at these positions held, under a bound or none. If
-- latches were merged before the first frame, it is for what c is merged to.
abbrev pub IsUnsaidReplay : Option ℕ → Bool → List ℕ → Netlist → List Certificate → Replay → Type 0
IsUnsaidReplay most false held c blocks replay = IsReplay most held c blocks replay
IsUnsaidReplay most true held c blocks replay = IsGuessedReplay most held c blocks replay

-- If a file says which latches were merged, it is by these lines and no others. What the command
-- was told of merging changes nothing then.
abbrev pub IsReplayBy : Option (List MergedLatch) → Option ℕ → Bool → List ℕ → Netlist → List Certificate → Replay → Type 0
IsReplayBy None most merge held c blocks replay = IsUnsaidReplay most merge held c blocks replay
IsReplayBy (Some lines) most merge held c blocks replay = IsGivenReplay most held c lines blocks replay

-- What the parts of a file end in, and their audits. The first part is replayed so, and each other
-- one from what the part before it ends in.
pub data ReplaysFile (most : Option ℕ) (merge : Bool) (held : List ℕ) (c : Netlist) : List CertPart → List Audit → Option Stage → Type 0 where
  no_parts : ReplaysFile most merge held c [] [] None
  from_first : (part : CertPart) (parts : List CertPart) (first : Replay) (audits : List Audit) (last : Option Stage) → IsReplayBy part.merged most merge held c part.blocks first
      → ReplaysParts most first.last parts audits last → ReplaysFile most merge held c (part ∷ parts) (first.audit ∷ audits) last

-- what the parts of a file end in
abbrev pub IsReplayFor : PathBound → Bool → List ℕ → Netlist → CertFile → PartsReplay → Type 0
IsReplayFor bound merge held c file replay = ReplaysFile (bound_for bound c) merge held c file.parts replay.audits.items replay.last

-- so many merged latches, and those of a part, if it lists some; as far as 64 bits go
abbrev pub with_listed : Option ℕ → Option (List MergedLatch) → Option ℕ
with_listed counted None = counted
with_listed counted (Some merged) = Some (counted_on (unwrap_or counted 0) (length merged))

-- that of all parts
unfoldable pub listed_on : Option ℕ → List CertPart → Option ℕ
listed_on counted [] = counted
listed_on counted (part ∷ parts) = listed_on (with_listed counted part.merged) parts

-- how many merged latches a file has, if it says which were merged
abbrev pub merged_count : CertFile → Option ℕ
merged_count file = listed_on None file.parts

-- the bytes that a vector has, if there is one
abbrev pub bytes_in : Option (Vec ℕ) → Option (List ℕ)
bytes_in bytes = option_map (λ b. b.items) bytes

-- all bytes that are left
abbrev pub AreBytesAt : Source → Input → Input → List ℕ → Type 0
AreBytesAt source old new bytes = IsReadAt source old new (ReadsAll old new bytes)

-- the bytes of the file that is compared, if one is
abbrev pub AreRetimedAt : Option Source → Input → Input → Option (List ℕ) → Type 0
AreRetimedAt None old new bytes = (bytes ≡ None) × (new ≡ old)
AreRetimedAt (Some source) old new bytes = IsSomeAnd bytes (AreBytesAt source old new)

-- the failure is about that file
abbrev pub IsAboutRetimed : Option Source → Failure → Type 0
IsAboutRetimed None failure = ⊥
IsAboutRetimed (Some source) failure = IsAbout (source_name source) failure

-- the text of a circuit in the spelling of these bytes, in ASCII if they are of neither
abbrev pub text_like : List ℕ → Netlist → List ℕ
text_like bytes c = text_in (unwrap_or (spelling_of bytes) Ascii) c

-- The outcome of comparing bytes with the circuit that parts end in. It is nothing if there is
-- none, since something speaks against a part.
abbrev pub IsAgreementWith : Option Stage → List ℕ → Option Agreement → Type 0
IsAgreementWith None bytes agreement = agreement ≡ None
IsAgreementWith (Some s) bytes agreement = IsSomeAnd agreement (IsAgreement (text_like bytes s.circuit) bytes)

-- what comes of comparing bytes, if there are any, with the circuit that parts end in
abbrev pub IsAgreementOn : Option (List ℕ) → Option Stage → Option Agreement → Type 0
IsAgreementOn None last agreement = agreement ≡ None
IsAgreementOn (Some bytes) last agreement = IsAgreementWith last bytes agreement

-- The bound of the replay, the number of merged latches of its file, its audits, and what comes of
-- comparing these bytes with its circuit.
pub record IsJudgement (bound merged : Option ℕ) (bytes : Option (List ℕ)) (replay : PartsReplay) (judgement : Judgement) : Type 0 where
  pub bound_is : judgement.bound ≡ bound
  pub merged_is : judgement.merged ≡ merged
  pub audits : judgement.audits ≡ replay.audits.items
  pub agreement : IsAgreementOn bytes replay.last judgement.agreement
