-- Certificates of a retiming.
use Rattle.std.specs.Prelude.{ℕ, suc, ◌≡◌, ◌<◌, Bool, true, false, List, [], length, Option, Some, None, slice_get}
use Rattle.aig_graph.specs.Circuits.{Netlist}
use Rattle.certificates.specs.declared.certificate.Certificate.{Certificate}
use Rattle.certificates.specs.declared.verdict.Verdict.TheVariants.{Yes}
use Rattle.certificates.specs.Verdicts.{IsVerdict}
use Rattle.aig_graph.specs.declared.choice.Choice.{Choice}
use Rattle.path_levels.specs.Bounded.{bounded}
use Rattle.retimed_circuits.specs.declared.report.FrameReport.{FrameReport}
use Rattle.retimed_circuits.specs.declared.report.Retimed.{Retimed}
use Rattle.retimed_circuits.specs.Frames.{AfterFrames, IsFound, count_over}

-- the certificate passes all tests for c, or for c bounded
pub data PassesWithin (bound : ℕ) (held : List ℕ) (c : Netlist) (cert : Certificate) : Type 0 where
  passes_whole : IsVerdict c held cert Yes → PassesWithin bound held c cert
  passes_bounded : IsVerdict (bounded bound held c) held cert Yes → PassesWithin bound held c cert

-- the certificate passes all tests for c; under a bound it may be for c bounded
abbrev pub Passes : Option ℕ → List ℕ → Netlist → Certificate → Type 0
Passes None held c cert = IsVerdict c held cert Yes
Passes (Some bound) held c cert = PassesWithin bound held c cert

-- the gates are the set that is found in c, the certificate has its count, and passes all tests
pub record IsCertificate (bound : Option ℕ) (choice : Choice) (held : List ℕ) (c : Netlist) (cert : Certificate) : Type 0 where
  pub found : IsFound bound choice held c cert.gates
  pub counted : cert.count ≡ count_over held c cert.gates
  pub passes : Passes bound held c cert

-- certificate i, from 0, is one of the circuit that i frames make of c, with the positions of its
-- held latches there
abbrev pub AreOfFrames : Option ℕ → Choice → List ℕ → Netlist → List Certificate → Type 0
AreOfFrames bound choice held c certs = (i : ℕ) (d : Netlist) (kept now : List ℕ) (reports : List FrameReport) (cert : Certificate)
    → AfterFrames bound choice held c i d kept now reports → slice_get certs i ≡ Some cert → IsCertificate bound choice now d cert

-- the certificate has the count and as many gates as are reported
pub record IsReported (cert : Certificate) (report : FrameReport) : Type 0 where
  pub count : cert.count ≡ report.after
  pub moved : length cert.gates ≡ report.moved

-- certificate i is that of frame i's report
abbrev pub AreReported : List Certificate → List FrameReport → Type 0
AreReported certs reports = (i : ℕ) (cert : Certificate) (report : FrameReport) → slice_get certs i ≡ Some cert → slice_get reports i ≡ Some report → IsReported cert report

-- If certificates are wanted, there is one of each circuit that a frame was taken of. There is one
-- of the last circuit unless the limit of frames ended the run. Otherwise there are none.
pub record AreCertified (bound : Option ℕ) (choice : Choice) (c : Netlist) (held : List ℕ) (max_frames : ℕ) (certify : Bool) (r : Retimed) : Type 0 where
  pub each : AreOfFrames bound choice held c r.certificates
  pub reported : AreReported r.certificates r.frames
  pub limited : certify ≡ true → length r.frames ≡ max_frames → length r.certificates ≡ length r.frames
  pub ended : certify ≡ true → length r.frames < max_frames → length r.certificates ≡ suc (length r.frames)
  pub none : certify ≡ false → r.certificates ≡ []

-- equal numbers of certificates, with equal gates and counts: the routes may differ
pub record SameButRoutes (certs others : List Certificate) : Type 0 where
  pub many : length certs ≡ length others
  pub gates : (i : ℕ) (cert other : Certificate) → slice_get certs i ≡ Some cert → slice_get others i ≡ Some other → cert.gates ≡ other.gates
  pub counts : (i : ℕ) (cert other : Certificate) → slice_get certs i ≡ Some cert → slice_get others i ≡ Some other → cert.count ≡ other.count

-- one retiming, whether certificates are wanted or not; if they are of both or of none, one report
-- but for their routes
pub record IsSameRetiming (certify other : Bool) (r s : Retimed) : Type 0 where
  pub circuit : r.circuit ≡ s.circuit
  pub free : r.kept_free ≡ s.kept_free
  pub latches : r.read_latches ≡ s.read_latches
  pub merged : r.merged ≡ s.merged
  pub frames : r.frames ≡ s.frames
  pub certificates : certify ≡ other → SameButRoutes r.certificates s.certificates
