-- A certificate of the circuit that a frame is taken of has the count and the gates of that frame's
-- report.
use Rattle.std.proofs.Common.{ℕ, inl, inr, ◌≡◌, ◌<◌, List, [], length, Option, Some, slice_get, arith, ap, sym, ◌∙◌, subst}
use Rattle.std.proofs.lemmas.Option.{slice_get_within}
use Rattle.aig_graph.proofs.PlacesLaws.{slice_get_push}
use Rattle.aig_graph.specs.Circuits.{Netlist}
use Rattle.certificates.specs.declared.certificate.Certificate.{Certificate}
use Rattle.aig_graph.specs.declared.choice.Choice.{Choice}
use Rattle.retimed_circuits.specs.declared.report.FrameReport.{FrameReport}
use Rattle.retimed_circuits.specs.Frames.{AfterFrames, IsFound, cleaned, frame, count_over, report_over}
use Rattle.retimed_circuits.specs.Certified.{IsCertificate, AreOfFrames, IsReported, AreReported}
use Rattle.retimed_circuits.proofs.FoundLaws.{found-one}
use Rattle.retimed_circuits.proofs.RunLaws.{after-length}

-- the circuit that frame i is taken of, and the set that it moves latches over
record FrameAt (bound : Option ℕ) (choice : Choice) (held : List ℕ) (c : Netlist) (i : ℕ) (report : FrameReport) : Type 0 where
  -- the circuit that frame i is taken of
  pub circuit : Netlist
  -- the places of its free latches among those of c
  pub kept : List ℕ
  -- the positions of its held latches
  pub now : List ℕ
  -- the reports of the frames before
  pub reports : List FrameReport
  -- the frames before lead to this circuit
  pub run : AfterFrames bound choice held c i circuit kept now reports
  -- the set that latches are moved over
  pub set : List ℕ
  -- it is the one that is found in this circuit
  pub found : IsFound bound choice now circuit set
  -- the report is that of this circuit and this set
  pub reported : report ≡ report_over now circuit set

frame-at : (bound : Option ℕ) (choice : Choice) (held : List ℕ) (c : Netlist) (n : ℕ) (d : Netlist) (kept now : List ℕ) (reports : List FrameReport) → AfterFrames bound choice held c n d kept now reports
    → (i : ℕ) (report : FrameReport) → slice_get reports i ≡ Some report → FrameAt bound choice held c i report
frame-at bound choice held c _ _ _ _ _ (cleaned d kept now cleans) i report at =
    let within : i < 0 = slice_get_within {A = FrameReport} [] i report at in absurd (omega (arith, within))
frame-at bound choice held c _ _ _ _ _ (frame n d e kept left now later reports last run taken) i report at = elim (slice_get_push reports last i report at) [
  | inl here ↦ frame-at bound choice held c n d kept now reports run i report here
  | inr end ↦ (
      let P : ℕ → Type 0 = λ j. AfterFrames bound choice held c j d kept now reports in
      let place : n ≡ i = sym (after-length bound choice held c n d kept now reports run) ∙ sym end.0 in
      record {
        circuit = d;
        kept = kept;
        now = now;
        reports = reports;
        run = subst P place run;
        set = taken.set;
        found = taken.helps.found;
        reported = end.1 ∙ taken.reported;
      })
]

one-reported : (bound : Option ℕ) (choice : Choice) (held : List ℕ) (c : Netlist) (cert : Certificate) (set : List ℕ) (report : FrameReport) → IsCertificate bound choice held c cert
    → IsFound bound choice held c set → report ≡ report_over held c set → IsReported cert report
one-reported bound choice held c cert set report is found reported =
    let same : cert.gates ≡ set = found-one bound choice held c cert.gates set is.found found in
    let after : report.after ≡ count_over held c set = ap (λ (x : FrameReport). x.after) reported in
    let moved : report.moved ≡ length set = ap (λ (x : FrameReport). x.moved) reported in
    record {
      count = is.counted ∙ ap (count_over held c) same ∙ sym after;
      moved = ap (λ (gates : List ℕ). length gates) same ∙ sym moved;
    }

-- certificates of the circuits that frames are taken of have the counts and as many gates as the
-- frames' reports
pub all-reported : (bound : Option ℕ) (choice : Choice) (held : List ℕ) (c : Netlist) (n : ℕ) (d : Netlist) (kept now : List ℕ) (reports : List FrameReport) (certs : List Certificate)
    → AfterFrames bound choice held c n d kept now reports → AreOfFrames bound choice held c certs → AreReported certs reports
all-reported bound choice held c n d kept now reports certs run each i cert report at reported =
    let taken = frame-at bound choice held c n d kept now reports run i report reported in
    one-reported bound choice taken.now taken.circuit cert taken.set report (each i taken.circuit taken.kept taken.now taken.reports cert taken.run at) taken.found taken.reported
