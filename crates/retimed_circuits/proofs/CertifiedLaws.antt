-- Certificates of two retimings of one circuit differ in their routes alone.
use Rattle.std.proofs.Common.{ℕ, suc, inl, inr, ◌≡◌, ◌<◌, ◌≤◌, ◌++◌, Bool, true, false, List, [], ◌∷◌, length, Option, refl, arith, ap, sym, ◌∙◌, subst}
use Rattle.std.proofs.lemmas.Bool.{cases_order}
use Rattle.std.proofs.lemmas.Option.{slice_get_within}
use Rattle.aig_graph.specs.Circuits.{Netlist}
use Rattle.aig_graph.specs.Laws.{composed}
use Rattle.certificates.specs.declared.certificate.Certificate.{Certificate}
use Rattle.aig_graph.specs.declared.choice.Choice.{Choice}
use Rattle.retimed_circuits.specs.declared.report.FrameReport.{FrameReport}
use Rattle.retimed_circuits.specs.declared.report.Retimed.{Retimed}
use Rattle.retimed_circuits.specs.Frames.{AfterFrames, cleaned, count_over, frame}
use Rattle.retimed_circuits.specs.Certified.{IsCertificate, AreCertified, SameButRoutes}
use Rattle.retimed_circuits.proofs.FoundLaws.{found-one}

-- a circuit that fewer frames make
pub record Reached (bound : Option ℕ) (choice : Choice) (held : List ℕ) (c : Netlist) (i : ℕ) : Type 0 where
  -- the circuit that the first i frames make
  pub circuit : Netlist
  -- the places of its free latches among those of c
  pub kept : List ℕ
  -- the positions of its held latches
  pub now : List ℕ
  -- the reports of these frames
  pub reports : List FrameReport
  -- the first i frames of c lead to this circuit
  pub run : AfterFrames bound choice held c i circuit kept now reports

-- a run of frames passes a circuit after each smaller number of frames
pub after-before : (bound : Option ℕ) (choice : Choice) (held : List ℕ) (c : Netlist) (n : ℕ) (d : Netlist) (kept now : List ℕ) (r : List FrameReport) → AfterFrames bound choice held c n d kept now r
    → (i : ℕ) → i ≤ n → Reached bound choice held c i
after-before bound choice held c _ _ _ _ _ (cleaned d kept now cleans) i within =
    let P : ℕ → Type 0 = λ j. AfterFrames bound choice held c j d kept now [] in
    let first : 0 ≡ i = omega (arith, within) in
    record { circuit = d; kept = kept; now = now; reports = []; run = subst P first (cleaned d kept now cleans) }
after-before bound choice held c _ _ _ _ _ (frame n d e kept left now later reports report run last) i within = elim (cases_order i (suc n)) [
  | inl here ↦ (
      let P : ℕ → Type 0 = λ j. AfterFrames bound choice held c j e (composed kept left) later (reports ++ report ∷ []) in
      record { circuit = e; kept = composed kept left; now = later; reports = reports ++ report ∷ []; run = subst P (sym here) (frame n d e kept left now later reports report run last) })
  | inr (inl below) ↦ after-before bound choice held c n d kept now reports run i (omega (arith, below))
  | inr (inr past) ↦ absurd (omega (arith, past, within))
]

-- two certificates of one circuit have equal gates and counts
same-gates : (bound : Option ℕ) (choice : Choice) (held : List ℕ) (c : Netlist) (a b : Certificate) → IsCertificate bound choice held c a → IsCertificate bound choice held c b → a.gates ≡ b.gates
same-gates bound choice held c a b p q = found-one bound choice held c a.gates b.gates p.found q.found

same-counts : (bound : Option ℕ) (choice : Choice) (held : List ℕ) (c : Netlist) (a b : Certificate) → IsCertificate bound choice held c a → IsCertificate bound choice held c b → a.count ≡ b.count
same-counts bound choice held c a b p q =
    p.counted ∙ ap (count_over held c) (same-gates bound choice held c a b p q) ∙ sym q.counted

-- there are no more certificates than circuits
short : (bound : Option ℕ) (choice : Choice) (c : Netlist) (held : List ℕ) (max_frames : ℕ) (certify : Bool) (r : Retimed) → AreCertified bound choice c held max_frames certify r
    → length r.frames ≤ max_frames → (i : ℕ) → i < length r.certificates → i ≤ length r.frames
short bound choice c held max_frames false r p within i less =
    let empty : length r.certificates ≡ 0 = ap (λ (certs : List Certificate). length certs) (p.none refl) in absurd (omega (arith, less, empty))
short bound choice c held max_frames true r p within i less = elim (cases_order (length r.frames) max_frames) [
  | inl at ↦ omega (arith, less, p.limited refl at)
  | inr (inl below) ↦ omega (arith, less, p.ended refl below)
  | inr (inr past) ↦ absurd (omega (arith, past, within))
]

as-many : (bound : Option ℕ) (choice : Choice) (c : Netlist) (held : List ℕ) (max_frames : ℕ) (certify : Bool) (r s : Retimed) → AreCertified bound choice c held max_frames certify r
    → AreCertified bound choice c held max_frames certify s → length r.frames ≤ max_frames → length r.frames ≡ length s.frames → length r.certificates ≡ length s.certificates
as-many bound choice c held max_frames false r s p q within same = ap (λ (certs : List Certificate). length certs) (p.none refl ∙ sym (q.none refl))
as-many bound choice c held max_frames true r s p q within same = elim (cases_order (length r.frames) max_frames) [
  | inl at ↦ omega (arith, same, p.limited refl at, q.limited refl (sym same ∙ at))
  | inr (inl below) ↦ omega (arith, same, p.ended refl below, q.ended refl (omega (arith, same, below)))
  | inr (inr past) ↦ absurd (omega (arith, past, within))
]

-- two lists of certificates of one circuit's frames, of runs with equal numbers of frames, are
-- equal but for their routes
pub same-certificates : (bound : Option ℕ) (choice : Choice) (c : Netlist) (held : List ℕ) (max_frames : ℕ) (certify : Bool) (r s : Retimed) (now : List ℕ)
    → AfterFrames bound choice held c (length r.frames) r.circuit r.kept_free now r.frames → AreCertified bound choice c held max_frames certify r
    → AreCertified bound choice c held max_frames certify s → length r.frames ≤ max_frames → length r.frames ≡ length s.frames → SameButRoutes r.certificates s.certificates
same-certificates bound choice c held max_frames certify r s now run p q within same =
    let reached : (i : ℕ) → i < length r.certificates → Reached bound choice held c i = λ i less.
    after-before bound choice held c (length r.frames) r.circuit r.kept_free now r.frames run i (short bound choice c held max_frames certify r p within i less) in
    record {
      many = as-many bound choice c held max_frames certify r s p q within same;
      gates = λ i a b at other.
          let e = reached i (slice_get_within r.certificates i a at) in
          same-gates bound choice e.now e.circuit a b (p.each i e.circuit e.kept e.now e.reports a e.run at) (q.each i e.circuit e.kept e.now e.reports b e.run other);
      counts = λ i a b at other.
          let e = reached i (slice_get_within r.certificates i a at) in
          same-counts bound choice e.now e.circuit a b (p.each i e.circuit e.kept e.now e.reports a e.run at) (q.each i e.circuit e.kept e.now e.reports b e.run other);
    }
