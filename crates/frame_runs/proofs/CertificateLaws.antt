-- The certificates of a run, frame after frame.
use Rattle.std.proofs.Common.{ℕ, suc, inl, inr, ◌≡◌, ◌<◌, ◌++◌, Bool, true, false, List, [], ◌∷◌, Option, length, arith, refl, ap, sym, ◌∙◌, subst}
use Rattle.std.proofs.lemmas.List.{length-append}
use Rattle.std.proofs.lemmas.Option.{slice_get_within}
use Rattle.aig_graph.specs.Circuits.{Netlist}
use Rattle.aig_graph.proofs.PlacesLaws.{slice_get_push}
use Rattle.certificates.specs.declared.certificate.Certificate.{Certificate}
use Rattle.chosen_cuts.specs.Certified.{AddsNone}
use Rattle.chosen_cuts.specs.declared.records.Records.{Records}
use Rattle.aig_graph.specs.declared.choice.Choice.{Choice}
use Rattle.retimed_circuits.specs.declared.report.FrameReport.{FrameReport}
use Rattle.retimed_circuits.specs.declared.report.Retimed.{Retimed}
use Rattle.retimed_circuits.specs.Frames.{AfterFrames}
use Rattle.retimed_circuits.specs.Certified.{IsCertificate, AreOfFrames, AreCertified}
use Rattle.retimed_circuits.proofs.ReportLaws.{all-reported}
use Rattle.retimed_circuits.proofs.RunLaws.{after-one}
use Rattle.frame_runs.specs.declared.options.Options.{Options}
use Rattle.frame_runs.specs.Certified.{AddsFound, AreCollected}

none-yet : (bound : Option ℕ) (choice : Choice) (held : List ℕ) (c : Netlist) → AreOfFrames bound choice held c []
none-yet bound choice held c i d kept now reports cert run at =
    let within : i < 0 = slice_get_within {A = Certificate} [] i cert at in absurd (omega (arith, within))

-- if no certificates were made yet, those of the first none of the circuits are collected
pub none-collected : (options : Options) (bound : Option ℕ) (held : List ℕ) (c : Netlist) (records : Records) → records.certify ≡ options.certify → records.certificates.items ≡ []
    → AreCollected options bound held c 0 records
none-collected options bound held c records wanted empty = record {
  wanted = wanted;
  each = λ yes. subst (AreOfFrames bound options.choice held c) (sym empty) (none-yet bound options.choice held c);
  many = λ yes. ap (λ (certs : List Certificate). length certs) empty;
  none = λ no. empty;
}

-- the circuit that n frames make is one, so a certificate of it is one of any
one-more-certificate : (bound : Option ℕ) (choice : Choice) (held : List ℕ) (c : Netlist) (certs : List Certificate) (cert : Certificate) (d : Netlist) (kept now : List ℕ) (reports : List FrameReport)
    → AreOfFrames bound choice held c certs → AfterFrames bound choice held c (length certs) d kept now reports → IsCertificate bound choice now d cert → AreOfFrames bound choice held c (certs ++ cert ∷ [])
one-more-certificate bound choice held c certs cert d kept now reports before run is i e left later s other again at = elim (slice_get_push certs cert i other at) [
  | inl here ↦ before i e left later s other again here
  | inr last ↦ (
      let P : ℕ → Type 0 = λ j. AfterFrames bound choice held c j e left later s in
      let same = after-one bound choice held c (length certs) d kept now reports run e left later s (subst P last.0 again) in
      subst (IsCertificate bound choice later e) (sym last.1)
      (subst (λ (x : Netlist). IsCertificate bound choice later x cert) same.circuit (subst (λ (js : List ℕ). IsCertificate bound choice js d cert) same.held is)))
]

-- what is added as a set is found stays added while no certificate changes
pub still-added : (options : Options) (bound : Option ℕ) (held : List ℕ) (c : Netlist) (old mid later new : Records) → AddsFound options bound held c old mid → AddsNone mid later → AddsNone later new
    → AddsFound options bound held c old new
still-added options bound held c old mid later new found first second = record {
  certify = second.certify ∙ first.certify ∙ found.certify;
  added = λ yes. let one = found.added yes in (one.0, one.1, second.certificates ∙ first.certificates ∙ one.2);
  none = λ no. second.certificates ∙ first.certificates ∙ found.none no;
}

-- with what is added for the circuit that n frames make, the certificates of the first n + 1
-- circuits are collected, if wanted
pub one-collected : (options : Options) (bound : Option ℕ) (held : List ℕ) (c : Netlist) (n : ℕ) (mid new : Records) (d : Netlist) (kept now : List ℕ) (reports : List FrameReport)
    → AreCollected options bound held c n mid → AfterFrames bound options.choice held c n d kept now reports → AddsFound options bound now d mid new → AreCollected options bound held c (suc n) new
one-collected options bound held c n mid new d kept now reports before run adds = record {
  wanted = adds.certify ∙ before.wanted;
  each = λ yes.
      let choice = options.choice in
      let added = adds.added (before.wanted ∙ yes) in
      let P : ℕ → Type 0 = λ m. AfterFrames bound choice held c m d kept now reports in
      let all = one-more-certificate bound choice held c mid.certificates.items added.0 d kept now reports (before.each yes) (subst P (sym (before.many yes)) run) added.1 in
      subst (AreOfFrames bound choice held c) (sym added.2) all;
  many = λ yes.
      let added = adds.added (before.wanted ∙ yes) in
      let long : length new.certificates.items ≡ length (mid.certificates.items ++ added.0 ∷ []) = ap (λ (certs : List Certificate). length certs) added.2 in
      omega (arith, long, length-append mid.certificates.items (added.0 ∷ []), before.many yes);
  none = λ no. adds.none (before.wanted ∙ no) ∙ before.none no;
}

-- the certificates of r are those that were collected of the first n circuits: as many as frames at
-- the limit, one more before it
pub certified : (options : Options) (bound : Option ℕ) (c : Netlist) (held : List ℕ) (n : ℕ) (r : Retimed) (now : List ℕ) (records : Records) → AreCollected options bound held c n records
    → r.certificates ≡ records.certificates.items → (taken : ℕ) → AfterFrames bound options.choice held c taken r.circuit r.kept_free now r.frames → (length r.frames ≡ options.max_frames → n ≡ length r.frames)
    → (length r.frames < options.max_frames → n ≡ suc (length r.frames)) → AreCertified bound options.choice c held options.max_frames options.certify r
certified options bound c held n r now records all same taken run limit before =
    let choice = options.choice in
    let each : AreOfFrames bound choice held c r.certificates = subst (AreOfFrames bound choice held c) (sym same) (of-frames bound choice held c options.certify records.certificates.items all.each all.none) in
    record {
      each = each;
      reported = all-reported bound choice held c taken r.circuit r.kept_free now r.frames r.certificates run each;
      limited = λ yes at. ap (λ (certs : List Certificate). length certs) same ∙ all.many yes ∙ limit at;
      ended = λ yes less. ap (λ (certs : List Certificate). length certs) same ∙ all.many yes ∙ before less;
      none = λ no. same ∙ all.none no;
    }
  where
    of-frames : (bound : Option ℕ) (choice : Choice) (held : List ℕ) (c : Netlist) (certify : Bool) (certs : List Certificate) → (certify ≡ true → AreOfFrames bound choice held c certs) → (certify ≡ false → certs ≡ [])
        → AreOfFrames bound choice held c certs
    of-frames bound choice held c true certs each none = each refl
    of-frames bound choice held c false certs each none = subst (AreOfFrames bound choice held c) (sym (none refl)) (none-yet bound choice held c)
