-- Certificates of the circuits of a run, one after another.
use Rattle.std.specs.Prelude.{ℕ, ◌≡◌, ◌++◌, List, [], ◌∷◌, length, true, false, Option}
use Rattle.aig_graph.specs.Circuits.{Netlist}
use Rattle.certificates.specs.declared.certificate.Certificate.{Certificate}
use Rattle.chosen_cuts.specs.declared.records.Records.{Records}
use Rattle.retimed_circuits.specs.Certified.{AreOfFrames, IsCertificate}
use Rattle.frame_runs.specs.declared.options.Options.{Options}

-- a certificate of the set that is found in c is added if certificates are wanted, else none
pub record AddsFound (options : Options) (bound : Option ℕ) (held : List ℕ) (c : Netlist) (old new : Records) : Type 0 where
  pub certify : new.certify ≡ old.certify
  pub added : old.certify ≡ true → (cert : Certificate) × IsCertificate bound options.choice held c cert
      × (new.certificates.items ≡ old.certificates.items ++ cert ∷ [])
  pub none : old.certify ≡ false → new.certificates.items ≡ old.certificates.items

-- certificates of the first n circuits, if they are wanted, else none
pub record AreCollected (options : Options) (bound : Option ℕ) (held : List ℕ) (c : Netlist) (n : ℕ) (records : Records) : Type 0 where
  pub wanted : records.certify ≡ options.certify
  pub each : options.certify ≡ true → AreOfFrames bound options.choice held c records.certificates.items
  pub many : options.certify ≡ true → length records.certificates.items ≡ n
  pub none : options.certify ≡ false → records.certificates.items ≡ []
