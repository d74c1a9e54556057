-- Certificates of the sets that are found, one after another.
use Rattle.std.specs.Prelude.{ℕ, ◌≡◌, ◌++◌, List, [], ◌∷◌, true, false}
use Rattle.aig_graph.specs.Circuits.{Netlist}
use Rattle.certificates.specs.declared.certificate.Certificate.{Certificate}
use Rattle.certificates.specs.declared.verdict.Verdict.TheVariants.{Yes}
use Rattle.certificates.specs.Verdicts.{IsVerdict}
use Rattle.chosen_cuts.specs.declared.records.Records.{Records}

-- the certificate has the set, and passes all tests
pub record Certifies (c : Netlist) (held set : List ℕ) (cert : Certificate) : Type 0 where
  pub gates : cert.gates ≡ set
  pub passes : IsVerdict c held cert Yes

-- a certificate of the set is added if certificates are wanted, else none
pub record AddsOne (c : Netlist) (held : List ℕ) (old new : Records) (set : List ℕ) : Type 0 where
  pub certify : new.certify ≡ old.certify
  pub added : old.certify ≡ true → (cert : Certificate) × Certifies c held set cert × (new.certificates.items ≡ old.certificates.items ++ cert ∷ [])
  pub none : old.certify ≡ false → new.certificates.items ≡ old.certificates.items

-- the certificates, and whether they are wanted, stay as they are
pub record AddsNone (old new : Records) : Type 0 where
  pub certify : new.certify ≡ old.certify
  pub certificates : new.certificates.items ≡ old.certificates.items

-- of the certificates the last one is gone, if certificates are wanted
pub record ForgetsLast (old new : Records) : Type 0 where
  pub certify : new.certify ≡ old.certify
  pub others : old.certify ≡ true → (certs : List Certificate) (last : Certificate) → old.certificates.items ≡ certs ++ last ∷ [] → new.certificates.items ≡ certs
  pub none : old.certify ≡ false → new.certificates.items ≡ old.certificates.items
