-- The file that a failure of reading names.
use Rattle.std.proofs.Common.{ℕ, ◌≡◌, List, Result, refl, sym, subst}
use Rattle.std.specs.Result.{IfErr}
use Rattle.std.specs.Borrow.{Bor}
use Rattle.counted_io.specs.declared.reading.ReadAllError.{ReadAllError}
use Rattle.counted_io.specs.declared.reading.ReadAllError.TheVariants as whole
use Rattle.file_words.specs.declared.fault.ReadError.{ReadError}
use Rattle.file_words.specs.declared.fault.ReadError.TheVariants as reading
use Rattle.certificate_files.specs.declared.fault.CertError.{CertError}
use Rattle.certificate_files.specs.declared.fault.CertError.TheVariants as certificates
use Rattle.lane_sim.specs.declared.fault.StimError.{StimError}
use Rattle.lane_sim.specs.declared.fault.StimError.TheVariants as stimuli
use Rattle.witnesses.specs.declared.fault.WitnessError.{WitnessError}
use Rattle.witnesses.specs.declared.fault.WitnessError.TheVariants as witnesses
use Rattle.circuit_files.specs.declared.outcome.Failure.{Failure}
use Rattle.circuit_files.specs.declared.outcome.Failure.TheVariants as fails
use Rattle.circuit_files.specs.Outcomes.{IsAbout, failure_of_bytes, failure_of_certificates, failure_of_reading, failure_of_stimulus, failure_of_witness}

about_bytes : (error : ReadAllError) (path : Bor (List ℕ)) → IsAbout path.now (failure_of_bytes error path)
about_bytes whole.NoMemory path = tt
about_bytes whole.Device path = refl

about_reading : (error : ReadError) (path : Bor (List ℕ)) → IsAbout path.now (failure_of_reading error path)
about_reading reading.NoMemory path = tt
about_reading reading.Device path = refl
about_reading fault path = refl

about_stimulus : (error : StimError) (path : Bor (List ℕ)) → IsAbout path.now (failure_of_stimulus error path)
about_stimulus stimuli.NoMemory path = tt
about_stimulus fault path = refl

about_certificates : (error : CertError) (path : Bor (List ℕ)) → IsAbout path.now (failure_of_certificates error path)
about_certificates certificates.NoMemory path = tt
about_certificates fault path = refl

about_witness : (error : WitnessError) (path : Bor (List ℕ)) → IsAbout path.now (failure_of_witness error path)
about_witness witnesses.NoMemory path = tt
about_witness fault path = refl

-- the failure that an error is
module _ (failure : Failure) (path : Bor (List ℕ)) where
  -- a failure to read the bytes of a file is about its path
  pub of_bytes : (error : ReadAllError) → failure ≡ failure_of_bytes error path → IsAbout path.now failure
  of_bytes error is = subst (IsAbout path.now) (sym is) (about_bytes error path)

  -- a failure to read a circuit is about the path of its file
  pub of_reading : (error : ReadError) → failure ≡ failure_of_reading error path → IsAbout path.now failure
  of_reading error is = subst (IsAbout path.now) (sym is) (about_reading error path)

  -- a failure to read a stimulus is about the path of its file
  pub of_stimulus : (error : StimError) → failure ≡ failure_of_stimulus error path → IsAbout path.now failure
  of_stimulus error is = subst (IsAbout path.now) (sym is) (about_stimulus error path)

  -- a failure to read certificates is about the path of their file
  pub of_certificates : (error : CertError) → failure ≡ failure_of_certificates error path → IsAbout path.now failure
  of_certificates error is = subst (IsAbout path.now) (sym is) (about_certificates error path)

  -- a failure to read a witness is about the path of its file
  pub of_witness : (error : WitnessError) → failure ≡ failure_of_witness error path → IsAbout path.now failure
  of_witness error is = subst (IsAbout path.now) (sym is) (about_witness error path)

  -- a failure of the device is about the path that was read
  pub of_device : failure ≡ fails.Device path → IsAbout path.now failure
  of_device is = subst (IsAbout path.now) (sym is) refl

-- that file by another name of it
pub named_so : {T : Type 0} (result : Result T Failure) (name path : List ℕ) → name ≡ path → IfErr result (IsAbout name) → IfErr result (IsAbout path)
named_so result name path same named = subst (λ (file : List ℕ). IfErr result (IsAbout file)) same named
