-- What a run over bytes in memory says of their outcome.
use Rattle.std.proofs.Common.{ℕ, ◌≡◌, Bool, cond, List, [], Option, Some, length, refl, sym, subst, ⊎_elim}
use Rattle.std.specs.Io.KnownBytes.{Appends}
use Rattle.counted_io.specs.Input.{Input}
use Rattle.counted_io.specs.Output.{Output}
use Rattle.file_words.specs.declared.fault.ReadError.{ReadError}
use Rattle.file_words.specs.declared.fault.ReadError.TheVariants as faults
use Rattle.aig_binary.specs.Ending.{IsReadError}
use Rattle.merging_rounds.specs.declared.rounds.Rounds.{Rounds}
use Rattle.frame_runs.specs.declared.options.Options.{Options}
use Rattle.frame_runs.specs.declared.errors.BytesError.{BytesError}
use Rattle.frame_runs.specs.declared.errors.BytesError.TheVariants.{Read, Retime, Write}
use Rattle.frame_runs.specs.declared.errors.RetimeError.TheVariants as retiming
use Rattle.frames.specs.Answering.{IsAnswered, IsBytesError, text_for}
use Rattle.batch_pool.specs.declared.job.Outcome.{Outcome}
use Rattle.batch_pool.specs.declared.job.Outcome.TheVariants as outcomes
use Rattle.batch_pool.specs.Outcomes.{IsDone, IsOutcome, IsRefused}
use Rattle.batch_pool.specs.Refusals.{of_fault, of_error}

-- a fault of the bytes
refuses : (bytes : List ℕ) (options : Options) (fault : ReadError) (old new : Input) → old.bytes ≡ Some bytes → IsReadError old new fault → IsOutcome bytes options (of_fault fault)
refuses bytes options fault old new known why =
    let O : Outcome → Type 0 = IsOutcome bytes options in
    let unfaulty : (e : ReadError) → of_fault e ≡ outcomes.NoMemory → fault ≡ e → O (of_fault fault) = λ e none is. subst (λ (f : ReadError). O (of_fault f)) (sym is) (subst O (sym none) tt) in
    ⊎_elim (λ device. unfaulty faults.Device refl device.error) (⊎_elim (λ memory. unfaulty faults.NoMemory refl memory.error)
    (λ f. let refused : IsRefused bytes fault = record { read = f.fault.bytes bytes known; of_bytes = f.of_bytes } in
    subst (λ (b : Bool). O (cond {A = Outcome} b (outcomes.Refused fault) outcomes.NoMemory)) (sym f.of_bytes) refused)) why

-- bytes that were not retimed, or whose text was not written
pub no_answer : (bytes : List ℕ) (options : Options) (e : BytesError) (old new : Input) (before after : Output) → old.bytes ≡ Some bytes → IsBytesError options old new before after e
    → IsOutcome bytes options (of_error e)
no_answer bytes options (Read fault) old new before after known why = refuses bytes options fault old new known why.0
no_answer bytes options (Retime retiming.NoMemory) old new before after known why = tt
no_answer bytes options (Retime (retiming.NoSuchName place)) old new before after known why = record { circuit = why.spelt.circuit; read = why.spells.circuit.bytes bytes known; missing = why.stop.1 }
no_answer bytes options (Retime (retiming.NoSuchLatch place)) old new before after known why = record { circuit = why.spelt.circuit; read = why.spells.circuit.bytes bytes known; no_latch = why.stop.1 }
no_answer bytes options (Retime (retiming.Misread latch)) old new before after known why = record { circuit = why.spelt.circuit; read = why.spells.circuit.bytes bytes known }
no_answer bytes options (Retime (retiming.NotShown latch)) old new before after known why = record { circuit = why.spelt.circuit; read = why.spells.circuit.bytes bytes known }
no_answer bytes options (Write e) old new before after known why = tt

-- a text that was written if there was none is the text of the answer
pub an_answer : (bytes text : List ℕ) (options : Options) (r : Rounds) (old : Input) (before after : Output) → old.bytes ≡ Some bytes → before.bytes ≡ Some [] → after.bytes ≡ Some text
    → IsAnswered old before after options r → IsDone bytes options text r.read_latches (length r.circuit.aig.latches) (length r.frames)
an_answer bytes text options r old before after known empty full answered =
    let whole = text_for options answered.spelt r in
    let writes : Appends (Some []) (Some text) whole = subst (λ (o : Option (List ℕ)). Appends (Some []) o whole) full (subst (λ (o : Option (List ℕ)). Appends o after.bytes whole) empty answered.written.writes.bytes) in
    record {
      spelt = answered.spelt;
      circuit = answered.read.circuit.bytes bytes known;
      spelling = answered.read.spelling bytes known;
      rounds = r;
      answer = answered.written.answer;
      text_is = writes;
      reads_back = answered.reads_back bytes known;
      before_is = answered.written.answer.rounds.is.read_latches;
      after_is = refl;
      frames_is = refl;
    }
