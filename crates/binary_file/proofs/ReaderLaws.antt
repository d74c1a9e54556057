-- A reader after a piece that it took.
use Rattle.std.proofs.Common.{ℕ, ◌≡◌, List, [], Option, Some, None, Result, Ok, Err, refl}
use Rattle.file_words.specs.declared.fault.ReadError.{ReadError}
use Rattle.binary_file.specs.Reading.{State, AtHeader, feed}
use Rattle.binary_file.specs.declared.stage.Stage.{Stage}
use Rattle.binary_file.specs.declared.stage.Stage.TheVariants as stage
use Rattle.binary_file.specs.Stages.{HoldsOpen, HoldsStage}

-- a stage without a fault that holds the bytes holds them as any stage does
pub open_holds : (s : Stage) (bytes : List ℕ) → HoldsOpen s bytes → HoldsStage s bytes
open_holds (stage.Header line) bytes is = is
open_holds (stage.Items items) bytes is = is
open_holds (stage.Failed fault) bytes is = absurd is

-- its bytes have no fault
pub open_reads : (s : Stage) (bytes : List ℕ) → HoldsOpen s bytes → (state : State) × (feed (AtHeader []) bytes ≡ Ok state)
open_reads (stage.Header line) bytes is = (AtHeader bytes, is.reading)
open_reads (stage.Items items) bytes is = (is.state, is.reading)
open_reads (stage.Failed fault) bytes is = absurd is

-- and it hadn't failed before
pub was_sound : (failed : Option ReadError) (s : Stage) → ((fault : ReadError) → failed ≡ Some fault → ◌≡◌ {A = Result Stage ReadError} (Ok s) (Err fault)) → failed ≡ None
was_sound None s stays = refl
was_sound (Some fault) s stays = absurd (clash s fault (stays fault refl))
  where
    clash : (s : Stage) (fault : ReadError) → ◌≡◌ {A = Result Stage ReadError} (Ok s) (Err fault) → ⊥
    clash s fault e = cc

-- a reader that has failed isn't sound
pub failed_isnt_sound : {P : Type 0} (fault : ReadError) → ◌≡◌ {A = Option ReadError} (Some fault) None → P
failed_isnt_sound fault e = absurd cc
