-- What is written to a target is written to the stream, or to the file, that it is.
use Rattle.std.proofs.Common.{ℕ, ◌≡◌, Bool, true, false, List, refl, sym, subst}
use Rattle.std.specs.Borrow.{Bor}
use Rattle.std.proofs.lemmas.Bool.{true≢false}
use Rattle.counted_io.specs.Output.{Output, WritesAll}
use Rattle.counted_io.specs.Streams.{is_stdout}
use Rattle.counted_io.specs.declared.target.Target.{Target}
use Rattle.counted_io.specs.declared.target.Target.TheVariants as targets
use Rattle.circuit_files.specs.WrittenFiles.{IsTargetGiven}

-- what it means that a file was given a text
module _ (FileGiven : List ℕ → List ℕ → Type 0) where
  -- standard output was given all of it
  pub to_stdout : (target : Target) (old new : Output) (text : List ℕ) → target ≡ targets.Stdout → WritesAll old new text → IsTargetGiven FileGiven target old new text
  to_stdout target old new text is writes = subst (λ (t : Target). IsTargetGiven FileGiven t old new text) (sym is) writes

  -- a file was given all of it
  pub to_file : (target : Target) (path : Bor (List ℕ)) (old : Output) (text : List ℕ) → target ≡ targets.File path → FileGiven path.now text → IsTargetGiven FileGiven target old old text
  to_file target path old text is given = subst (λ (t : Target). IsTargetGiven FileGiven t old old text) (sym is) (refl, given)

  -- what goes to standard output was written to it
  pub of_stdout : (target : Target) (old new : Output) (text : List ℕ) → is_stdout target ≡ true → IsTargetGiven FileGiven target old new text → WritesAll old new text
  of_stdout targets.Stdout old new text is given = given
  of_stdout (targets.File path) old new text is given = absurd (true≢false (sym is))

  -- what goes to a file leaves it as it was
  pub of_file : (target : Target) (old new : Output) (text : List ℕ) → is_stdout target ≡ false → IsTargetGiven FileGiven target old new text → new ≡ old
  of_file targets.Stdout old new text is given = absurd (true≢false is)
  of_file (targets.File path) old new text is given = given.0
