-- What the files of a run are given.
use Rattle.std.specs.Prelude.{ℕ, ◌≡◌, ◌≢◌, List, [], ◌∷◌, ◌++◌, length, Option, Some, None}
use Rattle.std.specs.Io.KnownBytes.{Appends}
use Rattle.counted_io.specs.Output.{Output, WritesAll}
use Rattle.counted_io.specs.declared.target.Target.{Target}
use Rattle.counted_io.specs.declared.target.Target.TheVariants as targets

-- by the contents of files, and by what it is that one was made at a path
module _ {F : Type 0} (contents : F → Option (List ℕ)) (IsMade : F → List ℕ → Type 0) where
  -- this file was made at the path, and a text was appended to it since
  pub record HasGrown (path text : List ℕ) (file : F) : Type 0 where
    pub made : F
    pub at : IsMade made path
    pub appends : Appends (contents made) (contents file) text

  -- what a writer has taken is in its file; it makes none for no bytes
  abbrev pub HasTaken : List ℕ → List ℕ → Option F → Type 0
  HasTaken path given None = given ≡ []
  HasTaken path given (Some file) = HasGrown path given file

  -- a file was made at the path, all of this text was appended to it, and it was let go like that
  pub record IsWholeFile (IsLetGo : F → Type 0) (path text : List ℕ) : Type 0 where
    pub file : F
    pub grown : HasGrown path text file
    pub let_go : IsLetGo file

  -- there is such a file, unless the text is empty
  pub record IsFileGiven (IsLetGo : F → Type 0) (path text : List ℕ) : Type 0 where
    pub whole : text ≢ [] → ∥ IsWholeFile IsLetGo path text ∥₁

-- What a writer is known to hold: the path of its file, with its length before it, and then what
-- the file was given. So whoever lends it to a function that writes to any writer knows that it
-- comes back with its path.
abbrev pub account : List ℕ → List ℕ → List ℕ
account path given = length path ∷ path ++ given

-- all of the text went to standard output, or a file was given it, as FileGiven says, and standard
-- output stays
abbrev pub IsTargetGiven : (List ℕ → List ℕ → Type 0) → Target → Output → Output → List ℕ → Type 0
IsTargetGiven FileGiven targets.Stdout old new text = WritesAll old new text
IsTargetGiven FileGiven (targets.File path) old new text = (new ≡ old) × FileGiven path.now text
