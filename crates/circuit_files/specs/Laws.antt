-- What it means of a file that it was given a text.
use Rattle.std.specs.Prelude.{ℕ, ◌≡◌, ◌≢◌, List, [], Option, Some}
use Rattle.circuit_files.specs.WrittenFiles.{IsFileGiven}

-- if files are made empty, with known contents, a file given a text that isn't empty has just that
-- when it is closed
abbrev pub GivenFileLaw : {F : Type 0} → (F → Option (List ℕ)) → (F → List ℕ → Type 0) → (F → Type 0) → List ℕ → List ℕ → Type 0
GivenFileLaw {F} contents IsMade IsLetGo path text =
    ((file : F) → IsMade file path → contents file ≡ Some []) → text ≢ [] → IsFileGiven contents IsMade IsLetGo path text
    → ∥ ((file : F) × IsLetGo file × (contents file ≡ Some text)) ∥₁
