-- What `explain` prints.
use Rattle.std.specs.Prelude.{ℕ, ◌≡◌, ◌==◌, ◌⊎◌, List, [], ◌∷◌, ◌++◌, Option, Some, None, codes, if◌then◌else◌}
use Rattle.std.specs.List.{flat_map}
use Rattle.counted_io.specs.Output.{Output, WritesPart}
use Rattle.circuit_files.specs.pages.Faults.{IsCalled, IsNoName, name_of}
use Rattle.circuit_files.specs.pages.Files.{smallest_file}
use Rattle.circuit_files.specs.pages.Pages.{advice_of, meaning_of, rule_of}
use Rattle.circuit_files.specs.declared.pages.named_fault.Fault.{Fault}
use Rattle.circuit_files.specs.Outcomes.{outcome_of}
use Rattle.circuit_files.specs.declared.outcome.Failure.{Failure}
use Rattle.circuit_files.specs.declared.outcome.Outcome.{Outcome}
use Rattle.circuit_files.specs.declared.outcome.Outcome.TheVariants.{CommandLine, Device, Done}
use Rattle.command_endings.specs.Printing.{EndsWith}

-- a byte of a file; four spaces begin the next line
unfoldable pub indented_byte : ℕ → List ℕ
indented_byte b = if b == 10 then codes "\n    " else b ∷ []

-- the lines of a file that doesn't end with a newline, each after four spaces
unfoldable pub indented : List ℕ → List ℕ
indented file = codes "    " ++ (flat_map indented_byte file ++ 10 ∷ [])

-- the part of a page that shows a smallest file with the fault
unfoldable pub file_part : List ℕ → List ℕ
file_part [] = codes "The smallest file that has it is the empty one.\n\n"
file_part (b ∷ bs) = codes "A smallest file that has it:\n\n" ++ (indented (b ∷ bs) ++ 10 ∷ [])

-- a smallest file with a fault, if there is one
abbrev pub file_text : Option (List ℕ) → List ℕ
file_text None = []
file_text (Some file) = file_part file

-- what a fault is, the rule, a smallest file, and what to do
unfoldable pub page_text : Fault → List ℕ
page_text fault =
    name_of fault ++ (codes ": " ++ (meaning_of fault ++ (codes "\n\n" ++ (rule_of fault ++ (codes "\n\n"
    ++ (file_text (smallest_file fault) ++ (advice_of fault ++ 10 ∷ [])))))))

-- the page of a fault that is called so was printed
pub record IsExplained (name : List ℕ) (old new : Output) (ended : Outcome) : Type 0 where
  pub fault : Fault
  pub named : IsCalled name fault
  pub printed : EndsWith Done (page_text fault) old new ended

-- no fault is called so, and nothing was printed
pub record IsUnexplained (name : List ℕ) (old new : Output) (ended : Outcome) : Type 0 where
  pub unnamed : IsNoName name
  pub ends : ended ≡ CommandLine
  pub quiet : new ≡ old

-- the page of the fault with this name was printed, or no fault has the name and nothing was
abbrev pub Explains : List ℕ → Output → Output → Outcome → Type 0
Explains name old new ended = IsExplained name old new ended ⊎ IsUnexplained name old new ended

-- if a device failed, a beginning of the page of a fault that is called so was printed
abbrev pub FailsToExplain : List ℕ → Output → Output → Failure → Type 0
FailsToExplain name old new failure = outcome_of failure ≡ Device → (fault : Fault) × IsCalled name fault × WritesPart old new (page_text fault)
