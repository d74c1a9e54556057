-- What a failure of a task gives standard output.
use Rattle.std.proofs.Common.{ℕ, ◌≡◌, Bool, true, false, List, Option, Some, None, refl, sym, ap, ◌∙◌, subst}
use Rattle.std.specs.Prelude.{option_map}
use Rattle.std.specs.Borrow.{Bor}
use Rattle.counted_io.specs.Output.{Output}
use Rattle.command_line.specs.declared.task.Task.{Task}
use Rattle.circuit_files.specs.declared.outcome.Failure.{Failure}
use Rattle.command_endings.specs.Objects.{SaysRefusal, refusal_of}
use Rattle.fretime.specs.Reporting.{SaysOn, SaysWhy, object_command, prints_aside}

abbrev name_in : Option (Bor (List ℕ)) → Option (List ℕ)
name_in found = option_map (λ name. name.now) found

-- a command whose failures aren't printed as objects
pub says_nothing : (task : Task) (found : Option (Bor (List ℕ))) (failure : Failure) (s : Output)
    → name_in found ≡ object_command task → found ≡ None → SaysWhy task failure s s
says_nothing task found failure s is none =
    subst (λ (name : Option (List ℕ)). SaysOn (prints_aside task) name failure s s) (sym (ap name_in none) ∙ is) refl

aside : (name : Option (List ℕ)) (failure : Failure) (s : Output) → SaysOn true name failure s s
aside None failure s = refl
aside (Some name) failure s = refl

-- one whose objects go to standard error
pub says_aside : (task : Task) (failure : Failure) (s : Output) → prints_aside task ≡ true → SaysWhy task failure s s
says_aside task failure s is = subst (λ (b : Bool). SaysOn b (object_command task) failure s s) (sym is) (aside (object_command task) failure s)

-- one whose objects don't
pub says_why : (task : Task) (found : Option (Bor (List ℕ))) (command : Bor (List ℕ)) (failure : Failure) (old new : Output)
    → name_in found ≡ object_command task → found ≡ Some command → prints_aside task ≡ false
    → SaysRefusal (refusal_of command failure) old new → SaysWhy task failure old new
says_why task found command failure old new is some not_aside says =
    let named : Some command.now ≡ object_command task = sym (ap name_in some) ∙ is in
    subst (λ (b : Bool). SaysOn b (object_command task) failure old new) (sym not_aside)
    (subst (λ (name : Option (List ℕ)). SaysOn false name failure old new) named (record { command = command; named = refl; says = says }))
