-- What it takes that a file was given a text: bodies that do something else don't meet it.
use Rattle.std.proofs.Common.{ℕ, ◌≡◌, ◌≢◌, List, [], ◌∷◌, ◌++◌, Option, Some, get_or, length, refl, sym, ap, ◌∙◌, arith}
use mathlib.Core.Logic.{∥∥₁_elim}
use mathlib.Core.HLevel.{⊥_prop}
use Rattle.circuit_files.specs.WrittenFiles.{IsFileGiven, IsWholeFile}

-- two bytes, and the path of a file that is to have them
abbrev text : List ℕ
text = 97 ∷ 10 ∷ []

abbrev path : List ℕ
path = 111 ∷ []

some : text ≢ []
some same = absurd (omega (arith, ap length same))

-- a file is what it holds; all are made empty, at this path
abbrev Made : List ℕ → List ℕ → Type 0
Made file at = (file ≡ []) × (at ≡ path)

-- one file was let go, which holds this
abbrev Given : List ℕ → List ℕ → List ℕ → Type 0
Given held at bytes = IsFileGiven (λ (file : List ℕ). Some file) Made (λ file. file ≡ held) at bytes

-- a body that makes no file gives it nothing
none_made : IsFileGiven {F = ⊥} (λ file. absurd file) (λ file at. ⊥) (λ file. ⊥) path text → ⊥
none_made given = ∥∥₁_elim (given.whole some) ⊥_prop (λ w. w.file)

-- the text is given by a body that writes it
all_written : Given text path text
all_written = record { whole = λ any. ∣ record { file = text; grown = record { made = []; at = (refl, refl); appends = refl }; let_go = refl } ∣₁ }

-- not by one that makes the file and writes nothing to it
nothing_written : Given [] path text → ⊥
nothing_written given = ∥∥₁_elim (given.whole some) ⊥_prop (λ w. some (sym (ap (λ xs. xs ++ text) w.grown.at.0) ∙ sym w.grown.appends ∙ w.let_go))

-- nor by one that writes a beginning
beginning_written : Given (97 ∷ []) path text → ⊥
beginning_written given =
    ∥∥₁_elim (given.whole some) ⊥_prop (λ w. absurd (omega (arith, ap length (sym (ap (λ xs. xs ++ text) w.grown.at.0) ∙ sym w.grown.appends ∙ w.let_go))))

-- nor more than it
more_written : Given (text ++ text) path text → ⊥
more_written given =
    ∥∥₁_elim (given.whole some) ⊥_prop (λ w. absurd (omega (arith, ap length (sym (ap (λ xs. xs ++ text) w.grown.at.0) ∙ sym w.grown.appends ∙ w.let_go))))

-- nor another text
another_written : Given (97 ∷ 13 ∷ []) path text → ⊥
another_written given =
    ∥∥₁_elim (given.whole some) ⊥_prop (λ w. absurd (omega (arith, ap (λ xs. get_or xs 1 0) (sym (ap (λ xs. xs ++ text) w.grown.at.0) ∙ sym w.grown.appends ∙ w.let_go))))

-- nor by one that writes it to a file at another path
elsewhere_written : Given text (112 ∷ []) text → ⊥
elsewhere_written given = ∥∥₁_elim (given.whole some) ⊥_prop (λ w. absurd (omega (arith, ap (λ xs. get_or xs 0 0) w.grown.at.1)))
