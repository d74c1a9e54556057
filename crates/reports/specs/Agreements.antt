-- Files that are compared with the text of a circuit, and the line that is printed of that.
use Rattle.std.specs.Prelude.{ℕ, ◌+◌, ◌≡◌, ◌≢◌, List, [], ◌∷◌, ◌++◌, take, Option, Some, None, decimal, codes}
use Rattle.reports.specs.declared.agreement.Agreement.{Agreement}
use Rattle.reports.specs.declared.agreement.Agreement.TheVariants.{Same, DiffersAt}

-- the file is the text, or both agree up to this offset, and not one byte further
abbrev pub IsAgreement : List ℕ → List ℕ → Agreement → Type 0
IsAgreement text file Same = file ≡ text
IsAgreement text file (DiffersAt offset) = (take offset file ≡ take offset text) × (take (offset + 1) file ≢ take (offset + 1) text)

-- the line of a file that differs first at this offset
abbrev pub difference_line : ℕ → List ℕ
difference_line offset = codes "out differs at " ++ (decimal offset ++ 10 ∷ [])

-- the outcome of comparing a file; nothing if none was compared
abbrev pub agreement_text : Option Agreement → List ℕ
agreement_text None = []
agreement_text (Some Same) = codes "out same\n"
agreement_text (Some (DiffersAt offset)) = difference_line offset
