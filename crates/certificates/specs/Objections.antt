-- The numbers of the objections to a certificate.
use Rattle.std.specs.Prelude.{ℕ, List, codes}
use Rattle.certificates.specs.declared.verdict.Objection.{Objection}
use Rattle.certificates.specs.declared.verdict.Objection.TheVariants.{NotClosed, BadRoute, UsedTwice, CountDiffers}

-- the number of a fault
abbrev pub code_of : Objection → ℕ
code_of NotClosed = 1
code_of BadRoute = 2
code_of UsedTwice = 3
code_of CountDiffers = 4

-- what it is called in reports
abbrev pub objection_name : Objection → List ℕ
objection_name NotClosed = codes "NotClosed"
objection_name BadRoute = codes "BadRoute"
objection_name UsedTwice = codes "UsedTwice"
objection_name CountDiffers = codes "CountDiffers"
