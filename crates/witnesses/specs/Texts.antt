-- The text that is written of a witness.
use Rattle.std.specs.Prelude.{ℕ, List, [], ◌∷◌, ◌++◌, decimal, codes}
use Rattle.std.specs.List.{flat_map}
use Rattle.witnesses.specs.declared.witness.Digit.{Digit}
use Rattle.witnesses.specs.declared.witness.Digit.TheVariants.{Zero, One, Either}
use Rattle.witnesses.specs.declared.witness.Property.{Property}
use Rattle.witnesses.specs.declared.witness.Property.TheVariants.{Bad, Justice}
use Rattle.witnesses.specs.declared.witness.Reached.{Reached}
use Rattle.witnesses.specs.declared.witness.Witness.{Witness}
use Rattle.witnesses.specs.declared.confirming.Objection.{Objection}
use Rattle.witnesses.specs.declared.confirming.Objection.TheVariants.{Unchecked, Unreached, Lost}

abbrev pub digit_code : Digit → ℕ
digit_code Zero = 48
digit_code One = 49
digit_code Either = 120

abbrev pub digit_text : Digit → List ℕ
digit_text d = digit_code d ∷ []

-- a line of values
abbrev pub row_text : List Digit → List ℕ
row_text row = flat_map digit_text row ++ 10 ∷ []

abbrev pub property_text : Property → List ℕ
property_text (Bad n) = 98 ∷ decimal n
property_text (Justice n) = 106 ∷ decimal n

-- a space and a property
abbrev pub spaced_property : Property → List ℕ
spaced_property p = 32 ∷ property_text p

-- properties with a space between, and a newline
abbrev pub properties_text : List Property → List ℕ
properties_text [] = 10 ∷ []
properties_text (p ∷ ps) = property_text p ++ (flat_map spaced_property ps ++ 10 ∷ [])

unfoldable pub witness_text : Witness → List ℕ
witness_text w = codes "1\n" ++ (properties_text w.properties ++ (row_text w.latches ++ (flat_map row_text w.inputs ++ codes ".\n")))

-- a comment that a property fails at a step
unfoldable pub reached_text : Reached → List ℕ
reached_text r = codes "c " ++ (property_text r.property ++ (codes " holds at step " ++ (decimal r.step ++ 10 ∷ [])))

-- a witness, and the steps at which its properties fail
abbrev pub whole_text : Witness → List Reached → List ℕ
whole_text w reached = witness_text w ++ flat_map reached_text reached

-- why a witness isn't confirmed
abbrev pub property_in : Objection → Property
property_in (Unchecked p) = p
property_in (Unreached p) = p
property_in (Lost p) = p

-- why a property is not confirmed
abbrev pub reason : Objection → List ℕ
reason (Unchecked p) = codes " isn't checked\n"
reason (Unreached p) = codes " doesn't hold in OUT\n"
reason (Lost p) = codes " doesn't hold in IN at the same step\n"

-- what is printed of an objection
abbrev pub objection_text : Objection → List ℕ
objection_text objection = property_text (property_in objection) ++ reason objection
