-- Each fault is one of the list, so a name that none of the list has is no fault's.
use Rattle.std.specs.Prelude.{ℕ, ◌≡◌, ◌<◌, ◌||◌, Bool, true, false, List, length, get_or, Option, Some, None, MatchOption, refl}
use Rattle.std.proofs.Common.{ap, sym, ◌∙◌, arith, inl, inr, ⊎_elim}
use Rattle.std.proofs.lemmas.Bool.{false≢true, or_cases}
use Rattle.std.specs.Str.{bytes_eq}
use Rattle.std.proofs.lemmas.Slice.Eq.{bytes_eq-Decides}
use Rattle.circuit_files.specs.declared.pages.named_fault.Fault.{Fault}
use Rattle.circuit_files.specs.declared.pages.named_fault.Fault.TheVariants.{BadHeader, TooLarge, MaxIndex, BadLine, BadLiteral, DefinedTwice, Undefined, Cycle, BadReset, BadDelta, Truncated, BadSymbol, Trailing, Width, TooMany, NoSuchName, NoSuchLatch, NoSuchProperty, TooManyNodes, TooManySteps, NotAMap, NoSuchLiteral, ShapesDiffer, NotClosed, BadRoute, UsedTwice, CountDiffers, TooLong, Misread, NotShown, NoMemory, Device}
use Rattle.circuit_files.specs.pages.Faults.{all_faults, name_of, said_of, has_name, HaveOtherNames, IsCalled, IsNoName}

stands : (fault : Fault) → (k : ℕ) × (k < length all_faults) × (get_or all_faults k BadHeader ≡ fault)
unfolding all_faults
stands BadHeader = (0, omega arith, refl)
stands TooLarge = (1, omega arith, refl)
stands MaxIndex = (2, omega arith, refl)
stands BadLine = (3, omega arith, refl)
stands BadLiteral = (4, omega arith, refl)
stands DefinedTwice = (5, omega arith, refl)
stands Undefined = (6, omega arith, refl)
stands Cycle = (7, omega arith, refl)
stands BadReset = (8, omega arith, refl)
stands BadDelta = (9, omega arith, refl)
stands Truncated = (10, omega arith, refl)
stands BadSymbol = (11, omega arith, refl)
stands Trailing = (12, omega arith, refl)
stands Width = (13, omega arith, refl)
stands TooMany = (14, omega arith, refl)
stands NoSuchName = (15, omega arith, refl)
stands NoSuchLatch = (16, omega arith, refl)
stands NoSuchProperty = (17, omega arith, refl)
stands TooManyNodes = (18, omega arith, refl)
stands TooManySteps = (19, omega arith, refl)
stands NotAMap = (20, omega arith, refl)
stands NoSuchLiteral = (21, omega arith, refl)
stands ShapesDiffer = (22, omega arith, refl)
stands NotClosed = (23, omega arith, refl)
stands BadRoute = (24, omega arith, refl)
stands UsedTwice = (25, omega arith, refl)
stands CountDiffers = (26, omega arith, refl)
stands TooLong = (27, omega arith, refl)
stands Misread = (28, omega arith, refl)
stands NotShown = (29, omega arith, refl)
stands NoMemory = (30, omega arith, refl)
stands Device = (31, omega arith, refl)

not_both : (test : Bool) → test ≡ true → test ≡ false → ⊥
not_both true yes_it_is no_it_is = cc
not_both false yes_it_is no_it_is = cc

left_of : (x y : Bool) → x ≡ true → (x || y) ≡ true
left_of true y is = refl
left_of false y is = absurd (false≢true is)

right_of : (x y : Bool) → y ≡ true → (x || y) ≡ true
right_of true y is = refl
right_of false y is = is

-- a fault that is called so is found by its name or its words
called_so : (name : List ℕ) (fault : Fault) → IsCalled name fault → has_name name fault ≡ true
called_so name fault (inl named) = left_of (bytes_eq (name_of fault) name) (bytes_eq (said_of fault) name) ((bytes_eq-Decides (name_of fault) name).1 named)
called_so name fault (inr words) = right_of (bytes_eq (name_of fault) name) (bytes_eq (said_of fault) name) ((bytes_eq-Decides (said_of fault) name).1 words)

found_by : (name : List ℕ) (fault : Fault) → has_name name fault ≡ true → IsCalled name fault
found_by name fault has =
    ⊎_elim (λ named. inl ((bytes_eq-Decides (name_of fault) name).0 named)) (λ words. inr ((bytes_eq-Decides (said_of fault) name).0 words))
    (or_cases (bytes_eq (name_of fault) name) (bytes_eq (said_of fault) name) has)

-- what was found among all faults is called so, and if none was found no fault is
pub named_of : (name : List ℕ) (found : Option Fault) → MatchOption found (HaveOtherNames all_faults name) (λ fault. has_name name fault ≡ true)
    → MatchOption found (IsNoName name) (IsCalled name)
named_of name None others = λ fault called.
    let place = stands fault in
    not_both (has_name name fault) (called_so name fault called)
    (ap (has_name name) (sym place.2) ∙ others place.0 place.1)
named_of name (Some fault) named = found_by name fault named
