-- The faults and their names.
use Rattle.std.specs.Prelude.{ℕ, ◌≡◌, ◌⊎◌, ◌||◌, ◌<◌, Bool, false, List, [], ◌∷◌, length, get_or, codes}
use Rattle.std.specs.Str.{bytes_eq}
use Rattle.circuit_files.specs.declared.pages.named_fault.Fault.{Fault}
use Rattle.circuit_files.specs.declared.pages.named_fault.Fault.TheVariants.{BadHeader, TooLarge, MaxIndex, BadLine, BadLiteral, DefinedTwice, Undefined, Cycle, BadReset, BadDelta, Truncated, BadSymbol, Trailing, Width, TooMany, NoSuchName, NoSuchLatch, NoSuchProperty, TooManyNodes, TooManySteps, NotAMap, NoSuchLiteral, ShapesDiffer, NotClosed, BadRoute, UsedTwice, CountDiffers, TooLong, Misread, NotShown, NoMemory, Device}

-- the faults that the program names
unfoldable pub all_faults : List Fault
all_faults =
    BadHeader ∷ TooLarge ∷ MaxIndex ∷ BadLine ∷ BadLiteral ∷ DefinedTwice ∷ Undefined ∷ Cycle ∷ BadReset ∷ BadDelta ∷ Truncated
    ∷ BadSymbol ∷ Trailing ∷ Width ∷ TooMany ∷ NoSuchName ∷ NoSuchLatch ∷ NoSuchProperty ∷ TooManyNodes ∷ TooManySteps ∷ NotAMap ∷ NoSuchLiteral ∷ ShapesDiffer ∷ NotClosed ∷ BadRoute ∷ UsedTwice
    ∷ CountDiffers ∷ TooLong ∷ Misread ∷ NotShown ∷ NoMemory ∷ Device ∷ []

-- the name of a fault
abbrev pub name_of : Fault → List ℕ
name_of BadHeader = codes "BadHeader"
name_of TooLarge = codes "TooLarge"
name_of MaxIndex = codes "MaxIndex"
name_of BadLine = codes "BadLine"
name_of BadLiteral = codes "BadLiteral"
name_of DefinedTwice = codes "DefinedTwice"
name_of Undefined = codes "Undefined"
name_of Cycle = codes "Cycle"
name_of BadReset = codes "BadReset"
name_of BadDelta = codes "BadDelta"
name_of Truncated = codes "Truncated"
name_of BadSymbol = codes "BadSymbol"
name_of Trailing = codes "Trailing"
name_of Width = codes "Width"
name_of TooMany = codes "TooMany"
name_of NoSuchName = codes "NoSuchName"
name_of NoSuchLatch = codes "NoSuchLatch"
name_of NoSuchProperty = codes "NoSuchProperty"
name_of TooManyNodes = codes "TooManyNodes"
name_of TooManySteps = codes "TooManySteps"
name_of NotAMap = codes "NotAMap"
name_of NoSuchLiteral = codes "NoSuchLiteral"
name_of ShapesDiffer = codes "ShapesDiffer"
name_of NotClosed = codes "NotClosed"
name_of BadRoute = codes "BadRoute"
name_of UsedTwice = codes "UsedTwice"
name_of CountDiffers = codes "CountDiffers"
name_of TooLong = codes "TooLong"
name_of Misread = codes "Misread"
name_of NotShown = codes "NotShown"
name_of NoMemory = codes "NoMemory"
name_of Device = codes "Device"

-- what a message says: the name, but of three faults words
abbrev pub said_of : Fault → List ℕ
said_of ShapesDiffer = codes "shapes differ"
said_of NoMemory = codes "out of memory"
said_of Device = codes "device"
said_of fault = name_of fault

-- whether a fault has the name, or a message says this of it
abbrev pub has_name : List ℕ → Fault → Bool
has_name name fault = bytes_eq (name_of fault) name || bytes_eq (said_of fault) name

-- the fault has the name, or a message says this of it
abbrev pub IsCalled : List ℕ → Fault → Type 0
IsCalled name fault = (name_of fault ≡ name) ⊎ (said_of fault ≡ name)

-- none of the faults is called so
abbrev pub HaveOtherNames : List Fault → List ℕ → Type 0
HaveOtherNames faults name = (k : ℕ) → k < length faults → has_name name (get_or faults k BadHeader) ≡ false

-- no fault is called so
abbrev pub IsNoName : List ℕ → Type 0
IsNoName name = (fault : Fault) → IsCalled name fault → ⊥
