-- What it means that bytes are an ASCII file.
use Rattle.std.specs.Prelude.{ℕ, ◌+◌, ◌*◌, ◌^◌, ◌<◌, ◌≤◌, ◌≡◌, ◌≢◌, ◌%◌, ◌⊎◌, true, false, List, [], ◌∷◌, ◌++◌, length, All, AllPairs, Contains, Some}
use Rattle.std.specs.List.{AllZip, sum}
use Rattle.aig_graph.specs.Graph.{variable}
use Rattle.file_words.specs.Lines.{lines}
use Rattle.ascii_file.specs.order.Cycles.{HasCycle}
use Rattle.ascii_file.specs.declared.header.Header.{Header}
use Rattle.ascii_file.specs.declared.raw.RawLatch.{RawLatch}
use Rattle.ascii_file.specs.Raw.{Raw, defined, read_literals, safety_count, liveness_count, count_of}
use Rattle.ascii_file.specs.Headers.{header_of, IsHeaderWithin}
use Rattle.ascii_file.specs.Items.{Item, items_of, section_of, item_of, begins_comment}
use Rattle.ascii_file.specs.Reading.{is_of_same}
use Rattle.ascii_file.specs.Meaning.{gate_reads}

-- the line spells the item in its section
abbrev pub Spells : List ℕ → Item → Type 0
Spells line item = item_of (section_of item) line ≡ Some item

-- no line, or those of a comment
abbrev pub IsComment : List (List ℕ) → Type 0
IsComment [] = Unit {0}
IsComment (line ∷ rest) = begins_comment line ≡ true

-- the lines of a file: the header, a line for each item, section by section, and the comment
pub record Lines (bytes : List ℕ) (h : Header) (raw : Raw) : Type 0 where
  pub first : List ℕ
  pub middle : List (List ℕ)
  pub last : List (List ℕ)
  pub all : lines bytes ≡ first ∷ (middle ++ last)
  pub header : header_of first ≡ Some h
  pub items : AllZip Spells middle (items_of raw)
  pub comment : IsComment last

-- as many of each section as the header says
pub record IsCountedBy (h : Header) (raw : Raw) : Type 0 where
  pub inputs : length raw.inputs ≡ h.inputs
  pub latches : length raw.latches ≡ h.latches
  pub safety : length raw.safety ≡ safety_count h
  pub sizes : length raw.sizes ≡ h.justice
  pub liveness : length raw.liveness ≡ liveness_count h raw
  pub gates : length raw.gates ≡ h.gates

-- no literal is past the greatest variable
pub record IsInRange (h : Header) (raw : Raw) : Type 0 where
  pub inputs : All (λ lit. lit ≤ 2 * h.greatest + 1) raw.inputs
  pub latches : All (λ latch. (latch.current ≤ 2 * h.greatest + 1) × (latch.next ≤ 2 * h.greatest + 1)) raw.latches
  pub safety : All (λ lit. lit ≤ 2 * h.greatest + 1) raw.safety
  pub liveness : All (λ lit. lit ≤ 2 * h.greatest + 1) raw.liveness
  pub gates : All (λ gate. (gate.lhs ≤ 2 * h.greatest + 1) × (gate.rhs0 ≤ 2 * h.greatest + 1) × (gate.rhs1 ≤ 2 * h.greatest + 1)) raw.gates

-- an even literal of at least 2
abbrev pub IsDefinable : ℕ → Type 0
IsDefinable lit = (lit % 2 ≡ 0) × (2 ≤ lit)

-- every line that defines, defines a variable of its own
pub record DefinesApart (raw : Raw) : Type 0 where
  pub inputs : All IsDefinable raw.inputs
  pub latches : All (λ latch. IsDefinable latch.current) raw.latches
  pub gates : All (λ gate. IsDefinable gate.lhs) raw.gates
  pub apart : AllPairs (λ v w. v ≢ w) (defined raw)

-- a reset is 0, 1, or the latch's own literal
abbrev pub HasReset : RawLatch → Type 0
HasReset latch = (latch.reset ≡ 0) ⊎ ((latch.reset ≡ 1) ⊎ (latch.reset ≡ latch.current))

-- every symbol names a thing of its own
pub record NamesApart (h : Header) (raw : Raw) : Type 0 where
  pub below : All (λ symbol. symbol.position < count_of h symbol.kind) raw.symbols
  pub apart : AllPairs (λ symbol other. is_of_same other symbol ≡ false) raw.symbols

-- the constant, or one of these variables
abbrev pub IsKnownAmong : List ℕ → ℕ → Type 0
IsKnownAmong variables lit = (variable lit ≡ 0) ⊎ Contains variables (variable lit)

-- the bytes are an ASCII file of the raw circuit
pub record IsAsciiFile (bytes : List ℕ) (h : Header) (raw : Raw) : Type 0 where
  pub spelt : Lines bytes h raw
  pub within : IsHeaderWithin h
  pub counted : IsCountedBy h raw
  pub in_range : IsInRange h raw
  pub apart : DefinesApart raw
  pub resets : All HasReset raw.latches
  pub sizes : sum raw.sizes ≤ 2 ^ 24
  pub names : NamesApart h raw
  pub resolved : All (IsKnownAmong (defined raw)) (read_literals raw)
  pub acyclic : ¬ HasCycle (gate_reads raw)
