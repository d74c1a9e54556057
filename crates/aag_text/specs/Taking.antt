-- The sections as they are taken, item after item.
use Rattle.std.specs.Prelude.{ℕ, ◌≡◌, ◌==◌, List, Result, Ok, Err, position}
use Rattle.file_words.specs.declared.fault.ReadError.{ReadError}
use Rattle.file_words.specs.declared.fault.ReadError.TheVariants.{NoMemory}
use Rattle.file_words.specs.Answering.{Fails}
use Rattle.ascii_file.specs.Raw.{Raw, RawSymbol, defined}
use Rattle.ascii_file.specs.declared.parts.places.Places.{Places}
use Rattle.ascii_file.specs.parts.Places.{place_of}
use Rattle.ascii_file.specs.parts.Names.{AreNamesOf}
use Rattle.aag_text.specs.declared.sections.Sections.{Sections}
use Rattle.aag_text.specs.Filling.{IsReadSoFar}

-- what has been taken, with these symbols
abbrev pub raw_of : Sections → List RawSymbol → Raw
raw_of m symbols = record {
  inputs = m.inputs.items;
  latches = m.latches.items;
  safety = m.properties.safety;
  sizes = m.properties.sizes;
  liveness = m.properties.liveness;
  gates = m.gates.items;
  symbols = symbols;
}

-- the places are those of these variables, in this order
abbrev pub ArePlacesOf : Places → List ℕ → Type 0
ArePlacesOf places variables = (v : ℕ) → place_of places v ≡ position (λ w. w == v) variables

-- What was read, with these symbols, meets a file's conditions so far. The places are those of its
-- variables, the names those of the symbols.
pub record IsAt (m : Sections) (symbols : List RawSymbol) : Type 0 where
  pub read : IsReadSoFar m.header (raw_of m symbols)
  pub places : ArePlacesOf m.places (defined (raw_of m symbols))
  pub names : AreNamesOf m.names symbols

-- new has what reading gives, with some symbols, under the header of old
pub record GoesOn (old new : Sections) (read : Result Raw ReadError) : Type 0 where
  pub symbols : List RawSymbol
  pub header : new.header ≡ old.header
  pub gives : read ≡ Ok (raw_of new symbols)
  pub stands : IsAt new symbols

-- taking an item gives what reading gives, unless memory runs out
abbrev pub Takes : Sections → Sections → Result (Unit {0}) ReadError → Result Raw ReadError → Type 0
Takes old new (Ok _) read = GoesOn old new read
Takes old new (Err error) read = Fails NoMemory error read
