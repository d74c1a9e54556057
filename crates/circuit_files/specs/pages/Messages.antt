-- A text on standard error, as whoever reads it is shown it.
use Rattle.std.specs.Prelude.{ℕ, ◌≡◌, ◌==◌, Bool, true, false, List, if◌then◌else◌, map}
use Rattle.counted_io.specs.Output.{Output}
use Rattle.counted_io.specs.Buffered.{Puts}
use Rattle.circuit_files.specs.pages.Lines.{printable}
use Rattle.circuit_files.specs.declared.pages.message.Message.{Message}

-- on a terminal: newlines end its lines, every other byte is one column
abbrev pub said_byte : ℕ → ℕ
said_byte b = if b == 10 then 10 else printable b

-- on a terminal no byte steers it; else the text is given byte for byte
abbrev pub said : Bool → List ℕ → List ℕ
said true text = map said_byte text
said false text = text

-- the text was put into a message; `output` is the member of `CountedWrite`
pub record Says {W : Type 0} (output : W → Output) (old new : Message W) (text : List ℕ) : Type 0 where
  pub puts : Puts output old.out new.out (said old.is_terminal text)
  pub terminal : new.is_terminal ≡ old.is_terminal
