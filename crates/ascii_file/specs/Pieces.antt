-- A file that comes in pieces: what is known of it so far.
use Rattle.std.specs.Prelude.{ℕ, ◌≡◌, ◌==◌, List, [], ◌∷◌, ◌++◌, length, Result, Ok, Err, if◌then◌else◌}
use Rattle.aig_graph.specs.Circuits.{Netlist}
use Rattle.file_words.specs.declared.fault.ReadError.{ReadError}
use Rattle.file_words.specs.Answering.{◌>>=◌}
use Rattle.ascii_file.specs.Reading.{State, AtHeader, take_line, take_lines, finish, read_bytes}

-- a byte more in front of the first line, if there is one
abbrev pub with_first : ℕ → List (List ℕ) → List (List ℕ)
with_first b [] = []
with_first b (line ∷ rest) = (b ∷ line) ∷ rest

-- a byte more in front of the open line, if no line is ended before it
abbrev pub with_open : ℕ → List (List ℕ) → List ℕ → List ℕ
with_open b [] last = b ∷ last
with_open b (line ∷ rest) last = last

-- the lines that a newline ends, and the bytes after the last newline
unfoldable pub ended_lines : List ℕ → List (List ℕ)
ended_lines [] = []
ended_lines (b ∷ bytes) = if b == 10 then [] ∷ ended_lines bytes else with_first b (ended_lines bytes)

unfoldable pub open_line : List ℕ → List ℕ
open_line [] = []
open_line (b ∷ bytes) = if b == 10 then open_line bytes else with_open b (ended_lines bytes) (open_line bytes)

-- a reader's state after these bytes: only ended lines have been taken
unfoldable pub fed : List ℕ → Result State ReadError
fed bytes = take_lines AtHeader (ended_lines bytes)

-- the open line is the last one, if it has a byte
abbrev pub with_last_line : State → List ℕ → Result State ReadError
with_last_line state [] = Ok state
with_last_line state (b ∷ line) = take_line state (b ∷ line)

-- what the end of the file gives, after these bytes and from this state
unfoldable pub closed : List ℕ → State → Result Netlist ReadError
closed bytes state = with_last_line state (open_line bytes) >>= finish (length bytes)

-- reading is feeding and closing; a fault of what was fed stays, whatever follows
pub record PiecesLaw (bytes more : List ℕ) : Type 0 where
  pub whole : read_bytes bytes ≡ (fed bytes >>= closed bytes)
  pub stays : (e : ReadError) → fed bytes ≡ Err e → fed (bytes ++ more) ≡ Err e
  pub fault : (e : ReadError) → fed bytes ≡ Err e → read_bytes bytes ≡ Err e
