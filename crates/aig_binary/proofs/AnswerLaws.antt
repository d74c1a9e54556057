-- What the readers of the two spellings answer is what reading gives.
use Rattle.std.proofs.Common.{ℕ, ◌<◌, ◌≡◌, List, [], length, Option, Some, None, Result, Ok, Err, nat_lt, refl, sym, subst, ap, ◌∙◌, arith}
use Rattle.std.specs.Prelude.{IsOk}
use Rattle.std.proofs.lemmas.Bool.{lt-ltb, le-ltb, cond-true, cond-false}
use Rattle.aig_graph.specs.Circuits.{Netlist}
use Rattle.file_words.specs.declared.fault.ReadError.{ReadError}
use Rattle.file_words.specs.declared.fault.ReadError.TheVariants.{BadHeader, NoMemory}
use Rattle.file_words.specs.Answering.{◌>>=◌, Gives}
use Rattle.ascii_file.specs.Reading.{read_bytes}
use Rattle.ascii_file.specs.Pieces.{fed}
use Rattle.aag_text.specs.Standing.{HoldsOrFaults}
use Rattle.binary_file.specs.Reading.{State, AtHeader, feed, read_binary}
use Rattle.binary_file.specs.Holding.{Answers}
use Rattle.file_words.specs.declared.spelling.Spelling.{Spelling}
use Rattle.file_words.specs.declared.spelling.Spelling.TheVariants.{Ascii, Binary}
use Rattle.aig_binary.specs.Spellings.{spelling_of, read_in_spelling, read_any}
use Rattle.aig_binary.specs.Fed.{ascii_fed, binary_fed, fed_in, fed_any}
use Rattle.file_words.proofs.AnsweringLaws.{Fails-bind}
use Rattle.aig_binary.proofs.LetterLaws.{none_short}

-- a reading without a fault is none if its value is dropped
pub ok_then : {X : Type 0} (read : Result X ReadError) → IsOk read → ◌≡◌ {A = Result (Unit {0}) ReadError} (read >>= λ x. Ok tt) (Ok tt)
ok_then (Ok x) is = refl
ok_then (Err e) is = absurd cc

-- which spelling's fault it is
pub by_spelling : (bytes : List ℕ) (spelling : Option Spelling) → spelling_of bytes ≡ spelling → fed_any bytes ≡ fed_in spelling bytes
unfolding fed_any
by_spelling bytes spelling named = ap (λ (s : Option Spelling). fed_in s bytes) named

-- the answer of the ASCII reader
pub ascii_gives : (result : Result (Unit {0}) ReadError) (bytes : List ℕ) → HoldsOrFaults (IsOk (fed bytes)) result (fed bytes) → Gives NoMemory (λ u. u) result (ascii_fed bytes)
ascii_gives (Ok u) bytes follows = ok_then (fed bytes) follows
ascii_gives (Err fault) bytes follows = Fails-bind fault (fed bytes) (λ state. Ok tt) follows

-- the answer of the binary reader
pub binary_gives : (result : Result (Unit {0}) ReadError) (bytes : List ℕ) → Answers result bytes → Gives NoMemory (λ u. u) result (binary_fed bytes)
binary_gives (Ok u) bytes answers = ap (λ (r : Result State ReadError). r >>= λ state. Ok tt) answers.1
binary_gives (Err fault) bytes answers = Fails-bind fault (feed (AtHeader []) bytes) (λ state. Ok tt) answers

-- bytes are read by the spelling that their first three name
pub read_by_spelling : (bytes : List ℕ) (spelling : Option Spelling) → spelling_of bytes ≡ spelling → read_any bytes ≡ read_in_spelling spelling bytes
unfolding read_any
read_by_spelling bytes spelling named = ap (λ (s : Option Spelling). read_in_spelling s bytes) named

-- fewer than three bytes have no fault, and three that are neither spelling's have one
pub fed_short : (bytes : List ℕ) → length bytes < 3 → fed_any bytes ≡ Ok tt
fed_short bytes few = by_spelling bytes None (none_short bytes few) ∙ cond-true (nat_lt (length bytes) 3) (Ok tt) (Err (BadHeader 0)) (lt-ltb (length bytes) 3 few)

-- three bytes and more that name no spelling are a bad header
pub fed_neither : (bytes : List ℕ) → spelling_of bytes ≡ None → 2 < length bytes → fed_any bytes ≡ Err (BadHeader 0)
fed_neither bytes neither many = by_spelling bytes None neither ∙ cond-false (nat_lt (length bytes) 3) (Ok tt) (Err (BadHeader 0)) (le-ltb (length bytes) 3 (omega (arith, many)))

-- the answers of the readers are those of the spelling
pub fed_ascii : (result : Result (Unit {0}) ReadError) (bytes : List ℕ) → spelling_of bytes ≡ Some Ascii → HoldsOrFaults (IsOk (fed bytes)) result (fed bytes) → Gives NoMemory (λ u. u) result (fed_any bytes)
fed_ascii result bytes spelt follows = subst (λ (read : Result (Unit {0}) ReadError). Gives NoMemory (λ u. u) result read) (sym (by_spelling bytes (Some Ascii) spelt)) (ascii_gives result bytes follows)

-- what the binary reader answers to bytes of its spelling is what feeding them gives
pub fed_binary : (result : Result (Unit {0}) ReadError) (bytes : List ℕ) → spelling_of bytes ≡ Some Binary → Answers result bytes → Gives NoMemory (λ u. u) result (fed_any bytes)
fed_binary result bytes spelt answers = subst (λ (read : Result (Unit {0}) ReadError). Gives NoMemory (λ u. u) result read) (sym (by_spelling bytes (Some Binary) spelt)) (binary_gives result bytes answers)

-- what the ASCII reader reads of bytes of its spelling is what reading them gives
pub read_ascii : (result : Result Netlist ReadError) (bytes : List ℕ) → spelling_of bytes ≡ Some Ascii → Gives NoMemory (λ c. c) result (read_bytes bytes) → Gives NoMemory (λ c. c) result (read_any bytes)
read_ascii result bytes spelt gives = subst (λ (read : Result Netlist ReadError). Gives NoMemory (λ c. c) result read) (sym (read_by_spelling bytes (Some Ascii) spelt)) gives

-- what the binary reader reads of bytes of its spelling is what reading them gives
pub read_of_binary : (result : Result Netlist ReadError) (bytes : List ℕ) → spelling_of bytes ≡ Some Binary → Gives NoMemory (λ c. c) result (read_binary bytes) → Gives NoMemory (λ c. c) result (read_any bytes)
read_of_binary result bytes spelt gives = subst (λ (read : Result Netlist ReadError). Gives NoMemory (λ c. c) result read) (sym (read_by_spelling bytes (Some Binary) spelt)) gives
