-- The end of the input.
use Rattle.std.proofs.Common.{ℕ, ◌≡◌, ◌+◌, List, [], ◌∷◌, length, Result, Ok, Err, Bool, true, false, ◌&&◌, cond, refl, sym, ap, subst, ◌∙◌, arith}
use Rattle.std.proofs.lemmas.Bool.{cond-true, cond-false, and_from, and_right}
use Rattle.aig_graph.specs.Circuits.{Netlist}
use Rattle.file_words.specs.declared.fault.ReadError.{ReadError}
use Rattle.file_words.specs.declared.fault.ReadError.TheVariants.{Truncated, NoMemory}
use Rattle.file_words.specs.Answering.{◌>>=◌, Fails, Gives}
use Rattle.ascii_file.specs.declared.header.Header.{Header}
use Rattle.ascii_file.specs.declared.raw.Section.{Section}
use Rattle.ascii_file.specs.declared.raw.Section.TheVariants.{Inputs, Latches, Safety, Sizes, Liveness, Gates, Symbols}
use Rattle.ascii_file.specs.Raw.{Raw}
use Rattle.ascii_file.specs.Items.{begins_comment}
use Rattle.ascii_file.specs.Reading.{is_symbols}
use Rattle.file_words.proofs.AnsweringLaws.{Fails-as, Fails-bind}
use Rattle.binary_file.specs.Items.{next_section}
use Rattle.binary_file.specs.Reading.{State, InLine, InFirst, InSecond, InComment, is_gates, before_item, complete, finish, end_line, read_line, circuit_of}
use Rattle.binary_file.specs.Taking.{circuit_at_end}
use Rattle.binary_file.specs.Contents.{Contents, IsAt}
use Rattle.binary_file.specs.Opened.{TakesText}
use Rattle.binary_file.specs.Standing.{circuit_at}
use Rattle.binary_file.proofs.EndLaws.{item_line, comment_line}

abbrev pub circuit : Result (Header × Raw) ReadError → Result Netlist ReadError
circuit r = r >>= λ all. Ok (circuit_of all.0 all.1)

gates_arent : (s : Section) → is_gates s ≡ true → is_symbols s ≡ false
gates_arent Gates e = refl
gates_arent Inputs e = absurd cc
gates_arent Latches e = absurd cc
gates_arent Safety e = absurd cc
gates_arent Sizes e = absurd cc
gates_arent Liveness e = absurd cc
gates_arent Symbols e = absurd cc

-- no byte of an item has come
pub before_line : (end : ℕ) (h : Header) (raw : Raw) (at : ℕ) (line : List ℕ) → circuit (complete end (InLine h raw at line)) ≡ circuit_at_end end h raw
before_line end h raw at line = by_test (is_symbols (next_section h raw))
  where
    by_test : (test : Bool) → circuit (cond test (Ok (h, raw)) (Err (Truncated end))) ≡ cond test (Ok (circuit_of h raw)) (Err (Truncated end))
    by_test true = refl
    by_test false = refl

-- before an item the end of the input gives the circuit, or says that it is truncated
pub before_end : (end : ℕ) (h : Header) (raw : Raw) (at : ℕ) → circuit (complete end (before_item h raw at)) ≡ circuit_at_end end h raw
before_end end h raw at = by_test (is_gates (next_section h raw)) refl
  where
    by_test : (test : Bool) → is_gates (next_section h raw) ≡ test → circuit (complete end (cond test (InFirst h raw at []) (InLine h raw at []))) ≡ circuit_at_end end h raw
    by_test true e = sym (cond-false (is_symbols (next_section h raw)) (Ok (circuit_of h raw)) (Err (Truncated end)) (gates_arent (next_section h raw) e))
    by_test false e = before_line end h raw at []

-- in a line of which no byte has come
pub at_line : (end : ℕ) (h : Header) (raw : Raw) (at : ℕ) (bytes : List ℕ) (state : State) → state ≡ InLine h raw at bytes → at + length bytes ≡ end → at ≡ end → circuit_at end state ≡ circuit_at_end end h raw
at_line end h raw at [] state is place here = ap (circuit_at end) is ∙ before_line end h raw at []
at_line end h raw at (b ∷ bytes) state is place here = absurd (omega (arith, place, here))

-- the end of the input ends a line
line_ends : (end : ℕ) (h : Header) (raw : Raw) (at : ℕ) (bytes : List ℕ) (state : State) → state ≡ InLine h raw at bytes → at + length bytes ≡ end → (at ≡ end → ⊥) → finish end state ≡ (end_line h raw at bytes >>= complete end)
line_ends end h raw at [] state is place later = absurd (later (omega (arith, place)))
line_ends end h raw at (b ∷ bytes) state is place later = ap (finish end) is

module _ (end : ℕ) (h : Header) (raw : Raw) (at : ℕ) (bytes : List ℕ) (state : State) (is : state ≡ InLine h raw at bytes) (place : at + length bytes ≡ end) (later : at ≡ end → ⊥) where
  item_read : (is_symbols (next_section h raw) && begins_comment bytes) ≡ false → circuit_at end state ≡ (read_line h raw at bytes >>= λ more. circuit_at_end end h more)
  item_read item =
      ap circuit (line_ends end h raw at bytes state is place later ∙ ap (λ (r : Result State ReadError). r >>= complete end) (item_line h raw at bytes item)) ∙ by_read (read_line h raw at bytes)
    where
      by_read : (read : Result Raw ReadError) → circuit ((read >>= λ more. Ok (before_item h more (at + length bytes + 1))) >>= complete end) ≡ (read >>= λ more. circuit_at_end end h more)
      by_read (Ok more) = before_end end h more (at + length bytes + 1)
      by_read (Err e) = refl

  -- the end of the input ends a line that is read, and gives the circuit with its item
  pub item_done : (more : Raw) → (is_symbols (next_section h raw) && begins_comment bytes) ≡ false → read_line h raw at bytes ≡ Ok more → circuit_at end state ≡ circuit_at_end end h more
  item_done more item read = item_read item ∙ ap (λ (r : Result Raw ReadError). r >>= λ more. circuit_at_end end h more) read

  -- a fault of the line that the end of the input ends is that of the whole
  pub item_failed : (e : ReadError) → (is_symbols (next_section h raw) && begins_comment bytes) ≡ false → Fails NoMemory e (read_line h raw at bytes) → Fails NoMemory e (circuit_at end state)
  item_failed e item fails = Fails-as e _ (circuit_at end state) (item_read item) (Fails-bind e (read_line h raw at bytes) (λ more. circuit_at_end end h more) fails)

  -- the end of the input in the comment's first line gives the circuit
  pub comment_ends : next_section h raw ≡ Symbols → begins_comment bytes ≡ true → circuit_at end state ≡ circuit_at_end end h raw
  comment_ends here begins =
      ap circuit (line_ends end h raw at bytes state is place later ∙ ap (λ (r : Result State ReadError). r >>= complete end) (comment_line h raw at bytes (and_from (is_symbols (next_section h raw)) (begins_comment bytes) (ap is_symbols here) begins)))
      ∙ sym (cond-true (is_symbols (next_section h raw)) (Ok (circuit_of h raw)) (Err (Truncated end)) (ap is_symbols here))

  -- a symbol or the comment
  pub symbol_ended : next_section h raw ≡ Symbols → (new : Contents) (is_item : Bool) → TakesText h new raw at bytes (Ok is_item) → (more : Raw) × (circuit_at end state ≡ circuit_at_end end h more) × IsAt new h more
  symbol_ended here new true (begins, took) = (took.0, item_done took.0 (and_right (is_symbols (next_section h raw)) (begins_comment bytes) begins) took.1, took.2)
  symbol_ended here new false (begins, contents) = (raw, comment_ends here begins, contents)

-- the end of the input in the comment gives the circuit
pub in_comment : (end : ℕ) (h : Header) (raw : Raw) (state : State) → state ≡ InComment h raw → next_section h raw ≡ Symbols → circuit_at end state ≡ circuit_at_end end h raw
in_comment end h raw state is here = ap (circuit_at end) is ∙ sym (cond-true (is_symbols (next_section h raw)) (Ok (circuit_of h raw)) (Err (Truncated end)) (ap is_symbols here))

-- in a delta
pub in_first : (end : ℕ) (h : Header) (raw : Raw) (at : ℕ) (delta : List ℕ) (state : State) → state ≡ InFirst h raw at delta → at + length delta ≡ end → circuit_at end state ≡ Err (Truncated at)
in_first end h raw at [] state is place = ap (circuit_at end) is ∙ ap (λ (n : ℕ). Err (Truncated n)) end_is
  where
    end_is : end ≡ at
    end_is = omega (arith, place)
in_first end h raw at (b ∷ delta) state is place = ap (circuit_at end) is

-- the end of the input in a gate's second delta is a truncation at that delta
pub in_second : (end : ℕ) (h : Header) (raw : Raw) (at rhs0 : ℕ) (delta : List ℕ) (state : State) → state ≡ InSecond h raw at rhs0 delta → at + length delta ≡ end → circuit_at end state ≡ Err (Truncated at)
in_second end h raw at rhs0 [] state is place = ap (circuit_at end) is ∙ ap (λ (n : ℕ). Err (Truncated n)) end_is
  where
    end_is : end ≡ at
    end_is = omega (arith, place)
in_second end h raw at rhs0 (b ∷ delta) state is place = ap (circuit_at end) is

-- an answer that is right of what reading gives is right of what is equal to it
pub gives_same : (result read same : Result Netlist ReadError) → read ≡ same → Gives NoMemory (λ c. c) result same → Gives NoMemory (λ c. c) result read
gives_same result read same e gives = subst (λ (r : Result Netlist ReadError). Gives NoMemory (λ c. c) result r) (sym e) gives
