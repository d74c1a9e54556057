-- Reading gives a raw circuit if and only if the bytes are a file of it.
use Rattle.std.proofs.Common.{ℕ, suc, zero, ◌+◌, ◌<◌, ◌≡◌, ◌≢◌, ◌⊎◌, inl, inr, List, [], ◌∷◌, length, Some, Result, Ok, Err, Bool, true, false, cond, ◌&&◌, refl, sym, ap, ap₂, subst, ◌∙◌, arith}
use Rattle.std.proofs.lemmas.Bool.{and_parts, and_from, cond-true, cond-false}
use Rattle.aig_graph.specs.Circuits.{Netlist}
use Rattle.file_words.specs.declared.fault.ReadError.{ReadError}
use Rattle.file_words.specs.declared.fault.ReadError.TheVariants.{Truncated}
use Rattle.file_words.specs.Answering.{◌>>=◌}
use Rattle.ascii_file.specs.declared.header.Header.{Header}
use Rattle.ascii_file.specs.declared.raw.Section.{Section}
use Rattle.ascii_file.specs.declared.raw.Section.TheVariants.{Inputs, Latches, Safety, Sizes, Liveness, Gates, Symbols}
use Rattle.ascii_file.specs.Raw.{Raw, nothing_yet}
use Rattle.ascii_file.specs.Items.{Item, InputItem, LatchItem, SafetyItem, SizeItem, LivenessItem, GateItem, SymbolItem, begins_comment}
use Rattle.ascii_file.specs.Reading.{with_item, is_symbols}
use Rattle.ascii_file.proofs.CheckLaws.{same_ok}
use Rattle.ascii_file.proofs.StepLaws.{bind_ok, symbols_are}
use Rattle.binary_file.specs.Headers.{header_of}
use Rattle.binary_file.specs.Items.{next_section, first_line, after_line}
use Rattle.binary_file.specs.Reading.{State, InLine, InFirst, InComment, is_gates, before_item, read_header, end_header, read_line, end_line, feed, finish, read_raw, circuit_of, read_binary}
use Rattle.binary_file.specs.Files.{IsLine, IsItem, AreItems, with_items, IsBinaryFile}
use Rattle.binary_file.specs.Laws.{BinaryReadingLaw}
use Rattle.binary_file.proofs.FaultLaws.{fault_of_bytes}
use Rattle.binary_file.proofs.StepLaws.{line_fed, header_fed, comment_fed, after_line_shorter}
use Rattle.binary_file.proofs.ItemLaws.{header_read, header_was_read, no_gate, item_ended, LineRead, line_was_read}
use Rattle.binary_file.proofs.GateLaws.{gate_taken, GateRead, gate_was_taken}

gates_are : (section : Section) → is_gates section ≡ true → section ≡ Gates
gates_are Inputs e = absurd cc
gates_are Latches e = absurd cc
gates_are Safety e = absurd cc
gates_are Sizes e = absurd cc
gates_are Liveness e = absurd cc
gates_are Gates e = refl
gates_are Symbols e = absurd cc

not_gates : (section : Section) → (section ≡ Gates → ⊥) → is_gates section ≡ false
not_gates Inputs other = refl
not_gates Latches other = refl
not_gates Safety other = refl
not_gates Sizes other = refl
not_gates Liveness other = refl
not_gates Gates other = absurd (other refl)
not_gates Symbols other = refl

before_line : (h : Header) (raw : Raw) (at : ℕ) → is_gates (next_section h raw) ≡ false → before_item h raw at ≡ InLine h raw at []
before_line h raw at other = cond-false (is_gates (next_section h raw)) (InFirst h raw at []) (InLine h raw at []) other

not_empty : (bytes : List ℕ) → bytes ≢ [] → 0 < length {A = ℕ} [] + length bytes
not_empty [] some = absurd (some refl)
not_empty (b ∷ bytes) some = omega arith

no_comment : begins_comment (first_line []) ≡ true → ⊥
unfolding begins_comment first_line
no_comment e = cc

no_header : (h : Header) → header_of (first_line []) ≡ Some h → ⊥
unfolding header_of first_line
no_header h e = cc

-- ---- what is a file is read

-- if a line stands next, it is ended
line_first : (h : Header) (raw : Raw) (at end : ℕ) (bytes : List ℕ) → bytes ≢ [] → is_gates (next_section h raw) ≡ false
    → (feed (before_item h raw at) bytes >>= finish end) ≡ (end_line h raw at (first_line bytes) >>= λ s. feed s (after_line bytes) >>= finish end)
line_first h raw at end bytes some other = ap (λ (s : State). feed s bytes >>= finish end) (before_line h raw at other) ∙ line_fed end h raw at bytes [] (not_empty bytes some)

line_taken : (h : Header) (raw : Raw) (at end : ℕ) (item : Item) (bytes rest : List ℕ) → IsLine h raw item bytes rest
    → (next : ℕ) × ((feed (before_item h raw at) bytes >>= finish end) ≡ (feed (before_item h (with_item raw item) next) rest >>= finish end))
line_taken h raw at end item bytes rest is = (
  at + length (first_line bytes) + 1,
  line_first h raw at end bytes is.there (not_gates (next_section h raw) (no_gate h raw (next_section h raw) (first_line bytes) item is.spelt))
      ∙ ap (λ (r : Result State ReadError). r >>= λ s. feed s (after_line bytes) >>= finish end) (item_ended h raw at (first_line bytes) item is.spelt is.fits)
      ∙ ap (λ (bs : List ℕ). feed (before_item h (with_item raw item) (at + length (first_line bytes) + 1)) bs >>= finish end) is.after,
)

-- all items are there
ended : (h : Header) (raw : Raw) (at end : ℕ) (bytes : List ℕ) → next_section h raw ≡ Symbols → (bytes ≡ []) ⊎ (begins_comment (first_line bytes) ≡ true) → (feed (before_item h raw at) bytes >>= finish end) ≡ Ok (h, raw)
unfolding feed end_line
ended h raw at end bytes full (inl none) =
    ap₂ (λ (s : State) (bs : List ℕ). feed s bs >>= finish end) (before_line h raw at (ap is_gates full)) none
    ∙ cond-true (is_symbols (next_section h raw)) (Ok (h, raw)) (Err (Truncated end)) (ap is_symbols full)
ended h raw at end bytes full (inr comment) =
    line_first h raw at end bytes (λ none. no_comment (sym (ap (λ (bs : List ℕ). begins_comment (first_line bs)) none) ∙ comment)) (ap is_gates full)
    ∙ ap (λ (r : Result State ReadError). r >>= λ s. feed s (after_line bytes) >>= finish end)
    (cond-true (is_symbols (next_section h raw) && begins_comment (first_line bytes)) (Ok (InComment h raw)) (read_line h raw at (first_line bytes) >>= λ more. Ok (before_item h more (at + length (first_line bytes) + 1)))
    (and_from (is_symbols (next_section h raw)) (begins_comment (first_line bytes)) (ap is_symbols full) comment))
    ∙ ap (λ (r : Result State ReadError). r >>= finish end) (comment_fed h raw (after_line bytes))

-- the items that are missing
items_taken : (h : Header) (end : ℕ) (items : List Item) (raw : Raw) (at : ℕ) (bytes : List ℕ) → AreItems h raw items bytes → (feed (before_item h raw at) bytes >>= finish end) ≡ Ok (h, with_items raw items)
items_taken h end [] raw at bytes are = ended h raw at end bytes are.0 are.1
items_taken h end (GateItem gate ∷ items) raw at bytes (rest, is, are) =
    let taken = gate_taken h raw at gate bytes rest is in ap (λ (r : Result State ReadError). r >>= finish end) taken.1 ∙ items_taken h end items (with_item raw (GateItem gate)) taken.0 rest are
items_taken h end (InputItem x ∷ items) raw at bytes (rest, is, are) = let taken = line_taken h raw at end (InputItem x) bytes rest is in taken.1 ∙ items_taken h end items (with_item raw (InputItem x)) taken.0 rest are
items_taken h end (LatchItem x ∷ items) raw at bytes (rest, is, are) = let taken = line_taken h raw at end (LatchItem x) bytes rest is in taken.1 ∙ items_taken h end items (with_item raw (LatchItem x)) taken.0 rest are
items_taken h end (SafetyItem x ∷ items) raw at bytes (rest, is, are) = let taken = line_taken h raw at end (SafetyItem x) bytes rest is in taken.1 ∙ items_taken h end items (with_item raw (SafetyItem x)) taken.0 rest are
items_taken h end (SizeItem x ∷ items) raw at bytes (rest, is, are) = let taken = line_taken h raw at end (SizeItem x) bytes rest is in taken.1 ∙ items_taken h end items (with_item raw (SizeItem x)) taken.0 rest are
items_taken h end (LivenessItem x ∷ items) raw at bytes (rest, is, are) = let taken = line_taken h raw at end (LivenessItem x) bytes rest is in taken.1 ∙ items_taken h end items (with_item raw (LivenessItem x)) taken.0 rest are
items_taken h end (SymbolItem x ∷ items) raw at bytes (rest, is, are) = let taken = line_taken h raw at end (SymbolItem x) bytes rest is in taken.1 ∙ items_taken h end items (with_item raw (SymbolItem x)) taken.0 rest are

-- a binary file of a raw circuit is read as that circuit
pub file_read : (bytes : List ℕ) (h : Header) (raw : Raw) → IsBinaryFile bytes h raw → read_raw bytes ≡ Ok (h, raw)
unfolding read_raw
file_read bytes h raw file =
    header_fed (length bytes) bytes [] (not_empty bytes (λ none. no_header h (sym (ap (λ (bs : List ℕ). header_of (first_line bs)) none) ∙ file.header)))
    ∙ ap (λ (r : Result Header ReadError). (r >>= λ g. Ok (before_item g nothing_yet (length (first_line bytes) + 1))) >>= λ s. feed s (after_line bytes) >>= finish (length bytes)) (header_read (first_line bytes) h file.header file.within)
    ∙ items_taken h (length bytes) file.items nothing_yet (length (first_line bytes) + 1) (after_line bytes) file.spelt
    ∙ ap (λ (r : Raw). Ok (h, r)) file.all

-- ---- what is read is a file

-- the items that were read
record WasRead (h : Header) (raw : Raw) (bytes : List ℕ) (all : Header × Raw) : Type 0 where
  items : List Item
  are : AreItems h raw items bytes
  same : (h, with_items raw items) ≡ all

-- reading shorter bytes gives such items
abbrev ReadsShorter : Header → ℕ → List ℕ → Header × Raw → Type 0
ReadsShorter h end bytes all = (rest : List ℕ) → length rest < length bytes → (raw : Raw) (at : ℕ) → (feed (before_item h raw at) rest >>= finish end) ≡ Ok all → WasRead h raw rest all

same_all : (x y : Header × Raw) → ◌≡◌ {A = Result (Header × Raw) ReadError} (Ok x) (Ok y) → x ≡ y
same_all x y e = cc

line_is_item : (h : Header) (raw : Raw) (item : Item) (bytes rest : List ℕ) → IsLine h raw item bytes rest → IsItem h raw item bytes rest
line_is_item h raw (InputItem x) bytes rest is = is
line_is_item h raw (LatchItem x) bytes rest is = is
line_is_item h raw (SafetyItem x) bytes rest is = is
line_is_item h raw (SizeItem x) bytes rest is = is
line_is_item h raw (LivenessItem x) bytes rest is = is
line_is_item h raw (GateItem x) bytes rest is = absurd is.fits
line_is_item h raw (SymbolItem x) bytes rest is = is

cons_some : (b : ℕ) (bytes : List ℕ) → b ∷ bytes ≢ []
cons_some b bytes e = cc

shorter : (b : ℕ) (bytes : List ℕ) → length (after_line (b ∷ bytes)) < length (b ∷ bytes)
shorter b bytes = let least = after_line_shorter b bytes in omega (arith, least)

nothing_left : (h : Header) (raw : Raw) (at end : ℕ) (all : Header × Raw) → is_gates (next_section h raw) ≡ false → (feed (before_item h raw at) [] >>= finish end) ≡ Ok all → WasRead h raw [] all
unfolding feed
nothing_left h raw at end all other e = by_test (is_symbols (next_section h raw)) refl (ap (λ (s : State). finish end s) (sym (before_line h raw at other)) ∙ e)
  where
    by_test : (test : Bool) → is_symbols (next_section h raw) ≡ test → ◌≡◌ {A = Result (Header × Raw) ReadError} (cond test (Ok (h, raw)) (Err (Truncated end))) (Ok all) → WasRead h raw [] all
    by_test true is same = record { items = []; are = (symbols_are (next_section h raw) is, inl refl); same = same_all (h, raw) all same }
    by_test false is same = absurd cc

line_was_taken : (h : Header) (raw : Raw) (at end : ℕ) (all : Header × Raw) (b : ℕ) (bytes : List ℕ) → ReadsShorter h end (b ∷ bytes) all → is_gates (next_section h raw) ≡ false
    → (feed (before_item h raw at) (b ∷ bytes) >>= finish end) ≡ Ok all → WasRead h raw (b ∷ bytes) all
unfolding end_line
line_was_taken h raw at end all b bytes again other e =
    let found = bind_ok (end_line h raw at line) (λ s. feed s (after_line (b ∷ bytes)) >>= finish end) all (sym (line_first h raw at end (b ∷ bytes) (cons_some b bytes) other) ∙ e) in
    by_test (is_symbols (next_section h raw) && begins_comment line) refl found.0 found.1 found.2
  where
    line : List ℕ
    line = first_line (b ∷ bytes)

    by_test : (test : Bool) → (is_symbols (next_section h raw) && begins_comment line) ≡ test → (s : State)
        → cond test (Ok (InComment h raw)) (read_line h raw at line >>= λ more. Ok (before_item h more (at + length line + 1))) ≡ Ok s
        → (feed s (after_line (b ∷ bytes)) >>= finish end) ≡ Ok all → WasRead h raw (b ∷ bytes) all
    by_test true is s now later =
        let both = and_parts (is_symbols (next_section h raw)) (begins_comment line) is in
        let state : InComment h raw ≡ s = same_ok (InComment h raw) s now in
        record {
          items = [];
          are = (symbols_are (next_section h raw) both.0, inr both.1);
          same = same_all (h, raw) all
              (ap (λ (r : Result State ReadError). r >>= finish end) (sym (comment_fed h raw (after_line (b ∷ bytes)))) ∙ ap (λ (z : State). feed z (after_line (b ∷ bytes)) >>= finish end) state ∙ later);
        }
    by_test false is s now later =
        let read = bind_ok (read_line h raw at line) (λ more. Ok (before_item h more (at + length line + 1))) s now in
        let one : LineRead h raw line read.0 = line_was_read h raw read.0 at line read.1 in
        let state : before_item h (with_item raw one.item) (at + length line + 1) ≡ s
        = ap (λ (r : Raw). before_item h r (at + length line + 1)) one.grown ∙ same_ok (before_item h read.0 (at + length line + 1)) s read.2 in
        let next = again (after_line (b ∷ bytes)) (shorter b bytes) (with_item raw one.item) (at + length line + 1) (ap (λ (z : State). feed z (after_line (b ∷ bytes)) >>= finish end) state ∙ later) in
        record {
          items = one.item ∷ next.items;
          are = (
            after_line (b ∷ bytes),
            line_is_item h raw one.item (b ∷ bytes) (after_line (b ∷ bytes)) (record { there = cons_some b bytes; spelt = one.spelt; fits = one.fits; after = refl }),
            next.are,
          );
          same = next.same;
        }

item_was_taken : (h : Header) (raw : Raw) (at end : ℕ) (all : Header × Raw) (bytes : List ℕ) → ReadsShorter h end bytes all → (feed (before_item h raw at) bytes >>= finish end) ≡ Ok all → WasRead h raw bytes all
item_was_taken h raw at end all bytes again e = by_test (is_gates (next_section h raw)) refl
  where
    by_bytes : (bs : List ℕ) → ReadsShorter h end bs all → is_gates (next_section h raw) ≡ false → (feed (before_item h raw at) bs >>= finish end) ≡ Ok all → WasRead h raw bs all
    by_bytes [] shorter other same = nothing_left h raw at end all other same
    by_bytes (b ∷ bs) shorter other same = line_was_taken h raw at end all b bs shorter other same

    by_test : (test : Bool) → is_gates (next_section h raw) ≡ test → WasRead h raw bytes all
    by_test true is =
        let one : GateRead h raw end bytes all = gate_was_taken h raw at end all bytes (gates_are (next_section h raw) is) e in
        let next = again one.rest one.shorter (with_item raw (GateItem one.gate)) one.at one.read in
        record { items = GateItem one.gate ∷ next.items; are = (one.rest, one.is_gate, next.are); same = next.same }
    by_test false is = by_bytes bytes again is e

items_were_taken : (n : ℕ) (h : Header) (end : ℕ) (all : Header × Raw) (bytes : List ℕ) → length bytes < n → (raw : Raw) (at : ℕ) → (feed (before_item h raw at) bytes >>= finish end) ≡ Ok all → WasRead h raw bytes all
items_were_taken zero h end all bytes less raw at e = absurd (omega (arith, less))
items_were_taken (suc n) h end all bytes less raw at e =
    item_was_taken h raw at end all bytes (λ rest fewer r from same. items_were_taken n h end all rest (omega (arith, less, fewer)) r from same) e

nothing_read : (all : Header × Raw) → read_raw [] ≡ Ok all → ⊥
unfolding read_raw feed
nothing_read all e = cc

file_was_read : (bytes : List ℕ) (all : Header × Raw) → read_raw bytes ≡ Ok all → IsBinaryFile bytes all.0 all.1
unfolding read_raw
file_was_read bytes all e =
    let header = bind_ok (end_header (first_line bytes)) (λ s. feed s (after_line bytes) >>= finish (length bytes)) all (sym (header_fed (length bytes) bytes [] (not_empty bytes (λ none. nothing_read all (ap read_raw (sym none) ∙ e)))) ∙ e) in
    let found = bind_ok (read_header (first_line bytes)) (λ h. Ok (before_item h nothing_yet (length (first_line bytes) + 1))) header.0 header.1 in
    let spelt = header_was_read (first_line bytes) found.0 found.1 in
    let state : before_item found.0 nothing_yet (length (first_line bytes) + 1) ≡ header.0 = same_ok (before_item found.0 nothing_yet (length (first_line bytes) + 1)) header.0 found.2 in
    let items = items_were_taken (suc (length (after_line bytes))) found.0 (length bytes) all (after_line bytes) (omega arith) nothing_yet (length (first_line bytes) + 1)
    (ap (λ (s : State). feed s (after_line bytes) >>= finish (length bytes)) state ∙ header.2) in
    subst (λ (pair : Header × Raw). IsBinaryFile bytes pair.0 pair.1) items.same (record { header = spelt.0; within = spelt.1; items = items.items; spelt = items.are; all = refl })

-- ---- the law

same_files : (bytes : List ℕ) (h h' : Header) (raw raw' : Raw) → read_raw bytes ≡ Ok (h, raw) → read_raw bytes ≡ Ok (h', raw') → (h ≡ h') × (raw ≡ raw')
same_files bytes h h' raw raw' one other = let same = same_all (h, raw) (h', raw') (sym one ∙ other) in (ap (λ (x : Header × Raw). x.0) same, ap (λ (x : Header × Raw). x.1) same)

circuit_read : (bytes : List ℕ) (h : Header) (raw : Raw) → IsBinaryFile bytes h raw → read_binary bytes ≡ Ok (circuit_of h raw)
unfolding read_binary
circuit_read bytes h raw file = ap (λ (r : Result (Header × Raw) ReadError). r >>= λ all. Ok (circuit_of all.0 all.1)) (file_read bytes h raw file)

circuit_was_read : (bytes : List ℕ) (c : Netlist) → read_binary bytes ≡ Ok c → (h : Header) × (raw : Raw) × IsBinaryFile bytes h raw × (c ≡ circuit_of h raw)
unfolding read_binary
circuit_was_read bytes c e =
    let found = bind_ok (read_raw bytes) (λ all. Ok (circuit_of all.0 all.1)) c e in
    (found.0.0, found.0.1, file_was_read bytes found.0 found.1, sym (same_ok (circuit_of found.0.0 found.0.1) c found.2))

-- bytes are read as a circuit if and only if they are a binary file of one, else there is a fault
-- of the bytes
pub the_reading_law : (bytes : List ℕ) → BinaryReadingLaw bytes
the_reading_law bytes = record {
  file = circuit_read bytes;
  read = circuit_was_read bytes;
  one = λ h h' raw raw' file file'. same_files bytes h h' raw raw' (file_read bytes h raw file) (file_read bytes h' raw' file');
  fault = λ e was. record { read = was; of_bytes = fault_of_bytes bytes e was };
}
