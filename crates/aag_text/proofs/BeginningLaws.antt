-- The first line.
use Rattle.std.proofs.Common.{ℕ, ◌≡◌, ◌+◌, ◌-◌, false, List, [], ◌∷◌, ◌++◌, length, Result, Ok, Err, refl, ap, ap₂, sym, ◌∙◌, subst, arith, append_assoc, append-nil, length-append, codes}
use Rattle.aig_graph.specs.Circuits.{Netlist}
use Rattle.file_words.specs.declared.fault.ReadError.{ReadError}
use Rattle.file_words.specs.declared.fault.ReadError.TheVariants.{NoMemory}
use Rattle.file_words.specs.Cuts.{HasNoNewline, Cuts}
use Rattle.file_words.specs.Answering.{◌>>=◌, Fails, Gives}
use Rattle.file_words.proofs.DecimalLaws.{lacks-append}
use Rattle.ascii_file.specs.declared.header.Header.{Header}
use Rattle.ascii_file.specs.Headers.{header_of}
use Rattle.ascii_file.specs.Raw.{Raw, nothing_yet}
use Rattle.ascii_file.specs.Reading.{AtHeader, InItems, read_header, take_line, take_lines, finish, read_bytes}
use Rattle.ascii_file.specs.Pieces.{ended_lines, open_line, fed, with_last_line}
use Rattle.ascii_file.proofs.PieceLaws.{part_taken, end_taken, the_pieces_law}
use Rattle.file_words.proofs.AnsweringLaws.{Fails-where, Fails-with, Gives-same}
use Rattle.ascii_file.specs.declared.parts.header_line.HeaderLine.{HeaderLine}
use Rattle.ascii_file.specs.parts.Header.{header_row, header_with}
use Rattle.aag_text.specs.declared.sections.Sections.{Sections}
use Rattle.aag_text.specs.Taking.{raw_of, IsAt}
use Rattle.aag_text.specs.declared.items.Items.{Items}
use Rattle.aag_text.specs.Beginning.{Awaits}
use Rattle.aag_text.specs.Standing.{StandAt, Hold}
use Rattle.aag_text.proofs.FeedingLaws.{fails_stays, fed-newline, behind_line}
use Rattle.aag_text.proofs.FinishingLaws.{read-closed, Closes}

-- ---- bytes of one line

-- no line has ended
pub none_ended : (first : List ℕ) → HasNoNewline first → fed first ≡ Ok AtHeader
unfolding fed take_lines ended_lines
none_ended first one_line = ap (take_lines AtHeader) (part_taken first [] one_line).0

all_open : (first : List ℕ) → HasNoNewline first → open_line first ≡ first
unfolding open_line
all_open first one_line = (part_taken first [] one_line).1

fed-first : (first : List ℕ) → HasNoNewline first → fed (first ++ 10 ∷ []) ≡ (read_header first >>= λ h. Ok (InItems h nothing_yet (length first + 1)))
fed-first first one_line = fed-newline first AtHeader (none_ended first one_line) ∙ ap (take_line AtHeader) (all_open first one_line)

-- a part without a newline is more of the first line
pub awaits_more : (old new : HeaderLine) (bytes part : List ℕ) → HasNoNewline part → ((rest : List ℕ) → header_with new rest ≡ header_with old (part ++ rest)) → Awaits old bytes → Awaits new (bytes ++ part)
awaits_more old new bytes part one_line extends awaits = record {
  one_line = lacks-append 10 bytes part awaits.one_line one_line;
  row = λ rest. extends rest ∙ awaits.row (part ++ rest) ∙ ap (header_row (codes "aag ")) (sym (append_assoc bytes part rest));
}

-- what the header is of a line of which all bytes have come
abbrev pub IsHeaderOf : HeaderLine → Result Header ReadError → Type 0
IsHeaderOf line r = (bytes : List ℕ) → header_with line [] ≡ header_row (codes "aag ") bytes → r ≡ read_header bytes

header_is : (line : HeaderLine) (first : List ℕ) (r : Result Header ReadError) → Awaits line first → IsHeaderOf line r → read_header first ≡ r
header_is line first r awaits is = sym (is first (awaits.row [] ∙ ap (header_row (codes "aag ")) (append-nil first)))

-- ---- the end of the first line

module _ (line : HeaderLine) (bytes part rest piece : List ℕ) (cuts : Cuts 10 piece part rest) (awaits : Awaits line (bytes ++ part)) where
  abbrev pub to_line_end : List ℕ
  to_line_end = (bytes ++ part) ++ 10 ∷ []

  -- the bytes up to the newline and the rest are the bytes and the piece
  pub whole_piece : to_line_end ++ rest ≡ bytes ++ piece
  whole_piece = behind_line bytes part rest piece (bytes ++ piece) cuts refl

  led : (r : Result Header ReadError) → IsHeaderOf line r → fed to_line_end ≡ (r >>= λ h. Ok (InItems h nothing_yet (length (bytes ++ part) + 1)))
  led r is = fed-first (bytes ++ part) awaits.one_line ∙ ap (λ (x : Result Header ReadError). x >>= λ h. Ok (InItems h nothing_yet (length (bytes ++ part) + 1))) (header_is line (bytes ++ part) r awaits is)

  -- a fault of the header, once its line has ended, is one of the bytes
  pub header_fails : (e : ReadError) → IsHeaderOf line (Err e) → Fails NoMemory e (fed (bytes ++ piece))
  header_fails e is = subst (λ (xs : List ℕ). Fails NoMemory e (fed xs)) whole_piece (fails_stays e to_line_end rest (Fails-with e (fed to_line_end) (led (Err e) is)))

  -- a header that is read, once its line has ended, leaves the items where its line leads
  pub items_begin : (h : Header) (items : Items) (end at : ℕ) → IsHeaderOf line (Ok h) → length (bytes ++ piece) ≡ end → at ≡ end - length rest → items.at ≡ at → StandAt items.sections items.line at (InItems h nothing_yet at) []
      → Hold items to_line_end
  items_begin h items end at is whole is_at begins stands =
      let opened : open_line to_line_end ≡ [] = none_open in
      let there : at ≡ length (bytes ++ part) + 1 = omega (arith, whole, is_at, ap length whole_piece, length-append to_line_end rest, length-append (bytes ++ part) (10 ∷ [])) in
      record {
        state = InItems h nothing_yet at;
        leads = led (Ok h) is ∙ ap (λ (n : ℕ). Ok (InItems h nothing_yet n)) (sym there);
        stands = subst (λ (begun : List ℕ). StandAt items.sections items.line items.at (InItems h nothing_yet at) begun) (sym opened)
            (subst (λ (n : ℕ). StandAt items.sections items.line n (InItems h nothing_yet at) []) (sym begins) stands);
        ends = omega (arith, there, begins, ap length opened, length-append (bytes ++ part) (10 ∷ []));
      }
    where
      none_open : open_line to_line_end ≡ []
      none_open = (end_taken [] (bytes ++ part) refl).1

-- ---- the end of the file in the first line

-- an empty line is no header
last_or_header : (end : ℕ) (line : List ℕ) → (with_last_line AtHeader line >>= finish end) ≡ ((read_header line >>= λ h. Ok (InItems h nothing_yet (length line + 1))) >>= finish end)
unfolding read_header header_of
last_or_header end [] = refl
last_or_header end (b ∷ line) = refl

finish-first : (bytes : List ℕ) → HasNoNewline bytes → read_bytes bytes ≡ ((read_header bytes >>= λ h. Ok (InItems h nothing_yet (length bytes + 1))) >>= finish (length bytes))
finish-first bytes one_line =
    read-closed bytes AtHeader (none_ended bytes one_line) ∙ ap (λ (line : List ℕ). with_last_line AtHeader line >>= finish (length bytes)) (all_open bytes one_line) ∙ last_or_header (length bytes) bytes

module _ (line : HeaderLine) (bytes : List ℕ) (awaits : Awaits line bytes) where
  read_as : (r : Result Header ReadError) → IsHeaderOf line r → read_bytes bytes ≡ ((r >>= λ h. Ok (InItems h nothing_yet (length bytes + 1))) >>= finish (length bytes))
  read_as r is = finish-first bytes awaits.one_line ∙ ap (λ (x : Result Header ReadError). (x >>= λ h. Ok (InItems h nothing_yet (length bytes + 1))) >>= finish (length bytes)) (header_is line bytes r awaits is)

  -- a file whose first line, which no newline ends, is no header has that fault
  pub first_fails : (e : ReadError) → IsHeaderOf line (Err e) → Fails NoMemory e (read_bytes bytes)
  first_fails e is = Fails-with e (read_bytes bytes) (read_as (Err e) is)

  -- a file whose header no newline ends gives what the end gives after it
  pub first_closes : {X : Type 0} (view : X → Netlist) (r : Result X ReadError) (h : Header) (m : Sections) (len : ℕ) → IsHeaderOf line (Ok h) → len ≡ length bytes → m.header ≡ h → raw_of m [] ≡ nothing_yet → IsAt m []
      → Closes len view r m → Gives NoMemory view r (read_bytes bytes)
  first_closes view r h m len is counts header raw stands closes =
      Gives-same NoMemory view r _ _ (ap₂ (λ (g : Header) (x : Raw). finish len (InItems g x (length bytes + 1))) header raw ∙ ap (λ (n : ℕ). finish n (InItems h nothing_yet (length bytes + 1))) counts ∙ sym (read_as (Ok h) is))
      (closes [] false (length bytes + 1) stands (λ e. absurd (cc)))

-- a fault of what was fed is the file's
pub failed_reads : (e : ReadError) (bytes : List ℕ) → Fails NoMemory e (fed bytes) → Fails NoMemory e (read_bytes bytes)
failed_reads e bytes fails = Fails-where e (fed bytes) (read_bytes bytes) ((the_pieces_law bytes []).fault e) fails
