-- What a reader holds.
use Rattle.std.proofs.Common.{ℕ, ◌≡◌, ◌+◌, List, [], ◌∷◌, ◌++◌, length, Result, Ok, Err, false, nat_eq, refl, sym, ap, subst, ◌∙◌, arith, codes}
use Rattle.std.proofs.lemmas.Bool.{cond-false}
use Rattle.std.proofs.lemmas.List.{append_assoc, append-nil, length-append}
use Rattle.file_words.specs.declared.fault.ReadError.{ReadError}
use Rattle.file_words.specs.declared.fault.ReadError.TheVariants.{NoMemory}
use Rattle.file_words.specs.Cuts.{HasNoNewline}
use Rattle.file_words.specs.Answering.{◌>>=◌, Fails}
use Rattle.ascii_file.specs.declared.header.Header.{Header}
use Rattle.ascii_file.specs.Raw.{nothing_yet}
use Rattle.file_words.proofs.AnsweringLaws.{Fails-as, Fails-bind, Fails-where, Fails-with}
use Rattle.ascii_file.specs.declared.parts.header_line.HeaderLine.{HeaderLine}
use Rattle.ascii_file.specs.parts.Header.{header_row, header_with}
use Rattle.binary_file.specs.Headers.{header_of}
use Rattle.binary_file.specs.Reading.{State, AtHeader, before_item, end_header, read_header, step, feed, finish, complete, read_raw, read_binary}
use Rattle.binary_file.proofs.PieceLaws.{the_pieces_law}
use Rattle.binary_file.specs.Taking.{circuit_at_end}
use Rattle.binary_file.specs.declared.items.Items.{Items}
use Rattle.binary_file.specs.Standing.{Stands, circuit_at}
use Rattle.binary_file.specs.Stages.{HoldsHeader, HoldsItems}
use Rattle.binary_file.proofs.FeedLaws.{line_fed, all_fed}
use Rattle.binary_file.proofs.FinishLaws.{circuit, before_end}

-- feeding joined bytes is feeding them one after the other
pub joined : (bytes more : List ℕ) → feed (AtHeader []) (bytes ++ more) ≡ (feed (AtHeader []) bytes >>= λ state. feed state more)
joined bytes more = (the_pieces_law bytes more).joined

-- a piece from a state on
pub then_fed : (bytes piece : List ℕ) (state : State) → feed (AtHeader []) bytes ≡ Ok state → feed (AtHeader []) (bytes ++ piece) ≡ feed state piece
then_fed bytes piece state reading = joined bytes piece ∙ ap (λ (r : Result State ReadError). r >>= λ s. feed s piece) reading

-- a fault of the bytes so far is one with a piece after them
pub fault_stays : (fault : ReadError) (bytes piece : List ℕ) → Fails NoMemory fault (feed (AtHeader []) bytes) → Fails NoMemory fault (feed (AtHeader []) (bytes ++ piece))
fault_stays fault bytes piece fails = Fails-as fault _ (feed (AtHeader []) (bytes ++ piece)) (joined bytes piece) (Fails-bind fault (feed (AtHeader []) bytes) (λ s. feed s piece) fails)

-- items after a piece
pub items_held : (new : Items) (bytes piece : List ℕ) (end : ℕ) (state : State) → feed (AtHeader []) bytes ≡ Ok state → length bytes + length piece ≡ end → (next : State) × (feed state piece ≡ Ok next) × Stands new end next
    → HoldsItems new (bytes ++ piece)
items_held new bytes piece end state reading place reached = record {
  state = reached.0;
  reading = then_fed bytes piece state reading ∙ reached.1;
  stands = subst (λ (n : ℕ). Stands new n reached.0) (sym place ∙ sym (length-append bytes piece)) reached.2;
}

-- a fault of a piece after bytes that had none is one of both together
pub items_failed : (fault : ReadError) (bytes piece : List ℕ) (state : State) → feed (AtHeader []) bytes ≡ Ok state → Fails NoMemory fault (feed state piece) → Fails NoMemory fault (feed (AtHeader []) (bytes ++ piece))
items_failed fault bytes piece state reading fails = Fails-as fault (feed state piece) (feed (AtHeader []) (bytes ++ piece)) (then_fed bytes piece state reading) fails

-- ---- the first line

in_header : (line : List ℕ) (b : ℕ) → nat_eq b 10 ≡ false → step (AtHeader line) b ≡ Ok (AtHeader (line ++ b ∷ []))
in_header line b other = cond-false (nat_eq b 10) (end_header line) (Ok (AtHeader (line ++ b ∷ []))) other

-- a piece without a newline is more of the first line
pub header_extended : (line new : HeaderLine) (bytes piece : List ℕ) → HoldsHeader line bytes → HasNoNewline piece → ((rest : List ℕ) → header_with new rest ≡ header_with line (piece ++ rest)) → HoldsHeader new (bytes ++ piece)
unfolding feed
header_extended line new bytes piece is none extended = record {
  reading = then_fed bytes piece (AtHeader bytes) is.reading ∙ all_fed AtHeader in_header bytes piece none;
  line_is = λ rest. extended rest ∙ is.line_is (piece ++ rest) ∙ ap (header_row (codes "aig ")) (sym (append_assoc bytes piece rest));
}

-- the row of a line of which all bytes have come
pub row_is : (line : HeaderLine) (bytes : List ℕ) → HoldsHeader line bytes → header_with line [] ≡ header_row (codes "aig ") bytes
row_is line bytes is = is.line_is [] ∙ ap (header_row (codes "aig ")) (append-nil bytes)

-- the numbers of a first line with more bytes are those of the whole line
pub extended_row : (line new : HeaderLine) (bytes part : List ℕ) → HoldsHeader line bytes → ((rest : List ℕ) → header_with new rest ≡ header_with line (part ++ rest)) → header_with new [] ≡ header_row (codes "aig ") (bytes ++ part)
extended_row line new bytes part is extended = extended [] ∙ is.line_is (part ++ []) ∙ ap (λ (list : List ℕ). header_row (codes "aig ") (bytes ++ list)) (append-nil part)

module _ (bytes part left piece : List ℕ) (reading : feed (AtHeader []) bytes ≡ Ok (AtHeader bytes)) (none : HasNoNewline part) (parts : piece ≡ part ++ 10 ∷ left) where
  -- what the first line gives is what follows its newline
  header_ended : feed (AtHeader []) (bytes ++ piece) ≡ (end_header (bytes ++ part) >>= λ s. feed s left)
  header_ended = then_fed bytes piece (AtHeader bytes) reading ∙ line_fed AtHeader in_header part bytes left piece none parts

  -- a fault of the first line, once its newline has come, is one of the bytes
  pub header_failed : (fault : ReadError) → Err fault ≡ read_header (bytes ++ part) → Fails NoMemory fault (feed (AtHeader []) (bytes ++ piece))
  header_failed fault e =
      Fails-with fault (feed (AtHeader []) (bytes ++ piece))
      (header_ended ∙ ap (λ (r : Result Header ReadError). (r >>= λ h. Ok (before_item h nothing_yet (length (bytes ++ part) + 1))) >>= λ s. feed s left) (sym e))

module _ (bytes part : List ℕ) (reading : feed (AtHeader []) bytes ≡ Ok (AtHeader bytes)) (none : HasNoNewline part) where
  -- a header that is read, once its newline has come, leads on to the first item
  pub header_done : (h : Header) → Ok h ≡ read_header (bytes ++ part) → feed (AtHeader []) (bytes ++ (part ++ 10 ∷ [])) ≡ Ok (before_item h nothing_yet (length (bytes ++ (part ++ 10 ∷ []))))
  unfolding feed
  header_done h e =
      header_ended bytes part [] (part ++ 10 ∷ []) reading none refl
      ∙ ap (λ (r : Result Header ReadError). (r >>= λ h. Ok (before_item h nothing_yet (length (bytes ++ part) + 1))) >>= λ s. feed s []) (sym e)
      ∙ ap (λ (n : ℕ). Ok (before_item h nothing_yet n)) lengths
    where
      lengths : length (bytes ++ part) + 1 ≡ length (bytes ++ (part ++ 10 ∷ []))
      lengths = omega (arith, length-append bytes part, length-append bytes (part ++ 10 ∷ []), length-append part (10 ∷ []))

-- bytes, the rest of a line with its newline, and what follows are the bytes and the piece
pub regrouped : (bytes part left piece : List ℕ) → piece ≡ part ++ 10 ∷ left → (bytes ++ (part ++ 10 ∷ [])) ++ left ≡ bytes ++ piece
regrouped bytes part left piece parts = append_assoc bytes (part ++ 10 ∷ []) left ∙ ap (λ (list : List ℕ). bytes ++ list) (append_assoc part (10 ∷ []) left ∙ sym parts)

-- bytes regrouped at the end of a line, and what follows, end at one offset
pub regrouped_length : (bytes part left piece : List ℕ) (end : ℕ) → piece ≡ part ++ 10 ∷ left → length bytes + length piece ≡ end → length (bytes ++ (part ++ 10 ∷ [])) + length left ≡ end
regrouped_length bytes part left piece end parts place = sym (length-append (bytes ++ (part ++ 10 ∷ [])) left) ∙ ap length (regrouped bytes part left piece parts) ∙ length-append bytes piece ∙ place

-- ---- the end

-- what is read of all bytes is what their end gives where reading stands
pub read_at : (bytes : List ℕ) (state : State) → feed (AtHeader []) bytes ≡ Ok state → read_binary bytes ≡ circuit_at (length bytes) state
unfolding read_binary read_raw
read_at bytes state reading = ap (λ (r : Result State ReadError). circuit (r >>= finish (length bytes))) reading

-- a fault of the bytes so far is one of reading them as a whole
pub read_failed : (fault : ReadError) (bytes : List ℕ) → Fails NoMemory fault (feed (AtHeader []) bytes) → Fails NoMemory fault (read_binary bytes)
unfolding read_binary read_raw
read_failed fault bytes fails = Fails-where fault (feed (AtHeader []) bytes) (read_binary bytes) (λ e. ap (λ (r : Result State ReadError). circuit (r >>= finish (length bytes))) e) fails

header_at_end : (end : ℕ) (line : List ℕ) → circuit_at end (AtHeader line) ≡ (read_header line >>= λ h. circuit_at_end end h nothing_yet)
unfolding read_header header_of
header_at_end end [] = refl
header_at_end end (b ∷ line) = by_read (read_header (b ∷ line))
  where
    by_read : (read : Result Header ReadError) → circuit ((read >>= λ h. Ok (before_item h nothing_yet (length (b ∷ line) + 1))) >>= complete end) ≡ (read >>= λ h. circuit_at_end end h nothing_yet)
    by_read (Ok h) = before_end end h nothing_yet (length (b ∷ line) + 1)
    by_read (Err e) = refl

module _ (bytes : List ℕ) (reading : feed (AtHeader []) bytes ≡ Ok (AtHeader bytes)) where
  -- an input that is the header's line alone gives what follows a header without items
  pub header_alone : (h : Header) → Ok h ≡ read_header bytes → read_binary bytes ≡ circuit_at_end (length bytes) h nothing_yet
  header_alone h e = read_at bytes (AtHeader bytes) reading ∙ header_at_end (length bytes) bytes ∙ ap (λ (r : Result Header ReadError). r >>= λ h. circuit_at_end (length bytes) h nothing_yet) (sym e)

  -- an input that is a first line alone, which is no header, has its fault
  pub header_alone_failed : (fault : ReadError) → Err fault ≡ read_header bytes → Fails NoMemory fault (read_binary bytes)
  header_alone_failed fault e =
      Fails-with fault (read_binary bytes)
      (read_at bytes (AtHeader bytes) reading ∙ header_at_end (length bytes) bytes ∙ ap (λ (r : Result Header ReadError). r >>= λ h. circuit_at_end (length bytes) h nothing_yet) (sym e))
