-- Bytes more.
use Rattle.std.proofs.Common.{ℕ, ◌≡◌, ◌+◌, ◌-◌, Bool, List, [], ◌∷◌, ◌++◌, length, Result, Ok, Err, refl, ap, sym, ◌∙◌, subst, arith, append_assoc, append-nil, length-append}
use Rattle.file_words.specs.declared.fault.ReadError.{ReadError}
use Rattle.file_words.specs.declared.fault.ReadError.TheVariants.{NoMemory}
use Rattle.file_words.specs.Cuts.{HasNoNewline, Cuts}
use Rattle.file_words.specs.Answering.{◌>>=◌, Fails}
use Rattle.ascii_file.specs.Reading.{State, AtHeader, is_complete, take_line, take_lines}
use Rattle.ascii_file.specs.Pieces.{ended_lines, open_line, fed}
use Rattle.ascii_file.proofs.PieceLaws.{part_taken, end_taken, take_lines-append, the_pieces_law}
use Rattle.file_words.proofs.AnsweringLaws.{Fails-where, Fails-same}
use Rattle.aag_text.specs.declared.sections.Sections.{Sections}
use Rattle.aag_text.specs.Taking.{raw_of}
use Rattle.aag_text.specs.declared.lines.OpenLine.{OpenLine}
use Rattle.aag_text.specs.declared.items.Items.{Items}
use Rattle.aag_text.specs.Lines.{IsOpen, is_comment}
use Rattle.aag_text.specs.Standing.{state_of, StandAt, Hold, HoldBefore}

-- ---- the bytes alone

-- a fault of what was fed stays
pub fails_stays : (e : ReadError) (bytes more : List ℕ) → Fails NoMemory e (fed bytes) → Fails NoMemory e (fed (bytes ++ more))
fails_stays e bytes more fails = Fails-where e (fed bytes) (fed (bytes ++ more)) ((the_pieces_law bytes more).stays e) fails

-- a part without a newline ends no line
pub fed-part : (part bytes : List ℕ) → HasNoNewline part → fed (bytes ++ part) ≡ fed bytes
unfolding fed
fed-part part bytes one_line = ap (take_lines AtHeader) (part_taken part bytes one_line).0

-- a newline ends the open line
pub fed-newline : (bytes : List ℕ) (state : State) → fed bytes ≡ Ok state → fed (bytes ++ 10 ∷ []) ≡ take_line state (open_line bytes)
unfolding fed take_lines
fed-newline bytes state leads =
    ap (take_lines AtHeader) (end_taken [] bytes refl).0
    ∙ take_lines-append (ended_lines bytes) ((open_line bytes ++ []) ∷ []) AtHeader
    ∙ ap (λ (r : Result State ReadError). r >>= λ next. take_lines next ((open_line bytes ++ []) ∷ [])) leads
    ∙ ap (λ (line : List ℕ). take_line state line >>= λ next. Ok next) (append-nil (open_line bytes))
    ∙ alone (take_line state (open_line bytes))
  where
    alone : (r : Result State ReadError) → (r >>= λ next. Ok next) ≡ r
    alone (Ok next) = refl
    alone (Err e) = refl

-- ---- more of the open line

-- what an open line became by a part
record Grows (old new : OpenLine) (part : List ℕ) : Type 0 where
  same_kind : is_comment new ≡ is_comment old
  goes_on : (complete : Bool) (begun : List ℕ) → IsOpen old complete begun → IsOpen new complete (begun ++ part)

part_stands : (m : Sections) (old new : OpenLine) (at : ℕ) (state : State) (begun part : List ℕ) → Grows old new part → StandAt m old at state begun → StandAt m new at state (begun ++ part)
part_stands m old new at state begun part grows stand = record {
  symbols = stand.symbols;
  sections = stand.sections;
  is_state = stand.is_state ∙ ap (λ (b : Bool). state_of m stand.symbols b at) (sym grows.same_kind);
  is_open = grows.goes_on (is_complete m.header (raw_of m stand.symbols)) begun stand.is_open;
}

-- a part without a newline is held as more of the open line
pub part_held : (items : Items) (new : OpenLine) (bytes part : List ℕ) → HasNoNewline part → is_comment new ≡ is_comment items.line
    → ((complete : Bool) (begun : List ℕ) → IsOpen items.line complete begun → IsOpen new complete (begun ++ part)) → Hold items bytes → Hold (record items { line = new }) (bytes ++ part)
part_held items new bytes part one_line same_kind goes_on hold =
    let opened = (part_taken part bytes one_line).1 in
    record {
      state = hold.state;
      leads = fed-part part bytes one_line ∙ hold.leads;
      stands = subst (λ (begun : List ℕ). StandAt items.sections new items.at hold.state begun) (sym opened)
          (part_stands items.sections items.line new items.at hold.state (open_line bytes) part (record { same_kind = same_kind; goes_on = goes_on }) hold.stands);
      ends = omega (arith, hold.ends, ap length opened, length-append (open_line bytes) part, length-append bytes part);
    }

-- ---- the end of a line

module _ (items : Items) (bytes : List ℕ) (hold : Hold items bytes) where
  -- a fault of the open line is one of the bytes once its newline has come
  pub newline_fails : (e : ReadError) → ((state : State) (line : List ℕ) → StandAt items.sections items.line items.at state line → Fails NoMemory e (take_line state line)) → Fails NoMemory e (fed (bytes ++ 10 ∷ []))
  newline_fails e fails = Fails-same e _ _ (sym (fed-newline bytes hold.state hold.leads)) (fails hold.state (open_line bytes) hold.stands)

  -- an open line that is taken once its newline has come leaves the new items after it
  pub newline_held : (new : Items) (at : ℕ) → at ≡ length bytes + 1
      → ((state : State) (line : List ℕ) → StandAt items.sections items.line items.at state line → (next : State) × (take_line state line ≡ Ok next) × StandAt new.sections new.line (items.at + length line + 1) next [])
      → Hold (record new { at = at }) (bytes ++ 10 ∷ [])
  newline_held new at is_at takes =
      let taken = takes hold.state (open_line bytes) hold.stands in
      let opened : open_line (bytes ++ 10 ∷ []) ≡ [] = (end_taken [] bytes refl).1 in
      let there : items.at + length (open_line bytes) + 1 ≡ at = omega (arith, hold.ends, is_at) in
      record {
        state = taken.0;
        leads = fed-newline bytes hold.state hold.leads ∙ taken.1;
        stands = subst (λ (begun : List ℕ). StandAt new.sections new.line at taken.0 begun) (sym opened) (subst (λ (n : ℕ). StandAt new.sections new.line n taken.0 []) there taken.2);
        ends = omega (arith, is_at, ap length opened, length-append bytes (10 ∷ []));
      }

-- ---- a line of the bytes that are left

-- bytes up to a line's newline and the rest are the bytes
pub behind_line : (taken part rest left bytes : List ℕ) → Cuts 10 left part rest → taken ++ left ≡ bytes → ((taken ++ part) ++ 10 ∷ []) ++ rest ≡ bytes
behind_line taken part rest left bytes cuts parts =
    append_assoc (taken ++ part) (10 ∷ []) rest ∙ append_assoc taken part (10 ∷ rest) ∙ ap (λ (xs : List ℕ). taken ++ xs) (sym cuts.whole) ∙ parts

module _ (items : Items) (new_line : OpenLine) (part rest left bytes : List ℕ) (cuts : Cuts 10 left part rest) (same_kind : is_comment new_line ≡ is_comment items.line)
    (goes_on : (complete : Bool) (begun : List ℕ) → IsOpen items.line complete begun → IsOpen new_line complete (begun ++ part)) (before : HoldBefore items left bytes) where
  abbrev with_part : Items
  with_part = record items { line = new_line }

  part_taken_in : Hold with_part (before.taken ++ part)
  part_taken_in = part_held items new_line before.taken part cuts.clean same_kind goes_on before.hold

  -- a fault of the next line of what is left is one of the bytes
  pub line_fails_in : (e : ReadError) → ((state : State) (line : List ℕ) → StandAt items.sections new_line items.at state line → Fails NoMemory e (take_line state line)) → Fails NoMemory e (fed bytes)
  line_fails_in e fails =
      subst (λ (xs : List ℕ). Fails NoMemory e (fed xs)) (behind_line before.taken part rest left bytes cuts before.parts)
      (fails_stays e ((before.taken ++ part) ++ 10 ∷ []) rest (newline_fails with_part (before.taken ++ part) part_taken_in e fails))

  -- a next line that is taken leaves the new items before the rest
  pub line_taken_in : (new : Items) (at end : ℕ) → length bytes ≡ end → at ≡ end - length rest
      → ((state : State) (line : List ℕ) → StandAt items.sections new_line items.at state line → (next : State) × (take_line state line ≡ Ok next) × StandAt new.sections new.line (items.at + length line + 1) next [])
      → HoldBefore (record new { at = at }) rest bytes
  line_taken_in new at end whole is_at takes =
      let parts = behind_line before.taken part rest left bytes cuts before.parts in
      record {
        taken = (before.taken ++ part) ++ 10 ∷ [];
        parts = parts;
        hold = newline_held with_part (before.taken ++ part) part_taken_in new at
            (omega (arith, whole, is_at, ap length parts, length-append ((before.taken ++ part) ++ 10 ∷ []) rest, length-append (before.taken ++ part) (10 ∷ []))) takes;
      }

-- the bytes that are left, which have no newline
pub rest_held : (items : Items) (new_line : OpenLine) (left bytes : List ℕ) → HasNoNewline left → is_comment new_line ≡ is_comment items.line
    → ((complete : Bool) (begun : List ℕ) → IsOpen items.line complete begun → IsOpen new_line complete (begun ++ left)) → HoldBefore items left bytes → Hold (record items { line = new_line }) bytes
rest_held items new_line left bytes one_line same_kind goes_on before =
    subst (λ (xs : List ℕ). Hold (record items { line = new_line }) xs) before.parts (part_held items new_line before.taken left one_line same_kind goes_on before.hold)
