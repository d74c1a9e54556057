-- Bytes of a piece, taken item by item.
use Rattle.std.proofs.Common.{ℕ, Option, Some, None, ◌≡◌, ◌+◌, ◌-◌, List, [], ◌∷◌, ◌++◌, length, take, drop, Result, Ok, Bool, true, false, not, nat_eq, refl, sym, ap, subst, ◌∙◌, arith}
use Rattle.std.proofs.lemmas.Bool.{and_parts, cond-false, eqb-true, not-true}
use Rattle.std.proofs.lemmas.List.{append-nil, append_assoc, length-append, take_rest, drop_all}
use Rattle.file_words.specs.declared.fault.ReadError.{ReadError}
use Rattle.file_words.specs.declared.fault.ReadError.TheVariants.{NoMemory}
use Rattle.file_words.specs.Cuts.{lacks, HasNoNewline, Cuts}
use Rattle.file_words.specs.Answering.{◌>>=◌, Fails}
use Rattle.ascii_file.specs.declared.header.Header.{Header}
use Rattle.ascii_file.specs.Raw.{Raw}
use Rattle.file_words.proofs.AnsweringLaws.{Fails-bind, Fails-as}
use Rattle.ascii_file.specs.declared.parts.numbers.NumberLine.{NumberLine}
use Rattle.ascii_file.specs.declared.parts.symbols.SymbolLine.{SymbolLine}
use Rattle.ascii_file.specs.parts.Rows.{row_of}
use Rattle.ascii_file.specs.parts.Open.{numbers_with}
use Rattle.ascii_file.specs.parts.Symbols.{text_of, text_with}
use Rattle.binary_file.specs.Deltas.{delta_value}
use Rattle.binary_file.specs.Reading.{State, InLine, InComment, end_line, step, feed}
use Rattle.binary_file.proofs.StepLaws.{comment_fed}
use Rattle.binary_file.specs.Contents.{Contents}
use Rattle.binary_file.specs.declared.items.Items.{Items}
use Rattle.binary_file.specs.declared.opened.Opened.{Opened}
use Rattle.binary_file.specs.declared.opened.Opened.TheVariants.{Comment}
use Rattle.binary_file.specs.Cutting.{IsDeltaTaken}
use Rattle.binary_file.specs.Opened.{IsInNumbers, IsInSymbol, IsInComment, IsOpened}
use Rattle.binary_file.specs.Standing.{Stands, IsFed}

-- bytes of a line
module _ (state : List ℕ → State) (steps : (line : List ℕ) (b : ℕ) → nat_eq b 10 ≡ false → step (state line) b ≡ Ok (state (line ++ b ∷ []))) where
  -- bytes without a newline are more of the line
  pub part_fed : (part line left : List ℕ) → HasNoNewline part → feed (state line) (part ++ left) ≡ feed (state (line ++ part)) left
  unfolding feed
  part_fed [] line left none = ap (λ (l : List ℕ). feed (state l) left) (sym (append-nil line))
  part_fed (b ∷ part) line left none =
      let parts = and_parts (not (nat_eq b 10)) (lacks 10 part) none in
      ap (λ (r : Result State ReadError). r >>= λ s. feed s (part ++ left)) (steps line b (not-true (nat_eq b 10) parts.0)) ∙ part_fed part (line ++ b ∷ []) left parts.1 ∙ ap (λ (l : List ℕ). feed (state l) left) (append_assoc line (b ∷ []) part)

  -- up to its newline
  pub line_fed : (part line left piece : List ℕ) → HasNoNewline part → piece ≡ part ++ 10 ∷ left → feed (state line) piece ≡ (step (state (line ++ part)) 10 >>= λ s. feed s left)
  unfolding feed
  line_fed part line left piece none parts = ap (λ (bytes : List ℕ). feed (state line) bytes) parts ∙ part_fed part line (10 ∷ left) none

  -- a piece without a newline is more of the line, and nothing of it is left
  pub all_fed : (line piece : List ℕ) → HasNoNewline piece → feed (state line) piece ≡ feed (state (line ++ piece)) []
  all_fed line piece none = ap (λ (bytes : List ℕ). feed (state line) bytes) (sym (append-nil piece)) ∙ part_fed piece line [] none

in_line : (h : Header) (raw : Raw) (at : ℕ) (line : List ℕ) (b : ℕ) → nat_eq b 10 ≡ false → step (InLine h raw at line) b ≡ Ok (InLine h raw at (line ++ b ∷ []))
in_line h raw at line b other = cond-false (nat_eq b 10) (end_line h raw at line) (Ok (InLine h raw at (line ++ b ∷ []))) other

-- what follows the end of an item
pub after_end : (new : Items) (end after : ℕ) (state : State) (piece left : List ℕ) (read : Result State ReadError)
    → feed state piece ≡ (read >>= λ s. feed s left) → after + length left ≡ end → (next : State) × (read ≡ Ok next) × Stands new after next → IsFed new end state piece left
after_end new end after state piece left read fed place reached =
    record { next = reached.0; offset = after; stands = reached.2; place = place; fed = fed ∙ ap (λ (r : Result State ReadError). r >>= λ s. feed s left) reached.1 }

-- a fault of what ends an item is one of the piece
pub fault_at_end : (e : ReadError) (state : State) (piece left : List ℕ) (read : Result State ReadError) → feed state piece ≡ (read >>= λ s. feed s left) → Fails NoMemory e read → Fails NoMemory e (feed state piece)
fault_at_end e state piece left read fed fails = Fails-as e (read >>= λ s. feed s left) (feed state piece) fed (Fails-bind e read (λ s. feed s left) fails)

-- nothing of the piece is left
pub none_left : (piece : List ℕ) → take (length piece - length piece) (drop (length piece) piece) ≡ []
none_left piece = take_rest piece (length piece) ∙ drop_all (length piece) piece (omega arith)

-- if all of a piece was taken, nothing is left to read of it
pub all_taken : (new : Items) (end offset : ℕ) (state next : State) (piece left : List ℕ) → left ≡ [] → offset + length piece ≡ end → Stands new (offset + length piece) next → feed state piece ≡ feed next []
    → IsFed new end state piece left
all_taken new end offset state next piece left none place stands fed =
    subst (λ (bytes : List ℕ). IsFed new end state piece bytes) (sym none) (record { next = next; offset = offset + length piece; stands = stands; place = omega (arith, place); fed = fed })

-- a line in which reading stands, up to its newline
pub record LineEnd (IsIn : ℕ → State → Type 0) (end : ℕ) (state : State) (piece left : List ℕ) (after : ℕ) : Type 0 where
  -- the offset of the newline
  pub offset : ℕ
  -- where reading stands there
  pub inside : State
  -- it stands in the line
  pub is_in : IsIn offset inside
  -- the next item begins after the newline
  pub next : offset + 1 ≡ after
  -- the rest of the piece ends where the piece does
  pub place : after + length left ≡ end
  -- reading the piece is reading the newline and then the rest
  pub fed : feed state piece ≡ (step inside 10 >>= λ s. feed s left)

module _ (c : Contents) (at offset : ℕ) where
  -- a line of numbers with more bytes stands where reading does after these
  pub numbers_extended : (line new : NumberLine) (state : State) (is : IsInNumbers c at offset line state) (part : List ℕ) → ((rest : List ℕ) → numbers_with new rest ≡ numbers_with line (part ++ rest))
      → IsInNumbers c at (offset + length part) new (InLine is.h is.raw at (is.bytes ++ part))
  numbers_extended line new state is part extended = record {
    h = is.h;
    raw = is.raw;
    bytes = is.bytes ++ part;
    is = refl;
    contents = is.contents;
    section = is.section;
    line_is = λ rest. extended rest ∙ is.line_is (part ++ rest) ∙ ap row_of (sym (append_assoc is.bytes part rest));
    place = let place = is.place in omega (arith, place, length-append is.bytes part);
  }

  -- a symbol's line with more bytes stands where reading does after these
  pub symbol_extended : (line new : SymbolLine) (state : State) (is : IsInSymbol c at offset line state) (part : List ℕ) → ((rest : List ℕ) → text_with new rest ≡ text_with line (part ++ rest))
      → IsInSymbol c at (offset + length part) new (InLine is.h is.raw at (is.bytes ++ part))
  symbol_extended line new state is part extended = record {
    h = is.h;
    raw = is.raw;
    bytes = is.bytes ++ part;
    is = refl;
    contents = is.contents;
    section = is.section;
    line_is = λ rest. extended rest ∙ is.line_is (part ++ rest) ∙ ap text_of (sym (append_assoc is.bytes part rest));
    place = let place = is.place in omega (arith, place, length-append is.bytes part);
  }

  module _ (end after : ℕ) (part left piece : List ℕ) (cuts : Cuts 10 piece part left) (place : offset + length piece ≡ end) (next : (o : ℕ) → o + length left ≡ end → after ≡ o) where
    at_newline : offset + length part + 1 + length left ≡ end
    at_newline = omega (arith, place, ap length cuts.whole, length-append part (10 ∷ left))

    rest_place : after + length left ≡ end
    rest_place = ap (λ (n : ℕ). n + length left) (next (offset + length part + 1) at_newline) ∙ at_newline

    -- a line of numbers whose newline comes ends there
    pub numbers_line : (line new : NumberLine) (state : State) → IsInNumbers c at offset line state → ((rest : List ℕ) → numbers_with new rest ≡ numbers_with line (part ++ rest))
        → LineEnd (λ o s. IsInNumbers c at o new s) end state piece left after
    numbers_line line new state is extended = record {
      offset = offset + length part;
      inside = InLine is.h is.raw at (is.bytes ++ part);
      is_in = numbers_extended line new state is part extended;
      next = sym (next (offset + length part + 1) at_newline);
      place = rest_place;
      fed = ap (λ (s : State). feed s piece) is.is ∙ line_fed (InLine is.h is.raw at) (in_line is.h is.raw at) part is.bytes left piece cuts.clean cuts.whole;
    }

    -- a symbol's line whose newline comes ends there
    pub symbol_line : (line new : SymbolLine) (state : State) → IsInSymbol c at offset line state → ((rest : List ℕ) → text_with new rest ≡ text_with line (part ++ rest))
        → LineEnd (λ o s. IsInSymbol c at o new s) end state piece left after
    symbol_line line new state is extended = record {
      offset = offset + length part;
      inside = InLine is.h is.raw at (is.bytes ++ part);
      is_in = symbol_extended line new state is part extended;
      next = sym (next (offset + length part + 1) at_newline);
      place = rest_place;
      fed = ap (λ (s : State). feed s piece) is.is ∙ line_fed (InLine is.h is.raw at) (in_line is.h is.raw at) part is.bytes left piece cuts.clean cuts.whole;
    }

-- a piece without a newline is more of the line in which reading stands
pub open_line_fed : (h : Header) (raw : Raw) (at : ℕ) (line piece : List ℕ) (state : State) → state ≡ InLine h raw at line → HasNoNewline piece → feed state piece ≡ feed (InLine h raw at (line ++ piece)) []
open_line_fed h raw at line piece state is none = ap (λ (s : State). feed s piece) is ∙ all_fed (InLine h raw at) (in_line h raw at) line piece none

-- ---- deltas

pub record DeltaEnd (at end : ℕ) (state : State) (end_delta : List ℕ → Result State ReadError) (piece left : List ℕ) (number after : ℕ) : Type 0 where
  -- the bytes of the delta
  pub delta : List ℕ
  -- the number is what they spell
  pub value : number ≡ delta_value delta
  -- reading the piece is ending the delta and then reading the rest
  pub fed : feed state piece ≡ (end_delta delta >>= λ s. feed s left)
  -- the delta ends at the offset after it
  pub at_after : at + length delta ≡ after
  -- the rest of the piece ends where the piece does
  pub place : after + length left ≡ end

module _ (at offset end after : ℕ) (states : List ℕ → State) (end_delta : List ℕ → Result State ReadError) (state : State) (old new piece left : List ℕ) (is : state ≡ states old) (begun : at + length old ≡ offset)
    (place : offset + length piece ≡ end) where
  -- a delta whose last byte came ends there
  pub delta_ended : (more : Option ℕ) (number : ℕ) → more ≡ Some number → ((o : ℕ) → o + length left ≡ end → after ≡ o) → IsDeltaTaken states end_delta old new piece more left → DeltaEnd at end state end_delta piece left number after
  delta_ended more number is_some next taken =
      let t = subst (λ (m : Option ℕ). IsDeltaTaken states end_delta old new piece m left) is_some taken in
      let here : at + length t.0 + length left ≡ end = let lengths = t.3 in omega (arith, lengths, begun, place) in
      let same : after ≡ at + length t.0 = next (at + length t.0) here in
      record { delta = t.0; value = t.1; fed = ap (λ (s : State). feed s piece) is ∙ t.2; at_after = sym same; place = ap (λ (n : ℕ). n + length left) same ∙ here }

  -- if a delta's last byte didn't come, all of the piece was taken
  pub delta_open : (more : Option ℕ) → more ≡ None → IsDeltaTaken states end_delta old new piece more left → (feed state piece ≡ feed (states new) left) × (at + length new + length left ≡ end)
  delta_open more is_none taken =
      let t = subst (λ (m : Option ℕ). IsDeltaTaken states end_delta old new piece m left) is_none taken in
      (ap (λ (s : State). feed s piece) is ∙ t.0, let lengths = t.1 in omega (arith, lengths, begun, place))

-- in the comment nothing changes
pub comment_stays : (h : Header) (raw : Raw) (piece : List ℕ) → feed (InComment h raw) piece ≡ feed (InComment h raw) []
comment_stays h raw piece = comment_fed h raw piece ∙ sym (comment_fed h raw [])

-- all of the piece was taken
pub fed_to_end : (new : Items) (end : ℕ) (state : State) (piece left : List ℕ) (test : Bool) → test ≡ nat_eq (length left) 0 → test ≡ true → IsFed new end state piece left → (next : State) × (feed state piece ≡ Ok next) × Stands new end next
unfolding feed
fed_to_end new end state piece [] test is empty fed = (fed.next, fed.fed, subst (λ (n : ℕ). Stands new n fed.next) (let place = fed.place in omega (arith, place)) fed.stands)
fed_to_end new end state piece (b ∷ left) test is empty fed = absurd (omega (arith, eqb-true (length (b ∷ left)) 0 (sym is ∙ empty)))

-- a piece of the comment
pub comment_taken : (sections : Contents) (at end offset : ℕ) (old new : Opened) (state : State) (piece : List ℕ) → Comment ≡ old → new ≡ Comment → IsOpened sections at offset old state → offset + length piece ≡ end
    → IsFed (record { sections = sections; opened = new; at = at }) end state piece (take (length piece - length piece) (drop (length piece) piece))
comment_taken sections at end offset old new state piece was now stands place =
    let is : IsInComment sections state = subst (λ (o : Opened). IsOpened sections at offset o state) (sym was) stands in
    all_taken (record { sections = sections; opened = new; at = at }) end offset state (InComment is.h is.raw) piece _ (none_left piece) place
    (subst (λ (o : Opened). IsOpened sections at (offset + length piece) o (InComment is.h is.raw)) (sym now) (record { h = is.h; raw = is.raw; is = refl; contents = is.contents; section = is.section }))
    (ap (λ (s : State). feed s piece) is.is ∙ comment_stays is.h is.raw piece)
