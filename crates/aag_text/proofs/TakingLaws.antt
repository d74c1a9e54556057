-- A line more.
use Rattle.std.proofs.Common.{ℕ, ◌≡◌, ◌+◌, Bool, true, false, List, [], length, Result, Ok, cond, ◌&&◌, Option, Some, None, ◌∷◌, refl, ap, ap₂, sym, ◌∙◌, subst}
use Rattle.file_words.specs.declared.fault.ReadError.{ReadError}
use Rattle.file_words.specs.declared.fault.ReadError.TheVariants.{NoMemory}
use Rattle.file_words.specs.Answering.{◌>>=◌, Fails}
use Rattle.ascii_file.specs.declared.header.Header.{Header}
use Rattle.ascii_file.specs.declared.raw.Section.{Section}
use Rattle.ascii_file.specs.Raw.{Raw, RawSymbol}
use Rattle.ascii_file.specs.declared.raw.SymbolKind.{SymbolKind}
use Rattle.ascii_file.specs.Items.{Item, InputItem, LatchItem, SafetyItem, SizeItem, LivenessItem, GateItem, SymbolItem, begins_comment, symbol_of, kind_of}
use Rattle.ascii_file.specs.Reading.{State, InItems, InComment, is_complete, is_symbols, next_section, read_line, take_line}
use Rattle.file_words.proofs.AnsweringLaws.{Fails-same, Fails-bind}
use Rattle.ascii_file.specs.declared.parts.symbols.SymbolText.TheVariants as text
use Rattle.ascii_file.specs.parts.Symbols.{unnamed, text_without, text_of, text_of_item}
use Rattle.aag_text.specs.declared.sections.Sections.{Sections}
use Rattle.aag_text.specs.Taking.{raw_of, IsAt, GoesOn}
use Rattle.aag_text.specs.declared.lines.OpenLine.{OpenLine}
use Rattle.aag_text.specs.declared.lines.OpenLine.TheVariants.{Comment}
use Rattle.aag_text.specs.Lines.{IsOpen, is_comment}
use Rattle.aag_text.specs.Standing.{state_of, StandAt}

-- ---- what begins a comment

no_comment_without : (bytes : List ℕ) → text_without bytes ≡ text.Comment → ⊥
no_comment_without [] e = cc
no_comment_without (letter ∷ bytes) e = by_kind (kind_of letter) e
  where
    by_kind : (found : Option SymbolKind) → unnamed found ≡ text.Comment → ⊥
    by_kind None e = cc
    by_kind (Some kind) e = cc

no_comment_item : (bytes : List ℕ) (found : Option Item) → text_of_item bytes found ≡ text.Comment → ⊥
no_comment_item bytes None e = no_comment_without bytes e
no_comment_item bytes (Some (SymbolItem symbol)) e = cc
no_comment_item bytes (Some (InputItem lit)) e = no_comment_without bytes e
no_comment_item bytes (Some (LatchItem latch)) e = no_comment_without bytes e
no_comment_item bytes (Some (SafetyItem lit)) e = no_comment_without bytes e
no_comment_item bytes (Some (SizeItem size)) e = no_comment_without bytes e
no_comment_item bytes (Some (LivenessItem lit)) e = no_comment_without bytes e
no_comment_item bytes (Some (GateItem gate)) e = no_comment_without bytes e

-- a line that is a comment by its text begins the comment
pub is_comment_text : (bytes : List ℕ) → text.Comment ≡ text_of bytes → begins_comment bytes ≡ true
unfolding text_of
is_comment_text bytes e = by_test (begins_comment bytes) (sym e)
  where
    by_test : (b : Bool) → cond b text.Comment (text_of_item bytes (symbol_of bytes)) ≡ text.Comment → b ≡ true
    by_test true e = refl
    by_test false e = absurd (no_comment_item bytes (symbol_of bytes) e)

-- a line that is no comment by its text doesn't begin one
pub no_comment_text : (bytes : List ℕ) → (text_of bytes ≡ text.Comment → ⊥) → begins_comment bytes ≡ false
unfolding text_of
no_comment_text bytes other = by_test (begins_comment bytes) other
  where
    by_test : (b : Bool) → (cond b text.Comment (text_of_item bytes (symbol_of bytes)) ≡ text.Comment → ⊥) → b ≡ false
    by_test true other = absurd (other refl)
    by_test false other = refl

-- ---- the line that begins the comment

-- a line after the gates that begins the comment leaves the sections in the comment
pub comment_taken : (m : Sections) (symbols : List RawSymbol) (at next : ℕ) (bytes : List ℕ) → IsAt m symbols → is_complete m.header (raw_of m symbols) ≡ true → begins_comment bytes ≡ true
    → (state : State) × (take_line (InItems m.header (raw_of m symbols) at) bytes ≡ Ok state) × StandAt m Comment next state []
comment_taken m symbols at next bytes stands complete begins = (
  InComment m.header (raw_of m symbols),
  ap₂ (λ (a b : Bool). cond {A = Result State ReadError} (a && b) (Ok (InComment m.header (raw_of m symbols))) (read_line m.header (raw_of m symbols) at bytes >>= λ more. Ok (InItems m.header more (at + length bytes + 1)))) complete begins,
  record { symbols = symbols; sections = stands; is_state = refl; is_open = complete },
)

-- a line of the comment
comment_stays : (m : Sections) (at next : ℕ) (state : State) (bytes : List ℕ) → StandAt m Comment at state bytes
    → (after : State) × (take_line state bytes ≡ Ok after) × StandAt m Comment next after []
comment_stays m at next state bytes stand = (
  state,
  ap (λ (s : State). take_line s bytes) stand.is_state ∙ ap Ok (sym stand.is_state),
  record { symbols = stand.symbols; sections = stand.sections; is_state = stand.is_state; is_open = stand.is_open },
)

-- a line of the comment leaves the sections in the comment
pub comment_goes_on : (m : Sections) (old new : OpenLine) (at next : ℕ) (state : State) (bytes : List ℕ) → Comment ≡ old → new ≡ Comment → StandAt m old at state bytes
    → (after : State) × (take_line state bytes ≡ Ok after) × StandAt m new next after []
comment_goes_on m old new at next state bytes was is stand =
    subst (λ (l : OpenLine). (after : State) × (take_line state bytes ≡ Ok after) × StandAt m l next after []) (sym is)
    (comment_stays m at next state bytes (subst (λ (l : OpenLine). StandAt m l at state bytes) (sym was) stand))

-- ---- a line that is no comment

module _ (m : Sections) (symbols : List RawSymbol) (at : ℕ) (bytes : List ℕ) (item : (is_complete m.header (raw_of m symbols) && begins_comment bytes) ≡ false) where
  -- such a line is an item
  line_read : take_line (InItems m.header (raw_of m symbols) at) bytes ≡ (read_line m.header (raw_of m symbols) at bytes >>= λ more. Ok (InItems m.header more (at + length bytes + 1)))
  line_read = ap (λ (b : Bool). cond {A = Result State ReadError} b (Ok (InComment m.header (raw_of m symbols))) (read_line m.header (raw_of m symbols) at bytes >>= λ more. Ok (InItems m.header more (at + length bytes + 1)))) item

  -- a fault of an item's line is one of taking the line
  pub line_fails : (e : ReadError) → Fails NoMemory e (read_line m.header (raw_of m symbols) at bytes) → Fails NoMemory e (take_line (InItems m.header (raw_of m symbols) at) bytes)
  line_fails e fails = Fails-same e _ _ (sym line_read) (Fails-bind e (read_line m.header (raw_of m symbols) at bytes) (λ more. Ok (InItems m.header more (at + length bytes + 1))) fails)

  -- an item's line that goes on as reading does leaves the sections at the next line
  pub line_taken : (new : Sections) (line : OpenLine) (section : Section) → GoesOn m new (read_line m.header (raw_of m symbols) at bytes) → IsOpen line (is_symbols section) [] → is_comment line ≡ false
      → ((some : List RawSymbol) → section ≡ next_section new.header (raw_of new some))
      → (next : State) × (take_line (InItems m.header (raw_of m symbols) at) bytes ≡ Ok next) × StandAt new line (at + length bytes + 1) next []
  line_taken new line section went is_open no_comment is_next =
      let there = at + length bytes + 1 in (
        InItems new.header (raw_of new went.symbols) there,
        line_read ∙ ap (λ (r : Result Raw ReadError). r >>= λ more. Ok (InItems m.header more there)) went.gives ∙ ap (λ (h : Header). Ok (InItems h (raw_of new went.symbols) there)) (sym went.header),
        record {
          symbols = went.symbols;
          sections = went.stands;
          is_state = ap (λ (b : Bool). state_of new went.symbols b there) (sym no_comment);
          is_open = subst (λ (s : Section). IsOpen line (is_symbols s) []) (is_next went.symbols) is_open;
        },
      )
