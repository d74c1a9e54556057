-- The end of the bytes.
use Rattle.std.proofs.Common.{ℕ, Bool, true, ◌≡◌, ◌+◌, ◌<◌, ◌≤◌, List, [], ◌∷◌, length, Result, Ok, refl, ap, sym, ◌∙◌, arith}
use Rattle.aig_graph.specs.Circuits.{Netlist}
use Rattle.file_words.specs.declared.fault.ReadError.{ReadError}
use Rattle.file_words.specs.declared.fault.ReadError.TheVariants.{NoMemory}
use Rattle.file_words.specs.Answering.{◌>>=◌, Fails, Gives}
use Rattle.ascii_file.specs.Reading.{State, is_complete, take_line, finish, read_bytes}
use Rattle.ascii_file.specs.Raw.{RawSymbol}
use Rattle.ascii_file.specs.Pieces.{open_line, fed, with_last_line, closed}
use Rattle.ascii_file.proofs.PieceLaws.{the_pieces_law}
use Rattle.file_words.proofs.AnsweringLaws.{Fails-same, Fails-bind, Gives-same}
use Rattle.aag_text.specs.declared.sections.Sections.{Sections}
use Rattle.aag_text.specs.declared.lines.OpenLine.{OpenLine}
use Rattle.aag_text.specs.declared.lines.OpenLine.TheVariants.{Numbers, Symbol, Comment}
use Rattle.aag_text.specs.declared.items.Items.{Items}
use Rattle.aag_text.specs.Taking.{raw_of, IsAt}
use Rattle.aag_text.specs.Lines.{IsOpen, is_comment}
use Rattle.aag_text.specs.Standing.{state_of, StandAt, Hold}

-- what is read of bytes without a fault is what closing gives after their open line
pub read-closed : (bytes : List ℕ) (state : State) → fed bytes ≡ Ok state → read_bytes bytes ≡ (with_last_line state (open_line bytes) >>= finish (length bytes))
unfolding closed
read-closed bytes state leads = (the_pieces_law bytes []).whole ∙ ap (λ (r : Result State ReadError). r >>= closed bytes) leads

-- the last line, if it has a byte
last_taken : (state : State) (line : List ℕ) → 0 < length line → with_last_line state line ≡ take_line state line
last_taken state [] some = absurd (omega (arith, some))
last_taken state (b ∷ line) some = refl

none_last : (state : State) (line : List ℕ) → length line ≡ 0 → with_last_line state line ≡ Ok state
none_last state [] none = refl
none_last state (b ∷ line) none = absurd (omega (arith, none))

-- r is what the end of the file gives for the sections
abbrev pub Closes : {X : Type 0} → ℕ → (X → Netlist) → Result X ReadError → Sections → Type 0
Closes end view r m = (symbols : List RawSymbol) (in_comment : Bool) (at : ℕ) → IsAt m symbols → (in_comment ≡ true → is_complete m.header (raw_of m symbols) ≡ true) → Gives NoMemory view r (finish end (state_of m symbols in_comment at))

comment_complete : (line : OpenLine) (complete : Bool) (begun : List ℕ) → IsOpen line complete begun → is_comment line ≡ true → complete ≡ true
comment_complete (Numbers line) complete begun is e = absurd (cc)
comment_complete (Symbol line) complete begun is e = absurd (cc)
comment_complete Comment complete begun is e = is

stand_closes : {X : Type 0} (end : ℕ) (view : X → Netlist) (r : Result X ReadError) (m : Sections) (line : OpenLine) (at : ℕ) (state : State) (begun : List ℕ) → StandAt m line at state begun → Closes end view r m → Gives NoMemory view r (finish end state)
stand_closes end view r m line at state begun stand closes =
    Gives-same NoMemory view r _ _ (ap (finish end) (sym stand.is_state))
    (closes stand.symbols (is_comment line) at stand.sections (comment_complete line (is_complete m.header (raw_of m stand.symbols)) begun stand.is_open))

module _ (items : Items) (bytes : List ℕ) (end : ℕ) (hold : Hold items bytes) (whole : length bytes ≡ end) where
  read_by : (end_of_line : Result State ReadError) → with_last_line hold.state (open_line bytes) ≡ end_of_line → read_bytes bytes ≡ (end_of_line >>= finish end)
  read_by end_of_line is =
      read-closed bytes hold.state hold.leads ∙ ap (λ (r : Result State ReadError). r >>= finish (length bytes)) is ∙ ap (λ (n : ℕ). end_of_line >>= finish n) whole

  module _ (is_open : items.at < end) where
    open_read : read_bytes bytes ≡ (take_line hold.state (open_line bytes) >>= finish end)
    open_read = read_by (take_line hold.state (open_line bytes)) (last_taken hold.state (open_line bytes) (omega (arith, hold.ends, whole, is_open)))

    -- a fault of the last line, which no newline ends, is that of the file
    pub open_fails : (e : ReadError) → ((state : State) (line : List ℕ) → StandAt items.sections items.line items.at state line → Fails NoMemory e (take_line state line)) → Fails NoMemory e (read_bytes bytes)
    open_fails e fails = Fails-same e _ _ (sym open_read) (Fails-bind e (take_line hold.state (open_line bytes)) (finish end) (fails hold.state (open_line bytes) hold.stands))

    -- if the last line, which no newline ends, is taken, the file gives what the end gives after it
    pub open_closes : {X : Type 0} (view : X → Netlist) (r : Result X ReadError) (new : Items)
        → ((state : State) (line : List ℕ) → StandAt items.sections items.line items.at state line → (next : State) × (take_line state line ≡ Ok next) × StandAt new.sections new.line (items.at + length line + 1) next [])
        → Closes end view r new.sections → Gives NoMemory view r (read_bytes bytes)
    open_closes view r new takes closes =
        let taken = takes hold.state (open_line bytes) hold.stands in
        Gives-same NoMemory view r _ _ (sym (open_read ∙ ap (λ (s : Result State ReadError). s >>= finish end) taken.1)) (stand_closes end view r new.sections new.line (items.at + length (open_line bytes) + 1) taken.0 [] taken.2 closes)

  -- if no line is open, the file gives what its end gives
  pub none_closes : {X : Type 0} (view : X → Netlist) (r : Result X ReadError) → end ≤ items.at
      → Closes end view r items.sections → Gives NoMemory view r (read_bytes bytes)
  none_closes view r past closes =
      Gives-same NoMemory view r _ _ (sym (read_by (Ok hold.state) (none_last hold.state (open_line bytes) (omega (arith, hold.ends, whole, past)))))
      (stand_closes end view r items.sections items.line items.at hold.state (open_line bytes) hold.stands closes)
