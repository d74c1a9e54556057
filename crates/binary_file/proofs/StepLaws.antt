-- Lines and deltas, byte by byte.
use Rattle.std.proofs.Common.{ℕ, ◌+◌, ◌<◌, ◌≤◌, ◌≡◌, List, [], ◌∷◌, ◌++◌, length, Result, Ok, Err, Bool, true, false, cond, nat_eq, nat_lt, ◌&&◌, refl, sym, ap, ◌∙◌, append_assoc, append-nil, arith}
use Rattle.std.proofs.lemmas.Bool.{and_parts, and_from, cond-true, cond-false, ltb-true, ltb-false, le-ltb, lt-ltb, eqb-false, ne_eqb}
use Rattle.std.proofs.lemmas.List.{length_push}
use Rattle.file_words.specs.declared.fault.ReadError.{ReadError}
use Rattle.file_words.specs.declared.fault.ReadError.TheVariants.{BadDelta}
use Rattle.file_words.specs.Answering.{◌>>=◌}
use Rattle.binary_file.specs.Deltas.{is_delta}
use Rattle.ascii_file.specs.declared.header.Header.{Header}
use Rattle.ascii_file.specs.Raw.{Raw}
use Rattle.ascii_file.specs.Items.{begins_comment}
use Rattle.ascii_file.specs.Reading.{is_symbols}
use Rattle.ascii_file.proofs.StepLaws.{bind_ok}
use Rattle.binary_file.specs.Items.{next_section, first_line, after_line}
use Rattle.binary_file.specs.Reading.{State, AtHeader, InLine, InFirst, InComment, is_gates, before_item, end_header, read_header, read_line, end_line, delta_step, step, feed, complete, finish}
use Rattle.ascii_file.proofs.PieceLaws.{bind_assoc}

-- before an item the end of the input ends nothing
pub nothing_begun : (end : ℕ) (h : Header) (raw : Raw) (at : ℕ) → complete end (before_item h raw at) ≡ finish end (before_item h raw at)
nothing_begun end h raw at = by_test (is_gates (next_section h raw))
  where
    by_test : (test : Bool) → complete end (cond test (InFirst h raw at []) (InLine h raw at [])) ≡ finish end (cond test (InFirst h raw at []) (InLine h raw at []))
    by_test true = refl
    by_test false = refl

line_ended : (end : ℕ) (h : Header) (raw : Raw) (at : ℕ) (line : List ℕ) → (end_line h raw at line >>= complete end) ≡ (end_line h raw at line >>= finish end)
unfolding end_line
line_ended end h raw at line = by_test (is_symbols (next_section h raw) && begins_comment line) (read_line h raw at line)
  where
    by_test : (test : Bool) (read : Result Raw ReadError)
        → (cond test (Ok (InComment h raw)) (read >>= λ more. Ok (before_item h more (at + length line + 1))) >>= complete end)
        ≡ (cond test (Ok (InComment h raw)) (read >>= λ more. Ok (before_item h more (at + length line + 1))) >>= finish end)
    by_test true read = refl
    by_test false (Ok more) = nothing_begun end h more (at + length line + 1)
    by_test false (Err e) = refl

-- a line, whether a newline or the end of the input ends it
pub line_fed : (end : ℕ) (h : Header) (raw : Raw) (at : ℕ) (bytes line : List ℕ) → 0 < length line + length bytes
    → (feed (InLine h raw at line) bytes >>= finish end) ≡ (end_line h raw at (line ++ first_line bytes) >>= λ s. feed s (after_line bytes) >>= finish end)
unfolding feed first_line after_line
line_fed end h raw at [] [] some = absurd (omega (arith, some))
line_fed end h raw at [] (c ∷ line) some = line_ended end h raw at (c ∷ line) ∙ ap (λ (l : List ℕ). end_line h raw at l >>= finish end) (sym (append-nil (c ∷ line)))
line_fed end h raw at (b ∷ bytes) line some = by_test (nat_eq b 10) (line_fed end h raw at bytes (line ++ b ∷ []) (omega (arith, length_push line b)))
  where
    by_test : (test : Bool)
        → (feed (InLine h raw at (line ++ b ∷ [])) bytes >>= finish end) ≡ (end_line h raw at ((line ++ b ∷ []) ++ first_line bytes) >>= λ s. feed s (after_line bytes) >>= finish end)
        → ((cond test (end_line h raw at line) (Ok (InLine h raw at (line ++ b ∷ []))) >>= λ next. feed next bytes) >>= finish end)
        ≡ (end_line h raw at (line ++ cond test [] (b ∷ first_line bytes)) >>= λ s. feed s (cond test bytes (after_line bytes)) >>= finish end)
    by_test true later =
        bind_assoc (end_line h raw at line) (λ next. feed next bytes) (finish end)
        ∙ ap (λ (l : List ℕ). end_line h raw at l >>= λ s. feed s bytes >>= finish end) (sym (append-nil line))
    by_test false later = later ∙ ap (λ (l : List ℕ). end_line h raw at l >>= λ s. feed s (after_line bytes) >>= finish end) (append_assoc line (b ∷ []) (first_line bytes))

header_ended : (end : ℕ) (line : List ℕ) → (end_header line >>= complete end) ≡ (end_header line >>= finish end)
header_ended end line = by_read (read_header line)
  where
    by_read : (read : Result Header ReadError)
        → ((read >>= λ h. Ok (before_item h (record { inputs = []; latches = []; safety = []; sizes = []; liveness = []; gates = []; symbols = [] }) (length line + 1))) >>= complete end)
        ≡ ((read >>= λ h. Ok (before_item h (record { inputs = []; latches = []; safety = []; sizes = []; liveness = []; gates = []; symbols = [] }) (length line + 1))) >>= finish end)
    by_read (Ok h) = nothing_begun end h _ (length line + 1)
    by_read (Err e) = refl

-- the header's line
pub header_fed : (end : ℕ) (bytes line : List ℕ) → 0 < length line + length bytes
    → (feed (AtHeader line) bytes >>= finish end) ≡ (end_header (line ++ first_line bytes) >>= λ s. feed s (after_line bytes) >>= finish end)
unfolding feed first_line after_line
header_fed end [] [] some = absurd (omega (arith, some))
header_fed end [] (c ∷ line) some = header_ended end (c ∷ line) ∙ ap (λ (l : List ℕ). end_header l >>= finish end) (sym (append-nil (c ∷ line)))
header_fed end (b ∷ bytes) line some = by_test (nat_eq b 10) (header_fed end bytes (line ++ b ∷ []) (omega (arith, length_push line b)))
  where
    by_test : (test : Bool)
        → (feed (AtHeader (line ++ b ∷ [])) bytes >>= finish end) ≡ (end_header ((line ++ b ∷ []) ++ first_line bytes) >>= λ s. feed s (after_line bytes) >>= finish end)
        → ((cond test (end_header line) (Ok (AtHeader (line ++ b ∷ []))) >>= λ next. feed next bytes) >>= finish end)
        ≡ (end_header (line ++ cond test [] (b ∷ first_line bytes)) >>= λ s. feed s (cond test bytes (after_line bytes)) >>= finish end)
    by_test true later =
        bind_assoc (end_header line) (λ next. feed next bytes) (finish end) ∙ ap (λ (l : List ℕ). end_header l >>= λ s. feed s bytes >>= finish end) (sym (append-nil line))
    by_test false later = later ∙ ap (λ (l : List ℕ). end_header l >>= λ s. feed s (after_line bytes) >>= finish end) (append_assoc line (b ∷ []) (first_line bytes))

-- in the comment nothing changes
pub comment_fed : (h : Header) (raw : Raw) (bytes : List ℕ) → feed (InComment h raw) bytes ≡ Ok (InComment h raw)
unfolding feed
comment_fed h raw [] = refl
comment_fed h raw (b ∷ bytes) = comment_fed h raw bytes

-- what follows a line is shorter
pub after_shorter : (bytes : List ℕ) → length (after_line bytes) ≤ length bytes
unfolding after_line
after_shorter [] = omega arith
after_shorter (b ∷ bytes) = by_test (nat_eq b 10) (after_shorter bytes)
  where
    by_test : (test : Bool) → length (after_line bytes) ≤ length bytes → length (cond test bytes (after_line bytes)) ≤ length (b ∷ bytes)
    by_test true later = omega arith
    by_test false later = omega (arith, later)

-- what follows the first line of some bytes is at least a byte shorter than they are
pub after_line_shorter : (b : ℕ) (bytes : List ℕ) → length (after_line (b ∷ bytes)) ≤ length bytes
unfolding after_line
after_line_shorter b bytes = by_test (nat_eq b 10)
  where
    by_test : (test : Bool) → length (cond test bytes (after_line bytes)) ≤ length bytes
    by_test true = omega arith
    by_test false = after_shorter bytes

-- ---- deltas

goes_on : (b : ℕ) → nat_lt 127 b ≡ true → nat_lt b 128 ≡ false
goes_on b e = let high = ltb-true 127 b e in le-ltb b 128 (omega (arith, high))

delta_cons : (b : ℕ) (delta : List ℕ) → nat_lt b 128 ≡ false → is_delta delta ≡ true → is_delta (b ∷ delta) ≡ true
unfolding is_delta
delta_cons b [] high form = absurd cc
delta_cons b (c ∷ delta) high form = let least = ltb-false b 128 high in and_from (nat_lt 127 b) (is_delta (c ∷ delta)) (lt-ltb 127 b (omega (arith, least))) form

one_byte : (b : ℕ) → nat_lt b 128 ≡ true → is_delta (b ∷ []) ≡ true
unfolding is_delta
one_byte b e = e

-- how the bytes begin with a delta
pub record DeltaRead (state : List ℕ → State) (end_delta : List ℕ → Result State ReadError) (end : ℕ) (begun bytes : List ℕ) (all : Header × Raw) : Type 0 where
  -- the delta
  pub delta : List ℕ
  -- the bytes after it
  pub rest : List ℕ
  -- the bytes are these two
  pub parts : bytes ≡ delta ++ rest
  -- the delta is one
  pub form : is_delta delta ≡ true
  -- with what had begun it is at most five bytes
  pub few : length begun + length delta ≤ 5
  -- the state after it
  pub next : State
  -- its end leads to that state
  pub ended : end_delta (begun ++ delta) ≡ Ok next
  -- reading on from there gives what was read
  pub read : (feed next rest >>= finish end) ≡ Ok all

-- a state in which a delta at an offset is read, and what its last byte brings
module _ (at : ℕ) (state : List ℕ → State) (end_delta : List ℕ → Result State ReadError) (steps : (delta : List ℕ) (b : ℕ) → step (state delta) b ≡ delta_step at delta b (state (delta ++ b ∷ [])) end_delta) where
  -- a delta of at most five bytes leads where its end does, and the rest is read from there
  pub delta_fed : (delta begun rest : List ℕ) → is_delta delta ≡ true → length begun + length delta ≤ 5 → feed (state begun) (delta ++ rest) ≡ (end_delta (begun ++ delta) >>= λ s. feed s rest)
  unfolding feed is_delta
  delta_fed [] begun rest form few = absurd cc
  delta_fed (b ∷ []) begun rest form few =
      ap (λ (r : Result State ReadError). r >>= λ s. feed s rest)
      (steps begun b ∙ cond-true (nat_lt b 128) (end_delta (begun ++ b ∷ [])) (cond (nat_eq (length begun) 4) (Err (BadDelta at)) (Ok (state (begun ++ b ∷ [])))) form)
  delta_fed (b ∷ c ∷ delta) begun rest form few =
      let parts = and_parts (nat_lt 127 b) (is_delta (c ∷ delta)) form in
      ap (λ (r : Result State ReadError). r >>= λ s. feed s (c ∷ (delta ++ rest)))
      (steps begun b ∙ cond-false (nat_lt b 128) (end_delta (begun ++ b ∷ [])) (cond (nat_eq (length begun) 4) (Err (BadDelta at)) (Ok (state (begun ++ b ∷ [])))) (goes_on b parts.0)
      ∙ cond-false (nat_eq (length begun) 4) (Err (BadDelta at)) (Ok (state (begun ++ b ∷ []))) (ne_eqb (length begun) 4 (λ e. absurd (omega (arith, e, few)))))
      ∙ delta_fed (c ∷ delta) (begun ++ b ∷ []) rest parts.1 (omega (arith, few, length_push begun b))
      ∙ ap (λ (d : List ℕ). end_delta d >>= λ s. feed s rest) (append_assoc begun (b ∷ []) (c ∷ delta))

  module _ (end : ℕ) (all : Header × Raw) (unfinished : (delta : List ℕ) → finish end (state delta) ≡ Ok all → ⊥) where
    -- what is read if a delta has begun begins with the rest of it
    pub delta_was_fed : (bytes begun : List ℕ) → length begun ≤ 4 → (feed (state begun) bytes >>= finish end) ≡ Ok all → DeltaRead state end_delta end begun bytes all
    unfolding feed
    delta_was_fed [] begun few e = absurd (unfinished begun e)
    delta_was_fed (b ∷ bytes) begun few e =
        by_last (delta_was_fed bytes (begun ++ b ∷ [])) (nat_lt b 128) refl (ap (λ (r : Result State ReadError). (r >>= λ s. feed s bytes) >>= finish end) (sym (steps begun b)) ∙ e)
      where
        by_fifth : (length (begun ++ b ∷ []) ≤ 4 → (feed (state (begun ++ b ∷ [])) bytes >>= finish end) ≡ Ok all → DeltaRead state end_delta end (begun ++ b ∷ []) bytes all)
            → nat_lt b 128 ≡ false → (test : Bool) → nat_eq (length begun) 4 ≡ test → ((cond test (Err (BadDelta at)) (Ok (state (begun ++ b ∷ []))) >>= λ s. feed s bytes) >>= finish end) ≡ Ok all
            → DeltaRead state end_delta end begun (b ∷ bytes) all
        by_fifth again high true is e = absurd cc
        by_fifth again high false is e =
            let other : length begun ≡ 4 → ⊥ = eqb-false (length begun) 4 is in
            let later = again (omega (arith, few, other, length_push begun b)) e in
            record {
              delta = b ∷ later.delta;
              rest = later.rest;
              parts = ap (λ (bs : List ℕ). b ∷ bs) later.parts;
              form = delta_cons b later.delta high later.form;
              few = let five = later.few in omega (arith, five, length_push begun b);
              next = later.next;
              ended = ap end_delta (sym (append_assoc begun (b ∷ []) later.delta)) ∙ later.ended;
              read = later.read;
            }

        by_last : (length (begun ++ b ∷ []) ≤ 4 → (feed (state (begun ++ b ∷ [])) bytes >>= finish end) ≡ Ok all → DeltaRead state end_delta end (begun ++ b ∷ []) bytes all)
            → (test : Bool) → nat_lt b 128 ≡ test → ((cond test (end_delta (begun ++ b ∷ [])) (cond (nat_eq (length begun) 4) (Err (BadDelta at)) (Ok (state (begun ++ b ∷ [])))) >>= λ s. feed s bytes) >>= finish end) ≡ Ok all
            → DeltaRead state end_delta end begun (b ∷ bytes) all
        by_last again true is e =
            let last = bind_ok (end_delta (begun ++ b ∷ [])) (λ s. feed s bytes >>= finish end) all (sym (bind_assoc (end_delta (begun ++ b ∷ [])) (λ s. feed s bytes) (finish end)) ∙ e) in
            record { delta = b ∷ []; rest = bytes; parts = refl; form = one_byte b is; few = omega (arith, few); next = last.0; ended = last.1; read = last.2 }
        by_last again false is e = by_fifth again is (nat_eq (length begun) 4) refl e
