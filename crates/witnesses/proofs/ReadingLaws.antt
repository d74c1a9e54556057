-- What the next line of a witness makes of it.
use Rattle.std.proofs.Common.{ℕ, ◌≡◌, ◌∷◌, [], List, true, false, cond, codes, Result, Ok, Err, ap, ◌∙◌}
use Rattle.std.proofs.lemmas.Bool.{cond-true, cond-false}
use Rattle.file_words.specs.Answering.{◌>>=◌, Fails, Gives}
use Rattle.file_words.specs.Lines.{pieces, is_word}
use Rattle.witnesses.specs.declared.witness.Digit.{Digit}
use Rattle.witnesses.specs.declared.witness.Property.{Property}
use Rattle.witnesses.specs.declared.witness.Witness.{Witness}
use Rattle.witnesses.specs.declared.widths.Widths.{Widths}
use Rattle.witnesses.specs.declared.fault.WitnessError.{WitnessError}
use Rattle.witnesses.specs.declared.fault.WitnessError.TheVariants.{BadHeader, Truncated, Trailing, NoMemory}
use Rattle.witnesses.specs.Statements.{Statement}
use Rattle.witnesses.specs.Rows.{row_of}
use Rattle.witnesses.specs.Properties.{properties_of}
use Rattle.witnesses.specs.Reading.{followed, status_from, properties_from, latches_from, with_step, steps_from, closed_witness}
use Rattle.file_words.proofs.AnsweringLaws.{Fails-where, Gives-where}

abbrev line_of : ℕ → List ℕ → Statement
line_of at text = record { at = at; text = text }

-- ---- the first line

-- a witness without a line is truncated
pub status_missing : (end : ℕ) (ls : List Statement) → ls ≡ [] → status_from end ls ≡ Err (Truncated end)
status_missing end ls none = ap (status_from end) none

-- a witness whose first line is 1 is read on from the next line
pub status_is : (end at : ℕ) (text : List ℕ) (ls rest : List Statement) → ls ≡ line_of at text ∷ rest → is_word text (codes "1") ≡ true → status_from end ls ≡ Ok rest
status_is end at text ls rest next is = ap (status_from end) next ∙ cond-true (is_word text (codes "1")) (Ok rest) (Err (BadHeader at)) is

-- a witness whose first line is another one has a bad header
pub status_other : (end at : ℕ) (text : List ℕ) (ls rest : List Statement) → ls ≡ line_of at text ∷ rest → is_word text (codes "1") ≡ false
    → status_from end ls ≡ Err (BadHeader at)
status_other end at text ls rest next isnt = ap (status_from end) next ∙ cond-false (is_word text (codes "1")) (Ok rest) (Err (BadHeader at)) isnt

-- ---- a line, and those after it

followed_gives : {X : Type 0} (r s : Result X WitnessError) (rest : List Statement) → Gives NoMemory (λ x. x) r s → Gives NoMemory (λ x. (x, rest)) r (followed rest s)
followed_gives r s rest given = Gives-where _ (λ x. x) (λ x. (x, rest)) r s (followed rest s) (λ x is. ap (followed rest) is) (λ e is. ap (followed rest) is) given

-- without a second line a witness is truncated
pub properties_missing : (w : Widths) (end : ℕ) (ls : List Statement) → ls ≡ [] → properties_from w end ls ≡ Err (Truncated end)
properties_missing w end ls none = ap (properties_from w end) none

-- what the words of the second line give is what reading the properties gives
pub properties_read : (w : Widths) (end at : ℕ) (text : List ℕ) (ls rest : List Statement) (r : Result (List Property) WitnessError) → ls ≡ line_of at text ∷ rest
    → Gives NoMemory (λ x. x) r (properties_of w at [] (pieces text)) → Gives NoMemory (λ x. (x, rest)) r (properties_from w end ls)
properties_read w end at text ls rest r next given =
    Gives-where _ (λ x. x) (λ x. (x, rest)) r (properties_of w at [] (pieces text)) (properties_from w end ls)
    (λ x is. ap (properties_from w end) next ∙ ap (followed rest) is) (λ e is. ap (properties_from w end) next ∙ ap (followed rest) is) given

-- without the line of latches a witness is truncated
pub latches_missing : (width end : ℕ) (ls : List Statement) → ls ≡ [] → latches_from width end ls ≡ Err (Truncated end)
latches_missing width end ls none = ap (latches_from width end) none

-- what the digits of the line give is what reading the latches gives
pub latches_read : (width end at : ℕ) (text : List ℕ) (ls rest : List Statement) (r : Result (List Digit) WitnessError) → ls ≡ line_of at text ∷ rest
    → Gives NoMemory (λ x. x) r (row_of width at text) → Gives NoMemory (λ x. (x, rest)) r (latches_from width end ls)
latches_read width end at text ls rest r next given =
    Gives-where _ (λ x. x) (λ x. (x, rest)) r (row_of width at text) (latches_from width end ls)
    (λ x is. ap (latches_from width end) next ∙ ap (followed rest) is) (λ e is. ap (latches_from width end) next ∙ ap (followed rest) is) given

-- ---- the steps

abbrev Steps : Type 0
Steps = Result (List (List Digit) × List Statement) WitnessError

module _ (width end : ℕ) (whole : Steps) (steps : List (List Digit)) (ls : List Statement) (leads : whole ≡ steps_from width end steps ls) where
  -- without a line that ends the steps a witness is truncated
  pub steps_missing : ls ≡ [] → whole ≡ Err (Truncated end)
  unfolding steps_from
  steps_missing none = leads ∙ ap (steps_from width end steps) none

  at_line : (at : ℕ) (text : List ℕ) (rest : List Statement) → ls ≡ line_of at text ∷ rest
      → whole ≡ (cond {A = Steps} (is_word text (codes ".")) (Ok (steps, rest)) (with_step width at text steps >>= λ more. steps_from width end more rest))
  unfolding steps_from
  at_line at text rest next = leads ∙ ap (steps_from width end steps) next

  -- a line with a full stop alone ends the steps
  pub steps_end : (at : ℕ) (text : List ℕ) (rest : List Statement) → ls ≡ line_of at text ∷ rest → is_word text (codes ".") ≡ true → whole ≡ Ok (steps, rest)
  steps_end at text rest next is = at_line at text rest next
      ∙ cond-true {A = Steps} (is_word text (codes ".")) (Ok (steps, rest)) (with_step width at text steps >>= λ more. steps_from width end more rest) is

  at_step : (at : ℕ) (text : List ℕ) (rest : List Statement) → ls ≡ line_of at text ∷ rest → is_word text (codes ".") ≡ false
      → whole ≡ (with_step width at text steps >>= λ more. steps_from width end more rest)
  at_step at text rest next isnt = at_line at text rest next
      ∙ cond-false {A = Steps} (is_word text (codes ".")) (Ok (steps, rest)) (with_step width at text steps >>= λ more. steps_from width end more rest) isnt

  -- another line that is a row of digits is one step more
  pub step_taken : (at : ℕ) (text : List ℕ) (rest : List Statement) (more : List (List Digit)) → ls ≡ line_of at text ∷ rest → is_word text (codes ".") ≡ false
      → with_step width at text steps ≡ Ok more → whole ≡ steps_from width end more rest
  step_taken at text rest more next isnt taken = at_step at text rest next isnt ∙ ap (λ r. r >>= λ m. steps_from width end m rest) taken

  -- a fault of such a line is a fault of the steps
  pub step_fails : (at : ℕ) (text : List ℕ) (rest : List Statement) (e : WitnessError) → ls ≡ line_of at text ∷ rest → is_word text (codes ".") ≡ false
      → Fails NoMemory e (with_step width at text steps) → Fails NoMemory e whole
  step_fails at text rest e next isnt fails = Fails-where e (with_step width at text steps) whole
      (λ f. at_step at text rest next isnt ∙ ap (λ r. r >>= λ m. steps_from width end m rest) f) fails

-- ---- the end

-- a witness that no line follows is the witness that was read
pub closed_last : (w : Witness) (ls : List Statement) → ls ≡ [] → closed_witness w ls ≡ Ok w
closed_last w ls none = ap (closed_witness w) none

-- a line after the end of the steps is a fault
pub closed_trailing : (w : Witness) (at : ℕ) (text : List ℕ) (ls rest : List Statement) → ls ≡ line_of at text ∷ rest → closed_witness w ls ≡ Err (Trailing at)
closed_trailing w at text ls rest next = ap (closed_witness w) next
