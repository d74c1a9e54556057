-- A fault of the bytes so far is one of the bytes, whatever follows them.
use Rattle.std.proofs.Common.{ℕ, ◌<◌, ◌≡◌, ◌++◌, inl, inr, List, [], Option, Some, None, Result, Ok, Err, IfErr, true, length, append-nil, refl, sym, subst, ap, ◌∙◌, arith}
use Rattle.std.proofs.lemmas.Bool.{cases_lt}
use Rattle.aig_graph.specs.Circuits.{Netlist}
use Rattle.file_words.specs.declared.fault.ReadError.{ReadError}
use Rattle.file_words.specs.declared.fault.ReadError.TheVariants.{BadHeader, NoMemory}
use Rattle.file_words.specs.Codes.{is_fault_of_bytes}
use Rattle.file_words.specs.Answering.{◌>>=◌, Fails, Gives}
use Rattle.ascii_file.specs.Reading.{read_bytes}
use Rattle.ascii_file.specs.Pieces.{fed}
use Rattle.ascii_file.proofs.PieceLaws as ascii
use Rattle.ascii_file.proofs.FaultLaws as ascii_faults
use Rattle.file_words.proofs.AnsweringLaws.{Fails-where}
use Rattle.binary_file.specs.Reading.{AtHeader, feed, read_binary}
use Rattle.binary_file.proofs.PieceLaws as binary
use Rattle.binary_file.proofs.FaultLaws as binary_faults
use Rattle.file_words.specs.declared.spelling.Spelling.{Spelling}
use Rattle.file_words.specs.declared.spelling.Spelling.TheVariants.{Ascii, Binary}
use Rattle.aig_binary.specs.Spellings.{spelling_of, read_in_spelling, read_any}
use Rattle.aig_binary.specs.Pieces.{IsFeedError, IsFinishError}
use Rattle.aig_binary.specs.Fed.{ascii_fed, binary_fed, fed_any}
use Rattle.aig_binary.proofs.LetterLaws.{letters_stay, named_stays}
use Rattle.aig_binary.proofs.AnswerLaws.{by_spelling, read_by_spelling, fed_short, fed_neither}

same_err : {X : Type 0} (a b : ReadError) → ◌≡◌ {A = Result X ReadError} (Err a) (Err b) → a ≡ b
same_err a b is = cc

ok_isnt : {X : Type 0} (x : X) (e : ReadError) → ◌≡◌ {A = Result X ReadError} (Ok x) (Err e) → ⊥
ok_isnt x e is = cc

-- a fault that is kept of a result is the result's
err_then : {X : Type 0} (read : Result X ReadError) (e : ReadError) → ◌≡◌ {A = Result (Unit {0}) ReadError} (read >>= λ x. Ok tt) (Err e) → read ≡ Err e
err_then (Ok x) e is = absurd (ok_isnt tt e is)
err_then (Err f) e is = ap Err (same_err f e is)

module _ (bytes rest : List ℕ) (e : ReadError) where
  ascii_fault : ascii_fed bytes ≡ Err e → read_bytes (bytes ++ rest) ≡ Err e
  ascii_fault is = (ascii.the_pieces_law (bytes ++ rest) []).fault e ((ascii.the_pieces_law bytes rest).stays e (err_then (fed bytes) e is))

  binary_fault : binary_fed bytes ≡ Err e → read_binary (bytes ++ rest) ≡ Err e
  binary_fault is = (binary.the_pieces_law bytes rest).stays e (err_then (feed (AtHeader []) bytes) e is)

  no_name_fault : spelling_of bytes ≡ None → fed_any bytes ≡ Err e → read_any (bytes ++ rest) ≡ Err e
  no_name_fault none is = elim (cases_lt (length bytes) 3) [
    | inl few ↦ absurd (ok_isnt tt e (sym (fed_short bytes few) ∙ is))
    | inr many ↦ three (omega (arith, many))
  ]
    where
      three : 2 < length bytes → read_any (bytes ++ rest) ≡ Err e
      three many =
          read_by_spelling (bytes ++ rest) None (letters_stay bytes rest many ∙ none)
          ∙ ap (λ (fault : ReadError). Err fault) (same_err (BadHeader 0) e (sym (fed_neither bytes none many) ∙ is))

  by_name : (spelling : Option Spelling) → spelling_of bytes ≡ spelling → fed_any bytes ≡ Err e → read_any (bytes ++ rest) ≡ Err e
  by_name None named is = no_name_fault named is
  by_name (Some Ascii) named is = read_by_spelling (bytes ++ rest) (Some Ascii) (named_stays bytes rest Ascii named) ∙ ascii_fault (sym (by_spelling bytes (Some Ascii) named) ∙ is)
  by_name (Some Binary) named is = read_by_spelling (bytes ++ rest) (Some Binary) (named_stays bytes rest Binary named) ∙ binary_fault (sym (by_spelling bytes (Some Binary) named) ∙ is)

  -- a fault of the bytes so far is the fault of these with any bytes after them
  pub fault_stays : fed_any bytes ≡ Err e → read_any (bytes ++ rest) ≡ Err e
  fault_stays is = by_name (spelling_of bytes) refl is

-- neither memory nor a reader has it
fault_in : (spelling : Option Spelling) (bytes : List ℕ) (e : ReadError) → read_in_spelling spelling bytes ≡ Err e → is_fault_of_bytes e ≡ true
fault_in None bytes e is = subst (λ (fault : ReadError). is_fault_of_bytes fault ≡ true) (same_err (BadHeader 0) e is) refl
fault_in (Some Ascii) bytes e is = ascii_faults.fault_of_bytes bytes e is
fault_in (Some Binary) bytes e is = binary_faults.fault_of_bytes bytes e is

fault_of_bytes : (bytes : List ℕ) (e : ReadError) → read_any bytes ≡ Err e → is_fault_of_bytes e ≡ true
fault_of_bytes bytes e is = fault_in (spelling_of bytes) bytes e (sym (read_by_spelling bytes (spelling_of bytes) refl) ∙ is)

-- ---- what a reader of circuits is to answer

feed_fails : (bytes : List ℕ) (e : ReadError) → Fails NoMemory e (fed_any bytes) → IsFeedError bytes e
feed_fails bytes e (inl none) = inl none
feed_fails bytes e (inr is) = inr (record { of_bytes = fault_of_bytes (bytes ++ []) e (fault_stays bytes [] e is); fault = λ rest. fault_stays bytes rest e is })

finish_fails : (bytes : List ℕ) (e : ReadError) → Fails NoMemory e (read_any bytes) → IsFinishError bytes e
finish_fails bytes e (inl none) = inl none
finish_fails bytes e (inr is) = inr (record { of_bytes = fault_of_bytes bytes e is; fault = is })

-- an error that feeding gives is memory's, or a fault of the bytes whatever follows
pub feed_error : (result : Result (Unit {0}) ReadError) (bytes : List ℕ) → Gives NoMemory (λ u. u) result (fed_any bytes) → IfErr result (IsFeedError bytes)
feed_error (Ok u) bytes gives = tt
feed_error (Err e) bytes gives = feed_fails bytes e gives

-- an error that finishing gives is memory's, or a fault of the bytes if nothing follows
pub finish_error : (result : Result Netlist ReadError) (bytes : List ℕ) → Gives NoMemory (λ c. c) result (read_any bytes) → IfErr result (IsFinishError bytes)
finish_error (Ok c) bytes gives = tt
finish_error (Err e) bytes gives = finish_fails bytes e gives

-- a fault of a part is one of the whole
pub part_fails : (bytes : List ℕ) (e : ReadError) → Fails NoMemory e (fed_any bytes) → Fails NoMemory e (read_any bytes)
part_fails bytes e fails = Fails-where e (fed_any bytes) (read_any bytes) (λ is. subst (λ (list : List ℕ). read_any list ≡ Err e) (append-nil bytes) (fault_stays bytes [] e is)) fails
