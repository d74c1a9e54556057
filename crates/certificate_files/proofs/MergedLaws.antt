-- The lines of merged latches.
use Rattle.std.proofs.Common.{ℕ, suc, ◌+◌, ◌-◌, ◌^◌, ◌≤◌, ◌≡◌, ◌⊎◌, inl, inr, length, List, [], ◌∷◌, ◌++◌, drop, Option, Some, None, Result, Ok, Err, refl, arith, Bool, true, false, ◌&&◌, nat_le, cond, ap, sym, ◌∙◌, map, codes}
use Rattle.std.proofs.lemmas.Bool.{leb-true, leb-false, le-leb, lt-leb}
use Rattle.file_words.specs.Answering.{◌>>=◌, Gives, Leads}
use Rattle.file_words.specs.Lines.{lines, numbers_of}
use Rattle.file_words.specs.Cuts.{IsFirst}
use Rattle.file_words.proofs.AnsweringLaws.{Fails-where}
use Rattle.ascii_file.specs.parts.Rows.{clamped, up_to_nine, row_of}
use Rattle.aig_graph.specs.declared.choice.Choice.{Choice}
use Rattle.certificate_files.specs.declared.fault.CertError.{CertError}
use Rattle.certificate_files.specs.declared.fault.CertError.TheVariants.{BadLine, TooLarge, Truncated, NoMemory}
use Rattle.certificates.specs.declared.merged.MergedLatch.{MergedLatch}
use Rattle.certificate_files.specs.declared.file.CertPart.{CertPart}
use Rattle.certificate_files.specs.Files.{gate_saying, is_small, is_small_literal, merged_count, merged_latch, count_in_line, merged_in_line, merging, read_counted}
use Rattle.certificate_files.specs.Forms.{gated}
use Rattle.certificate_files.specs.Steps.{read_rest, rest_after_choice, rest_of_part}
use Rattle.certificate_files.proofs.FormLaws.{begins_not, small_same, small_is, cut_row, row_cut, gated-cut}
use Rattle.certificate_files.proofs.StepLaws.{then_same, same_start, starts_at, ends_so, line_leads}

-- ---- a line

-- a line that begins with the letters of the number of merged latches says it by its numbers
pub count-said : (at : ℕ) (line rest : List ℕ) → line ≡ codes "merged " ++ rest → count_in_line at line ≡ merged_count at (numbers_of rest)
unfolding count_in_line
count-said at line rest is = ap (count_in_line at) is

-- a line that begins with the letters of a merged latch says it by its numbers
pub latch-said : (at : ℕ) (line rest : List ℕ) → line ≡ codes "m " ++ rest → merged_in_line at line ≡ merged_latch at (numbers_of rest)
unfolding merged_in_line
latch-said at line rest is = ap (merged_in_line at) is

-- a line that doesn't begin with the letters of the number of merged latches is a fault
pub count_other : (at : ℕ) (line : List ℕ) → ((rest : List ℕ) → line ≡ codes "merged " ++ rest → ⊥) → count_in_line at line ≡ Err (BadLine at)
unfolding count_in_line
count_other at line never = ap (λ (b : Bool). merged_count at (cond b (numbers_of (drop 7 line)) None)) (begins_not (codes "merged ") line never)

-- a line that doesn't begin with the letters of a merged latch is a fault
pub latch_other : (at : ℕ) (line : List ℕ) → ((rest : List ℕ) → line ≡ codes "m " ++ rest → ⊥) → merged_in_line at line ≡ Err (BadLine at)
unfolding merged_in_line
latch_other at line never = ap (λ (b : Bool). merged_latch at (cond b (numbers_of (drop 2 line)) None)) (begins_not (codes "m ") line never)

-- ---- numbers cut to 32 bits

literal_same : (n : ℕ) → is_small_literal (clamped n) ≡ is_small_literal n
literal_same n = by_test (is_small_literal n) refl
  where
    by_test : (b : Bool) → is_small_literal n ≡ b → is_small_literal (clamped n) ≡ b
    by_test true is = let within = leb-true n (2 ^ 29 - 1) is in le-leb (clamped n) (2 ^ 29 - 1) (omega (arith, within))
    by_test false is = let past = leb-false n (2 ^ 29 - 1) is in lt-leb (clamped n) (2 ^ 29 - 1) (omega (arith, past))

literal_is : (n : ℕ) → is_small_literal n ≡ true → clamped n ≡ n
literal_is n is = let within = leb-true n (2 ^ 29 - 1) is in omega (arith, within)

-- the number of merged latches is read as that of a gate is
count-gate : (at : ℕ) (o : Option (List ℕ)) → merged_count at o ≡ gated at (gate_saying o)
count-gate at None = refl
count-gate at (Some []) = refl
count-gate at (Some (v ∷ [])) = refl
count-gate at (Some (v ∷ w ∷ ns)) = refl

latch-two : (at a b : ℕ) → merged_latch at (Some (clamped a ∷ clamped b ∷ [])) ≡ merged_latch at (Some (a ∷ b ∷ []))
latch-two at a b =
    ap (λ (t : Bool). cond (t && is_small_literal (clamped b)) (Ok both) (Err (TooLarge at))) (small_same a)
    ∙ ap (λ (t : Bool). cond (is_small a && t) (Ok both) (Err (TooLarge at))) (literal_same b)
    ∙ by_tests (is_small a) refl (is_small_literal b) refl
  where
    both : MergedLatch
    both = record { latch = clamped a; reads = clamped b }

    by_tests : (p : Bool) → is_small a ≡ p → (q : Bool) → is_small_literal b ≡ q
        → cond {A = Result MergedLatch CertError} (p && q) (Ok both) (Err (TooLarge at)) ≡ cond (p && q) (Ok (record { latch = a; reads = b })) (Err (TooLarge at))
    by_tests true p true q = rw (small_is a p, literal_is b q) refl
    by_tests true p false q = refl
    by_tests false p q r = refl

latch-many : (at a b c : ℕ) (ns : List ℕ) → merged_latch at (up_to_nine (a ∷ b ∷ c ∷ ns)) ≡ Err (BadLine at)
latch-many at a b c ns = by_test (nat_le (length (a ∷ b ∷ c ∷ ns)) 9)
  where
    by_test : (t : Bool) → merged_latch at (cond t (Some (a ∷ b ∷ c ∷ ns)) None) ≡ Err (BadLine at)
    by_test true = refl
    by_test false = refl

latch-cut : (at : ℕ) (o : Option (List ℕ)) → merged_latch at (cut_row o) ≡ merged_latch at o
latch-cut at None = refl
latch-cut at (Some []) = refl
latch-cut at (Some (a ∷ [])) = refl
latch-cut at (Some (a ∷ b ∷ [])) = latch-two at a b
latch-cut at (Some (a ∷ b ∷ c ∷ ns)) = latch-many at (clamped a) (clamped b) (clamped c) (map clamped ns)

-- the number of merged latches, cut to 32 bits, says what the line says
pub count-row : (at : ℕ) (line rest : List ℕ) → line ≡ codes "merged " ++ rest → merged_count at (row_of rest) ≡ count_in_line at line
count-row at line rest is =
    ap (merged_count at) (row_cut rest) ∙ count-gate at (cut_row (numbers_of rest)) ∙ gated-cut at (numbers_of rest)
    ∙ sym (count-gate at (numbers_of rest)) ∙ sym (count-said at line rest is)

-- the numbers of a merged latch, cut to 32 bits, say what the line says
pub latch-row : (at : ℕ) (line rest : List ℕ) → line ≡ codes "m " ++ rest → merged_latch at (row_of rest) ≡ merged_in_line at line
latch-row at line rest is = ap (merged_latch at) (row_cut rest) ∙ latch-cut at (numbers_of rest) ∙ sym (latch-said at line rest is)

-- ---- the first of these lines

nothing_counted : (choice : Choice) (at end : ℕ) → read_counted choice at end (lines []) ≡ Err (Truncated end)
unfolding lines
nothing_counted choice at end = refl

-- a text that ends before the number of merged latches is truncated
pub ends_uncounted : (choice : Choice) (end : ℕ) (rest : List ℕ) → rest ≡ [] → rest_after_choice true choice end rest ≡ Err (Truncated end)
ends_uncounted choice end rest none = ap (λ (bytes : List ℕ). rest_after_choice true choice end bytes) none ∙ nothing_counted choice (end - 0) end

-- the offset of the number of merged latches doesn't matter if there is none
pub counted_start : (choice : Choice) (a end : ℕ) (more : List ℕ) → (more ≡ []) ⊎ (a ≡ end - length more) → read_counted choice a end (lines more) ≡ rest_after_choice true choice end more
counted_start choice a end more (inl none) = ap (λ (bytes : List ℕ). read_counted choice a end (lines bytes)) none ∙ nothing_counted choice a end ∙ sym (ends_uncounted choice end more none)
counted_start choice a end more (inr here) = ap (λ (n : ℕ). read_counted choice n end (lines more)) here

count_read : (choice : Choice) (end : ℕ) (text line more : List ℕ) → IsFirst text line more → length text ≤ end
    → rest_after_choice true choice end text ≡ (count_in_line (end - length text) line >>= λ count. read_rest end more (merging choice [] [] count))
count_read choice end text line more first within =
    ap (read_counted choice (end - length text) end) first.whole
    ∙ then_same (count_in_line (end - length text) line) _ (λ count. read_rest end more (merging choice [] [] count))
    (λ count. same_start (end - length text + length line + 1) end more (merging choice [] [] count) (starts_at end text line more first within))

leads_on : {A B : Type 0} (go : A → Result B CertError) (r s : Result A CertError) (read : Result B CertError) → read ≡ (s >>= go) → Gives NoMemory (λ x. x) r s → Leads NoMemory go r read
leads_on go (Ok x) s read is given = is ∙ ap (λ (t : Result _ CertError). t >>= go) given
leads_on go (Err e) s read is given = Fails-where e s read (λ fault. is ∙ ap (λ (t : Result _ CertError). t >>= go) fault) given

-- reading goes on with the number that a line gives, or ends with its fault
pub count_leads : (choice : Choice) (end : ℕ) (text line more : List ℕ) (r : Result ℕ CertError) → IsFirst text line more → length text ≤ end
    → Gives NoMemory (λ n. n) r (count_in_line (end - length text) line) → Leads NoMemory (λ count. rest_of_part choice [] (Some count) end more) r (rest_after_choice true choice end text)
count_leads choice end text line more r first within given =
    leads_on (λ count. rest_of_part choice [] (Some count) end more) r (count_in_line (end - length text) line) _ (count_read choice end text line more first within) given

-- ---- line after line

-- a text that ends if merged latches are lacking is truncated
pub ends_in_merged : (choice : Choice) (end : ℕ) (rest : List ℕ) (before : List CertPart) (merged : List MergedLatch) (left : ℕ) → rest ≡ []
    → read_rest end rest (merging choice before merged (suc left)) ≡ Err (Truncated end)
ends_in_merged choice end rest before merged left none = ends_so end rest (merging choice before merged (suc left)) none

-- reading goes on with the latch that a line gives, or ends with its fault
pub latch_leads : (choice : Choice) (end : ℕ) (text line more : List ℕ) (before : List CertPart) (merged : List MergedLatch) (left : ℕ) (r : Result MergedLatch CertError)
    → IsFirst text line more → length text ≤ end → Gives NoMemory (λ m. m) r (merged_in_line (end - length text) line)
    → Leads NoMemory (λ latch. read_rest end more (merging choice before (merged ++ latch ∷ []) left)) r (read_rest end text (merging choice before merged (suc left)))
latch_leads choice end text line more before merged left r first within given =
    line_leads (λ latch. merging choice before (merged ++ latch ∷ []) left) end text line more (merging choice before merged (suc left)) r (merged_in_line (end - length text) line) first within refl given
