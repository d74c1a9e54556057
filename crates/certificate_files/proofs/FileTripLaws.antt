-- What was written is read again.
use Rattle.std.proofs.Common.{ℕ, suc, ◌+◌, ◌-◌, ◌^◌, ◌<◌, ◌≡◌, length, List, [], ◌∷◌, ◌++◌, Option, Some, None, Result, Ok, Err, refl, arith, true, ◌&&◌, ap, sym, ◌∙◌, map, append_assoc, append-nil, codes, is_some}
use Rattle.std.proofs.lemmas.Bool.{and_from, and_parts, cond-true, eqb-true, false≢true, leb-true}
use Rattle.std.specs.List.{list_all, flat_map}
use Rattle.counted_io.specs.Line.{line}
use Rattle.file_words.specs.Answering.{◌>>=◌}
use Rattle.file_words.specs.Lines.{lines}
use Rattle.file_words.specs.Cuts.{lacks}
use Rattle.file_words.proofs.DecimalLaws.{lacks-append, row_line, row-is_line, row_line-lacks_newline, numbers_of-row_line, lines-at_newline}
use Rattle.certificates.specs.declared.certificate.Certificate.{Certificate}
use Rattle.certificate_files.specs.declared.fault.CertError.{CertError}
use Rattle.certificate_files.specs.declared.fault.CertError.TheVariants.{TooLarge}
use Rattle.aig_graph.specs.declared.choice.Choice.{Choice}
use Rattle.aig_graph.specs.declared.choice.Choice.TheVariants.{Greatest, Smallest}
use Rattle.certificates.specs.declared.merged.MergedLatch.{MergedLatch}
use Rattle.certificate_files.specs.declared.file.CertFile.{CertFile}
use Rattle.certificate_files.specs.declared.file.CertPart.{CertPart}
use Rattle.certificate_files.specs.declared.blocks.Opening.TheVariants.{Part}
use Rattle.certificate_files.specs.Files.{begins_with, is_small, is_small_literal, merged_count, merged_latch, count_in_line, merged_in_line, Blocks, Front, ended_parts, file_of, front_of, merging, only_part, read_counted, read_file, read_parts, read_text}
use Rattle.certificate_files.specs.Laws.{is_writable_latch, are_writable_latches, is_writable_block, is_writable_part, lists_merged, may_follow, are_of_one_version, CertificatesRoundTripLaw}
use Rattle.certificate_files.specs.Steps.{ended_blocks, opened}
use Rattle.certificate_files.specs.Texts.{block_text, choice_text, merged_latch_text, merged_text, listed_text, part_text, version_text, first_line_text, file_text}
use Rattle.certificate_files.proofs.MergedLaws.{count-said, latch-said}
use Rattle.certificate_files.proofs.StepLaws.{part_stood}
use Rattle.certificate_files.proofs.RoundTripLaws.{Reads, small_below, lines-of, reads-line, reads-blocks}

-- ---- the lines of merged latches

abbrev count_line : ℕ → List ℕ
count_line n = codes "merged " ++ row_line (n ∷ [])

abbrev latch_line : MergedLatch → List ℕ
latch_line m = codes "m " ++ row_line (m.latch ∷ m.reads ∷ [])

literal_below : (n : ℕ) → is_small_literal n ≡ true → n < 2 ^ 64
literal_below n small = let within = leb-true n (2 ^ 29 - 1) small in omega (arith, within)

count-again : (at n : ℕ) → is_small n ≡ true → count_in_line at (count_line n) ≡ Ok n
count-again at n small =
    count-said at (count_line n) (row_line (n ∷ [])) refl ∙ ap (merged_count at) (numbers_of-row_line n [] (small_below n small, tt))
    ∙ cond-true (is_small n) (Ok n) (Err (TooLarge at)) small

latch-again : (at : ℕ) (m : MergedLatch) → is_writable_latch m ≡ true → merged_in_line at (latch_line m) ≡ Ok m
latch-again at m writable =
    let parts = and_parts (is_small m.latch) (is_small_literal m.reads) writable in
    latch-said at (latch_line m) (row_line (m.latch ∷ m.reads ∷ [])) refl
    ∙ ap (merged_latch at) (numbers_of-row_line m.latch (m.reads ∷ []) (small_below m.latch parts.0, (literal_below m.reads parts.1, tt)))
    ∙ cond-true (is_small m.latch && is_small_literal m.reads) (Ok m) (Err (TooLarge at)) writable

latch-is_line : (m : MergedLatch) → merged_latch_text m ≡ latch_line m ++ 10 ∷ []
latch-is_line m = ap (λ (t : List ℕ). codes "m " ++ t) (row-is_line (m.latch ∷ m.reads ∷ []))

latch-clean : (m : MergedLatch) → lacks 10 (latch_line m) ≡ true
latch-clean m = lacks-append 10 (codes "m ") (row_line (m.latch ∷ m.reads ∷ [])) refl (row_line-lacks_newline (m.latch ∷ m.reads ∷ []))

count-clean : (n : ℕ) → lacks 10 (count_line n) ≡ true
count-clean n = lacks-append 10 (codes "merged ") (row_line (n ∷ [])) refl (row_line-lacks_newline (n ∷ []))

lines-merged : (ms : List MergedLatch) (rest : List ℕ) → lines (merged_text ms ++ rest) ≡ count_line (length ms) ∷ (map latch_line ms ++ lines rest)
lines-merged ms rest =
    ap lines (append_assoc (codes "merged " ++ line (length ms ∷ [])) (flat_map merged_latch_text ms) rest
    ∙ ap (λ (t : List ℕ). (codes "merged " ++ t) ++ behind) (row-is_line (length ms ∷ []))
    ∙ ap (λ (t : List ℕ). codes "merged " ++ t) (append_assoc (row_line (length ms ∷ [])) (10 ∷ []) behind))
    ∙ lines-at_newline (count_line (length ms)) behind (count-clean (length ms))
    ∙ ap (λ (ls : List (List ℕ)). count_line (length ms) ∷ ls) (lines-of merged_latch_text latch_line latch-is_line latch-clean ms rest)
  where
    behind : List ℕ
    behind = flat_map merged_latch_text ms ++ rest

-- the lines of a part that lists merged latches
lines-listed : (ms : List MergedLatch) (bs : List Certificate) (rest : List ℕ)
    → lines ((merged_text ms ++ flat_map block_text bs) ++ rest) ≡ count_line (length ms) ∷ (map latch_line ms ++ lines (flat_map block_text bs ++ rest))
lines-listed ms bs rest = ap lines (append_assoc (merged_text ms) (flat_map block_text bs) rest) ∙ lines-merged ms (flat_map block_text bs ++ rest)

module _ (end : ℕ) (choice : Choice) (before : List CertPart) where
  reads-latches : (earlier ms : List MergedLatch) (rest : List (List ℕ)) (result : Result CertFile CertError) → list_all is_writable_latch ms ≡ true
      → Reads end (merging choice before (earlier ++ ms) 0) rest result → Reads end (merging choice before earlier (length ms)) (map latch_line ms ++ rest) result
  reads-latches earlier [] rest result small later at = ap (λ (ms : List MergedLatch). read_parts at end (merging choice before ms 0) rest) (sym (append-nil earlier)) ∙ later at
  reads-latches earlier (m ∷ ms) rest result small later at =
      let parts = and_parts (is_writable_latch m) (list_all is_writable_latch ms) small in
      reads-line (λ l. merging choice before (earlier ++ l ∷ []) (length ms)) end (merging choice before earlier (suc (length ms))) m (latch_line m) (map latch_line ms ++ rest) result
      (λ a. merged_in_line a (latch_line m)) (λ a. refl) (λ a. latch-again a m parts.0)
      (reads-latches (earlier ++ m ∷ []) ms rest result parts.1
      (λ a. ap (λ (ns : List MergedLatch). read_parts a end (merging choice before ns 0) rest) (append_assoc earlier (m ∷ []) ms) ∙ later a)) at

  -- the merged latches and the blocks of a part, after the line of their number
  reads-counted : (ms : List MergedLatch) (bs : List Certificate) (rest : List ℕ) (result : Result CertFile CertError) → list_all is_writable_latch ms ≡ true → list_all is_writable_block bs ≡ true
      → Reads end (Blocks (front_of choice before (Some ms)) (ended_blocks bs)) (lines rest) result
      → Reads end (merging choice before [] (length ms)) (map latch_line ms ++ lines (flat_map block_text bs ++ rest)) result
  reads-counted ms bs rest result small writable later =
      reads-latches [] ms (lines (flat_map block_text bs ++ rest)) result small (reads-blocks end (front_of choice before (Some ms)) [] bs rest result writable later)

-- ---- the parts after the first one

reads-end : (end : ℕ) (front : Front) (blocks : List Certificate) → Reads end (Blocks front (ended_blocks blocks)) (lines []) (Ok (file_of front.choice (ended_parts front blocks)))
unfolding read_parts lines
reads-end end front blocks at = refl

-- a part that lists merged latches, after another
reads-part : (end : ℕ) (front : Front) (blocks : List Certificate) (listed : Option (List MergedLatch)) (bs : List Certificate) (rest : List ℕ) (result : Result CertFile CertError)
    → is_some front.merged ≡ true → is_some listed ≡ true → are_writable_latches listed ≡ true → list_all is_writable_block bs ≡ true
    → Reads end (Blocks (front_of front.choice (ended_parts front blocks) listed) (ended_blocks bs)) (lines rest) result
    → Reads end (Blocks front (ended_blocks blocks)) (lines ((listed_text listed ++ flat_map block_text bs) ++ rest)) result
reads-part end front blocks None bs rest result lists some latches writable later at = absurd (false≢true some)
reads-part end front blocks (Some ms) bs rest result lists some latches writable later at =
    let parts = and_parts (is_small (length ms)) (list_all is_writable_latch ms) latches in
    ap (read_parts at end (Blocks front (ended_blocks blocks))) (lines-listed ms bs rest)
    ∙ reads-line (λ n. opened front blocks (Part n)) end (Blocks front (ended_blocks blocks)) (length ms) (count_line (length ms)) (map latch_line ms ++ lines (flat_map block_text bs ++ rest)) result
    (λ a. count_in_line a (count_line (length ms)))
    (λ a. part_stood a front blocks (count_line (length ms)) (and_from (is_some front.merged) (begins_with (codes "merged ") (count_line (length ms))) lists refl))
    (λ a. count-again a (length ms) parts.0)
    (reads-counted end front.choice (ended_parts front blocks) ms bs rest result parts.1 writable later) at

reads-more : (end : ℕ) (front : Front) (blocks : List Certificate) (ps : List CertPart) → is_some front.merged ≡ true → list_all lists_merged ps ≡ true → list_all is_writable_part ps ≡ true
    → Reads end (Blocks front (ended_blocks blocks)) (lines (flat_map part_text ps)) (Ok (file_of front.choice (ended_parts front blocks ++ ps)))
reads-more end front blocks [] lists all writable at =
    reads-end end front blocks at ∙ ap (λ (qs : List CertPart). Ok (file_of front.choice qs)) (sym (append-nil (ended_parts front blocks)))
reads-more end front blocks (p ∷ ps) lists all writable at =
    let list = and_parts (lists_merged p) (list_all lists_merged ps) all in
    let parts = and_parts (is_writable_part p) (list_all is_writable_part ps) writable in
    let own = and_parts (are_writable_latches p.merged) (list_all is_writable_block p.blocks) parts.0 in
    let next : Front = front_of front.choice (ended_parts front blocks) p.merged in
    reads-part end front blocks p.merged p.blocks (flat_map part_text ps) (Ok (file_of front.choice (ended_parts front blocks ++ p ∷ ps))) lists list.0 own.0 own.1
    (λ a. reads-more end next p.blocks ps list.0 list.1 parts.1 a ∙ ap (λ (qs : List CertPart). Ok (file_of front.choice qs)) (append_assoc (ended_parts front blocks) (p ∷ []) ps)) at

-- ---- the lines before them

abbrev choice_line : Choice → List ℕ
choice_line Greatest = codes "choice greatest"
choice_line Smallest = codes "choice smallest"

second-lines : (choice : Choice) (rest : List ℕ) → lines (version_text None ++ choice_text choice ++ rest) ≡ codes "fretime-cert 2" ∷ choice_line choice ∷ lines rest
second-lines Greatest rest =
    lines-at_newline (codes "fretime-cert 2") (codes "choice greatest\n" ++ rest) refl
    ∙ ap (λ (ls : List (List ℕ)). codes "fretime-cert 2" ∷ ls) (lines-at_newline (codes "choice greatest") rest refl)
second-lines Smallest rest =
    lines-at_newline (codes "fretime-cert 2") (codes "choice smallest\n" ++ rest) refl
    ∙ ap (λ (ls : List (List ℕ)). codes "fretime-cert 2" ∷ ls) (lines-at_newline (codes "choice smallest") rest refl)

third-lines : (choice : Choice) (ms : List MergedLatch) (rest : List ℕ) → lines (version_text (Some ms) ++ choice_text choice ++ rest) ≡ codes "fretime-cert 3" ∷ choice_line choice ∷ lines rest
third-lines Greatest ms rest =
    lines-at_newline (codes "fretime-cert 3") (codes "choice greatest\n" ++ rest) refl
    ∙ ap (λ (ls : List (List ℕ)). codes "fretime-cert 3" ∷ ls) (lines-at_newline (codes "choice greatest") rest refl)
third-lines Smallest ms rest =
    lines-at_newline (codes "fretime-cert 3") (codes "choice smallest\n" ++ rest) refl
    ∙ ap (λ (ls : List (List ℕ)). codes "fretime-cert 3" ∷ ls) (lines-at_newline (codes "choice smallest") rest refl)

second-chosen : (end : ℕ) (choice : Choice) (rest : List (List ℕ)) → read_file end (codes "fretime-cert 2" ∷ choice_line choice ∷ rest) ≡ read_parts 31 end (only_part choice) rest
second-chosen end Greatest rest = refl
second-chosen end Smallest rest = refl

third-chosen : (end : ℕ) (choice : Choice) (rest : List (List ℕ)) → read_file end (codes "fretime-cert 3" ∷ choice_line choice ∷ rest) ≡ read_counted choice 31 end rest
third-chosen end Greatest rest = refl
third-chosen end Smallest rest = refl

-- ---- the file

-- the lines of the file of these parts, of which the first one lists these latches and has these
-- blocks
first-again : (end : ℕ) (choice : Choice) (listed : Option (List MergedLatch)) (blocks : List Certificate) (ps : List CertPart) → may_follow listed ps ≡ true
    → are_writable_latches listed ≡ true → list_all is_writable_block blocks ≡ true → list_all is_writable_part ps ≡ true
    → read_file end (lines (version_text listed ++ choice_text choice ++ ((listed_text listed ++ flat_map block_text blocks) ++ flat_map part_text ps)))
    ≡ Ok (file_of choice (record { merged = listed; blocks = blocks } ∷ ps))
first-again end choice None blocks [] follow latches writable more =
    ap (read_file end) (second-lines choice (flat_map block_text blocks ++ []))
    ∙ second-chosen end choice (lines (flat_map block_text blocks ++ []))
    ∙ reads-blocks end (front_of choice [] None) [] blocks [] (Ok (file_of choice (record { merged = None; blocks = blocks } ∷ []))) writable (reads-end end (front_of choice [] None) blocks) 31
first-again end choice None blocks (p ∷ ps) follow latches writable more = absurd (omega (arith, eqb-true (length (p ∷ ps)) 0 follow))
first-again end choice (Some ms) blocks ps follow latches writable more =
    let parts = and_parts (is_small (length ms)) (list_all is_writable_latch ms) latches in
    let rest : List ℕ = flat_map part_text ps in
    let result : Result CertFile CertError = Ok (file_of choice (record { merged = Some ms; blocks = blocks } ∷ ps)) in
    let behind : List (List ℕ) = map latch_line ms ++ lines (flat_map block_text blocks ++ rest) in
    ap (read_file end) (third-lines choice ms ((merged_text ms ++ flat_map block_text blocks) ++ rest))
    ∙ third-chosen end choice (lines ((merged_text ms ++ flat_map block_text blocks) ++ rest))
    ∙ ap (read_counted choice 31 end) (lines-listed ms blocks rest)
    ∙ ap (λ (t : Result ℕ CertError). t >>= λ n. read_parts (31 + length (count_line (length ms)) + 1) end (merging choice [] [] n) behind) (count-again 31 (length ms) parts.0)
    ∙ reads-counted end choice [] ms blocks rest result parts.1 writable (reads-more end (front_of choice [] (Some ms)) blocks ps refl follow more) (31 + length (count_line (length ms)) + 1)

file-again : (end : ℕ) (choice : Choice) (parts : List CertPart) → are_of_one_version parts ≡ true → list_all is_writable_part parts ≡ true
    → read_file end (lines (first_line_text parts ++ choice_text choice ++ flat_map part_text parts)) ≡ Ok (file_of choice parts)
file-again end choice [] version writable = absurd (false≢true version)
file-again end choice (p ∷ ps) version writable =
    let parts = and_parts (is_writable_part p) (list_all is_writable_part ps) writable in
    let own = and_parts (are_writable_latches p.merged) (list_all is_writable_block p.blocks) parts.0 in
    first-again end choice p.merged p.blocks ps version own.0 own.1 parts.1

-- what is written of a file that can be written is read as that file
pub the_round_trip_law : (f : CertFile) → CertificatesRoundTripLaw f
unfolding read_text file_text
the_round_trip_law f writable =
    let parts = and_parts (are_of_one_version f.parts) (list_all is_writable_part f.parts) writable in
    file-again (length (file_text f)) f.choice f.parts parts.0 parts.1
