-- What was read can be written.
use Rattle.std.proofs.Common.{ℕ, suc, zero, ◌+◌, ◌-◌, ◌^◌, ◌<◌, ◌≤◌, ◌≡◌, length, List, [], ◌∷◌, ◌++◌, drop, Option, Some, None, Result, Ok, Err, IfOk, refl, arith, Bool, true, false, not, ◌&&◌, ◌==◌, cond, ap, ◌∙◌, subst, map, length-append, codes, is_some}
use Rattle.std.proofs.lemmas.Bool.{and_parts, and_from, false≢true, leb-true, le-leb, ne_eqb}
use Rattle.std.proofs.lemmas.List.Folds.{list_all-append}
use Rattle.std.specs.List.{list_all}
use Rattle.file_words.specs.Answering.{◌>>=◌}
use Rattle.file_words.specs.Lines.{with_front, lines, pieces, numbers_of, is_word}
use Rattle.frame_net.specs.declared.net.Point.{Point}
use Rattle.certificates.specs.declared.certificate.Certificate.{Certificate}
use Rattle.certificate_files.specs.declared.fault.CertError.{CertError}
use Rattle.certificate_files.specs.declared.fault.CertError.TheVariants.{BadHeader, TooLarge}
use Rattle.aig_graph.specs.declared.choice.Choice.{Choice}
use Rattle.aig_graph.specs.declared.choice.Choice.TheVariants.{Greatest}
use Rattle.certificates.specs.declared.merged.MergedLatch.{MergedLatch}
use Rattle.certificate_files.specs.declared.file.CertFile.{CertFile}
use Rattle.certificate_files.specs.declared.file.CertPart.{CertPart}
use Rattle.certificate_files.specs.Files.{begins_with, is_point, point_of_word, is_small, Saying, Frame, Gate, Route, frame_saying, gate_saying, route_of, saying_of, Progress, settled, progress_after, sized, taken, nothing_read, is_small_literal, numbers_after, merged_latch, count_in_line, merged_count, merged_in_line, Blocks, Front, Merging, Standing, begins_part, ended_parts, file_at_end, merging, only_part, part_of, stood, read_parts, read_counted, choice_in_line, read_after_choice, read_choice, read_chosen, read_file, read_text}
use Rattle.certificate_files.specs.Forms.{are_small}
use Rattle.certificate_files.specs.Laws.{is_writable_route, is_writable_block, is_writable_latch, are_writable_latches, is_writable_part, lists_merged, may_follow, are_of_one_version, is_writable, RereadingLaw}
use Rattle.certificate_files.specs.Steps.{certificate_block, block_with_gate, with_route}
use Rattle.certificate_files.proofs.FileTripLaws.{the_round_trip_law}

-- ---- a route has a point

abbrev HasPoint : Option Saying → Type 0
HasPoint (Some (Route points)) = 0 < length points
HasPoint said = Unit {0}

front-some : (b : ℕ) (ps : List (List ℕ)) → 0 < length (with_front b ps)
front-some b [] = omega arith
front-some b (p ∷ ps) = omega arith

pieces-some : (bytes : List ℕ) → 0 < length (pieces bytes)
unfolding pieces
pieces-some [] = omega arith
pieces-some (b ∷ bytes) = by_test (b == 32)
  where
    by_test : (t : Bool) → 0 < length (cond t ([] ∷ pieces bytes) (with_front b (pieces bytes)))
    by_test true = omega arith
    by_test false = front-some b (pieces bytes)

frame-point : (o : Option (List ℕ)) → HasPoint (frame_saying o)
frame-point None = tt
frame-point (Some []) = tt
frame-point (Some (a ∷ [])) = tt
frame-point (Some (a ∷ b ∷ [])) = tt
frame-point (Some (a ∷ b ∷ c ∷ [])) = tt
frame-point (Some (a ∷ b ∷ c ∷ d ∷ ns)) = tt

gate-point : (o : Option (List ℕ)) → HasPoint (gate_saying o)
gate-point None = tt
gate-point (Some []) = tt
gate-point (Some (v ∷ [])) = tt
gate-point (Some (v ∷ w ∷ ns)) = tt

map-some : (ws : List (List ℕ)) → 0 < length ws → 0 < length (map point_of_word ws)
map-some [] some = some
map-some (w ∷ ws) some = omega arith

route-point : (ws : List (List ℕ)) → 0 < length ws → HasPoint (route_of ws)
route-point ws some = by_test (list_all is_point ws)
  where
    by_test : (b : Bool) → HasPoint (cond b (Some (Route (map point_of_word ws))) None)
    by_test true = map-some ws some
    by_test false = tt

said-point : (line : List ℕ) → HasPoint (saying_of line)
unfolding saying_of
said-point line = by_tests (begins_with (codes "frame ") line) (begins_with (codes "g ") line) (begins_with (codes "r ") line)
  where
    by_tests : (f g r : Bool) → HasPoint (cond f (frame_saying (numbers_of (drop 6 line))) (cond g (gate_saying (numbers_of (drop 2 line))) (cond r (route_of (pieces (drop 2 line))) None)))
    by_tests true g r = frame-point (numbers_of (drop 6 line))
    by_tests false true r = gate-point (numbers_of (drop 2 line))
    by_tests false false true = route-point (pieces (drop 2 line)) (pieces-some (drop 2 line))
    by_tests false false false = tt

-- ---- what has been read so far

record IsOpen (b : Certificate) (gates routes : ℕ) : Type 0 where
  count : is_small b.count ≡ true
  small : list_all is_small b.gates ≡ true
  writable : list_all is_writable_route b.routes ≡ true
  gate_count : length b.gates + gates ≤ 2 ^ 28 - 1
  route_count : length b.routes + routes ≤ 2 ^ 28 - 1

abbrev Begun : Option Certificate → ℕ → ℕ → Type 0
Begun None gates routes = Unit {0}
Begun (Some b) gates routes = IsOpen b gates routes × (0 < gates + routes)

record IsGood (p : Progress) : Type 0 where
  done : list_all is_writable_block p.blocks ≡ true
  begun : Begun p.begun p.gates p.routes

small_from : (n : ℕ) → n ≤ 2 ^ 28 - 1 → is_small n ≡ true
small_from n within = le-leb n (2 ^ 28 - 1) within

one_more : {X : Type 0} (test : X → Bool) (xs : List X) (x : X) → list_all test xs ≡ true → test x ≡ true → list_all test (xs ++ x ∷ []) ≡ true
one_more test xs x all is = list_all-append test xs (x ∷ []) ∙ and_from (list_all test xs) (test x && true) all (and_from (test x) true is refl)

whole : (b : Certificate) → IsOpen b 0 0 → is_writable_block b ≡ true
whole b o =
    and_from (is_small b.count) _ o.count
    (and_from (is_small (length b.gates)) _ (small_from (length b.gates) (omega (arith, o.gate_count)))
    (and_from (is_small (length b.routes)) _ (small_from (length b.routes) (omega (arith, o.route_count)))
    (and_from (list_all is_small b.gates) (list_all is_writable_route b.routes) o.small o.writable)))

settled_good : (done : List Certificate) (b : Certificate) (gates routes : ℕ) → list_all is_writable_block done ≡ true → IsOpen b gates routes → IsGood (settled done b gates routes)
settled_good done b zero zero all o = record { done = one_more is_writable_block done b all (whole b o); begun = tt }
settled_good done b zero (suc routes) all o = record { done = all; begun = (o, omega arith) }
settled_good done b (suc gates) routes all o = record { done = all; begun = (o, omega arith) }

-- ---- one line

by_size : {A : Type 0} (P : A → Type 0) (small : Bool) (x : A) (fault : CertError) → (small ≡ true → P x) → IfOk (cond {A = Result A CertError} small (Ok x) (Err fault)) P
by_size P true x fault has = has refl
by_size P false x fault has = tt

said_good : (at : ℕ) (p : Progress) (begun : Option Certificate) (lacks : ℕ) (s : Saying) → HasPoint (Some s) → list_all is_writable_block p.blocks ≡ true → Begun begun lacks p.routes
    → IfOk (sized at s (progress_after p begun lacks s)) IsGood
said_good at p None lacks (Frame count gates routes) some all lacking =
    by_size IsGood (is_small count && is_small gates && is_small routes) (settled p.blocks (certificate_block count [] []) gates routes) (TooLarge at)
    (λ small. let last = and_parts (is_small count && is_small gates) (is_small routes) small in
    let first = and_parts (is_small count) (is_small gates) last.0 in
    let few_gates = leb-true gates (2 ^ 28 - 1) first.1 in
    let few_routes = leb-true routes (2 ^ 28 - 1) last.1 in
    settled_good p.blocks (certificate_block count [] []) gates routes all
    (record { count = first.0; small = refl; writable = refl; gate_count = omega (arith, few_gates); route_count = omega (arith, few_routes) }))
said_good at p None lacks (Gate v) some all lacking = tt
said_good at p None lacks (Route points) some all lacking = tt
said_good at p (Some b) (suc gates) (Gate v) some all lacking =
    by_size IsGood (is_small v) (settled p.blocks (block_with_gate b v) gates p.routes) (TooLarge at)
    (λ small. let o = lacking.0 in settled_good p.blocks (block_with_gate b v) gates p.routes all
    (record {
      count = o.count;
      small = one_more is_small b.gates v o.small small;
      writable = o.writable;
      gate_count = omega (arith, o.gate_count, length-append b.gates (v ∷ []));
      route_count = o.route_count;
    }))
said_good at p (Some b) zero (Route points) some all lacking =
    by_size IsGood (are_small points) (settled p.blocks (with_route b points) 0 (p.routes - 1)) (TooLarge at)
    (λ small. let o = lacking.0 in settled_good p.blocks (with_route b points) 0 (p.routes - 1) all
    (record {
      count = o.count;
      small = o.small;
      writable = one_more is_writable_route b.routes points o.writable (and_from (not (length points == 0)) (are_small points) (has points some) small);
      gate_count = o.gate_count;
      route_count = omega (arith, lacking.1, o.route_count, length-append b.routes (points ∷ []));
    }))
  where
    has : (ps : List Point) → 0 < length ps → not (length ps == 0) ≡ true
    has ps some = ap not (ne_eqb (length ps) 0 (λ e. absurd (omega (arith, e, some))))
said_good at p (Some b) (suc gates) (Frame x y z) some all lacking = tt
said_good at p (Some b) (suc gates) (Route points) some all lacking = tt
said_good at p (Some b) zero (Frame x y z) some all lacking = tt
said_good at p (Some b) zero (Gate v) some all lacking = tt

taken_good : (at : ℕ) (p : Progress) (said : Option Saying) → HasPoint said → IsGood p → IfOk (taken at p said) IsGood
taken_good at p None some good = tt
taken_good at p (Some s) some good = said_good at p p.begun p.gates s some good.done good.begun

-- ---- all lines

then_good : {A B : Type 0} (P : A → Type 0) (Q : B → Type 0) (r : Result A CertError) (f : A → Result B CertError) → IfOk r P → ((x : A) → P x → IfOk (f x) Q) → IfOk (r >>= f) Q
then_good P Q (Ok x) f has goes = goes x has
then_good P Q (Err e) f has goes = tt

-- ---- the lines of merged latches

abbrev IsWritableLatch : MergedLatch → Type 0
IsWritableLatch m = is_writable_latch m ≡ true

latch_good : (at : ℕ) (line : List ℕ) → IfOk (merged_in_line at line) IsWritableLatch
unfolding merged_in_line
latch_good at line = by_numbers (numbers_after (codes "m ") line)
  where
    by_numbers : (o : Option (List ℕ)) → IfOk (merged_latch at o) IsWritableLatch
    by_numbers None = tt
    by_numbers (Some []) = tt
    by_numbers (Some (a ∷ [])) = tt
    by_numbers (Some (a ∷ b ∷ [])) = by_size IsWritableLatch (is_small a && is_small_literal b) (record { latch = a; reads = b }) (TooLarge at) (λ small. small)
    by_numbers (Some (a ∷ b ∷ c ∷ ns)) = tt

count_good : (at : ℕ) (line : List ℕ) → IfOk (count_in_line at line) (λ n. n ≤ 2 ^ 28 - 1)
unfolding count_in_line
count_good at line = by_numbers (numbers_after (codes "merged ") line)
  where
    by_numbers : (o : Option (List ℕ)) → IfOk (merged_count at o) (λ n. n ≤ 2 ^ 28 - 1)
    by_numbers None = tt
    by_numbers (Some []) = tt
    by_numbers (Some (n ∷ [])) = by_size (λ n. n ≤ 2 ^ 28 - 1) (is_small n) n (TooLarge at) (λ small. leb-true n (2 ^ 28 - 1) small)
    by_numbers (Some (n ∷ m ∷ ns)) = tt

-- ---- parts

-- the merged latches that have been read, and how many more there may be
record AreListed (merged : List MergedLatch) (lacking : ℕ) : Type 0 where
  small : list_all is_writable_latch merged ≡ true
  within : length merged + lacking ≤ 2 ^ 28 - 1

abbrev AreLatches : Option (List MergedLatch) → Type 0
AreLatches merged = are_writable_latches merged ≡ true

abbrev AllList : List CertPart → Type 0
AllList parts = list_all lists_merged parts ≡ true

abbrev AllWritable : List CertPart → Type 0
AllWritable parts = list_all is_writable_part parts ≡ true

-- the parts before one that lists no merged latches, or before one that lists some
abbrev MayPrecede : Option (List MergedLatch) → List CertPart → Type 0
MayPrecede None before = before ≡ []
MayPrecede (Some merged) before = AllList before

record IsFront (front : Front) : Type 0 where
  before : AllWritable front.before
  latches : AreLatches front.merged
  version : MayPrecede front.merged front.before

abbrev IsStanding : Standing → Type 0
IsStanding (Merging choice before merged left) = AllWritable before × AllList before × AreListed merged (suc left)
IsStanding (Blocks front p) = IsFront front × IsGood p

fresh : IsGood nothing_read
fresh = record { done = refl; begun = tt }

merging_good : (choice : Choice) (before : List CertPart) (merged : List MergedLatch) (left : ℕ) → AllWritable before → AllList before → AreListed merged left → IsStanding (merging choice before merged left)
merging_good choice before merged zero writable lists listed = (
  record {
    before = writable;
    latches = and_from (is_small (length merged)) (list_all is_writable_latch merged) (small_from (length merged) (omega (arith, listed.within))) listed.small;
    version = lists;
  },
  fresh,
)
merging_good choice before merged (suc left) writable lists listed = (writable, lists, listed)

-- a part that has ended can be written
part_good : (front : Front) (blocks : List Certificate) → IsFront front → list_all is_writable_block blocks ≡ true → AllWritable (ended_parts front blocks)
part_good front blocks is done =
    one_more is_writable_part front.before (part_of front blocks) is.before (and_from (are_writable_latches front.merged) (list_all is_writable_block blocks) is.latches done)

-- the parts up to it are those of a version
version_good : (merged : Option (List MergedLatch)) (before : List CertPart) (blocks : List Certificate) → MayPrecede merged before → are_of_one_version (before ++ record { merged = merged; blocks = blocks } ∷ []) ≡ true
version_good None before blocks none = ap (λ (ps : List CertPart). are_of_one_version (ps ++ record { merged = None; blocks = blocks } ∷ [])) none
version_good (Some merged) before blocks lists = listed_good (before ++ part ∷ []) (one_more lists_merged before part lists refl) (omega (arith, length-append before (part ∷ [])))
  where
    part : CertPart
    part = record { merged = Some merged; blocks = blocks }

    follow_good : (m : Option (List MergedLatch)) (ps : List CertPart) → is_some m ≡ true → AllList ps → may_follow m ps ≡ true
    follow_good None ps some lists = absurd (false≢true some)
    follow_good (Some ms) ps some lists = lists

    listed_good : (ps : List CertPart) → AllList ps → 0 < length ps → are_of_one_version ps ≡ true
    listed_good [] lists some = absurd (omega (arith, some))
    listed_good (p ∷ ps) lists some = let parts = and_parts (lists_merged p) (list_all lists_merged ps) lists in follow_good p.merged ps parts.0 parts.1

-- ---- one line

lists_all : (merged : Option (List MergedLatch)) (before : List CertPart) (blocks : List Certificate) → is_some merged ≡ true → MayPrecede merged before → AllList (before ++ record { merged = merged; blocks = blocks } ∷ [])
lists_all None before blocks some version = absurd (false≢true some)
lists_all (Some merged) before blocks some version = one_more lists_merged before (record { merged = Some merged; blocks = blocks }) version refl

count_on : (front : Front) (blocks : List Certificate) (at : ℕ) (line : List ℕ) → IsFront front → list_all is_writable_block blocks ≡ true → is_some front.merged ≡ true
    → IfOk (count_in_line at line >>= λ count. Ok (merging front.choice (ended_parts front blocks) [] count)) IsStanding
count_on front blocks at line is done some =
    then_good (λ n. n ≤ 2 ^ 28 - 1) IsStanding (count_in_line at line) (λ count. Ok (merging front.choice (ended_parts front blocks) [] count)) (count_good at line)
    (λ n within. merging_good front.choice (ended_parts front blocks) [] n (part_good front blocks is done) (lists_all front.merged front.before blocks some is.version) (record { small = refl; within = omega (arith, within) }))

blocks_on : (front : Front) (p : Progress) (at : ℕ) (line : List ℕ) → IsFront front → IsGood p → IfOk (taken at p (saying_of line) >>= λ next. Ok (Blocks front next)) IsStanding
blocks_on front p at line is good =
    then_good IsGood IsStanding (taken at p (saying_of line)) (λ next. Ok (Blocks front next)) (taken_good at p (saying_of line) (said-point line) good) (λ next g. (is, g))

stood_good : (at : ℕ) (s : Standing) (line : List ℕ) → IsStanding s → IfOk (stood at s line) IsStanding
stood_good at (Merging choice before merged left) line good =
    then_good IsWritableLatch IsStanding (merged_in_line at line) (λ m. Ok (merging choice before (merged ++ m ∷ []) left)) (latch_good at line)
    (λ m w. merging_good choice before (merged ++ m ∷ []) left good.0 good.1
    (record { small = one_more is_writable_latch merged m good.2.small w; within = omega (arith, good.2.within, length-append merged (m ∷ [])) }))
stood_good at (Blocks front p) line good = by_opening (begins_part front p line) refl
  where
    by_opening : (b : Bool) → begins_part front p line ≡ b
        → IfOk (cond b (count_in_line at line >>= λ count. Ok (merging front.choice (ended_parts front p.blocks) [] count)) (taken at p (saying_of line) >>= λ next. Ok (Blocks front next))) IsStanding
    by_opening true is =
        let test = and_parts (not (is_some p.begun)) (is_some front.merged && begins_with (codes "merged ") line) is in
        count_on front p.blocks at line good.0 good.1.done (and_parts (is_some front.merged) (begins_with (codes "merged ") line) test.1).0
    by_opening false is = blocks_on front p at line good.0 good.1

-- ---- all lines

abbrev IsWritable : CertFile → Type 0
IsWritable f = is_writable f ≡ true

ended_good : (end : ℕ) (front : Front) (blocks : List Certificate) (begun : Option Certificate) (gates routes : ℕ) → IsFront front → list_all is_writable_block blocks ≡ true
    → IfOk (file_at_end end (Blocks front (record { blocks = blocks; begun = begun; gates = gates; routes = routes }))) IsWritable
ended_good end front blocks None gates routes is done =
    and_from (are_of_one_version (ended_parts front blocks)) (list_all is_writable_part (ended_parts front blocks)) (version_good front.merged front.before blocks is.version) (part_good front blocks is done)
ended_good end front blocks (Some b) gates routes is done = tt

end_good : (end : ℕ) (s : Standing) → IsStanding s → IfOk (file_at_end end s) IsWritable
end_good end (Merging choice before merged left) good = tt
end_good end (Blocks front p) good = ended_good end front p.blocks p.begun p.gates p.routes good.0 good.1.done

parts_good : (ls : List (List ℕ)) (at end : ℕ) (s : Standing) → IsStanding s → IfOk (read_parts at end s ls) IsWritable
unfolding read_parts
parts_good [] at end s good = end_good end s good
parts_good (line ∷ rest) at end s good =
    then_good IsStanding IsWritable (stood at s line) (λ next. read_parts (at + length line + 1) end next rest) (stood_good at s line good)
    (λ next g. parts_good rest (at + length line + 1) end next g)

-- ---- the file

only_good : (choice : Choice) → IsStanding (only_part choice)
only_good choice = (record { before = refl; latches = refl; version = refl }, fresh)

counted_good : (at end : ℕ) (choice : Choice) (ls : List (List ℕ)) → IfOk (read_counted choice at end ls) IsWritable
counted_good at end choice [] = tt
counted_good at end choice (line ∷ rest) =
    then_good (λ n. n ≤ 2 ^ 28 - 1) IsWritable (count_in_line at line) (λ n. read_parts (at + length line + 1) end (merging choice [] [] n) rest) (count_good at line)
    (λ n within. parts_good rest (at + length line + 1) end (merging choice [] [] n) (merging_good choice [] [] n refl refl (record { small = refl; within = omega (arith, within) })))

after_good : (lists : Bool) (choice : Choice) (at end : ℕ) (rest : List (List ℕ)) → IfOk (read_after_choice lists choice at end rest) IsWritable
after_good false choice at end rest = parts_good rest at end (only_part choice) (only_good choice)
after_good true choice at end rest = counted_good at end choice rest

chosen_good : (lists : Bool) (at end : ℕ) (o : Option Choice) (rest : List (List ℕ)) (len : ℕ) → IfOk (read_chosen lists at end o rest len) IsWritable
chosen_good lists at end None rest len = tt
chosen_good lists at end (Some choice) rest len = after_good lists choice (at + len + 1) end rest

choice_good : (lists : Bool) (at end : ℕ) (ls : List (List ℕ)) → IfOk (read_choice lists at end ls) IsWritable
choice_good lists at end [] = tt
choice_good lists at end (line ∷ rest) = chosen_good lists at end (choice_in_line line) rest (length line)

file_good : (end : ℕ) (ls : List (List ℕ)) → IfOk (read_file end ls) IsWritable
file_good end [] = tt
file_good end (first ∷ rest) = by_tests (is_word first (codes "fretime-cert 1")) (is_word first (codes "fretime-cert 2")) (is_word first (codes "fretime-cert 3"))
  where
    by_tests : (one two three : Bool)
        → IfOk (cond one (read_after_choice false Greatest 15 end rest) (cond two (read_choice false 15 end rest) (cond three (read_choice true 15 end rest) (Err (BadHeader 0))))) IsWritable
    by_tests true two three = after_good false Greatest 15 end rest
    by_tests false true three = choice_good false 15 end rest
    by_tests false false true = choice_good true 15 end rest
    by_tests false false false = tt

text_good : (bytes : List ℕ) → IfOk (read_text bytes) IsWritable
unfolding read_text
text_good bytes = file_good (length bytes) (lines bytes)

-- a file that was read can be written, and is then read again as that file
pub the_rereading_law : (bytes : List ℕ) (f : CertFile) → read_text bytes ≡ Ok f → RereadingLaw f
the_rereading_law bytes f is =
    let writable = subst (λ (r : Result CertFile CertError). IfOk r IsWritable) is (text_good bytes) in
    record { writable = writable; again = the_round_trip_law f writable }
