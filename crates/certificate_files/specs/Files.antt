-- The text of certificates.
use Rattle.std.specs.Prelude.{ℕ, ◌+◌, ◌-◌, ◌^◌, ◌==◌, ◌&&◌, ◌||◌, Bool, not, true, false, is_some, nat_le, List, [], ◌∷◌, ◌++◌, length, map, take, drop, slice_index_or, Option, Some, None, Result, Ok, Err, codes, if◌then◌else◌, zero, suc}
use Rattle.std.specs.List.{list_all, starts_with}
use Rattle.file_words.specs.Answering.{◌>>=◌}
use Rattle.file_words.specs.Lines.{lines, pieces, is_number, digits_value, numbers_of, is_word}
use Rattle.frame_net.specs.declared.net.Point.{Point}
use Rattle.certificates.specs.declared.certificate.Certificate.{Certificate}
use Rattle.certificate_files.specs.declared.fault.CertError.{CertError}
use Rattle.certificate_files.specs.declared.fault.CertError.TheVariants.{BadHeader, BadLine, TooLarge, Truncated}
use Rattle.aig_graph.specs.declared.choice.Choice.{Choice}
use Rattle.aig_graph.specs.declared.choice.Choice.TheVariants.{Greatest, Smallest}
use Rattle.certificates.specs.declared.merged.MergedLatch.{MergedLatch}
use Rattle.certificate_files.specs.declared.file.CertFile.{CertFile}
use Rattle.certificate_files.specs.declared.file.CertPart.{CertPart}

-- ---- the lines of a block

-- a word that is a point: a number, and then + for the point after the variable or - for the one
-- before it
abbrev pub sign_of : List ℕ → ℕ
sign_of word = slice_index_or word (length word - 1) 0

abbrev pub is_point : List ℕ → Bool
is_point word = is_number (take (length word - 1) word) && (sign_of word == 43 || sign_of word == 45)

abbrev pub point_of_word : List ℕ → Point
point_of_word word = record { var = digits_value (take (length word - 1) word); behind = sign_of word == 43 }

abbrev pub is_small : ℕ → Bool
is_small n = nat_le n (2 ^ 28 - 1)

-- what a line says
pub data Saying : Type 0 where
  Frame : ℕ → ℕ → ℕ → Saying
  Gate : ℕ → Saying
  Route : List Point → Saying

-- three numbers: the count, and how many gates and routes there are
abbrev pub frame_saying : Option (List ℕ) → Option Saying
frame_saying (Some (count ∷ gates ∷ routes ∷ [])) = Some (Frame count gates routes)
frame_saying _ = None

abbrev pub gate_saying : Option (List ℕ) → Option Saying
gate_saying (Some (v ∷ [])) = Some (Gate v)
gate_saying _ = None

-- one point or more
abbrev pub route_of : List (List ℕ) → Option Saying
route_of words = if list_all is_point words then Some (Route (map point_of_word words)) else None

abbrev pub begins_with : List ℕ → List ℕ → Bool
begins_with word line = starts_with (λ a b. a == b) line word

-- what a line of a file says: a frame, a gate or a route; nothing of other lines
unfoldable pub saying_of : List ℕ → Option Saying
saying_of line =
    if begins_with (codes "frame ") line then frame_saying (numbers_of (drop 6 line))
    else (if begins_with (codes "g ") line then gate_saying (numbers_of (drop 2 line))
    else (if begins_with (codes "r ") line then route_of (pieces (drop 2 line)) else None))

-- each number that a line says is within the limit
abbrev pub has_small_numbers : Saying → Bool
has_small_numbers (Frame count gates routes) = is_small count && is_small gates && is_small routes
has_small_numbers (Gate v) = is_small v
has_small_numbers (Route points) = list_all (λ p. is_small p.var) points

-- ---- line after line

-- the blocks that have ended, and the one that has begun: what it has so far, and the gates and
-- routes that it lacks
pub record Progress : Type 0 where
  pub blocks : List Certificate
  pub begun : Option Certificate
  pub gates : ℕ
  pub routes : ℕ

-- a block to which nothing is lacking has ended
abbrev pub settled : List Certificate → Certificate → ℕ → ℕ → Progress
settled blocks block zero zero = record { blocks = blocks ++ block ∷ []; begun = None; gates = 0; routes = 0 }
settled blocks block gates routes = record { blocks = blocks; begun = Some block; gates = gates; routes = routes }

-- what follows a saying; none if another one comes next
abbrev pub progress_after : Progress → Option Certificate → ℕ → Saying → Option Progress
progress_after p None lacks (Frame count gates routes) = Some (settled p.blocks (record { count = count; gates = []; routes = [] }) gates routes)
progress_after p (Some block) (suc lacks) (Gate v) = Some (settled p.blocks (record block { gates = block.gates ++ v ∷ [] }) lacks p.routes)
progress_after p (Some block) zero (Route points) = Some (settled p.blocks (record block { routes = block.routes ++ points ∷ [] }) 0 (p.routes - 1))
progress_after p begun lacks saying = None

abbrev pub sized : ℕ → Saying → Option Progress → Result Progress CertError
sized at saying None = Err (BadLine at)
sized at saying (Some next) = if has_small_numbers saying then Ok next else Err (TooLarge at)

abbrev pub taken : ℕ → Progress → Option Saying → Result Progress CertError
taken at p None = Err (BadLine at)
taken at p (Some saying) = sized at saying (progress_after p p.begun p.gates saying)

-- no block has ended or begun
abbrev pub nothing_read : Progress
nothing_read = record { blocks = []; begun = None; gates = 0; routes = 0 }

-- ---- the lines of merged latches

-- the numbers after the letters that a line begins with
abbrev pub numbers_after : List ℕ → List ℕ → Option (List ℕ)
numbers_after letters line = if begins_with letters line then numbers_of (drop (length letters) line) else None

-- one number: how many latches are merged
abbrev pub merged_count : ℕ → Option (List ℕ) → Result ℕ CertError
merged_count at (Some (count ∷ [])) = if is_small count then Ok count else Err (TooLarge at)
merged_count at numbers = Err (BadLine at)

abbrev pub is_small_literal : ℕ → Bool
is_small_literal lit = nat_le lit (2 ^ 29 - 1)

-- two numbers: a latch, and the literal that it reads as
abbrev pub merged_latch : ℕ → Option (List ℕ) → Result MergedLatch CertError
merged_latch at (Some (latch ∷ lit ∷ [])) = if is_small latch && is_small_literal lit then Ok (record { latch = latch; reads = lit }) else Err (TooLarge at)
merged_latch at numbers = Err (BadLine at)

unfoldable pub count_in_line : ℕ → List ℕ → Result ℕ CertError
count_in_line at line = merged_count at (numbers_after (codes "merged ") line)

unfoldable pub merged_in_line : ℕ → List ℕ → Result MergedLatch CertError
merged_in_line at line = merged_latch at (numbers_after (codes "m ") line)

-- ---- parts

-- what stands before the blocks of a part: the choice, the parts before it, and its merged latches
-- if it lists them
pub record Front : Type 0 where
  pub choice : Choice
  pub before : List CertPart
  pub merged : Option (List MergedLatch)

abbrev pub front_of : Choice → List CertPart → Option (List MergedLatch) → Front
front_of choice before merged = record { choice = choice; before = before; merged = merged }

abbrev pub part_of : Front → List Certificate → CertPart
part_of front blocks = record { merged = front.merged; blocks = blocks }

abbrev pub file_of : Choice → List CertPart → CertFile
file_of choice parts = record { choice = choice; parts = parts }

-- What has been read of a file. Either merged latches of the part that has begun are lacking, after
-- these: one, and as many more as the number says. Or its blocks come next.
pub data Standing : Type 0 where
  Merging : Choice → List CertPart → List MergedLatch → ℕ → Standing
  Blocks : Front → Progress → Standing

-- a part that lacks no merged latch goes on with its blocks
abbrev pub merging : Choice → List CertPart → List MergedLatch → ℕ → Standing
merging choice before merged zero = Blocks (front_of choice before (Some merged)) nothing_read
merging choice before merged (suc left) = Merging choice before merged left

-- the parts with one more, which has these blocks
abbrev pub ended_parts : Front → List Certificate → List CertPart
ended_parts front blocks = front.before ++ part_of front blocks ∷ []

-- if no block is open, a line of this word ends the part and begins another, in a file that lists
-- merged latches
abbrev pub begins_part : Front → Progress → List ℕ → Bool
begins_part front p line = not (is_some p.begun) && (is_some front.merged && begins_with (codes "merged ") line)

-- what follows a line
abbrev pub stood : ℕ → Standing → List ℕ → Result Standing CertError
stood at (Merging choice before merged left) line = merged_in_line at line >>= λ latch. Ok (merging choice before (merged ++ latch ∷ []) left)
stood at (Blocks front p) line =
    if begins_part front p line then (count_in_line at line >>= λ count. Ok (merging front.choice (ended_parts front p.blocks) [] count))
    else (taken at p (saying_of line) >>= λ next. Ok (Blocks front next))

-- the file, if neither a merged latch is lacking at the end nor a block is left open
abbrev pub file_at_end : ℕ → Standing → Result CertFile CertError
file_at_end end (Merging choice before merged left) = Err (Truncated end)
file_at_end end (Blocks front p) = ended_by p.begun
  where
    ended_by : Option Certificate → Result CertFile CertError
    ended_by None = Ok (file_of front.choice (ended_parts front p.blocks))
    ended_by (Some block) = Err (Truncated end)

-- the file of the lines that are left, which begin at `at`, or the first fault
unfoldable pub read_parts : ℕ → ℕ → Standing → List (List ℕ) → Result CertFile CertError
read_parts at end s [] = file_at_end end s
read_parts at end s (line ∷ rest) = stood at s line >>= λ next. read_parts (at + length line + 1) end next rest

-- ---- what stands before the parts

-- the blocks of the only part come next
abbrev pub only_part : Choice → Standing
only_part choice = Blocks (front_of choice [] None) nothing_read

-- the file of the lines from the one on that says how many latches the first part merges
abbrev pub read_counted : Choice → ℕ → ℕ → List (List ℕ) → Result CertFile CertError
read_counted choice at end [] = Err (Truncated end)
read_counted choice at end (line ∷ rest) = count_in_line at line >>= λ count. read_parts (at + length line + 1) end (merging choice [] [] count) rest

abbrev pub choice_in_line : List ℕ → Option Choice
choice_in_line line = if is_word line (codes "choice greatest") then Some Greatest else (if is_word line (codes "choice smallest") then Some Smallest else None)

-- the file after the line of the choice; merged latches come next if the version lists them
abbrev pub read_after_choice : Bool → Choice → ℕ → ℕ → List (List ℕ) → Result CertFile CertError
read_after_choice false choice at end rest = read_parts at end (only_part choice) rest
read_after_choice true choice at end rest = read_counted choice at end rest

-- the file after its line of the choice, which is `len` long; that line is at fault if there is no
-- choice
abbrev pub read_chosen : Bool → ℕ → ℕ → Option Choice → List (List ℕ) → ℕ → Result CertFile CertError
read_chosen lists at end None rest len = Err (BadLine at)
read_chosen lists at end (Some choice) rest len = read_after_choice lists choice (at + len + 1) end rest

-- from the second version on the choice comes next
abbrev pub read_choice : Bool → ℕ → ℕ → List (List ℕ) → Result CertFile CertError
read_choice lists at end [] = Err (Truncated end)
read_choice lists at end (line ∷ rest) = read_chosen lists at end (choice_in_line line) rest (length line)

-- ---- the file

-- the file of all lines, by the version that the first one names, or the first fault
abbrev pub read_file : ℕ → List (List ℕ) → Result CertFile CertError
read_file end [] = Err (BadHeader 0)
read_file end (first ∷ rest) =
    if is_word first (codes "fretime-cert 1") then read_after_choice false Greatest 15 end rest
    else (if is_word first (codes "fretime-cert 2") then read_choice false 15 end rest
    else (if is_word first (codes "fretime-cert 3") then read_choice true 15 end rest else Err (BadHeader 0)))

-- the certificates of a text, or its first fault
unfoldable pub read_text : List ℕ → Result CertFile CertError
read_text bytes = read_file (length bytes) (lines bytes)
