-- A text, line after line.
use Rattle.std.specs.Prelude.{ℕ, ◌-◌, List, [], ◌∷◌, ◌++◌, length, Bool, Option, Some, None, Result, Ok}
use Rattle.file_words.specs.Answering.{◌>>=◌}
use Rattle.file_words.specs.Lines.{lines}
use Rattle.frame_net.specs.declared.net.Point.{Point}
use Rattle.certificates.specs.declared.certificate.Certificate.{Certificate}
use Rattle.certificate_files.specs.declared.blocks.Opening.{Opening}
use Rattle.certificate_files.specs.declared.blocks.Opening.TheVariants.{Block, Part}
use Rattle.certificate_files.specs.declared.fault.CertError.{CertError}
use Rattle.aig_graph.specs.declared.choice.Choice.{Choice}
use Rattle.certificate_files.specs.declared.file.CertFile.{CertFile}
use Rattle.certificate_files.specs.declared.file.CertPart.{CertPart}
use Rattle.certificate_files.specs.Files.{Blocks, Front, Progress, Standing, ended_parts, file_of, front_of, merging, nothing_read, read_after_choice, read_choice, read_file, read_parts, settled}

-- what is read of the end of a text of this length
abbrev pub read_rest : ℕ → List ℕ → Standing → Result CertFile CertError
read_rest end rest s = read_parts (end - length rest) end s (lines rest)

-- a result, and what follows its value
abbrev pub next_by : {A B : Type 0} → (A → B) → Result A CertError → Result B CertError
next_by next r = r >>= λ x. Ok (next x)

-- ---- what stands before the parts

-- what is read of the end of a text if the first line of the file comes next
abbrev pub rest_of_file : ℕ → List ℕ → Result CertFile CertError
rest_of_file end rest = read_file end (lines rest)

-- that, if the line of the choice comes next
abbrev pub rest_chosen : Bool → ℕ → List ℕ → Result CertFile CertError
rest_chosen lists end rest = read_choice lists (end - length rest) end (lines rest)

-- that, after the line of the choice
abbrev pub rest_after_choice : Bool → Choice → ℕ → List ℕ → Result CertFile CertError
rest_after_choice lists choice end rest = read_after_choice lists choice (end - length rest) end (lines rest)

-- ---- parts

-- what is read of the end of a text if a part comes next: its blocks, or so many merged latches
-- before them
abbrev pub rest_of_part : Choice → List CertPart → Option ℕ → ℕ → List ℕ → Result CertFile CertError
rest_of_part choice before None end rest = read_rest end rest (Blocks (front_of choice before None) nothing_read)
rest_of_part choice before (Some count) end rest = read_rest end rest (merging choice before [] count)

-- that, after these parts: nothing, or another part with so many merged latches
abbrev pub rest_after_parts : Choice → List CertPart → Option ℕ → ℕ → List ℕ → Result CertFile CertError
rest_after_parts choice parts None end rest = Ok (file_of choice parts)
rest_after_parts choice parts (Some count) end rest = read_rest end rest (merging choice parts [] count)

-- how many lines the beginning of a next part takes
abbrev pub lines_of_next : Option ℕ → ℕ
lines_of_next None = 0
lines_of_next (Some count) = 1

-- ---- blocks

abbrev pub certificate_block : ℕ → List ℕ → List (List Point) → Certificate
certificate_block count gates routes = record { count = count; gates = gates; routes = routes }

abbrev pub block_with_gate : Certificate → ℕ → Certificate
block_with_gate block v = record block { gates = block.gates ++ v ∷ [] }

abbrev pub with_route : Certificate → List Point → Certificate
with_route block points = record block { routes = block.routes ++ points ∷ [] }

-- blocks that have ended, if none has begun
abbrev pub ended_blocks : List Certificate → Progress
ended_blocks blocks = record { blocks = blocks; begun = None; gates = 0; routes = 0 }

-- after the line that follows these blocks: a block has begun, or another part
abbrev pub opened : Front → List Certificate → Opening → Standing
opened front blocks (Block frame) = Blocks front (settled blocks (certificate_block frame.count [] []) frame.gates frame.routes)
opened front blocks (Part count) = merging front.choice (ended_parts front blocks) [] count
