use Rattle.std.proofs.Common.{inr, sym, subst, ◌∙◌, ◌≡◌, ℕ, false, List, Option, Some, None, Result, MatchOption, Bor}
use Rattle.file_words.specs.declared.fault.ReadError.{ReadError}
use Rattle.file_words.specs.declared.fault.ReadError.TheVariants.{BadLine}
use Rattle.ascii_file.specs.declared.raw.Section.{Section}
use Rattle.ascii_file.specs.declared.raw.Section.TheVariants.{Inputs, Latches, Safety, Sizes, Liveness, Gates}
use Rattle.ascii_file.specs.Raw.{RawSymbol}
use Rattle.ascii_file.specs.Reading.{take_item, next_section, read_line, is_complete}
use Rattle.ascii_file.specs.parts.Rows.{row_of}
use Rattle.aag_text.specs.declared.sections.Sections.{Sections}
use Rattle.aag_text.specs.Items.{item_of_numbers}
use Rattle.aag_text.specs.Taking.{raw_of, IsAt, Takes}
use Rattle.aag_text.proofs.LineLaws.{unspelt, spelt}
use Rattle.aag_text.proofs.TakeLaws.{Takes-same}
use Rattle.aag_text.proofs.sections.Sections.take_numbers.Goals as goal

-- the numbers are those of the line
abbrev AreOf : List ℕ → Option (Bor (List ℕ)) → Type 0
AreOf line numbers = MatchOption numbers (row_of line ≡ None) (λ ns. row_of line ≡ Some ns.now)

-- taking the section's item by the numbers is taking the line
by_numbers : (old new : Sections) (result : Result (Unit {0}) ReadError) (symbols : List RawSymbol) (at : ℕ) (line : List ℕ) → IsAt old symbols → is_complete old.header (raw_of old symbols) ≡ false
    → (numbers : Option (Bor (List ℕ))) (ns : Bor (List ℕ)) → numbers ≡ Some ns → AreOf line numbers → (section : Section) → next_section old.header (raw_of old symbols) ≡ section
    → Takes old new result (take_item old.header (raw_of old symbols) at (BadLine at) (item_of_numbers section ns.now)) → Takes old new result (read_line old.header (raw_of old symbols) at line)
by_numbers old new result symbols at line stands left numbers ns is row section next takes =
    Takes-same old new result _ _ (spelt old.header (raw_of old symbols) at line stands.read left ns.now section (subst (AreOf line) is row) next) takes

pub returns-in_default : goal.returns-in_default
returns-in_default c =
    λ symbols line stands left row. inr (unspelt c.args.self.now.header (raw_of c.args.self.now symbols) c.args.at line stands.read left (subst (AreOf line) c.in_default.is row))

pub returns-in-Inputs : goal.returns-in-Inputs
returns-in-Inputs c =
    λ symbols line stands left row.
    by_numbers c.args.self.now _ _ symbols c.args.at line stands left _ c.in-Some.numbers c.in-Some.is row Inputs (sym (c.section.ensures symbols) ∙ c.in-Inputs.is) (c.take_input.ensures symbols stands)

pub returns-in-Latches : goal.returns-in-Latches
returns-in-Latches c =
    λ symbols line stands left row.
    by_numbers c.args.self.now _ _ symbols c.args.at line stands left _ c.in-Some.numbers c.in-Some.is row Latches (sym (c.section.ensures symbols) ∙ c.in-Latches.is) (c.take_latch.ensures symbols stands)

pub returns-in-Safety : goal.returns-in-Safety
returns-in-Safety c =
    λ symbols line stands left row.
    by_numbers c.args.self.now _ _ symbols c.args.at line stands left _ c.in-Some.numbers c.in-Some.is row Safety (sym (c.section.ensures symbols) ∙ c.in-Safety.is) (c.take_safety.ensures symbols stands)

pub returns-in-Sizes : goal.returns-in-Sizes
returns-in-Sizes c =
    λ symbols line stands left row.
    by_numbers c.args.self.now _ _ symbols c.args.at line stands left _ c.in-Some.numbers c.in-Some.is row Sizes (sym (c.section.ensures symbols) ∙ c.in-Sizes.is) (c.take_size.ensures symbols stands)

pub returns-in-Liveness : goal.returns-in-Liveness
returns-in-Liveness c =
    λ symbols line stands left row.
    by_numbers c.args.self.now _ _ symbols c.args.at line stands left _ c.in-Some.numbers c.in-Some.is row Liveness (sym (c.section.ensures symbols) ∙ c.in-Liveness.is) (c.take_liveness.ensures symbols stands)

pub returns-in-Gates : goal.returns-in-Gates
returns-in-Gates c =
    λ symbols line stands left row.
    by_numbers c.args.self.now _ _ symbols c.args.at line stands left _ c.in-Some.numbers c.in-Some.is row Gates (sym (c.section.ensures symbols) ∙ c.in-Gates.is) (c.take_gate.ensures symbols stands)
