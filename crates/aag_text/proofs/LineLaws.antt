-- A line before the symbols, if its numbers are known.
use Rattle.std.proofs.Common.{ℕ, ◌≡◌, List, Option, Some, None, Err, false, sym, ap, ◌∙◌}
use Rattle.std.specs.Option.{option_and_then}
use Rattle.file_words.specs.declared.fault.ReadError.TheVariants.{BadLine}
use Rattle.ascii_file.specs.declared.header.Header.{Header}
use Rattle.ascii_file.specs.declared.raw.Section.{Section}
use Rattle.ascii_file.specs.Raw.{Raw}
use Rattle.ascii_file.specs.Reading.{take_item, next_section, read_line, is_complete}
use Rattle.ascii_file.specs.parts.Rows.{row_of}
use Rattle.aag_text.specs.Items.{item_of_numbers}
use Rattle.aag_text.specs.Filling.{IsReadSoFar}
use Rattle.aag_text.proofs.ClampLaws.{line_by_numbers}

module _ (h : Header) (raw : Raw) (at : ℕ) (line : List ℕ) (read : IsReadSoFar h raw) (left : is_complete h raw ≡ false) where
  -- a line before the symbols that isn't at most nine numbers is a fault
  pub unspelt : row_of line ≡ None → read_line h raw at line ≡ Err (BadLine at)
  unspelt row =
      line_by_numbers h raw at read.within.greatest read.sizes left line
      ∙ ap (λ (o : Option (List ℕ)). take_item h raw at (BadLine at) (option_and_then (item_of_numbers (next_section h raw)) o)) row

  -- a line of at most nine numbers is read as its section's item of them
  pub spelt : (ns : List ℕ) (section : Section) → row_of line ≡ Some ns → next_section h raw ≡ section → take_item h raw at (BadLine at) (item_of_numbers section ns) ≡ read_line h raw at line
  spelt ns section row next =
      sym (line_by_numbers h raw at read.within.greatest read.sizes left line
      ∙ ap (λ (o : Option (List ℕ)). take_item h raw at (BadLine at) (option_and_then (item_of_numbers (next_section h raw)) o)) row
      ∙ ap (λ (s : Section). take_item h raw at (BadLine at) (item_of_numbers s ns)) next)
