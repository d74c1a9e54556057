-- Lines after the gates.
use Rattle.std.proofs.Common.{ℕ, ◌≡◌, List, [], Option, Some, None, Bool, true, false, cond, refl, ap, ◌∙◌}
use Rattle.std.proofs.lemmas.List.{append-nil}
use Rattle.ascii_file.specs.Items.{Item, InputItem, LatchItem, SafetyItem, SizeItem, LivenessItem, GateItem, SymbolItem, symbol_of, begins_comment}
use Rattle.ascii_file.specs.declared.parts.symbols.SymbolText.TheVariants.{Comment}
use Rattle.ascii_file.specs.declared.parts.symbols.SymbolLine.{SymbolLine}
use Rattle.ascii_file.specs.parts.Symbols.{text_of_item, text_of, text_with}
use Rattle.ascii_file.proofs.SymbolLaws.{without_comment}
use Rattle.binary_file.specs.Opened.{IsText}

item_isnt : (line : List ℕ) (item : Option Item) → text_of_item line item ≡ Comment → ⊥
item_isnt line None e = without_comment line e
item_isnt line (Some (InputItem lit)) e = without_comment line e
item_isnt line (Some (LatchItem latch)) e = without_comment line e
item_isnt line (Some (SafetyItem lit)) e = without_comment line e
item_isnt line (Some (SizeItem size)) e = without_comment line e
item_isnt line (Some (LivenessItem lit)) e = without_comment line e
item_isnt line (Some (GateItem gate)) e = without_comment line e
item_isnt line (Some (SymbolItem symbol)) e = absurd cc

-- a line is the comment's if and only if it begins as one
pub comment_begins : (line : List ℕ) → text_of line ≡ Comment → begins_comment line ≡ true
unfolding text_of
comment_begins line e = by_test (begins_comment line) e
  where
    by_test : (test : Bool) → cond test Comment (text_of_item line (symbol_of line)) ≡ Comment → test ≡ true
    by_test true e = refl
    by_test false e = absurd (item_isnt line (symbol_of line) e)

-- a line that isn't the comment's by its text doesn't begin as one
pub other_begins : (line : List ℕ) → (text_of line ≡ Comment → ⊥) → begins_comment line ≡ false
unfolding text_of
other_begins line other = by_test (begins_comment line) other
  where
    by_test : (test : Bool) → (cond test Comment (text_of_item line (symbol_of line)) ≡ Comment → ⊥) → test ≡ false
    by_test true other = absurd (other refl)
    by_test false other = refl

-- the text of a line of which all bytes have come
pub text_is : (line : SymbolLine) (bytes : List ℕ) → IsText line bytes → text_with line [] ≡ text_of bytes
text_is line bytes is = is [] ∙ ap text_of (append-nil bytes)
