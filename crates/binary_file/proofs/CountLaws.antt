-- A file has as many items of each section as its header says.
use Rattle.std.proofs.Common.{ℕ, ◌+◌, ◌≤◌, ◌≡◌, List, [], ◌∷◌, ◌++◌, length, Some, Bool, true, false, cond, nat_lt, refl, sym, subst, arith}
use Rattle.std.specs.List.{sum}
use Rattle.std.proofs.lemmas.Bool.{ltb-true, ltb-false}
use Rattle.std.proofs.lemmas.List.{length_push}
use Rattle.std.proofs.lemmas.List.Sums.{sum_by_push}
use Rattle.file_words.specs.Lines.{numbers_of}
use Rattle.ascii_file.specs.declared.header.Header.{Header}
use Rattle.ascii_file.specs.declared.raw.Section.{Section}
use Rattle.ascii_file.specs.declared.raw.Section.TheVariants.{Inputs, Latches, Safety, Sizes, Liveness, Gates, Symbols}
use Rattle.ascii_file.specs.Raw.{Raw, nothing_yet, safety_count, liveness_count}
use Rattle.ascii_file.specs.Items.{Item, InputItem, LatchItem, SafetyItem, SizeItem, LivenessItem, GateItem, SymbolItem, section_of}
use Rattle.ascii_file.specs.Reading.{with_item}
use Rattle.ascii_file.specs.Reading as ascii
use Rattle.ascii_file.specs.Files.{IsCountedBy}
use Rattle.ascii_file.proofs.StepLaws.{section_is}
use Rattle.binary_file.specs.Items.{next_section, next_latch, item_in}
use Rattle.binary_file.specs.Files.{IsLine, AreItems, with_items}
use Rattle.binary_file.specs.Laws.{CountsLaw}
use Rattle.binary_file.proofs.ItemLaws.{latch_section}

-- the first section with room, by whether each has
abbrev first_with_room : Bool → Bool → Bool → Bool → Bool → Bool → Section
first_with_room a b c d e f = cond a Inputs (cond b Latches (cond c Safety (cond d Sizes (cond e Liveness (cond f Gates Symbols)))))

abbrev HasRoom : Section → Bool → Bool → Bool → Bool → Bool → Bool → Type 0
HasRoom Inputs a b c d e f = a ≡ true
HasRoom Latches a b c d e f = b ≡ true
HasRoom Safety a b c d e f = c ≡ true
HasRoom Sizes a b c d e f = d ≡ true
HasRoom Liveness a b c d e f = e ≡ true
HasRoom Gates a b c d e f = f ≡ true
HasRoom Symbols a b c d e f = (a ≡ false) × (b ≡ false) × (c ≡ false) × (d ≡ false) × (e ≡ false) × (f ≡ false)

first_has_room : (a b c d e f : Bool) → HasRoom (first_with_room a b c d e f) a b c d e f
first_has_room true b c d e f = refl
first_has_room false true c d e f = refl
first_has_room false false true d e f = refl
first_has_room false false false true e f = refl
first_has_room false false false false true f = refl
first_has_room false false false false false true = refl
first_has_room false false false false false false = (refl, refl, refl, refl, refl, refl)

abbrev NextHasRoom : Header → Raw → Section → Type 0
NextHasRoom h raw section =
    HasRoom section (nat_lt (length raw.inputs) 0) (nat_lt (length raw.latches) h.latches) (nat_lt (length raw.safety) (safety_count h))
    (nat_lt (length raw.sizes) h.justice) (nat_lt (length raw.liveness) (liveness_count h raw)) (nat_lt (length raw.gates) h.gates)

next_has_room : (h : Header) (raw : Raw) (section : Section) → next_section h raw ≡ section → NextHasRoom h raw section
unfolding next_section ascii.next_section
next_has_room h raw section is = subst (NextHasRoom h raw) is (first_has_room _ _ _ _ _ _)

-- no section has more than counted
record IsWithin (h : Header) (raw : Raw) : Type 0 where
  inputs : length raw.inputs ≤ 0
  latches : length raw.latches ≤ h.latches
  safety : length raw.safety ≤ safety_count h
  sizes : length raw.sizes ≤ h.justice
  liveness : length raw.liveness ≤ liveness_count h raw
  gates : length raw.gates ≤ h.gates

one_more : {X : Type 0} (xs : List X) (x : X) (n : ℕ) → nat_lt (length xs) n ≡ true → length (xs ++ x ∷ []) ≤ n
one_more xs x n room = let less = ltb-true (length xs) n room in omega (arith, less, length_push xs x)

grown : (h : Header) (raw : Raw) (item : Item) → NextHasRoom h raw (section_of item) → IsWithin h raw → IsWithin h (with_item raw item)
grown h raw (InputItem x) room w = record { inputs = one_more raw.inputs x 0 room; latches = w.latches; safety = w.safety; sizes = w.sizes; liveness = w.liveness; gates = w.gates }
grown h raw (LatchItem x) room w = record { inputs = w.inputs; latches = one_more raw.latches x h.latches room; safety = w.safety; sizes = w.sizes; liveness = w.liveness; gates = w.gates }
grown h raw (SafetyItem x) room w = record { inputs = w.inputs; latches = w.latches; safety = one_more raw.safety x (safety_count h) room; sizes = w.sizes; liveness = w.liveness; gates = w.gates }
grown h raw (SizeItem x) room w = record {
  inputs = w.inputs;
  latches = w.latches;
  safety = w.safety;
  sizes = one_more raw.sizes x h.justice room;
  liveness = let most = w.liveness in let next : sum (raw.sizes ++ x ∷ []) ≡ sum raw.sizes + x = sum_by_push (λ n. n) raw.sizes x in omega (arith, most, next);
  gates = w.gates;
}
grown h raw (LivenessItem x) room w = record { inputs = w.inputs; latches = w.latches; safety = w.safety; sizes = w.sizes; liveness = one_more raw.liveness x (liveness_count h raw) room; gates = w.gates }
grown h raw (GateItem x) room w = record { inputs = w.inputs; latches = w.latches; safety = w.safety; sizes = w.sizes; liveness = w.liveness; gates = one_more raw.gates x h.gates room }
grown h raw (SymbolItem x) room w = record { inputs = w.inputs; latches = w.latches; safety = w.safety; sizes = w.sizes; liveness = w.liveness; gates = w.gates }

own_section : (h : Header) (raw : Raw) (section : Section) (line : List ℕ) (item : Item) → item_in h raw section line ≡ Some item → section ≡ section_of item
own_section h raw Inputs line item e = absurd cc
own_section h raw Latches line item e = sym (latch_section (next_latch h raw) (numbers_of line) item e)
own_section h raw Safety line item e = sym (section_is Safety line item e)
own_section h raw Sizes line item e = sym (section_is Sizes line item e)
own_section h raw Liveness line item e = sym (section_is Liveness line item e)
own_section h raw Gates line item e = absurd cc
own_section h raw Symbols line item e = sym (section_is Symbols line item e)

line_grown : (h : Header) (raw : Raw) (item : Item) (bytes rest : List ℕ) → IsLine h raw item bytes rest → IsWithin h raw → IsWithin h (with_item raw item)
line_grown h raw item bytes rest is w = grown h raw item (next_has_room h raw (section_of item) (own_section h raw (next_section h raw) _ item is.spelt)) w

same_count : (m n : ℕ) → m ≤ n → nat_lt m n ≡ false → m ≡ n
same_count m n most full = let least = ltb-false m n full in omega (arith, most, least)

counted : (h : Header) (items : List Item) (raw : Raw) (bytes : List ℕ) → AreItems h raw items bytes → IsWithin h raw → IsCountedBy (record h { inputs = 0 }) (with_items raw items)
counted h [] raw bytes are w =
    let full = next_has_room h raw Symbols are.0 in
    record {
      inputs = same_count (length raw.inputs) 0 w.inputs full.0;
      latches = same_count (length raw.latches) h.latches w.latches full.1;
      safety = same_count (length raw.safety) (safety_count h) w.safety full.2;
      sizes = same_count (length raw.sizes) h.justice w.sizes full.3;
      liveness = same_count (length raw.liveness) (liveness_count h raw) w.liveness full.4;
      gates = same_count (length raw.gates) h.gates w.gates full.5;
    }
counted h (InputItem x ∷ items) raw bytes (rest, is, are) w = counted h items (with_item raw (InputItem x)) rest are (line_grown h raw (InputItem x) bytes rest is w)
counted h (LatchItem x ∷ items) raw bytes (rest, is, are) w = counted h items (with_item raw (LatchItem x)) rest are (line_grown h raw (LatchItem x) bytes rest is w)
counted h (SafetyItem x ∷ items) raw bytes (rest, is, are) w = counted h items (with_item raw (SafetyItem x)) rest are (line_grown h raw (SafetyItem x) bytes rest is w)
counted h (SizeItem x ∷ items) raw bytes (rest, is, are) w = counted h items (with_item raw (SizeItem x)) rest are (line_grown h raw (SizeItem x) bytes rest is w)
counted h (LivenessItem x ∷ items) raw bytes (rest, is, are) w = counted h items (with_item raw (LivenessItem x)) rest are (line_grown h raw (LivenessItem x) bytes rest is w)
counted h (GateItem x ∷ items) raw bytes (rest, is, are) w = counted h items (with_item raw (GateItem x)) rest are (grown h raw (GateItem x) (next_has_room h raw Gates is.here) w)
counted h (SymbolItem x ∷ items) raw bytes (rest, is, are) w = counted h items (with_item raw (SymbolItem x)) rest are (line_grown h raw (SymbolItem x) bytes rest is w)

nothing_within : (h : Header) → IsWithin h nothing_yet
nothing_within h = record { inputs = omega arith; latches = omega arith; safety = omega arith; sizes = omega arith; liveness = omega arith; gates = omega arith }

-- a binary file has as many items of each section as its header says
pub the_counts_law : (bytes : List ℕ) → CountsLaw bytes
the_counts_law bytes h raw file = subst (IsCountedBy (record h { inputs = 0 })) file.all (counted h file.items nothing_yet _ file.spelt (nothing_within h))
