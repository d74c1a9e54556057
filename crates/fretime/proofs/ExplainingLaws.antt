-- The parts of the page of a fault.
use Rattle.std.proofs.Common.{ℕ, ◌≡◌, ◌≢◌, ◌==◌, true, false, List, [], ◌∷◌, ◌++◌, length, codes, refl, sym, ap, ◌∙◌}
use Rattle.std.proofs.lemmas.Bool.{eqb-false, false≢true, ne_eqb}
use Rattle.std.proofs.Math.Dec.{eqb-suc-zero}
use Rattle.fretime.specs.Explaining.{file_part, indented, indented_byte}

-- the end of a line, and any other byte
pub indented_byte-10 : (b : ℕ) → b ≡ 10 → codes "\n    " ≡ indented_byte b
unfolding indented_byte
indented_byte-10 b is = sym (ap indented_byte is)

-- any other byte stands as it is
pub indented_byte-other : (b : ℕ) → b ≢ 10 → b ∷ [] ≡ indented_byte b
unfolding indented_byte
indented_byte-other b isnt = rw (ne_eqb b 10 isnt) refl

-- the empty file, and any other
pub file_part-empty : (file : List ℕ) → (length file == 0) ≡ true → codes "The smallest file that has it is the empty one.\n\n" ≡ file_part file
unfolding file_part
file_part-empty [] is = refl
file_part-empty (b ∷ bs) is = absurd (false≢true (sym (eqb-suc-zero (length bs)) ∙ is))

-- a file of some bytes is shown, indented
pub file_part-some : (file : List ℕ) → (length file == 0) ≡ false → codes "A smallest file that has it:\n\n" ++ (indented file ++ 10 ∷ []) ≡ file_part file
unfolding file_part
file_part-some [] isnt = absurd (eqb-false 0 0 isnt refl)
file_part-some (b ∷ bs) isnt = refl
