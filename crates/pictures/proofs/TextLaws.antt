-- Texts that stand only if something holds, and lines that are numbered.
use Rattle.std.proofs.Common.{ℕ, ◌+◌, ◌%◌, ◌<◌, ◌≤◌, ◌≡◌, Bool, true, false, List, length, take, get_or, arith, sym, ◌∙◌, subst, refl}
use Rattle.std.specs.Prelude.{◌==◌, ◌↔◌, IsTrue}
use Rattle.std.proofs.lemmas.Bool.{false≢true, ne_eqb}
use Rattle.std.proofs.lemmas.List.{take_all}
use Rattle.counted_io.specs.Output.{Output}
use Rattle.counted_io.specs.Buffered.{Puts}
use Rattle.counted_io.specs.Line.{numbered_lines}
use Rattle.counted_io.specs.declared.buffered.Buffered.{Buffered}
use Rattle.counted_io.proofs.BufferedLaws.{puts-nothing, puts-numbered_next}
use Rattle.pictures.specs.Nodes.{only_if}

-- a literal is odd if it is a negation
pub odd_test : (lit : ℕ) (negated : Bool) → IsTrue negated ↔ (lit % 2 ≡ 1) → negated ≡ (lit % 2 == 1)
odd_test lit true odd = rw (odd.0 refl) refl
odd_test lit false odd = sym (ne_eqb (lit % 2) 1 (λ is. false≢true (odd.1 is)))

module _ {W : Type 0} {output : W → Output} where
  -- a text that was put if its condition holds is what stands there under the condition
  pub puts-drawn : {b c : Buffered W} {holds test : Bool} {text : List ℕ} → test ≡ holds → test ≡ true → Puts output b c text → Puts output b c (only_if holds text)
  puts-drawn {b} {c} {text = text} same true_test puts = subst (λ (x : Bool). Puts output b c (only_if x text)) (sym true_test ∙ same) puts

  -- if the condition of a text doesn't hold, nothing has to be put for it
  pub puts-undrawn : {b : Buffered W} {holds test : Bool} (text : List ℕ) → test ≡ holds → test ≡ false → Puts output b b (only_if holds text)
  puts-undrawn {b} text same false_test = subst (λ (x : Bool). Puts output b b (only_if x text)) (sym false_test ∙ same) (puts-nothing b)

  -- one more line, if they are numbered from 0 on
  pub puts-numbered_up : {X : Type 0} {b c d : Buffered W} (f : ℕ → X → List ℕ) (xs : List X) (k : ℕ) (x : X) → k < length xs → x ≡ get_or xs k x
      → Puts output b c (numbered_lines f 0 (take k xs)) → Puts output c d (f k x) → Puts output b d (numbered_lines f 0 (take (k + 1) xs))
  puts-numbered_up {c = c} {d = d} f xs k x h there before line =
      let same : k ≡ 0 + k = omega arith in
      puts-numbered_next f 0 xs k x h there before (subst (λ (n : ℕ). Puts output c d (f n x)) same line)

  -- all the numbered lines
  pub puts-numbered_end : {X : Type 0} {b c : Buffered W} (f : ℕ → X → List ℕ) (first : ℕ) (xs : List X) (n : ℕ) → length xs ≤ n
      → Puts output b c (numbered_lines f first (take n xs)) → Puts output b c (numbered_lines f first xs)
  puts-numbered_end f first xs n h before = rw take_all at before
