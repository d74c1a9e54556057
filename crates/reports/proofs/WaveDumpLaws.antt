-- Texts that stand only if something holds, and things that are numbered from 0 on.
use Rattle.std.proofs.Common.{ℕ, ◌+◌, ◌<◌, ◌≡◌, Bool, true, false, suc, List, [], length, take, get_or, max, arith, sym, ap, ◌∙◌, subst, if◌then◌else◌, zero-add}
use Rattle.std.specs.List.{flat_map, range_with_len}
use Rattle.counted_io.specs.Output.{Output}
use Rattle.counted_io.specs.Buffered.{Puts}
use Rattle.counted_io.specs.Line.{numbered_lines}
use Rattle.counted_io.specs.declared.buffered.Buffered.{Buffered}
use Rattle.counted_io.proofs.BufferedLaws.{puts-nothing, puts-numbered_next, puts-range_next}
use Rattle.reports.specs.waves.Dumps.{longest_of}

module _ {W : Type 0} {output : W → Output} where
  -- a text that was put if its condition holds is what stands there under the condition
  pub puts-where : {b c : Buffered W} {holds test : Bool} {text : List ℕ} → test ≡ holds → test ≡ true → Puts output b c text
      → Puts output b c (if holds then text else [])
  puts-where {b} {c} {text = text} same true_test puts = subst (λ (x : Bool). Puts output b c (if x then text else [])) (sym true_test ∙ same) puts

  -- if the condition of a text doesn't hold, nothing has to be put for it
  pub puts-nowhere : {b : Buffered W} {holds test : Bool} (text : List ℕ) → test ≡ holds → test ≡ false → Puts output b b (if holds then text else [])
  puts-nowhere {b} text same false_test = subst (λ (x : Bool). Puts output b b (if x then text else [])) (sym false_test ∙ same) (puts-nothing b)

  -- the text of one number more, from 0 on
  pub puts-up : {b c d : Buffered W} (f : ℕ → List ℕ) (n : ℕ) → Puts output b c (flat_map f (range_with_len 0 n)) → Puts output c d (f n)
      → Puts output b d (flat_map f (range_with_len 0 (n + 1)))
  puts-up {c = c} {d = d} f n before text = puts-range_next f 0 n before (subst (λ k. Puts output c d (f k)) (sym (zero-add n)) text)

  -- one more line, if they are numbered from 0 on
  pub puts-numbered_up : {X : Type 0} {b c d : Buffered W} (f : ℕ → X → List ℕ) (xs : List X) (k : ℕ) (x : X) → k < length xs → x ≡ get_or xs k x
      → Puts output b c (numbered_lines f 0 (take k xs)) → Puts output c d (f k x) → Puts output b d (numbered_lines f 0 (take (k + 1) xs))
  puts-numbered_up {c = c} {d = d} f xs k x h there before line =
      puts-numbered_next f 0 xs k x h there before (subst (λ (n : ℕ). Puts output c d (f n x)) (sym (zero-add k)) line)

-- the steps of the longest sequence, if there is one more of them
pub longest-next : (trace : List (List (List Bool))) (n : ℕ) → longest_of trace (n + 1) ≡ max (longest_of trace n) (length (get_or trace n []))
longest-next trace n = let next : n + 1 ≡ suc n = omega arith in ap (longest_of trace) next
