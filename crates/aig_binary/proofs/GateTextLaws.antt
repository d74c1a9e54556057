-- The text of gates, whose deltas wait until there are many.
use Rattle.std.proofs.Common.{ℕ, ◌+◌, ◌<◌, ◌≤◌, ◌≡◌, List, [], ◌∷◌, ◌++◌, length, take, get_or, arith, ap, sym, ◌∙◌, subst}
use Rattle.std.proofs.lemmas.List.{append_assoc, append-nil, length-take-le, take_all, take_more}
use Rattle.std.proofs.lemmas.List.Concat.{flat_map-append}
use Rattle.std.specs.List.{flat_map, enumerate_from}
use Rattle.counted_io.specs.Buffered.{Puts}
use Rattle.counted_io.specs.Line.{numbered_lines}
use Rattle.counted_io.specs.Output.{Output}
use Rattle.counted_io.specs.declared.buffered.Buffered.{Buffered}
use Rattle.counted_io.proofs.BufferedLaws.{puts-then, enumerate_from-append}
use Rattle.aig_binary.specs.Text.{KeepsText}

-- the line of one more numbered thing
numbered-more : {X : Type 0} (f : ℕ → X → List ℕ) (first : ℕ) (xs : List X) (k : ℕ) (x : X) → k < length xs → x ≡ get_or xs k x
    → numbered_lines f first (take (k + 1) xs) ≡ numbered_lines f first (take k xs) ++ f (first + k) x
numbered-more f first xs k x h there =
    let line : (ℕ × _) → List ℕ = λ e. f e.0 e.1 in
    let reached : length (take k xs) ≡ k = length-take-le k xs (omega arith) in
    ap (numbered_lines f first) (take_more xs k x h ∙ ap (λ y. take k xs ++ y ∷ []) (sym there))
    ∙ ap (flat_map line) (enumerate_from-append first (take k xs) (x ∷ []) ∙ ap (λ n. enumerate_from first (take k xs) ++ (n, x) ∷ []) (ap (λ n. first + n) reached))
    ∙ flat_map-append line (enumerate_from first (take k xs)) ((first + k, x) ∷ [])
    ∙ ap (λ ys. numbered_lines f first (take k xs) ++ ys) (append-nil (f (first + k) x))

module _ {W : Type 0} {output : W → Output} where
  -- if the deltas that waited were put, none wait
  pub keeps-put : {b c : Buffered W} (waited : List ℕ) → Puts output b c waited → KeepsText output b waited c []
  keeps-put waited put end more after = puts-then put after

  -- the line of one more thing waits
  pub keeps-more : {X : Type 0} {b c d : Buffered W} (f : ℕ → X → List ℕ) (first : ℕ) (xs : List X) (k : ℕ) (x : X) (waits room now : List ℕ)
      → k < length xs → x ≡ get_or xs k x → KeepsText output b (numbered_lines f first (take k xs)) c waits → KeepsText output c waits d room
      → now ≡ room ++ f (first + k) x → KeepsText output b (numbered_lines f first (take (k + 1) xs)) d now
  keeps-more {b = b} {d = d} f first xs k x waits room now h there before left pushed end more after =
      subst (λ (ys : List ℕ). Puts output b end ys)
      (sym (append_assoc (numbered_lines f first (take k xs)) (f (first + k) x) more) ∙ ap (λ (ys : List ℕ). ys ++ more) (sym (numbered-more f first xs k x h there)))
      (before end (f (first + k) x ++ more) (left end (f (first + k) x ++ more) (subst (λ (ys : List ℕ). Puts output d end ys)
      (ap (λ (ys : List ℕ). ys ++ more) pushed ∙ append_assoc room (f (first + k) x) more) after)))

  -- what waits at the end is put
  pub keeps-end : {X : Type 0} {b c d : Buffered W} (f : ℕ → X → List ℕ) (first : ℕ) (xs : List X) (k : ℕ) (waits : List ℕ)
      → length xs ≤ k → KeepsText output b (numbered_lines f first (take k xs)) c waits → Puts output c d waits → Puts output b d (numbered_lines f first xs)
  keeps-end {b = b} {c = c} {d = d} f first xs k waits h kept put =
      let whole : KeepsText output b (numbered_lines f first xs) c waits = rw take_all at kept in
      subst (λ (ys : List ℕ). Puts output b d ys) (append-nil (numbered_lines f first xs)) (whole d [] (subst (λ (ys : List ℕ). Puts output c d ys) (sym (append-nil waits)) put))
