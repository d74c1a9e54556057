-- The first line of a text.
use Rattle.std.proofs.Common.{ℕ, ◌+◌, ◌<◌, ◌≡◌, length, List, [], ◌∷◌, refl, arith, true, not, nat_eq, ap, sym, inl, inr, ◌∙◌, length-append}
use Rattle.std.proofs.lemmas.Bool.{and_parts, not-true, cond-false}
use Rattle.file_words.specs.Lines.{with_front, lines}
use Rattle.file_words.specs.Cuts.{lacks, Cuts, IsFirst}
use Rattle.file_words.proofs.DecimalLaws.{lines-at_newline}

-- a line that no newline ends
pub lines-at_end : (b : ℕ) (line : List ℕ) → lacks 10 (b ∷ line) ≡ true → lines (b ∷ line) ≡ (b ∷ line) ∷ []
unfolding lines
lines-at_end b [] clean =
    let parts = and_parts (not (nat_eq b 10)) true clean in
    cond-false (nat_eq b 10) ([] ∷ []) ((b ∷ []) ∷ []) (not-true (nat_eq b 10) parts.0)
lines-at_end b (c ∷ line) clean =
    let parts = and_parts (not (nat_eq b 10)) (lacks 10 (c ∷ line)) clean in
    cond-false (nat_eq b 10) ([] ∷ lines (c ∷ line)) (with_front b (lines (c ∷ line))) (not-true (nat_eq b 10) parts.0)
    ∙ ap (with_front b) (lines-at_end c line parts.1)

-- an empty text has no lines
pub no_lines : lines [] ≡ []
unfolding lines
no_lines = refl

-- what stands before the first newline is the text's first line, and what stands after it follows
pub first_cut : (text line more : List ℕ) → Cuts 10 text line more → IsFirst text line more
first_cut text line more cuts =
    let long : length text ≡ length line + 1 + length more = ap length cuts.whole ∙ length-append line (10 ∷ more) ∙ omega arith in
    record {
      shorter = omega (arith, long);
      whole = ap lines cuts.whole ∙ lines-at_newline line more cuts.clean;
      starts = inr long;
    }

-- a text without a newline, if not empty, is its own first line, which nothing follows
pub first_only : (text more : List ℕ) → 0 < length text → lacks 10 text ≡ true → more ≡ [] → IsFirst text text more
first_only [] more some clean none = absurd (omega arith)
first_only (b ∷ text) more some clean none = record {
  shorter = omega (arith, ap length none);
  whole = lines-at_end b text clean ∙ ap (λ (ls : List (List ℕ)). (b ∷ text) ∷ ls) (sym (ap lines none ∙ no_lines));
  starts = inl none;
}

-- if there is more, the newline stands between
pub apart : (text line more : List ℕ) → IsFirst text line more → 0 < length more → length line + 1 + length more ≡ length text
apart text line more first some = elim first.starts [
  | inl none ↦ absurd (omega (arith, some, ap length none))
  | inr long ↦ sym long
]
