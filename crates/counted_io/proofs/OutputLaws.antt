-- One text written after another.
use Rattle.std.proofs.Common.{ℕ, ◌+◌, ◌≡◌, List, [], ◌∷◌, ◌++◌, length, take, drop, refl, arith, ap, ◌∙◌, min, subst}
use Rattle.std.proofs.Math.Seq.{take-append-add}
use Rattle.std.proofs.lemmas.List.{take-append-drop, take-append-le, take_min}
use Rattle.std.proofs.KnownBytes.{Appends-nil, Appends-trans}
use Rattle.counted_io.specs.Output.{Output, WritesAll, WritesPart, one_more}

-- nothing was written
pub all-nothing : (s : Output) → WritesAll s s []
all-nothing s = record { bytes = Appends-nil s.bytes; failures = refl }

-- a text, and another after it
pub all-then : (s t u : Output) (a b : List ℕ) → WritesAll s t a → WritesAll t u b → WritesAll s u (a ++ b)
all-then s t u a b p q = record {
  bytes = Appends-trans s.bytes t.bytes u.bytes a b p.bytes q.bytes;
  failures = q.failures ∙ p.failures;
}

-- a text, and a beginning of the one after it
pub part-then : (s t u : Output) (a b : List ℕ) → WritesAll s t a → WritesPart t u b → WritesPart s u (a ++ b)
part-then s t u a b p q = record {
  count = length a + q.count;
  bytes = rw (take-append-add a b q.count) (Appends-trans s.bytes t.bytes u.bytes a (take q.count b) p.bytes q.bytes);
  failures = q.failures ∙ ap one_more p.failures;
}

-- a beginning of a text is one of a longer text
pub part-more : (s t : Output) (a b : List ℕ) → WritesPart s t a → WritesPart s t (a ++ b)
part-more s t a b p = record {
  count = min p.count (length a);
  bytes = rw (take-append-le (min p.count (length a)) a b (omega arith), take_min p.count a) p.bytes;
  failures = p.failures;
}

-- a text in two pieces
pub all-pieces : (s t u : Output) (n : ℕ) (text : List ℕ) → WritesAll s t (take n text) → WritesAll t u (drop n text) → WritesAll s u text
all-pieces s t u n text p q = subst (λ (xs : List ℕ). WritesAll s u xs) (take-append-drop n text) (all-then s t u (take n text) (drop n text) p q)

-- a text's first piece, and a beginning of its second, are a beginning of the text
pub part-pieces : (s t u : Output) (n : ℕ) (text : List ℕ) → WritesAll s t (take n text) → WritesPart t u (drop n text) → WritesPart s u text
part-pieces s t u n text p q = subst (λ (xs : List ℕ). WritesPart s u xs) (take-append-drop n text) (part-then s t u (take n text) (drop n text) p q)

-- a text without a byte is written if the writer stays as it is
pub all-empty : (s : Output) (text : List ℕ) → length text ≡ 0 → WritesAll s s text
all-empty s [] e = all-nothing s
all-empty s (x ∷ xs) e = absurd (omega arith)

pub ruleset writing_in_turn = (all-then, part-then, part-more, all-nothing)
