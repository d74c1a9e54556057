-- Reading to the end, piece by piece.
use Rattle.std.proofs.Common.{ℕ, ◌≡◌, List, [], ◌++◌, Option, Some, None, refl, ap, sym, ◌∙◌, append-nil, subst}
use Rattle.std.proofs.KnownBytes.{Consumes-nil, Consumes-trans, Consumes-kept}
use Rattle.std.specs.Io.KnownBytes.{Consumes, IsAtEnd, Keeps}
use Rattle.counted_io.specs.Input.{Input, ReadsAll, ReadsPart}

-- these bytes have been read, and no read has failed
pub record ReadsFirst (old new : Input) (read : List ℕ) : Type 0 where
  -- these bytes were taken from the front of what was left
  pub bytes : Consumes old.bytes new.bytes read
  -- no read has failed since
  pub failures : new.failures ≡ old.failures

-- a reader of which nothing was read yet has given no byte
pub first-nothing : (s : Input) → ReadsFirst s s []
first-nothing s = record { bytes = Consumes-nil s.bytes; failures = refl }

-- one more piece
pub first-more : (s t u : Input) (read piece all : List ℕ) → ReadsFirst s t read → Consumes t.bytes u.bytes piece → u.failures ≡ t.failures → all ≡ read ++ piece → ReadsFirst s u all
first-more s t u read piece all before more same e = record {
  bytes = subst (λ (xs : List ℕ). Consumes s.bytes u.bytes xs) (sym e) (Consumes-trans s.bytes t.bytes u.bytes read piece before.bytes more);
  failures = same ∙ before.failures;
}

-- a reader that told its bytes, and has none left
told : (a b : Option (List ℕ)) (read : List ℕ) → Consumes a b read → IsAtEnd b → (left : List ℕ) → a ≡ Some left → (read ≡ left) × (b ≡ Some [])
told None b read p q left e = absurd (cc)
told (Some xs) None read p q left e = absurd p
told (Some xs) (Some ys) read p q left e =
    let same : xs ≡ left = cc in
    (sym (append-nil read) ∙ ap (λ zs. read ++ zs) (sym q) ∙ sym p ∙ same, ap (λ zs. Some zs) q)

-- the last read gave nothing
pub first-all : (s t u : Input) (read piece : List ℕ) → ReadsFirst s t read → Consumes t.bytes u.bytes piece → piece ≡ [] → IsAtEnd u.bytes → u.failures ≡ t.failures → ReadsAll s u read
first-all s t u read piece before more nothing end same =
    let whole = first-more s t u read piece read before more same (sym (ap (λ xs. read ++ xs) nothing ∙ append-nil read)) in
    record { bytes = told s.bytes u.bytes read whole.bytes end; failures = whole.failures }

-- the reading stopped there
pub first-part : (s t u : Input) (read : List ℕ) → ReadsFirst s t read → Keeps t.bytes u.bytes → ReadsPart s u
first-part s t u read before kept = record { beginning = read; bytes = Consumes-kept s.bytes t.bytes u.bytes read before.bytes kept }

-- a piece that was read and dropped
pub first-dropped : (s t u : Input) (read piece : List ℕ) → ReadsFirst s t read → Consumes t.bytes u.bytes piece → ReadsPart s u
first-dropped s t u read piece before more = record { beginning = read ++ piece; bytes = Consumes-trans s.bytes t.bytes u.bytes read piece before.bytes more }
