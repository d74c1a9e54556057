-- Bytes of names.
use Rattle.std.proofs.Common.{ℕ, ◌≡◌, ◌≢◌, Bool, true, false, List, Result, Ok, Err, codes, refl, sym, ap}
use Rattle.std.specs.Prelude.{MatchResult, IsUtf8, is_ok}
use Rattle.std.specs.Str.{is_utf8}
use Rattle.std.proofs.lemmas.Str.{IsUtf8-from_is_utf8, is_utf8-from_IsUtf8}
use Rattle.std.proofs.lemmas.Bool.{ne_eqb}
use Rattle.pictures.specs.Labels.{label_byte, other_byte}

not_true : (b : Bool) → (b ≡ true → ⊥) → false ≡ b
not_true true h = absurd (h refl)
not_true false h = refl

-- bytes are UTF-8 if and only if they can be read as such
pub utf8_test : {T E : Type 0} (P : T → Type 0) (Q : E → Type 0) (r : Result T E) (bs : List ℕ)
    → MatchResult r (λ s. P s × IsUtf8 bs) (λ e. ¬ (IsUtf8 bs) × Q e) → is_ok r ≡ is_utf8 bs
utf8_test P Q (Ok s) bs is = sym (is_utf8-from_IsUtf8 bs is.1)
utf8_test P Q (Err e) bs is = not_true (is_utf8 bs) (λ h. is.0 (IsUtf8-from_is_utf8 bs h))

-- a quotation mark, a backslash, an ampersand
pub label_byte-34 : (utf8 : Bool) (b : ℕ) → b ≡ 34 → codes "\\\"" ≡ label_byte utf8 b
unfolding label_byte
label_byte-34 utf8 b is = sym (ap (label_byte utf8) is)

-- a backslash is written twice
pub label_byte-92 : (utf8 : Bool) (b : ℕ) → b ≡ 92 → codes "\\\\" ≡ label_byte utf8 b
unfolding label_byte
label_byte-92 utf8 b is = sym (ap (label_byte utf8) is)

-- an ampersand is written as its entity
pub label_byte-38 : (utf8 : Bool) (b : ℕ) → b ≡ 38 → codes "&amp;" ≡ label_byte utf8 b
unfolding label_byte
label_byte-38 utf8 b is = sym (ap (label_byte utf8) is)

-- a byte that is no quotation mark, backslash or ampersand
pub label_byte-other : (utf8 : Bool) (b : ℕ) → b ≢ 34 → b ≢ 92 → b ≢ 38 → other_byte utf8 b ≡ label_byte utf8 b
unfolding label_byte
label_byte-other utf8 b quotation backslash ampersand = rw (ne_eqb b 34 quotation, ne_eqb b 92 backslash, ne_eqb b 38 ampersand) refl
