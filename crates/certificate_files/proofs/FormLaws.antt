-- A line whose form is known.
use Rattle.std.proofs.Common.{ℕ, ◌-◌, ◌^◌, ◌≡◌, length, List, [], ◌∷◌, ◌++◌, drop, Option, Some, None, Result, Ok, Err, refl, arith, Bool, true, false, ◌&&◌, nat_le, cond, ap, sym, ◌∙◌, map, codes}
use Rattle.std.proofs.lemmas.Bool.{leb-true, leb-false, le-leb, lt-leb}
use Rattle.std.proofs.lemmas.Bool.Decides.{Decides-eqb}
use Rattle.std.proofs.lemmas.Slice.Eq.{starts_is}
use Rattle.std.specs.List.{list_all}
use Rattle.std.specs.Option.{option_and_then}
use Rattle.file_words.specs.Lines.{pieces, numbers_of}
use Rattle.ascii_file.specs.parts.Rows.{clamped, up_to_nine, row_of}
use Rattle.certificate_files.specs.declared.fault.CertError.{CertError}
use Rattle.certificate_files.specs.declared.fault.CertError.TheVariants.{BadLine, TooLarge}
use Rattle.certificate_files.specs.declared.forms.FrameLine.{FrameLine}
use Rattle.certificate_files.specs.Files.{begins_with, is_point, point_of_word, is_small, Saying, Frame, Gate, Route, frame_saying, gate_saying, route_of, saying_of}
use Rattle.certificate_files.specs.Forms.{framed, gated, routed}

-- ---- the letters

-- a line that no rest completes to doesn't begin with the letters
pub begins_not : (letters line : List ℕ) → ((rest : List ℕ) → line ≡ letters ++ rest → ⊥) → begins_with letters line ≡ false
begins_not letters line never = by_test (begins_with letters line) refl
  where
    by_test : (b : Bool) → begins_with letters line ≡ b → b ≡ false
    by_test true is = absurd (never (drop (length letters) line) ((starts_is Decides-eqb line letters true (sym is)).0 refl))
    by_test false is = refl

-- what is said by a line that begins with none of the letters, or with some
abbrev said : Bool → Bool → Bool → List ℕ → Option Saying
said frame gate route line =
    cond frame (frame_saying (numbers_of (drop 6 line))) (cond gate (gate_saying (numbers_of (drop 2 line))) (cond route (route_of (pieces (drop 2 line))) None))

said_by : (line : List ℕ) → saying_of line ≡ said (begins_with (codes "frame ") line) (begins_with (codes "g ") line) (begins_with (codes "r ") line) line
unfolding saying_of
said_by line = refl

framed-gate : (at : ℕ) (o : Option (List ℕ)) → framed at (gate_saying o) ≡ Err (BadLine at)
framed-gate at None = refl
framed-gate at (Some []) = refl
framed-gate at (Some (v ∷ [])) = refl
framed-gate at (Some (v ∷ w ∷ ns)) = refl

framed-route : (at : ℕ) (words : List (List ℕ)) → framed at (route_of words) ≡ Err (BadLine at)
framed-route at words = by_test (list_all is_point words)
  where
    by_test : (b : Bool) → framed at (cond b (Some (Route (map point_of_word words))) None) ≡ Err (BadLine at)
    by_test true = refl
    by_test false = refl

gated-frame : (at : ℕ) (o : Option (List ℕ)) → gated at (frame_saying o) ≡ Err (BadLine at)
gated-frame at None = refl
gated-frame at (Some []) = refl
gated-frame at (Some (a ∷ [])) = refl
gated-frame at (Some (a ∷ b ∷ [])) = refl
gated-frame at (Some (a ∷ b ∷ c ∷ [])) = refl
gated-frame at (Some (a ∷ b ∷ c ∷ d ∷ ns)) = refl

gated-route : (at : ℕ) (words : List (List ℕ)) → gated at (route_of words) ≡ Err (BadLine at)
gated-route at words = by_test (list_all is_point words)
  where
    by_test : (b : Bool) → gated at (cond b (Some (Route (map point_of_word words))) None) ≡ Err (BadLine at)
    by_test true = refl
    by_test false = refl

routed-frame : (at : ℕ) (o : Option (List ℕ)) → routed at (frame_saying o) ≡ Err (BadLine at)
routed-frame at None = refl
routed-frame at (Some []) = refl
routed-frame at (Some (a ∷ [])) = refl
routed-frame at (Some (a ∷ b ∷ [])) = refl
routed-frame at (Some (a ∷ b ∷ c ∷ [])) = refl
routed-frame at (Some (a ∷ b ∷ c ∷ d ∷ ns)) = refl

routed-gate : (at : ℕ) (o : Option (List ℕ)) → routed at (gate_saying o) ≡ Err (BadLine at)
routed-gate at None = refl
routed-gate at (Some []) = refl
routed-gate at (Some (v ∷ [])) = refl
routed-gate at (Some (v ∷ w ∷ ns)) = refl

-- if a block's first line is due, a line that doesn't begin with its word is a fault
pub framed_other : (at : ℕ) (line : List ℕ) → ((rest : List ℕ) → line ≡ codes "frame " ++ rest → ⊥) → framed at (saying_of line) ≡ Err (BadLine at)
framed_other at line never =
    ap (framed at) (said_by line ∙ ap (λ (b : Bool). said b (begins_with (codes "g ") line) (begins_with (codes "r ") line) line) (begins_not (codes "frame ") line never))
    ∙ by_tests (begins_with (codes "g ") line) (begins_with (codes "r ") line)
  where
    by_tests : (g r : Bool) → framed at (said false g r line) ≡ Err (BadLine at)
    by_tests true r = framed-gate at (numbers_of (drop 2 line))
    by_tests false true = framed-route at (pieces (drop 2 line))
    by_tests false false = refl

-- if a gate is due, a line that doesn't begin with its letter is a fault
pub gated_other : (at : ℕ) (line : List ℕ) → ((rest : List ℕ) → line ≡ codes "g " ++ rest → ⊥) → gated at (saying_of line) ≡ Err (BadLine at)
gated_other at line never =
    ap (gated at) (said_by line ∙ ap (λ (b : Bool). said (begins_with (codes "frame ") line) b (begins_with (codes "r ") line) line) (begins_not (codes "g ") line never))
    ∙ by_tests (begins_with (codes "frame ") line) (begins_with (codes "r ") line)
  where
    by_tests : (f r : Bool) → gated at (said f false r line) ≡ Err (BadLine at)
    by_tests true r = gated-frame at (numbers_of (drop 6 line))
    by_tests false true = gated-route at (pieces (drop 2 line))
    by_tests false false = refl

-- if a route is due, a line that doesn't begin with its letter is a fault
pub routed_other : (at : ℕ) (line : List ℕ) → ((rest : List ℕ) → line ≡ codes "r " ++ rest → ⊥) → routed at (saying_of line) ≡ Err (BadLine at)
routed_other at line never =
    ap (routed at) (said_by line ∙ ap (λ (b : Bool). said (begins_with (codes "frame ") line) (begins_with (codes "g ") line) b line) (begins_not (codes "r ") line never))
    ∙ by_tests (begins_with (codes "frame ") line) (begins_with (codes "g ") line)
  where
    by_tests : (f g : Bool) → routed at (said f g false line) ≡ Err (BadLine at)
    by_tests true g = routed-frame at (numbers_of (drop 6 line))
    by_tests false true = routed-gate at (numbers_of (drop 2 line))
    by_tests false false = refl

-- a line that begins with letters
pub saying-frame : (line rest : List ℕ) → line ≡ codes "frame " ++ rest → saying_of line ≡ frame_saying (numbers_of rest)
unfolding saying_of
saying-frame line rest is = ap saying_of is

-- a line that begins with the letter of a gate says the gate that its number is
pub saying-gate : (line rest : List ℕ) → line ≡ codes "g " ++ rest → saying_of line ≡ gate_saying (numbers_of rest)
unfolding saying_of
saying-gate line rest is = ap saying_of is

-- a line that begins with the letter of a route says the route that its words are
pub saying-route : (line rest : List ℕ) → line ≡ codes "r " ++ rest → saying_of line ≡ route_of (pieces rest)
unfolding saying_of
saying-route line rest is = ap saying_of is

-- ---- numbers cut to 32 bits

-- a cut number is small if the number is, and then it is that number
pub small_same : (n : ℕ) → is_small (clamped n) ≡ is_small n
small_same n = by_test (is_small n) refl
  where
    by_test : (b : Bool) → is_small n ≡ b → is_small (clamped n) ≡ b
    by_test true is = let within = leb-true n (2 ^ 28 - 1) is in le-leb (clamped n) (2 ^ 28 - 1) (omega (arith, within))
    by_test false is = let past = leb-false n (2 ^ 28 - 1) is in lt-leb (clamped n) (2 ^ 28 - 1) (omega (arith, past))

-- a number within the limit stays as it is when it is cut to 32 bits
pub small_is : (n : ℕ) → is_small n ≡ true → clamped n ≡ n
small_is n is = let within = leb-true n (2 ^ 28 - 1) is in omega (arith, within)

-- the numbers of a line cut to 32 bits, if they are at most nine
abbrev pub cut_row : Option (List ℕ) → Option (List ℕ)
cut_row o = option_and_then (λ ns. up_to_nine (map clamped ns)) o

-- the numbers of a row are those of its text, cut to 32 bits
pub row_cut : (text : List ℕ) → row_of text ≡ cut_row (numbers_of text)
unfolding row_of
row_cut text = refl

-- nine numbers or fewer, of which there are more than three
framed-many : (at a b c d : ℕ) (ns : List ℕ) → framed at (frame_saying (up_to_nine (a ∷ b ∷ c ∷ d ∷ ns))) ≡ Err (BadLine at)
framed-many at a b c d ns = by_test (nat_le (length (a ∷ b ∷ c ∷ d ∷ ns)) 9)
  where
    by_test : (t : Bool) → framed at (frame_saying (cond t (Some (a ∷ b ∷ c ∷ d ∷ ns)) None)) ≡ Err (BadLine at)
    by_test true = refl
    by_test false = refl

gated-many : (at a b : ℕ) (ns : List ℕ) → gated at (gate_saying (up_to_nine (a ∷ b ∷ ns))) ≡ Err (BadLine at)
gated-many at a b ns = by_test (nat_le (length (a ∷ b ∷ ns)) 9)
  where
    by_test : (t : Bool) → gated at (gate_saying (cond t (Some (a ∷ b ∷ ns)) None)) ≡ Err (BadLine at)
    by_test true = refl
    by_test false = refl

framed-three : (at a b c : ℕ) → framed at (Some (Frame (clamped a) (clamped b) (clamped c))) ≡ framed at (Some (Frame a b c))
framed-three at a b c =
    ap (λ (t : Bool). cond (t && is_small (clamped b) && is_small (clamped c)) (Ok all) (Err (TooLarge at))) (small_same a)
    ∙ ap (λ (t : Bool). cond (is_small a && t && is_small (clamped c)) (Ok all) (Err (TooLarge at))) (small_same b)
    ∙ ap (λ (t : Bool). cond (is_small a && is_small b && t) (Ok all) (Err (TooLarge at))) (small_same c)
    ∙ by_tests (is_small a) refl (is_small b) refl (is_small c) refl
  where
    all : FrameLine
    all = record { count = clamped a; gates = clamped b; routes = clamped c }

    by_tests : (p : Bool) → is_small a ≡ p → (q : Bool) → is_small b ≡ q → (r : Bool) → is_small c ≡ r
        → cond {A = Result FrameLine CertError} (p && q && r) (Ok all) (Err (TooLarge at)) ≡ cond (p && q && r) (Ok (record { count = a; gates = b; routes = c })) (Err (TooLarge at))
    by_tests true p true q true r = rw (small_is a p, small_is b q, small_is c r) refl
    by_tests true p true q false r = refl
    by_tests true p false q r s = refl
    by_tests false p q r s t = refl

gated-one : (at a : ℕ) → gated at (Some (Gate (clamped a))) ≡ gated at (Some (Gate a))
gated-one at a =
    ap (λ (t : Bool). cond t (Ok (clamped a)) (Err (TooLarge at))) (small_same a) ∙ by_test (is_small a) refl
  where
    by_test : (p : Bool) → is_small a ≡ p → cond {A = Result ℕ CertError} p (Ok (clamped a)) (Err (TooLarge at)) ≡ cond p (Ok a) (Err (TooLarge at))
    by_test true p = ap (λ (v : ℕ). Ok v) (small_is a p)
    by_test false p = refl

framed-cut : (at : ℕ) (o : Option (List ℕ)) → framed at (frame_saying (cut_row o)) ≡ framed at (frame_saying o)
framed-cut at None = refl
framed-cut at (Some []) = refl
framed-cut at (Some (a ∷ [])) = refl
framed-cut at (Some (a ∷ b ∷ [])) = refl
framed-cut at (Some (a ∷ b ∷ c ∷ [])) = framed-three at a b c
framed-cut at (Some (a ∷ b ∷ c ∷ d ∷ ns)) = framed-many at (clamped a) (clamped b) (clamped c) (clamped d) (map clamped ns)

-- a number cut to 32 bits is that of a gate's line if the number is
pub gated-cut : (at : ℕ) (o : Option (List ℕ)) → gated at (gate_saying (cut_row o)) ≡ gated at (gate_saying o)
gated-cut at None = refl
gated-cut at (Some []) = refl
gated-cut at (Some (a ∷ [])) = gated-one at a
gated-cut at (Some (a ∷ b ∷ ns)) = gated-many at (clamped a) (clamped b) (map clamped ns)

-- a block's first line says by its numbers cut to 32 bits what it says by its numbers
pub framed-row : (at : ℕ) (line rest : List ℕ) → line ≡ codes "frame " ++ rest → framed at (frame_saying (row_of rest)) ≡ framed at (saying_of line)
framed-row at line rest is = ap (λ (o : Option (List ℕ)). framed at (frame_saying o)) (row_cut rest) ∙ framed-cut at (numbers_of rest) ∙ ap (framed at) (sym (saying-frame line rest is))

-- the line of a gate says by its number cut to 32 bits what it says by its number
pub gated-row : (at : ℕ) (line rest : List ℕ) → line ≡ codes "g " ++ rest → gated at (gate_saying (row_of rest)) ≡ gated at (saying_of line)
gated-row at line rest is = ap (λ (o : Option (List ℕ)). gated at (gate_saying o)) (row_cut rest) ∙ gated-cut at (numbers_of rest) ∙ ap (gated at) (sym (saying-gate line rest is))
