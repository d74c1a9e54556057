-- The points of a route, word by word.
use Rattle.std.proofs.Common.{ℕ, ◌-◌, ◌≡◌, length, List, [], ◌∷◌, ◌++◌, take, Option, Some, None, Result, Ok, Err, refl, arith, Bool, true, false, ◌&&◌, ◌||◌, ◌==◌, cond, ap, ap₂, sym, ◌∙◌, map, get_or, length-append, append_assoc}
use Rattle.std.proofs.Math.Seq.{take-append_seam}
use Rattle.std.proofs.lemmas.Bool.{and_parts}
use Rattle.std.specs.List.{list_all}
use Rattle.file_words.specs.Lines.{pieces, is_number, digits_value}
use Rattle.file_words.specs.Cuts.{Cuts}
use Rattle.file_words.proofs.DecimalLaws.{pieces-at_space}
use Rattle.ascii_file.specs.parts.Rows.{clamped}
use Rattle.frame_net.specs.declared.net.Point.{Point}
use Rattle.certificate_files.specs.declared.fault.CertError.{CertError}
use Rattle.certificate_files.specs.declared.fault.CertError.TheVariants.{BadLine, TooLarge}
use Rattle.certificate_files.specs.Files.{sign_of, is_point, point_of_word, is_small, Route, route_of}
use Rattle.certificate_files.specs.Forms.{number_of, side_of, clamped_point, spelt_point, spelt_at, onto, are_small, sized_points, routed}
use Rattle.certificate_files.proofs.FormLaws.{small_same, small_is}

-- ---- words

-- if the first space cuts a text, its first word is before it, and the other words are those after
-- it
pub pieces_cut : (text word rest : List ℕ) → Cuts 32 text word rest → pieces text ≡ word ∷ pieces rest
pieces_cut text word rest cuts = ap pieces cuts.whole ∙ pieces-at_space word rest cuts.clean

-- ---- points

-- a point's word is its number and its sign
abbrev joined : Option ℕ → Option Bool → Option Point
joined (Some v) (Some b) = Some (record { var = v; behind = b })
joined a b = None

-- the byte after all digits of a word is its sign
pub last_of : (digits : List ℕ) (sign : ℕ) → get_or (digits ++ sign ∷ []) (length digits) 0 ≡ sign
last_of [] sign = refl
last_of (d ∷ digits) sign = last_of digits sign

-- a word that is digits and a sign spells the point of their number and side
pub spelt_joined : (word digits : List ℕ) (sign : ℕ) → word ≡ digits ++ sign ∷ [] → spelt_point word ≡ joined (number_of digits) (side_of sign)
spelt_joined word digits sign is =
    ap spelt_point is ∙ ap₂ made front last ∙ by_tests (is_number digits) (sign == 43) (sign == 45)
  where
    whole : List ℕ
    whole = digits ++ sign ∷ []

    long : length whole - 1 ≡ length digits
    long = omega (arith, length-append digits (sign ∷ []))

    front : take (length whole - 1) whole ≡ digits
    front = ap (λ (n : ℕ). take n whole) long ∙ take-append_seam digits (sign ∷ [])

    last : sign_of whole ≡ sign
    last = ap (λ (n : ℕ). get_or whole n 0) long ∙ last_of digits sign

    made : List ℕ → ℕ → Option Point
    made ds s = cond (is_number ds && (s == 43 || s == 45)) (Some (record { var = clamped (digits_value ds); behind = s == 43 })) None

    by_tests : (n p m : Bool) → cond {A = Option Point} (n && (p || m)) (Some (record { var = clamped (digits_value digits); behind = p })) None
        ≡ joined (cond n (Some (clamped (digits_value digits))) None) (cond p (Some true) (cond m (Some false) None))
    by_tests true true m = refl
    by_tests true false true = refl
    by_tests true false false = refl
    by_tests false true m = refl
    by_tests false false true = refl
    by_tests false false false = refl

-- an empty word spells no point
pub no_digits : spelt_point [] ≡ None
no_digits = refl

-- ---- the points of words

abbrev cut_point : List ℕ → Point
cut_point w = clamped_point (point_of_word w)

-- a word that spells a point adds it to those read before
pub point_pushed : (at : ℕ) (points : List Point) (word : List ℕ) (words : List (List ℕ)) (p : Point) → spelt_point word ≡ Some p
    → onto points (spelt_at at (word ∷ words)) ≡ onto (points ++ p ∷ []) (spelt_at at words)
point_pushed at points word words p is = by_tests (is_point word) is (list_all is_point words)
  where
    by_tests : (a : Bool) → cond {A = Option Point} a (Some (cut_point word)) None ≡ Some p → (b : Bool)
        → onto points (cond (a && b) (Ok (cut_point word ∷ map cut_point words)) (Err (BadLine at))) ≡ onto (points ++ p ∷ []) (cond b (Ok (map cut_point words)) (Err (BadLine at)))
    by_tests false e b = absurd (cc)
    by_tests true e false = refl
    by_tests true e true =
        let same : cut_point word ≡ p = cc in
        ap (λ (q : Point). Ok (points ++ q ∷ map cut_point words)) same ∙ ap (λ (ps : List Point). Ok ps) (sym (append_assoc points (p ∷ []) (map cut_point words)))

-- a word that spells no point is a fault of the line
pub point_refused : (at : ℕ) (points : List Point) (word : List ℕ) (words : List (List ℕ)) → spelt_point word ≡ None
    → onto points (spelt_at at (word ∷ words)) ≡ Err (BadLine at)
point_refused at points word words is = by_test (is_point word) is
  where
    by_test : (a : Bool) → cond {A = Option Point} a (Some (cut_point word)) None ≡ None
        → onto points (cond (a && list_all is_point words) (Ok (cut_point word ∷ map cut_point words)) (Err (BadLine at))) ≡ Err (BadLine at)
    by_test true e = absurd (cc)
    by_test false e = refl

-- what is read after no points is what is read
pub onto_nothing : (r : Result (List Point) CertError) → onto [] r ≡ r
onto_nothing (Ok ps) = refl
onto_nothing (Err e) = refl

-- ---- the sizes

small_cut : (ws : List (List ℕ)) → are_small (map cut_point ws) ≡ are_small (map point_of_word ws)
small_cut [] = refl
small_cut (w ∷ ws) = ap₂ (λ (a b : Bool). a && b) (small_same (point_of_word w).var) (small_cut ws)

cut_same : (ws : List (List ℕ)) → are_small (map point_of_word ws) ≡ true → map cut_point ws ≡ map point_of_word ws
cut_same [] small = refl
cut_same (w ∷ ws) small =
    let parts = and_parts (is_small (point_of_word w).var) (are_small (map point_of_word ws)) small in
    ap₂ (λ (p : Point) (ps : List Point). p ∷ ps) (ap (λ (v : ℕ). record { var = v; behind = (point_of_word w).behind }) (small_is (point_of_word w).var parts.0)) (cut_same ws parts.1)

abbrev sized : ℕ → Result (List Point) CertError → Result (List Point) CertError
sized at (Ok ps) = sized_points at ps
sized at (Err e) = Err e

routed_sized : (at : ℕ) (ws : List (List ℕ)) → routed at (route_of ws) ≡ sized at (spelt_at at ws)
routed_sized at ws = by_test (list_all is_point ws)
  where
    by_size : (s : Bool) → are_small (map point_of_word ws) ≡ s → cond {A = Result (List Point) CertError} s (Ok (map point_of_word ws)) (Err (TooLarge at)) ≡ cond s (Ok (map cut_point ws)) (Err (TooLarge at))
    by_size true small = ap (λ (ps : List Point). Ok ps) (sym (cut_same ws small))
    by_size false small = refl

    by_test : (b : Bool) → routed at (cond b (Some (Route (map point_of_word ws))) None) ≡ sized at (cond b (Ok (map cut_point ws)) (Err (BadLine at)))
    by_test false = refl
    by_test true = by_size (are_small (map point_of_word ws)) refl
        ∙ ap (λ (s : Bool). cond s (Ok (map cut_point ws)) (Err (TooLarge at))) (sym (small_cut ws))

-- a route whose words all spell points is these, if their numbers are small
pub routed_points : (at : ℕ) (ws : List (List ℕ)) (points : List Point) → spelt_at at ws ≡ Ok points → routed at (route_of ws) ≡ sized_points at points
routed_points at ws points is = routed_sized at ws ∙ ap (sized at) is

-- a fault of the words of a route is that of its line
pub routed_fault : (at : ℕ) (ws : List (List ℕ)) (e : CertError) → spelt_at at ws ≡ Err e → routed at (route_of ws) ≡ Err e
routed_fault at ws e is = routed_sized at ws ∙ ap (sized at) is
