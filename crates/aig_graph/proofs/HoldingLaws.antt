-- Looking up names, and the latches that they hold.
use Rattle.std.proofs.Common.{ℕ, ◌+◌, ◌<◌, ◌≡◌, ◌||◌, not, Bool, true, false, cond, List, [], ◌∷◌, ◌++◌, take, map, filter, length, get_or, Some, None, refl, arith, ap, ap₂, sym, ◌∙◌, nat_lt, nat_eq}
use Rattle.std.specs.List.{All, list_any, AllPairs}
use Rattle.std.specs.List.Sorted.{IsStrictlyIncreasing}
use Rattle.std.proofs.lemmas.Bool.{lt-ltb, le-ltb, ne_eqb}
use Rattle.std.proofs.lemmas.List.{get_or-map, length-map}
use Rattle.std.proofs.lemmas.List.Elements.{All-filter, All-map, filter_more}
use Rattle.std.proofs.lemmas.List.Folds.{list_any_more}
use Rattle.std.proofs.lemmas.List.Kept.{AllPairs-from_increasing, AllPairs-filter}
use Rattle.std.proofs.lemmas.List.Sums.{position_or_len_is}
use Rattle.aig_graph.specs.declared.properties.Symbol.{Symbol}
use Rattle.aig_graph.specs.Circuits.{AreNamesBelow, IsNetlist, Netlist}
use Rattle.aig_graph.specs.Keep.{is_named, held_by, held_in, has_name, first_missing}

-- one more element of a list that a look-up finds
pub found-more : {X : Type 0} (p : X → Bool) (xs : List X) (i : ℕ) (d : X) (b found : Bool) → i < length xs → b ≡ p (get_or xs i d) → found ≡ list_any p (take i xs)
    → cond b true found ≡ list_any p (take (i + 1) xs)
found-more p xs i d b found h here before =
    either b found ∙ ap₂ (λ (x y : Bool). x || y) before here ∙ sym (list_any_more p xs i d h)
  where
    either : (x y : Bool) → cond x true y ≡ (y || x)
    either true true = refl
    either true false = refl
    either false true = refl
    either false false = refl

-- some element of a mapped list passes if and only if some element's image does
pub list_any-map : {X Y : Type 0} (f : X → Y) (p : Y → Bool) (xs : List X) → list_any p (map f xs) ≡ list_any (λ x. p (f x)) xs
list_any-map f p [] = refl
list_any-map f p (x ∷ xs) = ap (λ (b : Bool). p (f x) || b) (list_any-map f p xs)

-- if all names before this one are symbols', and it isn't, it is the first that is missing
pub missing-at : (symbols : List Symbol) (names : List (List ℕ)) (i : ℕ) → i < length names
    → ((k : ℕ) → k < i → has_name symbols (get_or names k []) ≡ true) → has_name symbols (get_or names i []) ≡ false → first_missing symbols names ≡ Some i
unfolding first_missing
missing-at symbols names i h before here =
    let at = position_or_len_is (λ name. not (has_name symbols name)) names i [] (omega arith) (λ k low. ap not (before k low)) (λ high. ap not here) in
    ap (λ (n : ℕ). cond (nat_lt n (length names)) (Some n) None) at ∙ ap (λ (b : Bool). cond b (Some i) None) (lt-ltb i (length names) h)

-- if each name is a symbol's, none is missing
pub missing-none : (symbols : List Symbol) (names : List (List ℕ)) → ((k : ℕ) → k < length names → has_name symbols (get_or names k []) ≡ true) → first_missing symbols names ≡ None
unfolding first_missing
missing-none symbols names all =
    let n : ℕ = length names in
    let at = position_or_len_is (λ name. not (has_name symbols name)) names n [] (omega arith) (λ k low. ap not (all k low)) (λ high. absurd (omega arith)) in
    ap (λ (m : ℕ). cond (nat_lt m n) (Some m) None) at ∙ ap (λ (b : Bool). cond b (Some n) None) (le-ltb n n (omega arith))

-- if there is no symbol, nothing is held
pub held-none : (names : List (List ℕ)) → held_by names [] ≡ []
unfolding held_by
held-none names = refl

abbrev position_of : Symbol → ℕ
position_of s = s.position

-- one more symbol
pub held-more : (names : List (List ℕ)) (symbols : List Symbol) (i : ℕ) (d : Symbol) → i < length symbols
    → held_by names (take (i + 1) symbols) ≡ held_by names (take i symbols) ++ cond (is_named names (get_or symbols i d)) ((get_or symbols i d).position ∷ []) []
unfolding held_by
held-more names symbols i d h =
    ap (map position_of) (filter_more (is_named names) symbols i d h) ∙ pushed (filter (is_named names) (take i symbols)) (get_or symbols i d) (is_named names (get_or symbols i d))
  where
    pushed : (xs : List Symbol) (x : Symbol) (b : Bool) → map position_of (xs ++ cond b (x ∷ []) []) ≡ map position_of xs ++ cond b (x.position ∷ []) []
    pushed [] x true = refl
    pushed [] x false = refl
    pushed (y ∷ ys) x b = ap (λ (zs : List ℕ). y.position ∷ zs) (pushed ys x b)

-- a symbol with one of the names adds its position to what is held
pub held-pass : (names : List (List ℕ)) (symbols : List Symbol) (i : ℕ) (s : Symbol) (before after : List ℕ) → i < length symbols → s ≡ get_or symbols i s → is_named names s ≡ true
    → before ≡ held_by names (take i symbols) → after ≡ before ++ s.position ∷ [] → after ≡ held_by names (take (i + 1) symbols)
held-pass names symbols i s before after h there named held pushed =
    let more = held-more names symbols i s h in
    let here : is_named names (get_or symbols i s) ≡ true = ap (is_named names) (sym there) ∙ named in
    pushed ∙ ap₂ (λ (xs : List ℕ) (t : Symbol). xs ++ t.position ∷ []) held there
    ∙ ap (λ (b : Bool). held_by names (take i symbols) ++ cond b ((get_or symbols i s).position ∷ []) []) (sym here) ∙ sym more

-- a symbol with none of the names leaves what is held as it is
pub held-fail : (names : List (List ℕ)) (symbols : List Symbol) (i : ℕ) (s : Symbol) (before after : List ℕ) → i < length symbols → s ≡ get_or symbols i s → is_named names s ≡ false
    → before ≡ held_by names (take i symbols) → after ≡ before → after ≡ held_by names (take (i + 1) symbols)
held-fail names symbols i s before after h there other held same =
    let more = held-more names symbols i s h in
    let here : is_named names (get_or symbols i s) ≡ false = ap (is_named names) (sym there) ∙ other in
    same ∙ held ∙ sym (append_nil (held_by names (take i symbols)))
    ∙ ap (λ (b : Bool). held_by names (take i symbols) ++ cond b ((get_or symbols i s).position ∷ []) []) (sym here) ∙ sym more
  where
    append_nil : (xs : List ℕ) → xs ++ [] ≡ xs
    append_nil [] = refl
    append_nil (x ∷ xs) = ap (λ (ys : List ℕ). x ∷ ys) (append_nil xs)

-- no names are names of places
pub no-names : (n : ℕ) → AreNamesBelow n []
no-names n = record { rising = λ k less. absurd (omega (arith, less)); below = λ k a less. absurd (omega (arith, less)) }

-- the positions that names hold rise strictly, as the symbols' positions do
pub held-rising : (names : List (List ℕ)) (symbols : List Symbol) (n : ℕ) → AreNamesBelow n symbols → IsStrictlyIncreasing (held_by names symbols)
unfolding held_by
held-rising names symbols n valid k h =
    let nothing : Symbol = record { position = 0; name = [] } in
    let kept : List Symbol = filter (is_named names) symbols in
    let pairs : AllPairs (λ (s t : Symbol). s.position < t.position) symbols = λ i j d low high.
    (let before : get_or (map position_of symbols) i 0 < get_or (map position_of symbols) j 0 = AllPairs-from_increasing (map position_of symbols) valid.rising i j 0 low (omega (arith, length-map symbols position_of)) in
    let first = get_or-map position_of symbols i d 0 (omega arith) in
    let second = get_or-map position_of symbols j d 0 (omega arith) in
    omega (arith, before, first, second)) in
    let long : length (map position_of kept) ≡ length kept = length-map kept position_of in
    let less : (get_or kept k nothing).position < (get_or kept (k + 1) nothing).position = AllPairs-filter (λ (s t : Symbol). s.position < t.position) (is_named names) symbols pairs k (k + 1) nothing (omega arith) (omega (arith, long)) in
    let first = get_or-map position_of kept k nothing 0 (omega (arith, long)) in
    let second = get_or-map position_of kept (k + 1) nothing 0 (omega (arith, long)) in
    omega (arith, less, first, second)

-- the held latches of a circuit are among its latches
pub held-below : (names : List (List ℕ)) (c : Netlist) → IsNetlist c → All (λ j. j < length c.aig.latches) (held_in names c)
unfolding held_by
held-below names c netlist =
    All-map (λ j. j < length c.aig.latches) position_of (filter (is_named names) c.symbols.latches)
    (All-filter (is_named names) (λ s. s.position < length c.aig.latches) c.symbols.latches netlist.symbols.latches.below)

-- no names hold nothing
pub held-nobody : (symbols : List Symbol) → held_by [] symbols ≡ []
unfolding held_by
held-nobody symbols = ap (map position_of) (none symbols)
  where
    none : (xs : List Symbol) → filter (is_named []) xs ≡ []
    none [] = refl
    none (x ∷ xs) = none xs

-- of no names none is missing
pub missing-nobody : (symbols : List Symbol) → first_missing symbols [] ≡ None
missing-nobody symbols = missing-none symbols [] (λ k h. absurd (omega arith))

-- a list whose length is 0 is empty
pub empty-none : {X : Type 0} (xs : List X) → nat_eq (length xs) 0 ≡ true → xs ≡ []
empty-none [] h = refl
empty-none (x ∷ xs) h = let other = ne_eqb (length (x ∷ xs)) 0 (λ e. absurd (omega arith)) in absurd (cc)
