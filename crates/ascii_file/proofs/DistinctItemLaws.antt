-- Variables that are defined once each, symbols that name a thing of their own, and what follows of
-- the items.
use Rattle.std.proofs.Common.{ℕ, ◌+◌, ◌<◌, ◌≤◌, ◌≡◌, ◌≢◌, List, [], ◌∷◌, ◌++◌, length, map, get_or, AllPairs, Bool, true, false, nat_eq, refl, sym, ap, subst, ◌∙◌, append_assoc, append-nil, arith}
use Rattle.std.specs.List.{AllByRecursion, list_any, sum}
use Rattle.std.proofs.lemmas.Bool.{eq-eqb, ne_eqb, both_ways}
use Rattle.std.proofs.lemmas.List.{get_or_append_left, get_or_at, length-append}
use Rattle.std.proofs.lemmas.List.Quantifiers.{all_pairs_push}
use Rattle.std.proofs.lemmas.List.Folds.{list_any_at, list_any_none}
use Rattle.std.proofs.lemmas.List.Sums.{sum_by-append, sum_by_push}
use Rattle.aig_graph.specs.Marking.{has}
use Rattle.aig_graph.specs.Graph.{variable}
use Rattle.ascii_file.specs.declared.header.Header.{Header}
use Rattle.ascii_file.specs.Raw.{Raw, defined}
use Rattle.ascii_file.specs.Files.{IsDefinable}
use Rattle.ascii_file.proofs.CheckLaws.{AreWithin, Defines}
use Rattle.ascii_file.proofs.SectionLaws.{AllFollow}

-- ---- items one by one

-- what holds of each item, whatever stands before it
pub follow_each : {X : Type 0} (P : X → Type 0) (ys xs : List X) → AllByRecursion P ys → AllFollow (λ zs y. P y) xs ys
follow_each P [] xs all = tt
follow_each P (y ∷ ys) xs all = (all.0, follow_each P ys (xs ++ y ∷ []) all.1)

-- what holds of each item after those before it, and doesn't speak of these, holds of each
pub each_follows : {X : Type 0} (P : X → Type 0) (ys xs : List X) → AllFollow (λ zs y. P y) xs ys → AllByRecursion P ys
each_follows P [] xs follow = tt
each_follows P (y ∷ ys) xs follow = (follow.0, each_follows P ys (xs ++ y ∷ []) follow.1)

-- two things that hold of each
pub follow_both : {X : Type 0} (P Q : List X → X → Type 0) (ys xs : List X) → AllFollow P xs ys → AllFollow Q xs ys → AllFollow (λ zs y. P zs y × Q zs y) xs ys
follow_both P Q [] xs one other = tt
follow_both P Q (y ∷ ys) xs one other = ((one.0, other.0), follow_both P Q ys (xs ++ y ∷ []) one.1 other.1)

-- of two things that hold of each item the first does
pub follow_first : {X : Type 0} (P Q : List X → X → Type 0) (ys xs : List X) → AllFollow (λ zs y. P zs y × Q zs y) xs ys → AllFollow P xs ys
follow_first P Q [] xs both = tt
follow_first P Q (y ∷ ys) xs both = (both.0.0, follow_first P Q ys (xs ++ y ∷ []) both.1)

-- of two things that hold of each item the second does
pub follow_second : {X : Type 0} (P Q : List X → X → Type 0) (ys xs : List X) → AllFollow (λ zs y. P zs y × Q zs y) xs ys → AllFollow Q xs ys
follow_second P Q [] xs both = tt
follow_second P Q (y ∷ ys) xs both = (both.0.1, follow_second P Q ys (xs ++ y ∷ []) both.1)

-- sums that stay within a bound
pub sizes_follow : (most : ℕ) (ys xs : List ℕ) → sum (xs ++ ys) ≤ most → AllFollow (λ zs y. sum zs + y ≤ most) xs ys
sizes_follow most [] xs within = tt
sizes_follow most (y ∷ ys) xs within =
    let next : sum (xs ++ y ∷ []) ≡ sum xs + y = sum_by_push (λ n. n) xs y in
    let all : sum (xs ++ y ∷ [] ++ ys) ≡ sum (xs ++ y ∷ []) + sum ys = sum_by-append (λ n. n) (xs ++ y ∷ []) ys in
    let same : sum (xs ++ y ∷ [] ++ ys) ≡ sum (xs ++ (y ∷ ys)) = ap sum (append_assoc xs (y ∷ []) ys) in
    (omega (arith, next, all, same), sizes_follow most ys (xs ++ y ∷ []) (omega (arith, same)))

-- numbers of which each keeps the sum so far within a bound have their whole sum within it
pub sizes_from : (most : ℕ) (ys xs : List ℕ) → sum xs ≤ most → AllFollow (λ zs y. sum zs + y ≤ most) xs ys → sum (xs ++ ys) ≤ most
sizes_from most [] xs within follow = let same : sum (xs ++ []) ≡ sum xs = ap sum (append-nil xs) in omega (arith, same)
sizes_from most (y ∷ ys) xs within follow =
    let next : sum (xs ++ y ∷ []) ≡ sum xs + y = sum_by_push (λ n. n) xs y in
    let same : sum (xs ++ y ∷ [] ++ ys) ≡ sum (xs ++ (y ∷ ys)) = ap sum (append_assoc xs (y ∷ []) ys) in
    let later = sizes_from most ys (xs ++ y ∷ []) (omega (arith, next, follow.0)) follow.1 in
    omega (arith, same, later)

-- ---- pairs that are told apart by a test

module _ (X : Type 0) (test : X → X → Bool) where
  -- things that a test tells apart are each told apart from those before them
  pub pairs_follow : (ys xs : List X) → AllPairs (λ x y. test y x ≡ false) (xs ++ ys) → AllFollow (λ zs y. list_any (test y) zs ≡ false) xs ys
  pairs_follow [] xs apart = tt
  pairs_follow (y ∷ ys) xs apart = (
    list_any_none (test y) xs (λ k d within.
        ap (test y) (sym (get_or_append_left xs (y ∷ ys) d k within)) ∙ ap (λ z. test z (get_or (xs ++ y ∷ ys) k d)) (sym (get_or_at xs y ys d (length xs) refl))
        ∙ apart k (length xs) d within (omega (arith, length-append xs (y ∷ ys)))),
    pairs_follow ys (xs ++ y ∷ []) (subst (AllPairs (λ x z. test z x ≡ false)) (sym (append_assoc xs (y ∷ []) ys)) apart),
  )

  -- things each told apart from those before them are all told apart
  pub pairs_from : (ys xs : List X) → AllPairs (λ x y. test y x ≡ false) xs → AllFollow (λ zs y. list_any (test y) zs ≡ false) xs ys → AllPairs (λ x y. test y x ≡ false) (xs ++ ys)
  pairs_from [] xs apart follow = subst (AllPairs (λ x y. test y x ≡ false)) (sym (append-nil xs)) apart
  pairs_from (y ∷ ys) xs apart follow =
      subst (AllPairs (λ x z. test z x ≡ false)) (append_assoc xs (y ∷ []) ys)
      (pairs_from ys (xs ++ y ∷ []) (all_pairs_push (λ x z. test z x ≡ false) xs y apart (λ k d within. none_at (test y) xs k d within follow.0)) follow.1)
    where
      none_at : (p : X → Bool) (zs : List X) (k : ℕ) (d : X) → k < length zs → list_any p zs ≡ false → p (get_or zs k d) ≡ false
      none_at p zs k d within none = by_test (p (get_or zs k d)) refl
        where
          by_test : (b : Bool) → p (get_or zs k d) ≡ b → b ≡ false
          by_test false e = refl
          by_test true e = absurd (both_ways (list_any p zs) none (list_any_at p zs k d within e))

-- ---- variables

-- no variable stands twice
abbrev pub AreApart : List ℕ → Type 0
AreApart vs = AllPairs (λ v w. v ≢ w) vs

-- each of the second list is none of the first, nor of those before it
abbrev pub AreNewTo : List ℕ → List ℕ → Type 0
AreNewTo vs [] = Unit {0}
AreNewTo vs (w ∷ ws) = (has vs w ≡ false) × AreNewTo (vs ++ w ∷ []) ws

-- of no variables none stands twice
pub AreApart-nil : AreApart []
AreApart-nil i j d less within = absurd (omega arith)

-- new variables after those that are apart
pub apart_and_new : (ws vs : List ℕ) → AreApart vs → AreNewTo vs ws → AreApart (vs ++ ws)
apart_and_new [] vs apart new = subst AreApart (sym (append-nil vs)) apart
apart_and_new (w ∷ ws) vs apart new =
    subst AreApart (append_assoc vs (w ∷ []) ws)
    (apart_and_new ws (vs ++ w ∷ [])
    (all_pairs_push (λ v w. v ≢ w) vs w apart (λ k d within same. both_ways (has vs w) new.0 (list_any_at (λ v. nat_eq v w) vs k d within (eq-eqb (get_or vs k d) w same))))
    new.1)

-- the first of those that are apart
pub apart_front : (vs ws : List ℕ) → AreApart (vs ++ ws) → AreApart vs
apart_front vs ws apart i j d less within same =
    apart i j d less (omega (arith, length-append vs ws)) (get_or_append_left vs ws d i (omega arith) ∙ same ∙ sym (get_or_append_left vs ws d j within))

-- of those that are apart the later ones are new
pub new_where_apart : (ws vs : List ℕ) → AreApart (vs ++ ws) → AreNewTo vs ws
new_where_apart [] vs apart = tt
new_where_apart (w ∷ ws) vs apart = (
  list_any_none (λ v. nat_eq v w) vs (λ k d within. ne_eqb (get_or vs k d) w (λ same.
      apart k (length vs) d within (omega (arith, length-append vs (w ∷ ws)))
      (get_or_append_left vs (w ∷ ws) d k within ∙ same ∙ sym (get_or_at vs w ws d (length vs) refl)))),
  new_where_apart ws (vs ++ w ∷ []) (subst AreApart (sym (append_assoc vs (w ∷ []) ws)) apart),
)

-- what holds of the items of a section that defines
pub record AreDefinitions (h : Header) {X : Type 0} (lhs : X → ℕ) (others : X → List ℕ) (before : List ℕ) (items : List X) : Type 0 where
  -- no literal of a line is past the greatest variable
  pub within : AllByRecursion (λ x. AreWithin h (lhs x ∷ others x)) items
  -- each literal that is defined is even and at least 2
  pub definable : AllByRecursion (λ x. IsDefinable (lhs x)) items
  -- the variables are new beside those defined before, and beside each other
  pub new : AreNewTo before (map (λ x. variable (lhs x)) items)

module _ (h : Header) (X : Type 0) (lhs : X → ℕ) (others : X → List ℕ) (state : List X → Raw) (grows : (xs : List X) (x : X) → defined (state (xs ++ x ∷ [])) ≡ defined (state xs) ++ variable (lhs x) ∷ []) where
  -- definitions of new variables in range each define after those before them
  pub definitions_follow : (ys xs : List X) → AreDefinitions h lhs others (defined (state xs)) ys → AllFollow (λ zs x. Defines h (state zs) (lhs x) (others x)) xs ys
  definitions_follow [] xs are = tt
  definitions_follow (y ∷ ys) xs are = (
    record { within = are.within.0; definable = are.definable.0; fresh = are.new.0 },
    definitions_follow ys (xs ++ y ∷ []) (record {
      within = are.within.1;
      definable = are.definable.1;
      new = subst (λ (vs : List ℕ). AreNewTo vs (map (λ x. variable (lhs x)) ys)) (sym (grows xs y)) are.new.1;
    }),
  )

  -- items that each define after those before them are definitions of new variables in range
  pub definitions_from : (ys xs : List X) → AllFollow (λ zs x. Defines h (state zs) (lhs x) (others x)) xs ys → AreDefinitions h lhs others (defined (state xs)) ys
  definitions_from [] xs follow = record { within = tt; definable = tt; new = tt }
  definitions_from (y ∷ ys) xs follow =
      let later = definitions_from ys (xs ++ y ∷ []) follow.1 in
      record {
        within = (follow.0.within, later.within);
        definable = (follow.0.definable, later.definable);
        new = (follow.0.fresh, subst (λ (vs : List ℕ). AreNewTo vs (map (λ x. variable (lhs x)) ys)) (grows xs y) later.new);
      }
