-- The names of what stays, one after another.
use Rattle.std.proofs.Common.{ℕ, ◌+◌, ◌<◌, ◌≡◌, List, [], ◌∷◌, ◌++◌, length, map, filter, take, Bool, true, false, cond, get_or, Result, IfOk, ap, sym, ◌∙◌, subst}
use Rattle.std.proofs.lemmas.List.{map_push, append-nil}
use Rattle.std.proofs.lemmas.List.Elements.{filter_more}
use Rattle.aig_graph.specs.declared.properties.Symbol.{Symbol}
use Rattle.aig_graph.specs.declared.properties.Symbols.{Symbols}
use Rattle.aig_graph.specs.Graph.{Graph, first_latch}
use Rattle.cleaned_circuits.specs.Trimmed.{new_name, new_position, trimmed_symbols}

module _ (g : Graph) (s : ℕ → Bool) (names : List Symbol) (i : ℕ) (name : Symbol) (h : i < length names) (read : name ≡ get_or names i name) where
  abbrev kept : Symbol → Bool
  kept n = s (first_latch g + n.position)

  here : (b : Bool) → kept name ≡ b → filter kept (take (i + 1) names) ≡ filter kept (take i names) ++ cond b (name ∷ []) []
  here b e =
      filter_more kept names i name h ∙ ap (λ (n : Symbol). filter kept (take i names) ++ cond (kept n) (n ∷ []) []) (sym read)
      ∙ ap (λ (c : Bool). filter kept (take i names) ++ cond c (name ∷ []) []) e

  -- the name of a latch that stays, at its new position, is copied next
  pub name-more : (old new : List Symbol) (copy : Symbol) (position : ℕ) → kept name ≡ true → old ≡ map (new_name g s) (filter kept (take i names)) → new ≡ old ++ copy ∷ []
      → copy ≡ record name { position = position } → position ≡ new_position g s name.position → new ≡ map (new_name g s) (filter kept (take (i + 1) names))
  name-more old new copy position stays before pushed is place =
      let with_position : ℕ → Symbol = λ n. record { position = n; name = name.name } in
      pushed ∙ ap (λ (xs : List Symbol). xs ++ copy ∷ []) before ∙ ap (λ (n : Symbol). map (new_name g s) (filter kept (take i names)) ++ n ∷ []) (is ∙ ap with_position place)
      ∙ sym (map_push (new_name g s) (filter kept (take i names)) name) ∙ sym (ap (map (new_name g s)) (here true stays))

  -- the name of a latch that doesn't stay leaves the copied names as they are
  pub name-skip : (old : List Symbol) → kept name ≡ false → old ≡ map (new_name g s) (filter kept (take i names)) → old ≡ map (new_name g s) (filter kept (take (i + 1) names))
  name-skip old goes before = before ∙ sym (ap (map (new_name g s)) (here false goes ∙ append-nil (filter kept (take i names))))

-- a copy with the names of the latches that stay
pub symbols-are : {E : Type 0} (g : Graph) (s : ℕ → Bool) (old : Symbols) (latches : List Symbol) (r : Result Symbols E) → latches ≡ map (new_name g s) (filter (λ name. s (first_latch g + name.position)) old.latches)
    → IfOk r (λ copy. copy ≡ record old { latches = latches }) → IfOk r (λ copy. copy ≡ trimmed_symbols g s old)
unfolding trimmed_symbols
symbols-are g s old latches r same made = subst (λ (names : List Symbol). IfOk r (λ copy. copy ≡ record old { latches = names })) same made
