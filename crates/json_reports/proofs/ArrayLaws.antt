-- An array that has a value of each item of a list.
use Rattle.std.proofs.Common.{ℕ, ◌+◌, ◌<◌, ◌≤◌, ◌≡◌, List, [], ◌∷◌, ◌++◌, ◌∙◌, ap, ap₂, get_or, length, map, sym, take}
use Rattle.std.proofs.lemmas.List.{map_more, map_push, take_all}
use Rattle.std.specs.declared.alloc.Global.{Global}
use Rattle.std.specs.Prelude.{Vec}
use Rattle.serde_json.specs.Data.{Data, array}
use Rattle.serde_json.specs.View.{items_of, view}
use Rattle.serde_json.specs.declared.value.Value.{Value}
use Rattle.serde_json.specs.declared.value.Value.TheVariants.{Array}
use Rattle.serde_json.proofs.Views.{view-Array}
use Rattle.json_reports.specs.Members.{array_of}

module _ {X : Type 0} (f : X → Data) (xs : List X) (i : ℕ) where
  -- the value of one more item is pushed
  pub pushed : (x : X) (before : List Value) {after : List Value} (value : Value) → i < length xs → map view before ≡ map f (take i xs) → view value ≡ f (get_or xs i x)
      → after ≡ before ++ value ∷ [] → map view after ≡ map f (take (i + 1) xs)
  pushed x before value within so_far made push =
      ap (map view) push ∙ map_push view before _ ∙ ap₂ (λ (ds : List Data) (d : Data). ds ++ d ∷ []) so_far made ∙ sym (map_more f xs i x within)

  -- the values of all items were pushed
  pub whole : (list : Vec Value Global) → length xs ≤ i → map view list.items ≡ map f (take i xs) → view (Array list) ≡ array_of f xs
  whole list end all = view-Array list ∙ ap (λ (ds : List Data). array (items_of ds)) (all ∙ ap (map f) (take_all i xs end))
