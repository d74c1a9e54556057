-- Values of JSON, and the members of objects.
-- `docs/FORMAT.md` says what each member is.
use Rattle.std.specs.Prelude.{ℕ, List, Option, Some, None, map}
use Rattle.std.specs.Borrow.{Bor}
use Rattle.std.specs.List.{fold}
use Rattle.serde_json.specs.Data.{Data, null, boolean, number, string, unsigned, array, Members, put}
use Rattle.serde_json.specs.View.{items_of}
use Rattle.json_reports.specs.declared.members.Scalar.{Scalar}
use Rattle.json_reports.specs.declared.members.Scalar.TheVariants.{Null, Flag, Count, CountIfAny, Text, TextIfAny}

abbrev pub count : ℕ → Data
count n = number (unsigned n)

-- null stands for none
abbrev pub or_null : {X : Type 0} → (X → Data) → Option X → Data
or_null value None = null
or_null value (Some x) = value x

-- a value without items and members
abbrev pub scalar_data : Scalar → Data
scalar_data Null = null
scalar_data (Flag flag) = boolean flag
scalar_data (Count n) = count n
scalar_data (CountIfAny n) = or_null count n
scalar_data (Text text) = string text.now
scalar_data (TextIfAny text) = or_null (λ t. string t.now) text

-- a value of each item, in order
abbrev pub array_of : {X : Type 0} → (X → Data) → List X → Data
array_of value xs = array (items_of (map value xs))

-- values put in, each under its name; members stand in the order of their names
abbrev pub with_scalars : Members → List (Bor (List ℕ) × Scalar) → Members
with_scalars members scalars = fold (λ ms s. put s.0.now (scalar_data s.1) ms) members scalars
