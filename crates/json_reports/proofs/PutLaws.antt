-- Members that are put into an object one after another.
use Rattle.std.proofs.Common.{ℕ, ◌≡◌, List, OnOk, Result, ◌∙◌, ap}
use Rattle.std.proofs.lemmas.Result.{on_ok_weaker}
use Rattle.serde_json.specs.Data.{Data, Members, put}

-- one more is put into members that are known
pub and_then : {before after : Members} (known : Members) (name : List ℕ) (d : Data) → after ≡ put name d before → before ≡ known → after ≡ put name d known
and_then known name d made same = made ∙ ap (put name d) same

-- what follows where the last call was done
pub where_done : {T E P Q : Type 0} (result : Result T E) → OnOk result P → (P → Q) → OnOk result Q
where_done result done follows = on_ok_weaker result follows done
