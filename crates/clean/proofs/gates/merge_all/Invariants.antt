use Rattle.std.proofs.Common.{◌≡◌, ◌+◌, length, drop, []}
use Rattle.cleaned_circuits.specs.Merged.{merge_gates}
use Rattle.clean.specs.Kept.{pairs, next_variable}
use Rattle.clean.proofs.MergeAllLaws.{HalfMerged}
use Rattle.clean.proofs.gates.merge_all.Given as goal

-- The gates that are left make of what is known now what all of them make of the start. Those
-- before have the substitutes of their literals.
abbrev pub invariant-loop-place : goal.invariant-loop-place
invariant-loop-place l = record {
  rest : merge_gates (drop l.place l.fn.kept.gates) (record { substitutes = l.substitutes; kept = pairs l.kept }) ≡ merge_gates l.fn.kept.gates (record { substitutes = l.fn.substitutes; kept = [] });
  long : length l.substitutes ≡ next_variable l.fn.kept + l.place;
  next : next_variable l.kept ≡ next_variable l.fn.kept + l.place;
  entries : length l.kept.before ≡ l.place;
  gates : HalfMerged l.fn.kept.gates l.kept.gates (merge_gates l.fn.kept.gates (record { substitutes = l.fn.substitutes; kept = [] })).substitutes l.place;
}
