use Rattle.std.proofs.Common.{◌≤◌, ◌≡◌, take}
use Rattle.file_words.specs.Text.{without_last_zeros}
use Rattle.aag_text.proofs.counts.used.Given as goal

abbrev pub invariant-loop-k : goal.invariant-loop-k
invariant-loop-k l = (l.used ≤ l.k) × (take l.used l.counts ≡ without_last_zeros (take l.k l.counts))
