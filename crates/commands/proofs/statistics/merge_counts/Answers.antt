use Rattle.std.proofs.Common.{ℕ, List, ◌<◌, ◌∙◌, ap, arith, length, sym, subst}
use Rattle.std.specs.List.{All}
use Rattle.std.proofs.lemmas.Result.{IfOk-from_err}
use Rattle.merged_circuits.specs.Counts.{counts_of}
use Rattle.retimed_circuits.specs.Merging.{MergesIn}
use Rattle.commands.proofs.statistics.merge_counts.Goals as goal

-- no latch is held
pub merged_start-requires : goal.merged_start-requires
merged_start-requires c =
    let P : List ℕ → Type 0 = λ js. All (λ (j : ℕ). j < length c.args.circuit.now.aig.latches) js in
    record { in_range = subst P (sym c.none.ensures) (λ k a h. absurd (omega (arith, h))) }

pub returns : goal.returns
returns c =
    let start = c.in_ok-start.start in
    let P : List ℕ → Type 0 = λ held. MergesIn held c.args.circuit.now start.circuit start.kept_free start.keep start.merged in
    record {
      start = start.circuit;
      kept = start.kept_free;
      now = start.keep;
      lines = start.merged;
      merges = subst P c.none.ensures c.in_ok-start.ensures.merges;
      counted = c.counts_of-counts.ensures ∙ ap counts_of c.as_slice.ensures;
    }

pub returns-in_err-start : goal.returns-in_err-start
returns-in_err-start c = IfOk-from_err c.from_residual.result _ c.from_residual.ensures.0
