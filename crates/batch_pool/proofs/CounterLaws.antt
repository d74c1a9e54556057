-- What the rule of the counter says of its word.
use Rattle.std.proofs.Common.{ℕ, sym, ◌∙◌, length}
use Rattle.std.specs.Prelude.{slice_index}
use Rattle.atomic_table.specs.Table.{State}
use Rattle.batch_pool.specs.declared.rule.Hand.{Hand}
use Rattle.batch_pool.specs.declared.rule.Plan.{Plan}
use Rattle.batch_pool.specs.Rule.{IsGiven, is_it, weigh}
use Rattle.batch_pool.specs.Laws.{IsCount}
use Rattle.batch_pool.proofs.WeightLaws.{total_same, weigh_ones, ones_below, once_below, none_below}
use Rattle.batch_pool.proofs.StepLaws.{word_bound}

-- by the rule of the counter its word counts the draws, and the numbers below it were drawn once
-- each, no others
pub counted : (p : Plan) (s : State (Unit {0}) Hand) → IsGiven p s → IsCount p s
counted p s r =
    let word : ℕ = slice_index s.words 0 in
    record {
      draws = sym (total_same (λ v. weigh (λ _. 1) v.drawn) (λ v. length v.drawn) s.views (λ v. weigh_ones v.drawn)) ∙ (r.drawn (λ _. 1) ∙ ones_below word);
      few = word_bound p s r;
      once = λ x lt. r.drawn (is_it x) ∙ once_below x word lt;
      no_other = λ x le. r.drawn (is_it x) ∙ none_below x word le;
    }
