use Rattle.std.proofs.Common.{ℕ, ◌<◌, ◌∙◌, All, List, sym, subst}
use Rattle.pair_checks.proofs.PairLaws.{free-small}
use Rattle.pair_checks.proofs.openings.openings.Goals as goal

pub openings_of-requires : goal.openings_of-requires
openings_of-requires c = subst (λ (xs : List ℕ). All (λ place. place < 268435455) xs) (sym (c.as_slice.ensures ∙ c.in_ok-all.ensures)) (free-small c.args.first.now c.known.ensures)
