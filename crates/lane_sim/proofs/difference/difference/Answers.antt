use Rattle.std.proofs.Common.{ℕ, ◌≡◌, subst, length, List, Option, Some, None, get_or, ◌<◌}
use Rattle.std.specs.Option.{MatchOption}
use Rattle.lane_sim.specs.declared.difference.Place.{Place}
use Rattle.aig_graph.proofs.ShapeLaws.{as-many}
use Rattle.lane_sim.proofs.DifferenceLaws.{answered}
use Rattle.lane_sim.proofs.difference.difference.Goals as goal

pub compare_blocks-requires-clause-literals : goal.compare_blocks-requires-clause-literals
compare_blocks-requires-clause-literals g c κs within = as-many c.args.a.now c.args.b.now c.requires.shape

pub returns : goal.returns
returns g c =
    let result = c.first_found.result in
    let First : List (Option Place) → Type 0 = λ found. MatchOption result ((i : ℕ) → i < length found → get_or found i None ≡ None)
    (λ p. (i : ℕ) × (i < length found) × (get_or found i None ≡ Some p) × ((j : ℕ) → j < i → get_or found j None ≡ None)) in
    answered c.args.a.now c.args.b.now c.args.sequences.now c.args.others.now c.requires.alike c.in_ok-found.found.items result c.in_ok-found.ensures.each c.in_ok-found.ensures.all
    (subst First c.as_slice.ensures.value c.first_found.ensures)
