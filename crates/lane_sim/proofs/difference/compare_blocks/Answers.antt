use Rattle.std.proofs.Common.{ℕ, ◌≡◌, ◌-◌, ◌*◌, ◌<◌, ◌≤◌, ◌∙◌, ap, arith, length, slice_get, subst}
use Rattle.std.specs.Option.{IsSomeAnd}
use Rattle.std.specs.Result.{IfOk}
use Rattle.std.specs.List.{range_with_len}
use Rattle.rayon.specs.Numbers.{nat_range}
use Rattle.rayon.proofs.ToStd.{nat_range-All}
use Rattle.rayon.proofs.ListFacts.{IfOk-then}
use Rattle.aig_graph.specs.declared.memory.NoMemory.{NoMemory}
use Rattle.lane_sim.specs.Comparing.{IsFoundIn}
use Rattle.lane_sim.proofs.BlockLaws.{collected, collected_length, in_blocks, of_blocks, inside_blocks}
use Rattle.lane_sim.proofs.difference.compare_blocks.Goals as goal

pub collect-requires-clause-ready : goal.collect-requires-clause-ready
collect-requires-clause-ready g c κs within =
    let ends = c.into_par_iter.ensures in
    let inside = nat_range-All (λ i. 256 * i ≤ length c.args.sequences.now) 0 c.div_ceil.result (λ i low high. of_blocks (length c.args.sequences.now) i (omega (arith, c.div_ceil.ensures))) in
    rw (c.map.ensures.base, c.map.ensures.f, c.with_min_len.ensures.base, ends.0, ends.1) (λ k d lt. ((inside k d lt, (c.requires.literals, c.requires.alike)), λ y p. tt))

pub returns-clause-each : goal.returns-clause-each
returns-clause-each g c =
    let ends = c.into_par_iter.ensures in
    let n = c.div_ceil.result in
    let whole : n - 0 ≡ n = omega arith in
    let made = c.in_ok-found.ensures in
    let start = ap (λ it. it.base.start) c.map.ensures.base ∙ ap (λ r. r.start) c.with_min_len.ensures.base ∙ ends.0 in
    let end = ap (λ it. it.base.end) c.map.ensures.base ∙ ap (λ r. r.end) c.with_min_len.ensures.base ∙ ends.1 in
    let numbers = made.1.1 ∙ (λ i. nat_range (start i) (end i)) ∙ ap (range_with_len 0) whole in
    let sequences = c.args.sequences.now in
    let f = c.map.result.f in
    subst (λ (f : _). IfOk c.in_ok-found.found (λ v. (i : ℕ) → 256 * i < length sequences → IsSomeAnd (slice_get v.items i) (IsFoundIn f.1.now f.2.now f.3.now f.4.now i))) c.map.ensures.f
    (collected NoMemory (IsFoundIn f.1.now f.2.now f.3.now f.4.now) (λ v. v.items) n made.1.0 made.0 c.in_ok-found.found numbers made.1.2 _ made.2
    (λ b. 256 * b < length sequences) (λ b h. rw c.div_ceil.ensures (in_blocks (length sequences) b h)))

pub returns-clause-all : goal.returns-clause-all
returns-clause-all g c =
    let ends = c.into_par_iter.ensures in
    let n = c.div_ceil.result in
    let whole : n - 0 ≡ n = omega arith in
    let made = c.in_ok-found.ensures in
    let start = ap (λ it. it.base.start) c.map.ensures.base ∙ ap (λ r. r.start) c.with_min_len.ensures.base ∙ ends.0 in
    let end = ap (λ it. it.base.end) c.map.ensures.base ∙ ap (λ r. r.end) c.with_min_len.ensures.base ∙ ends.1 in
    let numbers = made.1.1 ∙ (λ i. nat_range (start i) (end i)) ∙ ap (range_with_len 0) whole in
    let sequences = c.args.sequences.now in
    IfOk-then c.in_ok-found.found _ _
    (collected_length NoMemory (IsFoundIn c.map.result.f.1.now c.map.result.f.2.now c.map.result.f.3.now c.map.result.f.4.now) (λ v. v.items) n made.1.0 made.0 c.in_ok-found.found numbers made.1.2 _ made.2)
    (λ v long i h. inside_blocks (length sequences) i (omega (arith, long, c.div_ceil.ensures)))
