use Rattle.std.proofs.Common.{ℕ, ◌≡◌, ◌+◌, ◌-◌, ◌∙◌, List, arith, ap, length, take, refl}
use Rattle.std.proofs.lemmas.List.{length-take-le}
use Rattle.map_circuits.proofs.GatheringLaws.{gathered-back}
use Rattle.map_circuits.proofs.latch_functions.pass_front.Goals as goal

pub returns-clause-gathered : goal.returns-clause-gathered
returns-clause-gathered c = λ first p all.
    let n : ℕ = c.args.count in
    let items : List ℕ = c.args.table.now.items in
    let same : c.as_mut_slice-entries.result.now ≡ items = c.as_mut_slice-entries.ensures.value in
    let start : List ℕ = take (n - 0) c.as_mut_slice-entries.result.now in
    let whole : n - 0 ≡ n = omega arith in
    let many : length start ≡ n = length-take-le (n - 0) c.as_mut_slice-entries.result.now (omega (arith, c.requires.within, c.as_mut_slice-entries.ensures.len)) ∙ whole in
    gathered-back first p (take n items) (first + n) n c.args.table.now.len c.gather_marked.result start c.gather_marked.new.entries _ _ items
    (ap (λ (k : ℕ). take k c.as_mut_slice-entries.result.now) whole ∙ ap (λ (xs : List ℕ). take n xs) same) refl many (omega (arith, c.requires.within)) (c.gather_marked.ensures.gathered first p all)
