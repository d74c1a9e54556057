use Rattle.std.proofs.Common.{ℕ, ◌<◌, ◌≡◌, List, Some, slice_get, length, arith, ap, sym, ◌∙◌, subst, below_more}
use Rattle.std.proofs.lemmas.Option.{same_Some, slice_get_within}
use Rattle.aig_graph.specs.declared.graph.Latch.{Latch}
use Rattle.aig_graph.specs.Graph.{Graph}
use Rattle.clean.proofs.MappingLaws.{latch-there}
use Rattle.merged_circuits.specs.Readings.{ReadsAs, read}
use Rattle.latch_readings.specs.Judgements.{other_literal}
use Rattle.latch_readings.proofs.ReadingLaws.{item-read, not-both}
use Rattle.latch_readings.proofs.reading.first_misread.Goals as goal

pub loop-place-preserved : goal.loop-place-preserved
loop-place-preserved c =
    let g : Graph = c.args.aig.now in
    let held : List ℕ = c.args.held.now.positions.now in
    let reads : List ℕ = c.args.reads.now in
    let k : ℕ = c.loop-place.place in
    let item : Latch = c.latch-item.result in
    let there : slice_get g.latches k ≡ Some item = latch-there g c.latches-latch-items.result.now k item c.latches-latch-items.ensures.value c.loop-place-test.true c.latch-item.is in
    let within : k < length reads =
    omega (arith, c.if-reads-latches.false, c.loop-place-test.true, ap (λ (xs : List Latch). length xs) c.latches.ensures.value, ap (λ (xs : List Latch). length xs) c.latches-latch-items.ensures.value) in
    let here : ReadsAs g held reads k item (read reads k) =
    subst (λ (lit : ℕ). ReadsAs g held reads k item lit) (item-read reads k c.index-reads-place.result within c.index-reads-place.is) (c.reads_as.ensures.so c.if-not-reads_as.false) in
    let P : ℕ → Type 0 = λ j. (latch : Latch) → slice_get g.latches j ≡ Some latch → ReadsAs g held reads j latch (read reads j) in
    let last : P k = λ latch at. subst (λ (l : Latch). ReadsAs g held reads k l (read reads k)) (same_Some item latch (sym there ∙ at)) here in
    below_more P k c.loop-place.invariant last

pub returns-then-not-reads_as-clause-misread : goal.returns-then-not-reads_as-clause-misread
returns-then-not-reads_as-clause-misread c =
    let g : Graph = c.args.aig.now in
    let held : List ℕ = c.args.held.now.positions.now in
    let reads : List ℕ = c.args.reads.now in
    let k : ℕ = c.loop-place.place in
    let item : Latch = c.latch-item.result in
    let there : slice_get g.latches k ≡ Some item = latch-there g c.latches-latch-items.result.now k item c.latches-latch-items.ensures.value c.loop-place-test.true c.latch-item.is in
    let long : length reads ≡ length g.latches = omega (arith, c.if-reads-latches.false, ap (λ (xs : List Latch). length xs) c.latches.ensures.value) in
    let within : k < length reads = omega (arith, long, slice_get_within g.latches k item there) in
    other_literal item long c.loop-place.invariant there (λ so.
    let here : ReadsAs g held reads k item c.index-reads-place.result = subst (λ (lit : ℕ). ReadsAs g held reads k item lit) (sym (item-read reads k c.index-reads-place.result within c.index-reads-place.is)) so in
    not-both c.reads_as.result c.if-not-reads_as.true (c.reads_as.ensures.only here))

pub returns-clause-reading : goal.returns-clause-reading
returns-clause-reading c =
    let g : Graph = c.args.aig.now in
    let items = ap (λ (xs : List Latch). length xs) c.latches-latch-items.ensures.value in
    record {
      long = omega (arith, c.if-reads-latches.false, ap (λ (xs : List Latch). length xs) c.latches.ensures.value);
      each = λ j latch at. c.loop-place.invariant j (omega (arith, c.loop-place-test.false, items, slice_get_within g.latches j latch at)) latch at;
    }
