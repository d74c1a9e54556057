use Rattle.std.proofs.Common.{ℕ, ◌+◌, ◌≡◌, ◌++◌, List, [], drop, length, map, take, refl, arith, ap, sym, ◌∙◌, subst, length-append}
use Rattle.std.proofs.lemmas.List.{length-map}
use Rattle.aig_graph.specs.declared.graph.Latch.{Latch}
use Rattle.aig_graph.specs.Gates.{Gates, Grows, gates_of}
use Rattle.aig_graph.specs.Graph.{Graph, first_gate, first_latch}
use Rattle.gate_sharing.specs.Circuits.{Circuits, copied_latch}
use Rattle.gate_sharing.proofs.SharedLaws.{grows-itself}
use Rattle.pair_checks.proofs.PairLaws.{if-some, is-side, read-in}
use Rattle.pair_checks.proofs.pairs.paired.Goals as goal

pub returns : goal.returns
returns c =
    let m : Graph = c.in_ok-graph.field-0 in
    let ours : Graph = c.args.first.now in
    let theirs : Graph = c.args.second.now in
    let reads : List ℕ = c.args.reads.now in
    let n : ℕ = c.first_latch-var.result in
    let count : ℕ = length c.latches-count.result.now in
    let one : Gates = c.in_ok-one.one.gates in
    let both : Gates = c.in_ok-both.both.gates in
    let many : count ≡ length ours.latches = ap (λ (xs : List Latch). length xs) c.latches-count.ensures.value in
    let is : c.in-Some.leaves ≡ record { first = n; literals = take (length ours.latches) reads } =
    if-some _ _ c.in-Some.leaves c.in-Some.is c.in_ok-leaves.ensures.leaves
    ∙ ap (λ (xs : List ℕ). record { first = n; literals = xs }) (c.front.ensures ∙ ap (λ (k : ℕ). take k reads) many) in
    let other : c.in-Some-2.others ≡ record { first = n; literals = drop (length ours.latches) reads } =
    if-some _ _ c.in-Some-2.others c.in-Some-2.is c.in_ok-others.ensures.leaves
    ∙ ap (λ (xs : List ℕ). record { first = n; literals = xs }) (c.back.ensures ∙ ap (λ (k : ℕ). drop k reads) many) in
    let last : both ≡ gates_of m = sym c.in_ok-graph.ensures.gates in
    let grown : Grows both (gates_of m) = subst (λ (k : Gates). Grows both k) last (grows-itself both) in
    let later : Grows one (gates_of m) = subst (λ (k : Gates). Grows one k) last c.in_ok-both.ensures.grows in
    let first : n ≡ first_latch ours = c.first_latch-var.ensures.value in
    let begun : c.after.result.latches ≡ [] = ap (λ (s : Circuits). s.latches) c.after.ensures in
    let end = ap (λ (s : Circuits). s.gates.first) c.after.ensures in
    let gate : first_gate m ≡ c.after.result.gates.first = ap (λ (k : Gates). k.first) (sym last) ∙ c.in_ok-both.ensures.grows.first ∙ c.in_ok-one.ensures.grows.first in
    let latches : m.latches ≡ map (copied_latch c.in_ok-one.of_first) ours.latches ++ map (copied_latch c.in_ok-both.of_second) theirs.latches =
    c.in_ok-graph.ensures.latches
    ∙ c.in_ok-both.ensures.latches
    ∙ ap (λ (xs : List Latch). xs ++ map (copied_latch c.in_ok-both.of_second) theirs.latches) (c.in_ok-one.ensures.latches ∙ ap (λ (xs : List Latch). xs ++ map (copied_latch c.in_ok-one.of_first) ours.latches) begun) in
    let all : length m.latches ≡ length ours.latches + length theirs.latches =
    ap (λ (xs : List Latch). length xs) latches
    ∙ omega (
      arith,
      length-append (map (copied_latch c.in_ok-one.of_first) ours.latches) (map (copied_latch c.in_ok-both.of_second) theirs.latches),
      length-map ours.latches (copied_latch c.in_ok-one.of_first),
      length-map theirs.latches (copied_latch c.in_ok-both.of_second),
    ) in
    let other_many = ap (λ (xs : List Latch). length xs) c.latches.ensures.value in
    let others_many = ap (λ (xs : List Latch). length xs) c.latches-2.ensures.value in
    record {
      start = omega (arith, gate, end, c.first_gate.ensures.value, other_many, all, first);
      latches = latches;
      long = omega (arith, c.if-reads-count.false, many, others_many, all);
      each = read-in _ _ _ _ reads first (sym (gate ∙ end)) (c.if-not-are_read.ensures refl);
      first = is-side m ours one n (take (length ours.latches) reads) c.in-Some.leaves c.in_ok-one.of_first is first later c.in_ok-one.ensures.copies;
      second = is-side m theirs both n (drop (length ours.latches) reads) c.in-Some-2.others c.in_ok-both.of_second other (omega (arith, first, c.requires)) grown c.in_ok-both.ensures.copies;
    }
