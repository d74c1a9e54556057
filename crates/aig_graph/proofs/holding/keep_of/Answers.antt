use Rattle.std.proofs.Common.{length, ap, map, sym, ◌∙◌, subst, List, ℕ}
use Rattle.std.specs.List.Sorted.{IsStrictlyIncreasing}
use Rattle.aig_graph.specs.Keep.{held_by, first_missing}
use Rattle.aig_graph.proofs.HoldingLaws.{held-rising, held-nobody, missing-nobody, empty-none}
use Rattle.aig_graph.proofs.holding.keep_of.Goals as goal

pub new-requires : goal.new-requires
new-requires c =
    let names : List (List ℕ) = map (λ name. name.items) c.args.names.now in
    subst IsStrictlyIncreasing (sym (c.in_ok-held_by.ensures ∙ ap (held_by names) (c.as_slice-symbols.ensures ∙ ap (λ s. s.latches) c.symbols.ensures.value)))
    (held-rising names c.args.circuit.now.symbols.latches (length c.args.circuit.now.aig.latches) c.symbols.ensures.netlist.symbols.latches)

pub returns-then-is_empty-clause-ok : goal.returns-then-is_empty-clause-ok
returns-then-is_empty-clause-ok c =
    let nobody = empty-none c.args.names.now (sym c.is_empty.ensures ∙ c.if-is_empty.true) in
    c.none.ensures ∙ sym (ap (λ texts. held_by (map (λ name. name.items) texts) c.args.circuit.now.symbols.latches) nobody ∙ held-nobody _)

pub returns-then-is_empty-clause-none_missing : goal.returns-then-is_empty-clause-none_missing
returns-then-is_empty-clause-none_missing c =
    let nobody = empty-none c.args.names.now (sym c.is_empty.ensures ∙ c.if-is_empty.true) in
    ap (λ texts. first_missing c.args.circuit.now.symbols.latches (map (λ name. name.items) texts)) nobody ∙ missing-nobody _
