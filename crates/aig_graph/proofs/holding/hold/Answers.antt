use Rattle.std.proofs.Common.{◌<◌, ◌∙◌, ap, sym, subst, length, ℕ, List}
use Rattle.std.specs.List.{All}
use Rattle.aig_graph.specs.Keep.{held_also, names_of}
use Rattle.aig_graph.proofs.PositionLaws.{held_of-below}
use Rattle.aig_graph.proofs.holding.hold.Goals as goal

pub returns-in-Ok-held_also-clause-in_range : goal.returns-in-Ok-held_also-clause-in_range
returns-in-Ok-held_also-clause-in_range c =
    let circuit = c.args.circuit.now in
    let positions : List ℕ = c.args.positions.now in
    subst (λ (js : List ℕ). All (λ (j : ℕ). j < length circuit.aig.latches) js)
    (sym (c.in-Ok-held_also.ensures ∙ ap (λ (held : List ℕ). held_also held positions circuit) c.in-Ok.ensures.ok))
    (held_of-below (record { names = names_of c.args.names.now; positions = positions }) circuit c.known.ensures.netlist)
