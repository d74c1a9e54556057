-- Names that are those of another circuit, but for those of latches.
use Rattle.std.proofs.Common.{◌≡◌, ◌∙◌, ap}
use Rattle.aig_graph.specs.declared.properties.Symbols.{Symbols}

-- kind by kind
pub other-latches : (s t : Symbols) → t.inputs ≡ s.inputs → t.outputs ≡ s.outputs → t.bad ≡ s.bad → t.constraints ≡ s.constraints → t.justice ≡ s.justice → t.fairness ≡ s.fairness
    → t ≡ record s { latches = t.latches }
other-latches s t inputs outputs bad constraints justice fairness =
    ap (λ names. record t { inputs = names }) inputs
    ∙ ap (λ names. record t { inputs = s.inputs; outputs = names }) outputs
    ∙ ap (λ names. record t { inputs = s.inputs; outputs = s.outputs; bad = names }) bad
    ∙ ap (λ names. record t { inputs = s.inputs; outputs = s.outputs; bad = s.bad; constraints = names }) constraints
    ∙ ap (λ names. record t { inputs = s.inputs; outputs = s.outputs; bad = s.bad; constraints = s.constraints; justice = names }) justice
    ∙ ap (λ names. record s { latches = t.latches; fairness = names }) fairness
