use Rattle.std.proofs.Common.{ℕ, ◌≡◌, ◌<◌, ◌^◌, ◌∙◌, List, ap, arith, length}
use Rattle.aig_graph.specs.declared.graph.Gate.{Gate}
use Rattle.clean.specs.Kept.{Kept, kept_pairs, next_variable, pairs, put_at}
use Rattle.clean.proofs.KeptLaws.{AreKept-put, AreKept-enter_passed, pairs-enter_passed}
use Rattle.clean.proofs.kept.KeptGates.pass_over.Goals as goal

pub invariant_of-self-in_err-push : goal.invariant_of-self-in_err-push
invariant_of-self-in_err-push c =
    let k : Kept = record { first = c.self.inside.first; own = c.self.inside.own; gates = c.self.inside.gates.items; before = c.self.inside.before.items; lists = c.self.inside.lists.items; rest = c.self.inside.rest.entries } in
    let at : c.len.result ≡ length k.before = omega (arith, c.len.ensures) in
    let gates : c.put.new.gates.items ≡ put_at k.gates (length k.before) c.args.gate = c.in_ok-put.ensures.ok ∙ ap (λ (n : ℕ). put_at k.gates n c.args.gate) at in
    rw (gates, c.in_err-push.ensures.items) (AreKept-put k c.self.invariant c.args.gate)

pub invariant_of-self-2 : goal.invariant_of-self-2
invariant_of-self-2 c =
    let k : Kept = record { first = c.self.inside.first; own = c.self.inside.own; gates = c.self.inside.gates.items; before = c.self.inside.before.items; lists = c.self.inside.lists.items; rest = c.self.inside.rest.entries } in
    let at : c.len.result ≡ length k.before = omega (arith, c.len.ensures) in
    let gates : c.put.new.gates.items ≡ put_at k.gates (length k.before) c.args.gate = c.in_ok-put.ensures.ok ∙ ap (λ (n : ℕ). put_at k.gates n c.args.gate) at in
    let few : next_variable k < 2 ^ 28 = omega (arith, c.requires, ap next_variable c.self.view_is) in
    rw (gates, c.in_ok-push.ensures.items) (AreKept-enter_passed k c.self.invariant c.args.gate few)

pub returns-clause-pairs : goal.returns-clause-pairs
returns-clause-pairs c =
    let k : Kept = record { first = c.self.inside.first; own = c.self.inside.own; gates = c.self.inside.gates.items; before = c.self.inside.before.items; lists = c.self.inside.lists.items; rest = c.self.inside.rest.entries } in
    let at : c.len.result ≡ length k.before = omega (arith, c.len.ensures) in
    let gates : c.put.new.gates.items ≡ put_at k.gates (length k.before) c.args.gate = c.in_ok-put.ensures.ok ∙ ap (λ (n : ℕ). put_at k.gates n c.args.gate) at in
    let few : next_variable k < 2 ^ 28 = omega (arith, c.requires, ap next_variable c.self.view_is) in
    ap (λ (xs : List Gate). kept_pairs xs c.push.new.self.items k.own (length c.push.new.self.items)) gates
    ∙ ap (λ (xs : List ℕ). kept_pairs (put_at k.gates (length k.before) c.args.gate) xs k.own (length xs)) c.in_ok-push.ensures.items
    ∙ pairs-enter_passed k c.self.invariant c.args.gate few
    ∙ ap pairs c.self.view_is
