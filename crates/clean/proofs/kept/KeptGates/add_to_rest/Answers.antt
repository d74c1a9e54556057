use Rattle.std.proofs.Common.{ℕ, ◌≡◌, ◌<◌, ◌*◌, ◌^◌, ◌++◌, ◌∷◌, [], ◌∙◌, List, ap, arith, length}
use Rattle.aig_graph.specs.declared.graph.Gate.{Gate}
use Rattle.clean.specs.Kept.{Kept, kept_pairs, next_variable, pairs, put_at}
use Rattle.clean.proofs.KeptLaws.{AreKept-put, AreKept-enter_rest, pairs-enter_kept}
use Rattle.clean.proofs.kept.KeptGates.add_to_rest.Goals as goal

pub invariant_of-self-in_err-reserve : goal.invariant_of-self-in_err-reserve
invariant_of-self-in_err-reserve c =
    let k : Kept = record { first = c.self.inside.first; own = c.self.inside.own; gates = c.self.inside.gates.items; before = c.self.inside.before.items; lists = c.self.inside.lists.items; rest = c.self.inside.rest.entries } in
    let at : c.len.result ≡ length k.before = omega (arith, c.len.ensures) in
    let gates : c.put.new.gates.items ≡ put_at k.gates (length k.before) c.args.gate.now = c.in_ok-put.ensures.ok ∙ ap (λ (n : ℕ). put_at k.gates n c.args.gate.now) at in
    rw (gates, c.in_err-reserve.ensures.items) (AreKept-put k c.self.invariant c.args.gate.now)

pub invariant_of-self-in_err-insert_new : goal.invariant_of-self-in_err-insert_new
invariant_of-self-in_err-insert_new c =
    let k : Kept = record { first = c.self.inside.first; own = c.self.inside.own; gates = c.self.inside.gates.items; before = c.self.inside.before.items; lists = c.self.inside.lists.items; rest = c.self.inside.rest.entries } in
    let at : c.len.result ≡ length k.before = omega (arith, c.len.ensures) in
    let gates : c.put.new.gates.items ≡ put_at k.gates (length k.before) c.args.gate.now = c.in_ok-put.ensures.ok ∙ ap (λ (n : ℕ). put_at k.gates n c.args.gate.now) at in
    rw (gates, c.in_ok-reserve.ensures.items, c.in_err-insert_new.ensures.err) (AreKept-put k c.self.invariant c.args.gate.now)

pub invariant_of-self-2 : goal.invariant_of-self-2
invariant_of-self-2 c =
    let k : Kept = record { first = c.self.inside.first; own = c.self.inside.own; gates = c.self.inside.gates.items; before = c.self.inside.before.items; lists = c.self.inside.lists.items; rest = c.self.inside.rest.entries } in
    let at : c.len.result ≡ length k.before = omega (arith, c.len.ensures) in
    let gates : c.put.new.gates.items ≡ put_at k.gates (length k.before) c.args.gate.now = c.in_ok-put.ensures.ok ∙ ap (λ (n : ℕ). put_at k.gates n c.args.gate.now) at in
    let few : next_variable k < 2 ^ 28 = omega (arith, c.requires.few, ap next_variable c.self.view_is) in
    let pushed : c.push_reserved.new.self.items ≡ k.before ++ 1 ∷ [] = c.push_reserved.ensures.items ∙ ap (λ (xs : List ℕ). xs ++ 1 ∷ []) c.in_ok-reserve.ensures.items in
    let lit : c.new-lit.result ≡ 2 * next_variable k = omega (arith, c.new-lit.ensures, c.next_variable.ensures.value, ap next_variable c.self.view_is) in
    let inserted : c.insert_new.new.rest.entries ≡ k.rest ++ (c.args.gate.now, 2 * next_variable k) ∷ [] = c.in_ok-insert_new.ensures.ok ∙ ap (λ (l : ℕ). k.rest ++ (c.args.gate.now, l) ∷ []) lit in
    rw (gates, pushed, inserted) (AreKept-enter_rest k c.self.invariant c.args.gate.now few 1 (omega arith) (omega arith))

pub returns-clause-pairs : goal.returns-clause-pairs
returns-clause-pairs c =
    let k : Kept = record { first = c.self.inside.first; own = c.self.inside.own; gates = c.self.inside.gates.items; before = c.self.inside.before.items; lists = c.self.inside.lists.items; rest = c.self.inside.rest.entries } in
    let at : c.len.result ≡ length k.before = omega (arith, c.len.ensures) in
    let gates : c.put.new.gates.items ≡ put_at k.gates (length k.before) c.args.gate.now = c.in_ok-put.ensures.ok ∙ ap (λ (n : ℕ). put_at k.gates n c.args.gate.now) at in
    let few : next_variable k < 2 ^ 28 = omega (arith, c.requires.few, ap next_variable c.self.view_is) in
    let pushed : c.push_reserved.new.self.items ≡ k.before ++ 1 ∷ [] = c.push_reserved.ensures.items ∙ ap (λ (xs : List ℕ). xs ++ 1 ∷ []) c.in_ok-reserve.ensures.items in
    ap (λ (xs : List Gate). kept_pairs xs c.push_reserved.new.self.items k.own (length c.push_reserved.new.self.items)) gates
    ∙ ap (λ (xs : List ℕ). kept_pairs (put_at k.gates (length k.before) c.args.gate.now) xs k.own (length xs)) pushed
    ∙ pairs-enter_kept k c.self.invariant c.args.gate.now few 1 (omega arith) (omega arith)
    ∙ ap (λ (j : Kept). pairs j ++ (c.args.gate.now, 2 * next_variable j) ∷ []) c.self.view_is
