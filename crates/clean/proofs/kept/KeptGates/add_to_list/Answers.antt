use Rattle.std.proofs.Common.{ℕ, ◌≡◌, ◌<◌, ◌≤◌, ◌+◌, ◌*◌, ◌^◌, ◌++◌, ◌∷◌, [], ◌∙◌, List, None, ap, arith, get_or, length, subst, sym}
use Rattle.std.specs.Map.{lookup}
use Rattle.aig_graph.specs.declared.graph.Gate.{Gate}
use Rattle.aig_graph.specs.Graph.{variable}
use Rattle.cleaned_circuits.specs.Merged.{same_fan_ins}
use Rattle.std.proofs.lemmas.List.{get_or_default, length_push}
use Rattle.clean.specs.Kept.{Kept, IsListOf, kept_pairs, link_before, next_variable, pairs, put_at}
use Rattle.clean.proofs.KeptLaws.{AreKept-put, AreKept-enter_listed, link_before-bound, link_before-some, pairs-enter_kept}
use Rattle.clean.proofs.kept.KeptGates.add_to_list.Goals as goal

pub invariant_of-self-in_err-push : goal.invariant_of-self-in_err-push
invariant_of-self-in_err-push c =
    let k : Kept = record { first = c.self.inside.first; own = c.self.inside.own; gates = c.self.inside.gates.items; before = c.self.inside.before.items; lists = c.self.inside.lists.items; rest = c.self.inside.rest.entries } in
    let at : c.len.result ≡ length k.before = omega (arith, c.len.ensures) in
    let gates : c.put.new.gates.items ≡ put_at k.gates (length k.before) c.args.gate = c.in_ok-put.ensures.ok ∙ ap (λ (n : ℕ). put_at k.gates n c.args.gate) at in
    rw (gates, c.in_err-push.ensures.items) (AreKept-put k c.self.invariant c.args.gate)

pub invariant_of-self-2 : goal.invariant_of-self-2
invariant_of-self-2 c =
    let k : Kept = record { first = c.self.inside.first; own = c.self.inside.own; gates = c.self.inside.gates.items; before = c.self.inside.before.items; lists = c.self.inside.lists.items; rest = c.self.inside.rest.entries } in
    let at : c.len.result ≡ length k.before = omega (arith, c.len.ensures) in
    let gates : c.put.new.gates.items ≡ put_at k.gates (length k.before) c.args.gate = c.in_ok-put.ensures.ok ∙ ap (λ (n : ℕ). put_at k.gates n c.args.gate) at in
    let few : next_variable k < 2 ^ 28 = omega (arith, c.requires.few, ap next_variable c.self.view_is) in
    let is_list : IsListOf k (variable c.args.gate.rhs0) c.args.place = subst (λ (j : Kept). IsListOf j (variable c.args.gate.rhs0) c.args.place) (sym c.self.view_is) c.requires.list in
    let last : ℕ = c.index.result.now in
    let link : ℕ = c.link_before-before.result in
    let first : link ≡ link_before (get_or k.lists c.args.place 0) = c.link_before-before.ensures ∙ ap link_before (c.index.ensures ∙ get_or_default k.lists c.args.place last 0 is_list.within) in
    let back : link ≤ length k.before + 1 = omega (arith, first, link_before-bound (get_or k.lists c.args.place 0) (length k.before) (c.self.invariant.last c.args.place)) in
    let some : 0 < link = omega (arith, first, link_before-some (get_or k.lists c.args.place 0)) in
    let new : lookup (same_fan_ins c.args.gate) (pairs k) ≡ None = subst (λ (j : Kept). lookup (same_fan_ins c.args.gate) (pairs j) ≡ None) (sym c.self.view_is) c.requires.new in
    let pushed : c.push.new.self.items ≡ k.before ++ link ∷ [] = c.in_ok-push.ensures.items in
    let list : c.len-2.result + 1 ≡ length k.before + 2 = omega (arith, c.len-2.ensures, ap (λ (xs : List ℕ). length xs) pushed, length_push k.before link) in
    rw (gates, pushed) (AreKept-enter_listed k c.self.invariant c.args.gate few link back some c.args.place (c.len-2.result + 1) is_list first list new)

pub returns-clause-pairs : goal.returns-clause-pairs
returns-clause-pairs c =
    let k : Kept = record { first = c.self.inside.first; own = c.self.inside.own; gates = c.self.inside.gates.items; before = c.self.inside.before.items; lists = c.self.inside.lists.items; rest = c.self.inside.rest.entries } in
    let at : c.len.result ≡ length k.before = omega (arith, c.len.ensures) in
    let gates : c.put.new.gates.items ≡ put_at k.gates (length k.before) c.args.gate = c.in_ok-put.ensures.ok ∙ ap (λ (n : ℕ). put_at k.gates n c.args.gate) at in
    let few : next_variable k < 2 ^ 28 = omega (arith, c.requires.few, ap next_variable c.self.view_is) in
    let is_list : IsListOf k (variable c.args.gate.rhs0) c.args.place = subst (λ (j : Kept). IsListOf j (variable c.args.gate.rhs0) c.args.place) (sym c.self.view_is) c.requires.list in
    let last : ℕ = c.index.result.now in
    let link : ℕ = c.link_before-before.result in
    let first : link ≡ link_before (get_or k.lists c.args.place 0) = c.link_before-before.ensures ∙ ap link_before (c.index.ensures ∙ get_or_default k.lists c.args.place last 0 is_list.within) in
    let back : link ≤ length k.before + 1 = omega (arith, first, link_before-bound (get_or k.lists c.args.place 0) (length k.before) (c.self.invariant.last c.args.place)) in
    let some : 0 < link = omega (arith, first, link_before-some (get_or k.lists c.args.place 0)) in
    ap (λ (xs : List Gate). kept_pairs xs c.push.new.self.items k.own (length c.push.new.self.items)) gates
    ∙ ap (λ (xs : List ℕ). kept_pairs (put_at k.gates (length k.before) c.args.gate) xs k.own (length xs)) c.in_ok-push.ensures.items
    ∙ pairs-enter_kept k c.self.invariant c.args.gate few link back some
    ∙ ap (λ (j : Kept). pairs j ++ (c.args.gate, 2 * next_variable j) ∷ []) c.self.view_is
