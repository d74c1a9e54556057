use Rattle.std.proofs.Common.{◌≡◌, ◌<◌, ◌-◌, ◌∙◌, ap, sym, subst, arith, ℕ, List, length, reverse, set, true, false, get_or}
use Rattle.std.proofs.lemmas.List.{get_or_default}
use Rattle.aig_graph.proofs.ListLaws.{reverse-push}
use Rattle.aig_graph.specs.Graph.{variable}
use Rattle.clean.specs.Sweep.{Front, is_marked, reach}
use Rattle.clean.proofs.FrontLaws.{reach-low, reach-marked, reach-new, mark-entry}
use Rattle.clean.proofs.reached.Reached.reach.Goals as goal

pub returns-then-var-self : goal.returns-then-var-self
returns-then-var-self c =
    sym (reach-low c.args.self.now (variable c.args.lit) (omega (arith, c.var-var.ensures.variable, c.if-var-self.true, ap (λ (r : Front). r.first) c.self.view_is)))

pub returns-else-not-index : goal.returns-else-not-index
returns-else-not-index c =
    let r : Front = record { first = c.self.inside.first; latches = c.self.inside.latches; marks = c.self.inside.marks.items; waiting = reverse c.self.inside.waiting.items } in
    let v : ℕ = c.var-var.result in
    let within : v - r.first < length r.marks = omega (arith, c.requires, c.var-var.ensures.variable, c.if-var-self.false, ap (λ (s : Front). s.first) c.self.view_is, ap (λ (s : Front). length s.marks) c.self.view_is) in
    let entry : get_or r.marks (v - r.first) false ≡ true = get_or_default r.marks (v - r.first) false c.index.result.now within ∙ sym c.index.ensures ∙ c.if-not-index.false in
    let marked : is_marked r v ≡ true = mark-entry r v c.if-var-self.false ∙ entry in
    let P : Front → Type 0 = λ s. s ≡ reach s (variable c.args.lit) in
    subst P c.self.view_is (sym (ap (reach r) (sym c.var-var.ensures.variable) ∙ reach-marked r v marked))

pub returns-in_ok-push : goal.returns-in_ok-push
returns-in_ok-push c =
    let r : Front = record { first = c.self.inside.first; latches = c.self.inside.latches; marks = c.self.inside.marks.items; waiting = reverse c.self.inside.waiting.items } in
    let v : ℕ = c.var-var.result in
    let within : v - r.first < length r.marks = omega (arith, c.requires, c.var-var.ensures.variable, c.if-var-self.false, ap (λ (s : Front). s.first) c.self.view_is, ap (λ (s : Front). length s.marks) c.self.view_is) in
    let entry : get_or r.marks (v - r.first) false ≡ false = get_or_default r.marks (v - r.first) false c.index.result.now within ∙ sym c.index.ensures ∙ c.if-not-index.true in
    let fresh : is_marked r v ≡ false = mark-entry r v c.if-var-self.false ∙ entry in
    let waits : List ℕ → Front = λ q. record { first = r.first; latches = r.latches; marks = set r.marks (v - r.first) true; waiting = q } in
    ap waits (ap reverse c.in_ok-push.ensures.items ∙ reverse-push c.self.inside.waiting.items v)
    ∙ sym (ap (λ (s : Front). reach s (variable c.args.lit)) (sym c.self.view_is) ∙ ap (reach r) (sym c.var-var.ensures.variable) ∙ reach-new r v c.if-var-self.false fresh)
