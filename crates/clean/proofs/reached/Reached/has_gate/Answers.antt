use Rattle.std.proofs.Common.{◌≡◌, ◌<◌, ◌+◌, ◌-◌, ◌∙◌, ap, sym, subst, arith, ℕ, length, reverse, false, get_or}
use Rattle.std.proofs.lemmas.List.{get_or_default}
use Rattle.clean.specs.Sweep.{Front, is_marked}
use Rattle.clean.proofs.FrontLaws.{mark-entry}
use Rattle.clean.proofs.reached.Reached.has_gate.Goals as goal

pub returns : goal.returns
returns c =
    let r : Front = record { first = c.self.inside.first; latches = c.self.inside.latches; marks = c.self.inside.marks.items; waiting = reverse c.self.inside.waiting.items } in
    let v : ℕ = r.first + r.latches + c.args.place in
    let place : ℕ = r.latches + c.args.place in
    let within : place < length r.marks = omega (arith, c.requires, ap (λ (s : Front). s.latches) c.self.view_is, ap (λ (s : Front). length s.marks) c.self.view_is) in
    let at : v - r.first ≡ place = omega arith in
    let entry : is_marked r v ≡ get_or r.marks place false = mark-entry r v (omega arith) ∙ ap (λ (n : ℕ). get_or r.marks n false) at in
    let P : Front → Type 0 = λ s. c.index.result.now ≡ is_marked s (s.first + s.latches + c.args.place) in
    subst P c.self.view_is (c.index.ensures ∙ sym (get_or_default r.marks place false c.index.result.now within) ∙ sym entry)
