use Rattle.std.proofs.Common.{◌≡◌, ◌<◌, ◌∙◌, ap, sym, subst, arith, ℕ, List, length, set, true, false}
use Rattle.std.proofs.lemmas.List.{get_or_default}
use Rattle.cut_cert.specs.Fronts.{SearchFront, is_marked, reach_node}
use Rattle.cut_cert.proofs.FrontLaws.{reach-marked, reach-new}
use Rattle.cut_cert.proofs.reached.Reached.reach.Goals as goal

pub returns-in_ok-push : goal.returns-in_ok-push
returns-in_ok-push c =
    let r : SearchFront = record { marks = c.self.inside.marks.items; queue = c.self.inside.queue.items } in
    let v : ℕ = c.args.node in
    let within : v < length r.marks = omega (arith, c.requires, ap (λ (s : SearchFront). length s.marks) c.self.view_is) in
    let fresh : is_marked r v ≡ false = get_or_default r.marks v false c.index.result.now within ∙ sym c.index.ensures ∙ c.if-not-index.true in
    let queued : List ℕ → SearchFront = λ q. record { marks = set r.marks v true; queue = q } in
    ap queued c.in_ok-push.ensures.items ∙ sym (ap (λ (s : SearchFront). reach_node s v) (sym c.self.view_is) ∙ reach-new r v fresh)

pub returns-else-not-index : goal.returns-else-not-index
returns-else-not-index c =
    let r : SearchFront = record { marks = c.self.inside.marks.items; queue = c.self.inside.queue.items } in
    let v : ℕ = c.args.node in
    let within : v < length r.marks = omega (arith, c.requires, ap (λ (s : SearchFront). length s.marks) c.self.view_is) in
    let marked : is_marked r v ≡ true = get_or_default r.marks v false c.index.result.now within ∙ sym c.index.ensures ∙ c.if-not-index.false in
    let P : SearchFront → Type 0 = λ s. s ≡ reach_node s v in
    subst P c.self.view_is (sym (reach-marked r v marked))
