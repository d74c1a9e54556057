use Rattle.std.proofs.Common.{List, ℕ, ◌≡◌, ◌+◌, ◌∷◌, ◌++◌, [], arith, ap, ap₂, sym, subst, ◌∙◌, length, length-append}
use Rattle.frame_net.specs.declared.net.Point.{Point}
use Rattle.certificates.specs.Parts.{parts, AreEnds}
use Rattle.certificates.proofs.PartsLaws.{ends-push, parts-push}
use Rattle.certificates.proofs.routes.Routes.push.Goals as goal

-- how many points there are then
size : (c : goal.After-push_reserved) → length c.extend_from_slice.new.self.items ≡ length c.self.inside.points.items + length c.args.route.now
size c = ap (λ (ps : List Point). length ps) c.in_ok-extend_from_slice.ensures.items ∙ length-append c.self.inside.points.items c.args.route.now

-- where the routes end then
ends : (c : goal.After-push_reserved) → c.push_reserved.new.self.items ≡ c.self.inside.ends.items ++ (length c.self.inside.points.items + length c.args.route.now) ∷ []
ends c =
    let last : c.len.result ≡ length c.self.inside.points.items + length c.args.route.now = omega (arith, c.len.ensures, c.extend_from_slice.new.self.ok.0, size c) in
    c.push_reserved.ensures.items ∙ ap₂ (λ (ns : List ℕ) (n : ℕ). ns ++ n ∷ []) c.in_ok-reserve.ensures.items last

pub invariant_of-self-2 : goal.invariant_of-self-2
invariant_of-self-2 c =
    subst (λ (n : ℕ). AreEnds 0 c.push_reserved.new.self.items n) (sym (size c))
    (subst (λ (ns : List ℕ). AreEnds 0 ns (length c.self.inside.points.items + length c.args.route.now)) (sym (ends c))
    (ends-push 0 c.self.inside.ends.items (length c.self.inside.points.items) (length c.args.route.now) c.self.invariant))

pub returns : goal.returns
returns c =
    ap₂ (λ (ns : List ℕ) (ps : List Point). parts 0 ns ps) (ends c) c.in_ok-extend_from_slice.ensures.items
    ∙ parts-push 0 c.self.inside.ends.items c.self.inside.points.items c.args.route.now c.self.invariant
    ∙ ap (λ (rs : List (List Point)). rs ++ c.args.route.now ∷ []) c.self.view_is
