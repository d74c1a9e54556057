-- The places of drawers in a list that grows at its end.
use Rattle.std.proofs.Common.{◌≡◌, List, [], ◌∷◌, ◌++◌, length, sym, ap, ◌∙◌, subst, arith}
use mathlib.Core.Logic.{dite}
use native.Mathlib.Decide.{dec_lt}
use Rattle.std.proofs.lemmas.List.{get_or_append_left, get_or_push, length_push}
use Rattle.batch_pool.specs.declared.draws.Drawer.{Drawer}
use Rattle.batch_pool.specs.Drawing.{AreInPlace}

-- a drawer more, whose place is the number of those before it
pub one_more_place : (ds now : List Drawer) (next : Drawer) → AreInPlace ds → next.worker ≡ length ds → now ≡ ds ++ next ∷ [] → AreInPlace now
one_more_place ds now next were place pushed = subst AreInPlace (sym pushed) (λ i d lt. dite (dec_lt i (length ds))
    (λ before. ap (λ (e : Drawer). e.worker) (get_or_append_left ds (next ∷ []) d i before) ∙ were i d before)
    (λ no. let long = length_push ds next in let here : i ≡ length ds = omega (arith, lt, long, no) in
    ap (λ (e : Drawer). e.worker) (get_or_push ds next d i (sym here)) ∙ (place ∙ sym here)))
