use Rattle.std.proofs.Common.{◌-◌, ◌∙◌, arith, ap, List, ℕ, nat_le, get_or}
use Rattle.std.proofs.lemmas.Bool.{cond-true, le-leb}
use Rattle.frame_net.specs.Capacity.{latch_number}
use Rattle.frame_net.proofs.LayoutLaws.{table-value}
use Rattle.frame_net.proofs.layout.Layout.number.Goals as goal

pub returns : goal.returns
returns c = λ from below.
    let k = c.args.self.now in
    c.entry_or_zero.ensures
    ∙ cond-true (nat_le c.first_latch.result c.args.var) _ _ (le-leb c.first_latch.result c.args.var (omega (arith, c.first_latch.ensures.value, from)))
    ∙ ap (λ (xs : List ℕ). get_or xs (c.args.var - c.first_latch.result) 0) c.as_slice.ensures.value
    ∙ ap (λ (n : ℕ). get_or k.numbers.items (c.args.var - n) 0) c.first_latch.ensures.value
    ∙ table-value k.aig.now (latch_number k.aig.now k.keep.now) k.numbers.items c.args.var 0 k.numbers_are from below
