use Rattle.std.proofs.Common.{[], ◌∷◌, ◌++◌, ◌∙◌, ap, ap₂, map, sym}
use Rattle.std.proofs.lemmas.List.{map_more, take_all}
use Rattle.witnesses.specs.Rows.{digit_of}
use Rattle.witnesses.proofs.rows.digits.Goals as goal

pub loop-byte-preserved : goal.loop-byte-preserved
loop-byte-preserved c =
    c.in_ok-push.ensures.items ∙ ap₂ (λ xs x. xs ++ x ∷ []) c.loop-byte.invariant c.digit.ensures ∙ sym (map_more digit_of c.args.bytes.now _ _ c.loop-byte-test.true)

pub returns : goal.returns
returns c = c.from_vec.ensures ∙ c.loop-byte.invariant ∙ ap (map digit_of) (take_all _ _ c.loop-byte-test.false)
