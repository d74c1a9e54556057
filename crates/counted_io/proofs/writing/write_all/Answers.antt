use Rattle.std.proofs.lemmas.Bool.{eqb-true}
use Rattle.counted_io.proofs.OutputLaws.{all-pieces, part-pieces, all-empty}
use Rattle.counted_io.proofs.writing.write_all.Goals as goal

pub loop-rest-preserved : goal.loop-rest-preserved
loop-rest-preserved g c =
    rw c.split_at.ensures.back (
      (λ end sent. c.loop-rest.invariant.0 end (all-pieces _ _ _ _ _ c.in_ok-count.ensures.ok sent)),
      (λ end sent. c.loop-rest.invariant.1 end (part-pieces _ _ _ _ _ c.in_ok-count.ensures.ok sent)),
    )

pub returns : goal.returns
returns g c = record { ok = c.loop-rest.invariant.0 _ (all-empty _ _ (eqb-true _ _ (cc))); err = tt }
