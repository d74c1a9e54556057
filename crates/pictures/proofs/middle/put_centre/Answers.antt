use Rattle.std.proofs.Common.{Bool, List, Option, subst}
use Rattle.counted_io.specs.Buffered.{Puts}
use Rattle.counted_io.proofs.BufferedLaws.{puts-nothing}
use Rattle.pictures.specs.Pictures.{centre_lines}
use Rattle.pictures.proofs.middle.put_centre.Goals as goal

pub returns-in-Some : goal.returns-in-Some
unfolding centre_lines
returns-in-Some g c =
    subst (λ (marks : Option (List Bool)). Puts g.W.CountedWrite.output c.args.out.now c.put_marked.new.out (centre_lines marks)) c.in-Some.ensures c.put_marked.ensures

pub returns-in_default : goal.returns-in_default
unfolding centre_lines
returns-in_default g c =
    subst (λ (marks : Option (List Bool)). Puts g.W.CountedWrite.output c.args.out.now c.args.out.now (centre_lines marks)) c.in_default.ensures (puts-nothing c.args.out.now)
