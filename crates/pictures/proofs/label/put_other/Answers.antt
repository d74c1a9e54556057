use Rattle.std.proofs.Common.{Bool, [], ◌∷◌, sym, ◌∙◌, subst}
use Rattle.std.specs.Prelude.{if◌then◌else◌}
use Rattle.counted_io.specs.Buffered.{Puts}
use Rattle.pictures.specs.Labels.{hex_byte}
use Rattle.pictures.proofs.label.put_other.Goals as goal

pub returns-then-stands : goal.returns-then-stands
returns-then-stands g c =
    subst (λ (b : Bool). Puts g.W.CountedWrite.output c.args.out.now c.put_byte.new.self (if b then c.args.byte ∷ [] else hex_byte c.args.byte)) (sym c.if-stands.true ∙ c.stands.ensures) c.put_byte.ensures

pub returns-else-stands : goal.returns-else-stands
returns-else-stands g c =
    subst (λ (b : Bool). Puts g.W.CountedWrite.output c.args.out.now c.put_hex.new.out (if b then c.args.byte ∷ [] else hex_byte c.args.byte)) (sym c.if-stands.false ∙ c.stands.ensures) c.put_hex.ensures
