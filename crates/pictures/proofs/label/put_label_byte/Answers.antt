use Rattle.std.proofs.Common.{ℕ, List, subst}
use Rattle.counted_io.specs.Buffered.{Puts}
use Rattle.pictures.proofs.LabelLaws.{label_byte-34, label_byte-92, label_byte-38, label_byte-other}
use Rattle.pictures.proofs.label.put_label_byte.Goals as goal

pub returns-then-byte-eq34 : goal.returns-then-byte-eq34
returns-then-byte-eq34 g c =
    subst (λ (text : List ℕ). Puts g.W.CountedWrite.output c.args.out.now c.put.new.self text)
    (label_byte-34 c.args.utf8 c.args.byte c.if-byte-eq34.true) c.put.ensures

pub returns-then-byte-eq92 : goal.returns-then-byte-eq92
returns-then-byte-eq92 g c =
    subst (λ (text : List ℕ). Puts g.W.CountedWrite.output c.args.out.now c.put-then-byte-eq92.new.self text)
    (label_byte-92 c.args.utf8 c.args.byte c.if-byte-eq92.true) c.put-then-byte-eq92.ensures

pub returns-then-byte-eq38 : goal.returns-then-byte-eq38
returns-then-byte-eq38 g c =
    subst (λ (text : List ℕ). Puts g.W.CountedWrite.output c.args.out.now c.put-then-byte-eq38.new.self text)
    (label_byte-38 c.args.utf8 c.args.byte c.if-byte-eq38.true) c.put-then-byte-eq38.ensures

pub returns-else-byte-eq38 : goal.returns-else-byte-eq38
returns-else-byte-eq38 g c =
    rw (label_byte-other c.args.utf8 c.args.byte c.if-byte-eq34.false c.if-byte-eq92.false c.if-byte-eq38.false) at c.put_other.ensures
