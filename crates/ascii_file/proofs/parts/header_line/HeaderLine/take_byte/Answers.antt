use Rattle.std.proofs.Common.{arith}
use Rattle.ascii_file.proofs.HeaderLaws.{letter_step}
use Rattle.ascii_file.proofs.parts.header_line.HeaderLine.take_byte.Goals as goal

pub returns-then-byte-self : goal.returns-then-byte-self
returns-then-byte-self c rest = letter_step c.args.self.now.letters c.args.self.now.line c.args.self.now.count c.args.byte rest c.args.self.now.four (omega (arith, c.if-self-eq-LETTERS.false, c.args.self.now.begun)) c.if-byte-self.true
