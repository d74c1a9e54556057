use Rattle.ascii_file.proofs.KindNameLaws.{nothing_named}
use Rattle.ascii_file.proofs.parts.names.Names.new.Goals as goal

pub returns : goal.returns
returns c = rw (c.new.ensures, c.new-2.ensures, c.new-3.ensures, c.new-4.ensures, c.new-5.ensures, c.new-6.ensures, c.new-7.ensures) nothing_named
