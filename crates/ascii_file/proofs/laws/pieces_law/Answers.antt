use Rattle.ascii_file.proofs.PieceLaws.{the_pieces_law}
use Rattle.ascii_file.proofs.laws.pieces_law.Goals as goal

pub returns : goal.returns
returns c = the_pieces_law
