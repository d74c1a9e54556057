use Rattle.circuit_files.proofs.FileLaws.{let_go, never_made}
use Rattle.circuit_files.proofs.lazy_file.LazyFile.close.Goals as goal

pub returns-in-Some : goal.returns-in-Some
returns-in-Some g c = let_go g.R.Output.Write.contents g.R.OutputFiles.is_made c.args.self.path.now g.R.OutputFiles.is_let_go c.args.self.given.bytes c.args.self.file c.in-Some.file c.in-Some.is c.let_go.ensures c.args.self.taken

pub returns-in_default : goal.returns-in_default
returns-in_default g c = never_made g.R.Output.Write.contents g.R.OutputFiles.is_made c.args.self.path.now g.R.OutputFiles.is_let_go c.args.self.given.bytes c.args.self.file c.in_default.is c.args.self.taken
