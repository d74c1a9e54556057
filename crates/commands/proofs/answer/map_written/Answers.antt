use Rattle.std.proofs.Common.{refl}
use Rattle.commands.proofs.answer.map_written.Goals as goal

pub returns-in_default-clause-written : goal.returns-in_default-clause-written
returns-in_default-clause-written g c = rw c.in_default.is refl

pub returns-in_default-clause-file : goal.returns-in_default-clause-file
returns-in_default-clause-file g c = λ aside. refl

pub returns-in_default-map-clause-written : goal.returns-in_default-map-clause-written
returns-in_default-map-clause-written g c = rw (c.in-Some.is, c.in_default-map.is) refl

pub returns-in_default-map-clause-file : goal.returns-in_default-map-clause-file
returns-in_default-map-clause-file g c = λ aside. refl

pub returns-in-Ok-clause-written : goal.returns-in-Ok-clause-written
returns-in-Ok-clause-written g c = rw (c.in-Some.is, c.in-Some-map.is) c.in-Ok.ensures.given

pub returns-in-Ok-clause-file : goal.returns-in-Ok-clause-file
returns-in-Ok-clause-file g c = rw c.in-Some.is c.write_map.ensures.file

pub returns-in-Err-clause-file : goal.returns-in-Err-clause-file
returns-in-Err-clause-file g c = rw c.in-Some.is c.write_map.ensures.file
