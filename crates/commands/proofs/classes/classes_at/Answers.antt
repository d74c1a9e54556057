use Rattle.std.proofs.Common.{refl}
use Rattle.std.proofs.lemmas.Result.{IfOk-weaker}
use Rattle.commands.proofs.classes.classes_at.Goals as goal

pub returns-in_default-clause-classes : goal.returns-in_default-clause-classes
returns-in_default-clause-classes g c = rw c.in_default.is (refl, refl)

pub returns-in-Ok-clause-classes : goal.returns-in-Ok-clause-classes
returns-in-Ok-clause-classes g c =
    rw c.in-Some.is
    (IfOk-weaker c.listed.result _ _
    (λ classes is. record { file = c.in-Ok.file; read = record { stdin = c.in-Ok.ensures.stdin; file = c.certificates_at.ensures.file }; are = is.0; listed = is.1 }) c.listed.ensures.classes)

pub returns-in-Ok-clause-named : goal.returns-in-Ok-clause-named
returns-in-Ok-clause-named g c = rw c.in-Some.is c.listed.ensures.named

pub returns-in-Err-clause-named : goal.returns-in-Err-clause-named
returns-in-Err-clause-named g c = rw c.in-Some.is c.in-Err.ensures.named
