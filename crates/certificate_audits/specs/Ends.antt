-- How audits end.
use Rattle.std.specs.Prelude.{ℕ, Bool, true, false, List, Option, Some, None, codes}
use Rattle.certificates.specs.Objections.{objection_name}
use Rattle.certificate_audits.specs.declared.outcome.BlockObjection.{BlockObjection}
use Rattle.certificate_audits.specs.declared.outcome.BlockObjection.TheVariants.{Fails, TooLong}
use Rattle.certificate_audits.specs.declared.outcome.End.{End}
use Rattle.certificate_audits.specs.declared.outcome.End.TheVariants.{NoBlocks, Certified, Open, BlocksFollow, Objected, Misread, NotShown}

-- why a block isn't confirmed, as reports print it
abbrev pub block_objection_name : BlockObjection → List ℕ
block_objection_name (Fails objection) = objection_name objection
block_objection_name TooLong = codes "TooLong"

-- nothing speaks against a block or a merged latch
abbrev pub is_accepted : End → Bool
is_accepted NoBlocks = true
is_accepted Certified = true
is_accepted Open = true
is_accepted BlocksFollow = false
is_accepted (Objected objection) = false
is_accepted (Misread latch) = false
is_accepted (NotShown latch) = false

-- the latch that is refused, so that no block is judged
abbrev pub refused_latch : End → Option ℕ
refused_latch NoBlocks = None
refused_latch Certified = None
refused_latch Open = None
refused_latch BlocksFollow = None
refused_latch (Objected objection) = None
refused_latch (Misread latch) = Some latch
refused_latch (NotShown latch) = Some latch
