use Rattle.std.proofs.Common.{sym, ap, refl, arith, ◌∙◌, ℕ, Option}
use Rattle.std.specs.Option.{option_map}
use Rattle.ascii_file.specs.parts.Lists.{Lists}
use Rattle.ascii_file.specs.Items.{SafetyItem}
use Rattle.file_words.specs.declared.fault.ReadError.TheVariants.{BadLine}
use Rattle.aag_text.specs.Taking.{raw_of}
use Rattle.aag_text.proofs.TakeLaws.{next-without, takes_plain}
use Rattle.aag_text.proofs.sections.Sections.take_safety.Goals as goal

pub returns-in-Ok : goal.returns-in-Ok
returns-in-Ok c =
    λ symbols stands. takes_plain c.args.self.now _ symbols c.args.at (BadLine c.args.at) (SafetyItem c.in-Some.lit) _ (ap (λ (o : Option ℕ). option_map SafetyItem o) (sym c.in-Some.ensures)) stands
    (next-without c.args.self.now symbols ∙ c.requires) (omega arith, tt) refl symbols refl
    (ap (λ (p : Lists). record (raw_of c.args.self.now symbols) { safety = p.safety; sizes = p.sizes; liveness = p.liveness }) (sym c.in-Ok.ensures.ok)) refl stands.names
