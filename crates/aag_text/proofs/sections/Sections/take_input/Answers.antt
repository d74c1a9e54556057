use Rattle.std.proofs.Common.{sym, ap, subst, ◌∙◌, ◌<◌, [], ℕ, List, Ok, Option, length}
use Rattle.std.proofs.lemmas.Result.{err_from_is_err_and}
use Rattle.std.specs.Option.{option_map}
use Rattle.ascii_file.specs.declared.raw.Section.TheVariants.{Inputs}
use Rattle.ascii_file.specs.Reading.{definition_checks, with_item}
use Rattle.ascii_file.specs.Items.{InputItem}
use Rattle.ascii_file.proofs.CheckLaws.{fits_where_passes}
use Rattle.file_words.specs.declared.fault.ReadError.TheVariants.{BadLine}
use Rattle.ascii_file.specs.parts.Names.{AreNamesOf}
use Rattle.aag_text.specs.declared.sections.Sections.{Sections}
use Rattle.aag_text.specs.Taking.{raw_of}
use Rattle.aag_text.proofs.CountLaws.{room_in}
use Rattle.aag_text.proofs.TakeLaws.{next-without, at-most, takes, faulty, checks-fail, definition_passes}
use Rattle.aag_text.proofs.sections.Sections.take_input.Goals as goal

pub returns-in_err-check_definition : goal.returns-in_err-check_definition
returns-in_err-check_definition c =
    let p = err_from_is_err_and c.from_residual.result c.from_residual.ensures.1 in
    rw (p.1, p.2) (λ symbols stands.
    faulty c.args.self.now.header (raw_of c.args.self.now symbols) c.args.at (BadLine c.args.at) _ (InputItem c.in-Some.lit) _ (ap (λ (o : Option ℕ). option_map InputItem o) (sym c.in-Some.ensures))
    (checks-fail _ (definition_checks c.args.self.now.header (raw_of c.args.self.now symbols) c.args.at c.in-Some.lit []) (Ok (with_item (raw_of c.args.self.now symbols) (InputItem c.in-Some.lit))) (c.in_err-check_definition.ensures.checks symbols stands)))

pub invariant_of-self : goal.invariant_of-self
invariant_of-self c = record { within = c.add_variable.new.self.within; inputs_counted = at-most _ c.add_variable.new.self.inputs.items c.push.new.self.items c.in-Some.lit c.add_variable.new.self.header.inputs c.push.ensures.items (subst (λ (m : Sections). length m.inputs.items < m.header.inputs) (sym c.in_ok-add_variable.ensures.same) (room_in c.args.self.now.header (raw_of c.args.self.now []) Inputs c.requires)); latches_counted = c.add_variable.new.self.latches_counted; gates_counted = c.add_variable.new.self.gates_counted }

pub returns : goal.returns
returns c =
    λ symbols stands.
    takes c.args.self.now _ symbols c.args.at (BadLine c.args.at) (InputItem c.in-Some.lit) _ (ap (λ (o : Option ℕ). option_map InputItem o) (sym c.in-Some.ensures)) stands
    (next-without c.args.self.now symbols ∙ c.requires)
    (fits_where_passes c.args.self.now.header (raw_of c.args.self.now symbols) c.args.at (InputItem c.in-Some.lit) (definition_passes c.args.self.now.header (raw_of c.args.self.now symbols) c.args.at c.in-Some.lit [] (c.in_ok-check_definition.ensures.checks symbols stands)))
    (ap (λ (m : Sections). m.header) c.in_ok-add_variable.ensures.same) symbols
    (ap (λ (m : Sections). with_item (raw_of m symbols) (InputItem c.in-Some.lit)) (sym c.in_ok-add_variable.ensures.same)
    ∙ ap (λ (xs : List ℕ). record (raw_of c.add_variable.new.self symbols) { inputs = xs }) (sym c.in_ok-push.ensures.items))
    (c.in_ok-add_variable.ensures.places symbols stands)
    (subst (λ (m : Sections). AreNamesOf m.names symbols) (sym c.in_ok-add_variable.ensures.same) stands.names)
