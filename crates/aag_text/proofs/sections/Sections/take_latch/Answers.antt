use Rattle.std.proofs.Common.{sym, ap, subst, ◌∙◌, ◌∷◌, ◌<◌, [], List, Ok, Option, length}
use Rattle.std.proofs.lemmas.Result.{err_from_is_err_and}
use Rattle.std.specs.Option.{option_map}
use Rattle.ascii_file.specs.declared.raw.RawLatch.{RawLatch}
use Rattle.ascii_file.specs.declared.raw.Section.TheVariants.{Latches}
use Rattle.ascii_file.specs.Reading.{unless, is_bad_reset, definition_checks, with_item}
use Rattle.ascii_file.specs.Items.{LatchItem}
use Rattle.ascii_file.proofs.CheckLaws.{fits_where_passes}
use Rattle.file_words.specs.declared.fault.ReadError.TheVariants.{BadLine, BadReset}
use Rattle.ascii_file.specs.parts.Names.{AreNamesOf}
use Rattle.aag_text.specs.declared.sections.Sections.{Sections}
use Rattle.aag_text.specs.Taking.{raw_of}
use Rattle.aag_text.proofs.CountLaws.{room_in}
use Rattle.aag_text.proofs.TakeLaws.{next-without, at-most, takes, faulty, checks-fail, definition_passes}
use Rattle.aag_text.proofs.sections.Sections.take_latch.Goals as goal

pub returns-in_err-check_definition : goal.returns-in_err-check_definition
returns-in_err-check_definition c =
    let p = err_from_is_err_and c.from_residual.result c.from_residual.ensures.1 in
    rw (p.1, p.2) (λ symbols stands.
    faulty c.args.self.now.header (raw_of c.args.self.now symbols) c.args.at (BadLine c.args.at) _ (LatchItem c.in-Some.latch) _ (ap (λ (o : Option RawLatch). option_map LatchItem o) (sym c.in-Some.ensures))
    (checks-fail _ (definition_checks c.args.self.now.header (raw_of c.args.self.now symbols) c.args.at c.in-Some.latch.current (c.in-Some.latch.next ∷ [])) (unless ((is_bad_reset c.in-Some.latch, BadReset c.args.at) ∷ []) (Ok (with_item (raw_of c.args.self.now symbols) (LatchItem c.in-Some.latch)))) (c.in_err-check_definition.ensures.checks symbols stands)))

pub invariant_of-self : goal.invariant_of-self
invariant_of-self c = record { within = c.add_variable.new.self.within; inputs_counted = c.add_variable.new.self.inputs_counted; latches_counted = at-most _ c.add_variable.new.self.latches.items c.push.new.self.items c.in-Some.latch c.add_variable.new.self.header.latches c.push.ensures.items (subst (λ (m : Sections). length m.latches.items < m.header.latches) (sym c.in_ok-add_variable.ensures.same) (room_in c.args.self.now.header (raw_of c.args.self.now []) Latches c.requires).1); gates_counted = c.add_variable.new.self.gates_counted }

pub returns : goal.returns
returns c =
    λ symbols stands.
    takes c.args.self.now _ symbols c.args.at (BadLine c.args.at) (LatchItem c.in-Some.latch) _ (ap (λ (o : Option RawLatch). option_map LatchItem o) (sym c.in-Some.ensures)) stands
    (next-without c.args.self.now symbols ∙ c.requires)
    (let passes = definition_passes c.args.self.now.header (raw_of c.args.self.now symbols) c.args.at c.in-Some.latch.current (c.in-Some.latch.next ∷ []) (c.in_ok-check_definition.ensures.checks symbols stands) in fits_where_passes c.args.self.now.header (raw_of c.args.self.now symbols) c.args.at (LatchItem c.in-Some.latch) (passes.0, (passes.1.0, (passes.1.1.0, (sym c.is_bad_reset.ensures ∙ c.if-is_bad_reset.false, tt)))))
    (ap (λ (m : Sections). m.header) c.in_ok-add_variable.ensures.same) symbols
    (ap (λ (m : Sections). with_item (raw_of m symbols) (LatchItem c.in-Some.latch)) (sym c.in_ok-add_variable.ensures.same)
    ∙ ap (λ (xs : List RawLatch). record (raw_of c.add_variable.new.self symbols) { latches = xs }) (sym c.in_ok-push.ensures.items))
    (c.in_ok-add_variable.ensures.places symbols stands)
    (subst (λ (m : Sections). AreNamesOf m.names symbols) (sym c.in_ok-add_variable.ensures.same) stands.names)
