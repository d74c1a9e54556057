use Rattle.std.proofs.Common.{ℕ, ◌≡◌, ◌∙◌, true, List, codes, inl, refl, subst}
use Rattle.std.proofs.lemmas.Bool.{false≢true}
use Rattle.counted_io.specs.Streams.{is_stdin, source_name}
use Rattle.counted_io.specs.declared.source.Source.{Source}
use Rattle.counted_io.specs.declared.source.Source.TheVariants as sources
use Rattle.simulation_commands.specs.Keeping.{AreKeptOf}
use Rattle.simulation_commands.proofs.kept.kept_at.Goals as goal

stdin-named : (list : Source) → is_stdin list ≡ true → source_name list ≡ codes "stdin"
stdin-named sources.Stdin is = refl
stdin-named (sources.File path) is = absurd (false≢true is)

pub returns-in-Ok-clause-stdin : goal.returns-in-Ok-clause-stdin
returns-in-Ok-clause-stdin g c = λ is.
    let P : List ℕ → Type 0 = λ bytes. AreKeptOf c.args.first.now c.args.second.now bytes c.name.result c.kept_of-kept.result in
    inl (c.in-Ok.bytes.items, c.in-Ok.ensures.stdin is, (c.name.result, c.name.ensures ∙ stdin-named c.args.list is, subst P c.as_slice.ensures.value c.kept_of-kept.ensures.reads))

pub returns-in-Ok-clause-file : goal.returns-in-Ok-clause-file
returns-in-Ok-clause-file g c = c.in-Ok.ensures.file

pub returns-in-Ok-clause-places : goal.returns-in-Ok-clause-places
returns-in-Ok-clause-places g c = c.kept_of-kept.ensures.places

pub returns-in-Err-clause-file : goal.returns-in-Err-clause-file
returns-in-Err-clause-file g c = c.in-Err.ensures.file

pub returns-in-Err-clause-named : goal.returns-in-Err-clause-named
returns-in-Err-clause-named g c = c.in-Err.ensures.named
