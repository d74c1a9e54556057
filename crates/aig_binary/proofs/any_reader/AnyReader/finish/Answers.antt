use Rattle.std.proofs.Common.{None, inr, subst}
use Rattle.aig_binary.specs.declared.any_reader.Phase.{Phase}
use Rattle.aig_binary.specs.declared.any_reader.Phase.TheVariants.{Letters, InAscii, InBinary, Neither}
use Rattle.aig_binary.specs.Readers.{PhaseHoldsEither}
use Rattle.aig_binary.proofs.LetterLaws.{none_short}
use Rattle.aig_binary.proofs.AnswerLaws.{read_ascii, read_of_binary, read_by_spelling}
use Rattle.aig_binary.proofs.any_reader.AnyReader.finish.Goals as goal

pub returns-in-InAscii-clause-gives : goal.returns-in-InAscii-clause-gives
returns-in-InAscii-clause-gives c = λ bytes held.
    let holds : PhaseHoldsEither (InAscii c.in-InAscii.reader) bytes = subst (λ (p : Phase). PhaseHoldsEither p bytes) c.in-InAscii.is held in
    read_ascii c.finish.result bytes holds.0 (c.finish.ensures.gives bytes holds.1)

pub returns-in-InBinary-clause-gives : goal.returns-in-InBinary-clause-gives
returns-in-InBinary-clause-gives c = λ bytes held.
    let holds : PhaseHoldsEither (InBinary c.in-InBinary.reader) bytes = subst (λ (p : Phase). PhaseHoldsEither p bytes) c.in-InBinary.is held in
    read_of_binary c.finish-in-InBinary.result bytes holds.0 (c.finish-in-InBinary.ensures.circuit bytes holds.1)

pub returns-in-Letters-clause-gives : goal.returns-in-Letters-clause-gives
returns-in-Letters-clause-gives c = λ bytes held.
    let holds : PhaseHoldsEither (Letters c.in-Letters.field-0) bytes = subst (λ (p : Phase). PhaseHoldsEither p bytes) c.in-Letters.is held in
    inr (read_by_spelling bytes None (none_short bytes holds.1))

pub returns-in-Neither-clause-gives : goal.returns-in-Neither-clause-gives
returns-in-Neither-clause-gives c = λ bytes held.
    let holds : PhaseHoldsEither (Neither) bytes = subst (λ (p : Phase). PhaseHoldsEither p bytes) c.in-Neither.is held in
    inr (read_by_spelling bytes None holds.0)
