use Rattle.std.proofs.Common.{◌++◌, ◌∙◌, inr, length-append, subst, arith}
use Rattle.file_words.specs.declared.spelling.Spelling.TheVariants.{Ascii, Binary}
use Rattle.aig_binary.specs.declared.any_reader.Phase.{Phase}
use Rattle.aig_binary.specs.declared.any_reader.Phase.TheVariants.{InAscii, InBinary, Neither}
use Rattle.aig_binary.specs.Readers.{PhaseHoldsEither}
use Rattle.aig_binary.proofs.LetterLaws.{letters_stay, named_stays}
use Rattle.aig_binary.proofs.AnswerLaws.{fed_ascii, fed_binary, fed_neither}
use Rattle.aig_binary.proofs.any_reader.AnyReader.feed.Goals as goal

pub returns-in-InAscii-clause-holds : goal.returns-in-InAscii-clause-holds
returns-in-InAscii-clause-holds c = λ bytes held.
    let holds : PhaseHoldsEither (InAscii c.in-InAscii.reader) bytes = subst (λ (p : Phase). PhaseHoldsEither p bytes) c.in-InAscii.is held in
    (named_stays bytes c.args.piece.now Ascii holds.0, c.feed.ensures.holds bytes holds.1)

pub returns-in-InAscii-clause-fed : goal.returns-in-InAscii-clause-fed
returns-in-InAscii-clause-fed c = λ bytes held.
    let holds : PhaseHoldsEither (InAscii c.in-InAscii.reader) bytes = subst (λ (p : Phase). PhaseHoldsEither p bytes) c.in-InAscii.is held in
    fed_ascii c.feed.result (bytes ++ c.args.piece.now) (named_stays bytes c.args.piece.now Ascii holds.0) (c.feed.ensures.fed bytes holds.1)

pub returns-in-InBinary-clause-holds : goal.returns-in-InBinary-clause-holds
returns-in-InBinary-clause-holds c = λ bytes held.
    let holds : PhaseHoldsEither (InBinary c.in-InBinary.reader) bytes = subst (λ (p : Phase). PhaseHoldsEither p bytes) c.in-InBinary.is held in
    let all = c.feed-in-InBinary.ensures.held bytes holds.1 in
    (named_stays bytes c.args.piece.now Binary holds.0, all.0)

pub returns-in-InBinary-clause-fed : goal.returns-in-InBinary-clause-fed
returns-in-InBinary-clause-fed c = λ bytes held.
    let holds : PhaseHoldsEither (InBinary c.in-InBinary.reader) bytes = subst (λ (p : Phase). PhaseHoldsEither p bytes) c.in-InBinary.is held in
    let all = c.feed-in-InBinary.ensures.held bytes holds.1 in
    fed_binary c.feed-in-InBinary.result (bytes ++ c.args.piece.now) (named_stays bytes c.args.piece.now Binary holds.0) all.1

pub returns-in-Neither-clause-fed : goal.returns-in-Neither-clause-fed
returns-in-Neither-clause-fed c = λ bytes held.
    let holds : PhaseHoldsEither (Neither) bytes = subst (λ (p : Phase). PhaseHoldsEither p bytes) c.in-Neither.is held in
    inr (fed_neither (bytes ++ c.args.piece.now) (letters_stay bytes c.args.piece.now holds.1 ∙ holds.0) (omega (arith, holds.1, length-append bytes c.args.piece.now)))
