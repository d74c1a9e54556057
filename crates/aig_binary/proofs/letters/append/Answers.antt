use Rattle.std.proofs.Common.{◌≡◌, ◌∙◌, length, sym, arith}
use Rattle.std.proofs.lemmas.Bool.{eqb-true}
use Rattle.aig_binary.proofs.LetterLaws.{letters_begin, letters_full}
use Rattle.aig_binary.proofs.letters.append.Goals as goal

pub loop-byte-init : goal.loop-byte-init
loop-byte-init c = letters_begin c.args.letters.now.items c.requires

pub returns-then-is_full : goal.returns-then-is_full
returns-then-is_full c =
    let full : length c.loop-byte.letters.items ≡ 3 = eqb-true (length c.loop-byte.letters.items) 3 (sym c.is_full.ensures.value ∙ c.if-is_full.true) in
    letters_full c.args.letters.now.items c.args.bytes.now c.loop-byte.letters.items c.loop-byte.byte-index c.loop-byte.invariant (omega (arith, full))
