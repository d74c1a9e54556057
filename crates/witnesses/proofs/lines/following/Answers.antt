use Rattle.std.proofs.Common.{◌∙◌, rules, arith}
use Rattle.witnesses.specs.Statements.{left}
use Rattle.witnesses.proofs.LineLaws.{none_left, first_left, comment_left, statement_left}
use Rattle.witnesses.proofs.lines.following.Goals as goal

pub returns-then-not-is_comment-clause-lines : goal.returns-then-not-is_comment-clause-lines
returns-then-not-is_comment-clause-lines c =
    c.loop-line.invariant.same ∙ first_left _ _ _ _ _ _ c.in-Some.ensures.within c.in-Some.ensures.line c.in-Some.ensures.end
    ∙ statement_left _ _ _ (search rules)

pub loop-line-preserved : goal.loop-line-preserved
loop-line-preserved c = record {
  end = c.in-Some.ensures.end ∙ c.loop-line.invariant.end;
  shorter = omega (arith, c.in-Some.ensures.shorter, c.loop-line.invariant.shorter);
  same = c.loop-line.invariant.same ∙ first_left _ _ _ _ _ _ c.in-Some.ensures.within c.in-Some.ensures.line c.in-Some.ensures.end
      ∙ comment_left c.in-Some.line.at c.in-Some.line.text.now (left c.next_line.new.self) (search rules);
}

pub returns-clause-lines : goal.returns-clause-lines
returns-clause-lines c = c.loop-line.invariant.same ∙ none_left _ _ c.in_default.ensures.line
