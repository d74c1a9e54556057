use Rattle.std.proofs.Common.{ℕ, ◌<◌, ◌≡◌, ◌∙◌, All, IfNone, List, Option, length, ap, sym, subst}
use Rattle.aig_graph.specs.Graph.{variable}
use Rattle.aig_graph.specs.Streams.{property_literals}
use Rattle.aig_graph.proofs.PropsLaws.{literals_within}
use Rattle.aig_graph.proofs.ShapeLaws.{as-many}
use Rattle.gate_sharing.specs.Copies.{copied_end}
use Rattle.pair_checks.specs.declared.pairs.Pair.{Pair}
use Rattle.pair_checks.specs.Sides.{AreEqualAt}
use Rattle.pair_checks.proofs.JudgeLaws.{read-alike}
use Rattle.pair_checks.proofs.checking.answer_under.Goals as goal

pub compare-requires-clause-long : goal.compare-requires-clause-long
compare-requires-clause-long c =
    ap (λ (xs : List ℕ). length xs) (c.as_slice-2.ensures.value ∙ c.in_ok-theirs.ensures ∙ ap property_literals c.props-2.ensures.value)
    ∙ as-many c.args.first.now c.args.second.now c.requires.shape
    ∙ sym (ap (λ (xs : List ℕ). length xs) (c.as_slice.ensures.value ∙ c.in_ok-ours.ensures ∙ ap property_literals c.props.ensures.value))

pub compare-requires-clause-first : goal.compare-requires-clause-first
compare-requires-clause-first c =
    let long : copied_end c.args.pair.now.first ≡ _ = c.requires.pair.first.long in
    subst (λ (xs : List ℕ). All (λ lit. variable lit < copied_end c.args.pair.now.first) xs) (sym (c.as_slice.ensures.value ∙ c.in_ok-ours.ensures ∙ ap property_literals c.props.ensures.value))
    (subst (λ (n : ℕ). All (λ lit. variable lit < n) (property_literals c.args.first.now.props)) (sym long) (literals_within c.args.first.now.aig c.args.first.now.props c.known.ensures.netlist.props))

pub compare-requires-clause-second : goal.compare-requires-clause-second
compare-requires-clause-second c =
    let long : copied_end c.args.pair.now.second ≡ _ = c.requires.pair.second.long in
    subst (λ (xs : List ℕ). All (λ lit. variable lit < copied_end c.args.pair.now.second) xs) (sym (c.as_slice-2.ensures.value ∙ c.in_ok-theirs.ensures ∙ ap property_literals c.props-2.ensures.value))
    (subst (λ (n : ℕ). All (λ lit. variable lit < n) (property_literals c.args.second.now.props)) (sym long) (literals_within c.args.second.now.aig c.args.second.now.props c.known-2.ensures.netlist.props))

pub returns-in-None : goal.returns-in-None
returns-in-None c =
    let p : Pair = c.args.pair.now in
    let ours : List ℕ = property_literals c.args.first.now.props in
    let theirs : List ℕ = property_literals c.args.second.now.props in
    let first : List ℕ = c.as_slice.result.now in
    let second : List ℕ = c.as_slice-2.result.now in
    let one : first ≡ ours = c.as_slice.ensures.value ∙ c.in_ok-ours.ensures ∙ ap property_literals c.props.ensures.value in
    let other : second ≡ theirs = c.as_slice-2.ensures.value ∙ c.in_ok-theirs.ensures ∙ ap property_literals c.props-2.ensures.value in
    let found : AreEqualAt p first second (length first) = subst (λ (o : Option ℕ). IfNone o (AreEqualAt p first second (length first))) c.in-None.is c.in_ok-found.ensures in
    let all : AreEqualAt p ours theirs (length ours) = subst (λ (xs : List ℕ). AreEqualAt p xs theirs (length xs)) one (subst (λ (ys : List ℕ). AreEqualAt p first ys (length first)) other found) in
    read-alike c.args.first.now c.args.second.now c.args.reads.now p c.requires.pair c.known.ensures.graph c.known-2.ensures.graph c.known.ensures.netlist c.known-2.ensures.netlist c.known-3.ensures c.requires.shape all
