use Rattle.std.proofs.Common.{◌≡◌, ◌<◌, ◌∙◌, ap, sym, subst, ℕ, List, length}
use Rattle.std.proofs.lemmas.Result.{IfOk-weaker}
use Rattle.aig_graph.specs.declared.properties.Props.{Props}
use Rattle.aig_graph.specs.Graph.{variable, variables_end}
use Rattle.aig_graph.specs.Mapped.{OfProps, mapped_props}
use Rattle.cleaned_circuits.specs.Merged.{replaced}
use Rattle.cleaned_circuits.specs.Trimmed.{renumbered}
use Rattle.clean.specs.Sweep.{is_marked}
use Rattle.clean.proofs.TrimLaws.{length-new_literals, props-new}
use Rattle.clean.proofs.trim.Trim.props.Goals as goal

pub mapped-requires : goal.mapped-requires
mapped-requires c =
    let long : length c.args.self.now.literals.now ≡ variables_end c.args.self.now.aig.now =
    ap (λ (xs : List ℕ). length xs) c.args.self.now.renumbers ∙ length-new_literals c.args.self.now.aig.now (is_marked c.args.self.now.reached.now) in
    subst (λ (n : ℕ). OfProps (λ (lit : ℕ). variable lit < n) c.args.props.now) (sym long) c.requires

pub returns : goal.returns
returns c =
    let g = c.args.self.now.aig.now in
    let s = is_marked c.args.self.now.reached.now in
    let P : Props → Type 0 = λ new. new ≡ mapped_props (replaced c.args.self.now.literals.now) c.args.props.now in
    let Q : Props → Type 0 = λ new. new ≡ mapped_props (renumbered g s) c.args.props.now in
    IfOk-weaker c.mapped.result P Q (λ new is. is ∙ props-new g s c.args.self.now.literals.now c.args.props.now c.args.self.now.renumbers c.requires) c.mapped.ensures
