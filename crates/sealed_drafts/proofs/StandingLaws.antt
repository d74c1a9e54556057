-- Literals that stand for variables, and the circuit whose properties read them.
use Rattle.std.proofs.Common.{ℕ, ◌+◌, ◌*◌, ◌<◌, ◌≤◌, ◌≡◌, ◌++◌, List, [], ◌∷◌, length, get_or, map, arith, refl, sym, ap, ◌∙◌, subst, length-append}
use Rattle.std.specs.List.{slice_index_or}
use Rattle.std.proofs.lemmas.List.{length-map}
use Rattle.std.proofs.lemmas.List.Elements.{All-append, All-cons, All-nil}
use Rattle.aig_graph.specs.declared.properties.Props.{Props}
use Rattle.aig_graph.specs.declared.properties.Symbol.{Symbol}
use Rattle.aig_graph.specs.Circuits.{AreNamesBelow, ArePropsOf, IsNetlist, Netlist}
use Rattle.aig_graph.specs.Graph.{Graph, IsLiteralOf, variable, variables_end}
use Rattle.aig_graph.specs.Mapped.{mapped_props}
use Rattle.aig_graph.proofs.PropsLaws.{literals_within, mapped-props}
use Rattle.aig_graph.proofs.SignLaws.{variable-signed_as}
use Rattle.clean.specs.Substitutions.{own_literals}
use Rattle.cleaned_circuits.specs.Merged.{replaced}
use Rattle.aig_graph.specs.Tables.{table}
use Rattle.aig_graph.proofs.TableLaws.{length-table, table-at}
use Rattle.sealed_drafts.specs.Sealed.{AreStanding, IsSealed, ReadStanding}

-- no literals
pub standing-none : (end : ℕ) → AreStanding 0 end []
standing-none end = record { long = refl; below = All-nil (λ (lit : ℕ). variable lit < end) }

-- the variables before a first one stand for themselves
pub standing-own : (first end : ℕ) → first ≤ end → AreStanding first end (own_literals first)
unfolding own_literals
standing-own first end few = record {
  long = length-table 0 first (λ v. 2 * v);
  below = λ k d less.
      let short : k < first = omega (arith, less, length-table 0 first (λ v. 2 * v)) in
      let at : get_or (table 0 first (λ v. 2 * v)) k d ≡ 2 * (0 + k) = table-at 0 first (λ v. 2 * v) k d short in
      omega (arith, at, short, few);
}

-- a literal more
pub standing-more : (n end : ℕ) (stands : List ℕ) (lit : ℕ) → AreStanding n end stands → variable lit < end → AreStanding (n + 1) end (stands ++ lit ∷ [])
standing-more n end stands lit are below = record {
  long = let more : length (stands ++ lit ∷ []) ≡ length stands + 1 = length-append stands (lit ∷ []) in omega (arith, more, are.long);
  below = All-append (λ (l : ℕ). variable l < end) stands (lit ∷ []) are.below (All-cons (λ (l : ℕ). variable l < end) lit [] below (All-nil (λ (l : ℕ). variable l < end)));
}

-- what stands for a literal has a variable below the end
replaced-below : (n end : ℕ) (stands : List ℕ) (lit : ℕ) → AreStanding n end stands → variable lit < n → variable (replaced stands lit) < end
replaced-below n end stands lit are within =
    let same : variable (replaced stands lit) ≡ variable (slice_index_or stands (variable lit) 0) = variable-signed_as lit (slice_index_or stands (variable lit) 0) in
    let below : variable (slice_index_or stands (variable lit) 0) < end = are.below (variable lit) 0 (omega (arith, within, are.long)) in
    omega (arith, same, below)

module _ (c : Netlist) (g : Graph) (q : Props) (n m : ℕ) (names : List Symbol) (netlist : IsNetlist c) (sealed : IsSealed c.aig.inputs n m g)
    (read : ReadStanding (variables_end c.aig) (variables_end g) c.props q) (named : AreNamesBelow n names) where
  abbrev f : ℕ → ℕ
  f = replaced read.stands

  props-of : ArePropsOf g q
  props-of =
      subst (λ (p : Props). ArePropsOf g p) (sym read.mapped)
      (mapped-props f (λ lit. IsLiteralOf c.aig lit) g c.props (literals_within c.aig c.props netlist.props)
      (λ lit within. replaced-below (variables_end c.aig) (variables_end g) read.stands lit read.standing within))

  as-many : (n m : ℕ) (own : List Symbol) → m ≡ n → AreNamesBelow n own → AreNamesBelow m own
  as-many n m own same below = subst (λ (k : ℕ). AreNamesBelow k own) (sym same) below

  -- the graph with these properties, and the circuit's names of all but latches, is a circuit
  pub drawn-netlist : IsNetlist (record { aig = g; props = q; symbols = record c.symbols { latches = names } })
  unfolding mapped_props
  drawn-netlist = record {
    props = props-of;
    symbols = record {
      inputs = as-many c.aig.inputs g.inputs c.symbols.inputs sealed.inputs_are netlist.symbols.inputs;
      latches = as-many n (length g.latches) names sealed.latches_are named;
      outputs = as-many (length c.props.outputs) (length q.outputs) c.symbols.outputs (ap (λ (p : Props). length p.outputs) read.mapped ∙ length-map c.props.outputs f) netlist.symbols.outputs;
      bad = as-many (length c.props.bad) (length q.bad) c.symbols.bad (ap (λ (p : Props). length p.bad) read.mapped ∙ length-map c.props.bad f) netlist.symbols.bad;
      constraints =
          as-many (length c.props.constraints) (length q.constraints) c.symbols.constraints (ap (λ (p : Props). length p.constraints) read.mapped ∙ length-map c.props.constraints f) netlist.symbols.constraints;
      justice =
          as-many (length c.props.justice) (length q.justice) c.symbols.justice (ap (λ (p : Props). length p.justice) read.mapped ∙ length-map c.props.justice (map f)) netlist.symbols.justice;
      fairness = as-many (length c.props.fairness) (length q.fairness) c.symbols.fairness (ap (λ (p : Props). length p.fairness) read.mapped ∙ length-map c.props.fairness f) netlist.symbols.fairness;
    };
  }
