use Rattle.std.proofs.Common.{ℕ, List, refl, subst, sym}
use Rattle.merged_circuits.specs.Inductive.{IsInductive}
use Rattle.retiming_maps.specs.Merging.{LeadsMerged}
use Rattle.retiming_maps.proofs.merging.followed.Goals as goal

pub follow_merging-requires-clause-map : goal.follow_merging-requires-clause-map
follow_merging-requires-clause-map c = c.requires.map

pub follow_merging-requires-clause-inductive : goal.follow_merging-requires-clause-inductive
follow_merging-requires-clause-inductive c =
    subst (λ (reads : List ℕ). IsInductive c.args.circuit.now.aig c.args.keep.now reads) (sym c.as_slice.ensures.value) c.requires.merged.merged.inductive

pub returns : goal.returns
returns c =
    let P : List ℕ → Type 0 = λ reads. LeadsMerged c.args.keep.now reads c.args.circuit.now c.args.parts.now c.follow_merging.new.parts in (
      record {
        merged = c.requires.merged;
        leads = subst P c.as_slice.ensures.value c.in_ok-follow_merging.ensures c.args.merged.circuit c.requires.merged.merged;
      },
      refl,
    )
