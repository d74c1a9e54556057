use Rattle.std.proofs.Common.{ℕ, List, ◌∙◌, ap, sym, arith, bytes_eq}
use Rattle.std.specs.Borrow.{Bor}
use Rattle.std.specs.List.{list_any}
use Rattle.std.specs.Cmp.Lexicographic.{nat_list_eq_equiv}
use Rattle.aig_graph.proofs.TableLaws.{entry, table-end, table-none}
use Rattle.aig_graph.proofs.HoldingLaws.{found-more}
use Rattle.reports.specs.waves.Names.{apart, told_apart}
use Rattle.reports.proofs.WaveNameLaws.{apart-is}
use Rattle.reports.proofs.waves.names.told_apart.Goals as goal

pub loop-k-init : goal.loop-k-init
loop-k-init c = record {
  told = c.in_ok-told.ensures.items ∙ sym (table-none 0 _);
  found = λ q. ap (list_any (λ (k : Bor (List ℕ)). bytes_eq q k.now)) c.new-found.ensures.empty;
}

pub loop-k-preserved : goal.loop-k-preserved
loop-k-preserved c =
    let names = c.args.names.now in
    let k : ℕ = c.loop-k.k in
    let name : List ℕ = c.as_slice.result.now in
    record {
      told = entry 0 k (apart names) c.loop-k.told.items c.push.new.self.items c.in_ok-apart_where.field-0 c.loop-k.invariant.told c.in_ok-push.ensures.items
          (apart-is names k c.index-names-k.result name c.in_ok-is_new.is_new _ _ c.loop-k-test.true c.index-names-k.is c.as_slice.ensures
          (c.in_ok-is_new.ensures.added) (c.loop-k.invariant.found name) (rw c.as_slice-in-loop-k.ensures at c.in_ok-apart_where.ensures));
      found = λ q.
          c.in_ok-is_new.ensures.updates.0 (record c.as_slice.result { now = q })
          ∙ found-more (bytes_eq q) names k c.index-names-k.result _ _ c.loop-k-test.true
          (nat_list_eq_equiv.symm name q ∙ ap (bytes_eq q) (c.as_slice.ensures ∙ c.index-names-k.is))
          (c.loop-k.invariant.found q);
    }

pub returns : goal.returns
unfolding told_apart
returns c =
    table-end 0 c.loop-k.k _ (apart c.args.names.now) c.loop-k.told.items (omega (arith, c.loop-k.auto.k-end)) (omega (arith, c.loop-k-test.false)) c.loop-k.invariant.told
