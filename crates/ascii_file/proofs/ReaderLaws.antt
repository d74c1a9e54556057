-- Tables of readers, one gate after another.
use Rattle.std.proofs.Common.{ℕ, ◌+◌, ◌<◌, ◌≤◌, ◌≡◌, ◌≢◌, inl, inr, List, length, Bool, true, false, nat_eq, cond, Option, Some, None, slice_get, get_or, arith, ap, sym, subst, ◌∙◌}
use Rattle.std.specs.Option.{option_and_then, option_eq}
use Rattle.std.proofs.lemmas.Bool.{cases_eq}
use Rattle.std.proofs.lemmas.List.{length-set, get_or-set_same, get_or-set_other}
use Rattle.std.proofs.lemmas.Option.{none-some, same_Some, slice_get_past, MatchOption-at_some}
use Rattle.std.proofs.Math.ListN.{set}
use Rattle.ascii_file.specs.declared.order.reads.Reads.{Reads}
use Rattle.ascii_file.specs.declared.order.reads.Side.{Side}
use Rattle.ascii_file.specs.declared.order.reads.Side.TheVariants.{First, Second}
use Rattle.ascii_file.specs.order.Order.{ReadsBelow}
use Rattle.ascii_file.specs.order.Readers.{fan_in, read_by, IsLastReader, AreReaderTables}

-- a gate of the file reads by a fan-in what its entry says
pub read_by-at : (side : Side) (gates : List Reads) (g : ℕ) (reads : Reads) → slice_get gates g ≡ Some reads → read_by side gates g ≡ fan_in side reads
unfolding read_by
read_by-at side gates g reads e = ap (option_and_then (fan_in side)) e

-- past the file's last gate nothing is read
pub read_by-past : (side : Side) (gates : List Reads) (g : ℕ) → length gates ≤ g → read_by side gates g ≡ None
unfolding read_by
read_by-past side gates g past = ap (option_and_then (fan_in side)) (slice_get_past gates g past)

second_is : (reads : Reads) (b : Bool) (p : ℕ) → cond b None reads.second ≡ Some p → reads.second ≡ Some p
second_is reads true p e = absurd (none-some p e)
second_is reads false p e = e

-- what is read is in the file
pub fan_in_below : (side : Side) (n : ℕ) (reads : Reads) (p : ℕ) → ReadsBelow n reads → fan_in side reads ≡ Some p → p < n
fan_in_below First n reads p below e = MatchOption-at_some (Unit {0}) (λ g. g < n) p e below.first
fan_in_below Second n reads p below e = MatchOption-at_some (Unit {0}) (λ g. g < n) p (second_is reads (option_eq nat_eq reads.second reads.first) p e) below.second

last-later : (reads : ℕ → Option ℕ) (p k c : ℕ) → IsLastReader reads p k c → reads k ≢ Some p → IsLastReader reads p (k + 1) c
last-later reads p k c last other = record {
  within = omega (arith, last.within);
  one = last.one;
  none = λ g above below. elim (cases_eq g k) [
    | inl same ↦ (λ e. other (ap reads (sym same) ∙ e))
    | inr before ↦ last.none g above (omega arith)
  ];
}

last-here : (reads : ℕ → Option ℕ) (p k : ℕ) → reads k ≡ Some p → IsLastReader reads p (k + 1) (k + 1)
last-here reads p k e = record {
  within = omega arith;
  one = λ g same. let here : g ≡ k = omega arith in ap reads here ∙ e;
  none = λ g above below. absurd (omega arith);
}

-- before the first gate
pub AreReaders-none : (reads : ℕ → Option ℕ) (n : ℕ) (last before : List ℕ) → length last ≡ n → length before ≡ n → ((p : ℕ) → p < n → get_or last p 0 ≡ 0) → AreReaderTables reads n 0 last before
AreReaders-none reads n last before same_last same_before zeros = record {
  last_length = same_last;
  before_length = same_before;
  last_of = λ p less. record {
    within = omega (arith, zeros p less);
    one = λ g e. absurd (omega (arith, zeros p less));
    none = λ g above below. absurd (omega arith);
  };
  before_of = λ g p less e. absurd (omega arith);
}

-- a gate that reads none by this fan-in
pub AreReaders-skip : (reads : ℕ → Option ℕ) (n k : ℕ) (last before : List ℕ) → AreReaderTables reads n k last before → reads k ≡ None → AreReaderTables reads n (k + 1) last before
AreReaders-skip reads n k last before are e = record {
  last_length = are.last_length;
  before_length = are.before_length;
  last_of = λ p less. last-later reads p k (get_or last p 0) (are.last_of p less) (λ some. none-some p (sym e ∙ some));
  before_of = λ g p less some. elim (cases_eq g k) [
    | inl same ↦ absurd (none-some p (sym e ∙ ap reads (sym same) ∙ some))
    | inr other ↦ are.before_of g p (omega arith) some
  ];
}

-- a gate that reads q
pub AreReaders-more : (reads : ℕ → Option ℕ) (n k q : ℕ) (last before : List ℕ) → AreReaderTables reads n k last before → k < n → q < n → reads k ≡ Some q
    → AreReaderTables reads n (k + 1) (set last q (k + 1)) (set before k (get_or last q 0))
AreReaders-more reads n k q last before are within in_file e = record {
  last_length = length-set last q (k + 1) ∙ are.last_length;
  before_length = length-set before k (get_or last q 0) ∙ are.before_length;
  last_of = λ p less. elim (cases_eq p q) [
    | inl same ↦ (
        let here : get_or (set last q (k + 1)) p 0 ≡ k + 1 = ap (λ (i : ℕ). get_or (set last q (k + 1)) i 0) same ∙ get_or-set_same last q (k + 1) 0 (omega (arith, are.last_length)) in
        let reader : reads k ≡ Some p = e ∙ ap (λ (i : ℕ). Some i) (sym same) in
        subst (IsLastReader reads p (k + 1)) (sym here) (last-here reads p k reader))
    | inr other ↦ (
        let there : get_or (set last q (k + 1)) p 0 ≡ get_or last p 0 = get_or-set_other last q p (k + 1) 0 other in
        subst (IsLastReader reads p (k + 1)) (sym there) (last-later reads p k (get_or last p 0) (are.last_of p less) (λ some. other (same_Some p q (sym some ∙ e)))))
  ];
  before_of = λ g p less some. elim (cases_eq g k) [
    | inl same ↦ (
        let value : get_or (set before k (get_or last q 0)) g 0 ≡ get_or last q 0 =
        ap (λ (i : ℕ). get_or (set before k (get_or last q 0)) i 0) same ∙ get_or-set_same before k (get_or last q 0) 0 (omega (arith, are.before_length)) in
        let one : q ≡ p = same_Some q p (sym e ∙ ap reads (sym same) ∙ some) in
        let last_q : IsLastReader reads q k (get_or last q 0) = are.last_of q in_file in
        subst (IsLastReader reads p g) (sym value) (subst (λ (i : ℕ). IsLastReader reads p i (get_or last q 0)) (sym same) (subst (λ (i : ℕ). IsLastReader reads i k (get_or last q 0)) one last_q)))
    | inr other ↦ (
        let value : get_or (set before k (get_or last q 0)) g 0 ≡ get_or before g 0 = get_or-set_other before k g (get_or last q 0) 0 other in
        subst (IsLastReader reads p g) (sym value) (are.before_of g p (omega arith) some))
  ];
}
