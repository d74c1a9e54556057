-- A miter that is never 1 says that the questions have the answers that they should. Its inputs may
-- be any digits and any state.
use Rattle.std.proofs.Common.{ℕ, suc, zero, ◌+◌, ◌<◌, ◌≡◌, Bool, false, refl, arith, ap, sym, ◌∙◌, subst}
use Rattle.aig_graph.specs.Circuits.{IsNetlist, Netlist}
use Rattle.aig_graph.specs.Graph.{IsGraph}
use Rattle.aig_graph.specs.Streams.{property_literals}
use Rattle.aig_graph.proofs.StreamLaws.{funext}
use Rattle.state_maps.specs.MapCircuits.{is_kept, mapped}
use Rattle.state_maps.specs.States.{Digits, State, after_step}
use Rattle.witness_circuits.proofs.AgreeLaws.{HaveSame, after_step-alike, alike-itself, literals-alike}
use Rattle.map_miters.specs.Miters.{IsMiter, state_in}
use Rattle.map_miters.specs.Questions.{Begins, IsAskable, Keeps, Reads, Steps}
use Rattle.map_miters.specs.Laws.{IsNeverOne, MeetsQuestions, MitersAnswer}
use Rattle.aig_graph.proofs.PropsLaws.{properties-within}

-- the digits of n inputs, then what latches hold
joined : ℕ → Digits → State → ℕ → Bool
joined zero x s i = s i
joined (suc n) x s zero = x zero
joined (suc n) x s (suc i) = joined n (λ k. x (suc k)) s i

joined-low : (n : ℕ) (x : Digits) (s : State) (i : ℕ) → i < n → joined n x s i ≡ x i
unfolding joined
joined-low zero x s i less = absurd (omega (arith, less))
joined-low (suc n) x s zero less = refl
joined-low (suc n) x s (suc i) less = joined-low n (λ k. x (suc k)) s i (omega (arith, less))

joined-high : (n : ℕ) (x : Digits) (s : State) (i j : ℕ) → i ≡ n + j → joined n x s i ≡ s j
unfolding joined
joined-high zero x s i j at = let same : i ≡ j = omega (arith, at) in ap s same
joined-high (suc n) x s zero j at = absurd (omega (arith, at))
joined-high (suc n) x s (suc i) j at = joined-high n (λ k. x (suc k)) s i j (omega (arith, at))

module _ (c d m r : Netlist) (first_graph : IsGraph c.aig) (first_net : IsNetlist c) (second_graph : IsGraph d.aig) (second_net : IsNetlist d) (askable : IsAskable c d m)
    (miter : IsMiter c d m r) (never : IsNeverOne r) where
  module _ (x : Digits) (s : State) where
    abbrev z : Digits
    z = joined c.aig.inputs x s

    state : state_in c.aig z ≡ s
    state = funext _ _ (λ j. joined-high c.aig.inputs x s (c.aig.inputs + j) j refl)

    first-same : HaveSame c.aig x z s s
    first-same = record { inputs = λ i less. joined-low c.aig.inputs x s i less; latches = λ j less. refl }

    second-same : (t : State) → HaveSame d.aig x z t t
    second-same t = record { inputs = λ i less. joined-low c.aig.inputs x s i (omega (arith, less, askable.shape.inputs)); latches = λ j less. refl }

    after-same : after_step c.aig z s ≡ after_step c.aig x s
    after-same = after_step-alike c.aig first_graph x z s s first-same

    begins : Begins c d m s
    begins = subst (λ (t : State). Begins c d m t) state ((miter.reset z).0 (never z 0 (omega arith)))

    keeps : Keeps c m x s
    keeps here =
        let asked : Keeps c m z s = subst (λ (t : State). Keeps c m z t) state ((miter.keep z).0 (never z 1 (omega arith))) in
        subst (λ (t : State). is_kept m t) after-same (asked here)

    steps : Steps c d m x s
    steps here j less =
        let asked : Steps c d m z s = subst (λ (t : State). Steps c d m z t) state ((miter.next z).0 (never z 2 (omega arith))) in
        ap (λ (t : State). mapped m t j) (sym after-same)
        ∙ asked here j less
        ∙ ap (λ (t : State). t j) (after_step-alike d.aig second_graph x z (mapped m s) (mapped m s) (second-same (mapped m s)))

    reads : Reads c d m x s
    reads here =
        let asked : Reads c d m z s = subst (λ (t : State). Reads c d m z t) state ((miter.read z).0 (never z 3 (omega arith))) in
        sym (literals-alike d.aig d.aig second_graph second_graph (alike-itself d.aig) x z (mapped m s) (mapped m s) (second-same (mapped m s))
        (property_literals d.props) (properties-within d second_net))
        ∙ asked here
        ∙ literals-alike c.aig c.aig first_graph first_graph (alike-itself c.aig) x z s s first-same (property_literals c.props) (properties-within c first_net)

  answered : MeetsQuestions c d m
  answered = record { reset = begins (λ i. false); keep = keeps; next = steps; read = reads }

-- a miter that is never 1 says that the map has the answers
pub miters-answer : (c d m r : Netlist) → MitersAnswer c d m r
miters-answer c d m r first_graph first_net second_graph second_net askable miter never = answered c d m r first_graph first_net second_graph second_net askable miter never
