use Rattle.std.proofs.Common.{ℕ, List, Vec, Global, ◌∙◌, ap}
use Rattle.std.proofs.lemmas.List.{take_all}
use Rattle.std.specs.Borrow.{Bor}
use Rattle.command_endings.specs.HeldNames.{texts_of}
use Rattle.command_endings.proofs.PushLaws.{pushed-next}
use Rattle.command_endings.proofs.names.bytes_of_names.Goals as goal

pub loop-name-preserved : goal.loop-name-preserved
loop-name-preserved c =
    pushed-next (λ (name : Vec ℕ Global). name.items) (λ (name : Bor (List ℕ)). name.now) c.args.keep.now c.loop-name.name-index _ c.loop-name.names.items c.push.new.self.items c.in_ok-to_vec.field-0
    c.loop-name-test.true c.loop-name.invariant (c.in_ok-to_vec.ensures.items_if_clones_equal (λ x y same. same) ∙ c.as_bytes.ensures.value) c.in_ok-push.ensures.items

pub returns : goal.returns
returns c = c.loop-name.invariant ∙ ap texts_of (take_all c.loop-name.name-index c.args.keep.now c.loop-name-test.false)
