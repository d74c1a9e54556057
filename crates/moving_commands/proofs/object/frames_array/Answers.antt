use Rattle.std.proofs.Common.{List, [], ◌∷◌, ◌++◌, ◌∙◌, ap, ap₂, map, sym}
use Rattle.std.proofs.lemmas.List.{map_more, map_push, take_all}
use Rattle.serde_json.specs.Data.{Data, array}
use Rattle.serde_json.specs.View.{items_of, view}
use Rattle.serde_json.proofs.Views.{view-Array}
use Rattle.moving_commands.specs.Printing.{backward_frame_data}
use Rattle.moving_commands.proofs.object.frames_array.Goals as goal

pub loop-frame-preserved : goal.loop-frame-preserved
loop-frame-preserved c =
    ap (map view) c.in_ok-push.ensures.ok ∙ map_push view _ _
    ∙ ap₂ (λ (ds : List Data) (d : Data). ds ++ d ∷ []) c.loop-frame.invariant c.in_ok-object.ensures
    ∙ sym (map_more backward_frame_data _ _ _ c.loop-frame-test.true)

pub returns : goal.returns
returns c = view-Array c.loop-frame.list ∙ ap (λ (ds : List Data). array (items_of ds)) (c.loop-frame.invariant ∙ ap (map backward_frame_data) (take_all _ _ c.loop-frame-test.false))
