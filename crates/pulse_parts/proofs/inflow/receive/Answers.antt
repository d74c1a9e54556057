use Rattle.std.proofs.Common.{◌≡◌, ◌-◌, ◌<◌, arith, ◌∙◌, refl, ap, slice_index}
use Rattle.frame_net.specs.FlowNet.{row_len}
use Rattle.pulse_parts.specs.Parts.{values_of}
use Rattle.pulse_parts.proofs.inflow.receive.Goals as goal
use Rattle.pulse_parts.proofs.ReceivedLaws.{meets_row, push_back, receives_nothing, receives_push}

pub returns-then-j-heads : goal.returns-then-j-heads
returns-then-j-heads c =
    receives_nothing c.args.net.now (values_of c.args.parts.now) c.args.u c.args.v c.args.row.now c.known.ensures.network c.requires.v
    (λ j jl e. absurd (omega (arith, c.if-j-heads.true, c.place_of-j.ensures.found j (omega (arith, c.heads-heads.ensures.len, jl)) (c.heads-heads.ensures.value j jl ∙ e))))

pub overflow_sub-at : goal.overflow_sub-at
overflow_sub-at c =
    let jl : c.place_of-j.result < row_len c.args.net.now c.args.u = omega (arith, c.if-j-heads.false, c.place_of-j.ensures.within, c.heads-heads.ensures.len) in
    let m = meets_row c.args.net.now c.args.u c.args.v c.place_of-j.result c.heads-heads.result.now c.known.ensures.network c.requires.u c.requires.v jl c.heads-heads.ensures.len c.heads-heads.ensures.value c.place_of-j.ensures.there in
    omega (arith, m.arc, c.start.ensures, c.mates.ensures.value c.place_of-j.result jl)

pub bounds-row-at : goal.bounds-row-at
bounds-row-at c =
    let jl : c.place_of-j.result < row_len c.args.net.now c.args.u = omega (arith, c.if-j-heads.false, c.place_of-j.ensures.within, c.heads-heads.ensures.len) in
    let m = meets_row c.args.net.now c.args.u c.args.v c.place_of-j.result c.heads-heads.result.now c.known.ensures.network c.requires.u c.requires.v jl c.heads-heads.ensures.len c.heads-heads.ensures.value c.place_of-j.ensures.there in
    omega (arith, m.arc, m.inside, c.requires.len, c.start.ensures, c.mates.ensures.value c.place_of-j.result jl)

pub bounds-row-at-2 : goal.bounds-row-at-2
bounds-row-at-2 c =
    let jl : c.place_of-j.result < row_len c.args.net.now c.args.u = omega (arith, c.if-j-heads.false, c.place_of-j.ensures.within, c.heads-heads.ensures.len) in
    let m = meets_row c.args.net.now c.args.u c.args.v c.place_of-j.result c.heads-heads.result.now c.known.ensures.network c.requires.u c.requires.v jl c.heads-heads.ensures.len c.heads-heads.ensures.value c.place_of-j.ensures.there in
    omega (arith, m.arc, m.inside, c.requires.len, c.start.ensures, c.mates.ensures.value c.place_of-j.result jl)

pub overflow_add-row : goal.overflow_add-row
overflow_add-row c =
    let jl : c.place_of-j.result < row_len c.args.net.now c.args.u = omega (arith, c.if-j-heads.false, c.place_of-j.ensures.within, c.heads-heads.ensures.len) in
    let m = meets_row c.args.net.now c.args.u c.args.v c.place_of-j.result c.heads-heads.result.now c.known.ensures.network c.requires.u c.requires.v jl c.heads-heads.ensures.len c.heads-heads.ensures.value c.place_of-j.ensures.there in
    let at : slice_index c.mates.result.now c.place_of-j.result - c.start.result ≡ m.place = omega (arith, m.arc, c.start.ensures, c.mates.ensures.value c.place_of-j.result jl) in
    omega (
      arith,
      c.requires.fits m.place m.inside m.sender,
      ap (slice_index c.args.row.now) at,
      push_back c.args.net.now (values_of c.args.parts.now) c.args.u c.args.v c.place_of-j.result (slice_index c.push_row.result.now c.place_of-j.result) m (c.push_row.ensures.value c.place_of-j.result jl),
    )

pub returns : goal.returns
returns c =
    let jl : c.place_of-j.result < row_len c.args.net.now c.args.u = omega (arith, c.if-j-heads.false, c.place_of-j.ensures.within, c.heads-heads.ensures.len) in
    let m = meets_row c.args.net.now c.args.u c.args.v c.place_of-j.result c.heads-heads.result.now c.known.ensures.network c.requires.u c.requires.v jl c.heads-heads.ensures.len c.heads-heads.ensures.value c.place_of-j.ensures.there in
    receives_push c.args.net.now (values_of c.args.parts.now) c.args.u c.args.v c.place_of-j.result (slice_index c.mates.result.now c.place_of-j.result - c.start.result) (slice_index c.push_row.result.now c.place_of-j.result)
    c.args.row.now _ m (c.push_row.ensures.value c.place_of-j.result jl) (omega (arith, m.arc, c.start.ensures, c.mates.ensures.value c.place_of-j.result jl))
    (omega (arith, m.arc, m.inside, c.requires.len, c.start.ensures, c.mates.ensures.value c.place_of-j.result jl)) refl
