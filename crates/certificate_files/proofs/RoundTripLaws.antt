-- Blocks that were written are read again.
use Rattle.std.proofs.Common.{ℕ, suc, ◌+◌, ◌-◌, ◌^◌, ◌<◌, ◌≡◌, length, List, [], ◌∷◌, ◌++◌, take, Some, None, Result, Ok, Err, refl, arith, Bool, true, false, not, ◌&&◌, ◌||◌, ◌==◌, ap, ap₂, sym, ◌∙◌, map, get_or, length-append, append_assoc, append-nil, decimal, codes, is_some, rules}
use Rattle.std.proofs.Math.Seq.{take-append_seam}
use Rattle.std.proofs.lemmas.Bool.{and_parts, and_from, cond-true, leb-true}
use Rattle.std.specs.List.{list_all, flat_map}
use Rattle.counted_io.specs.Line.{line}
use Rattle.file_words.specs.Answering.{◌>>=◌}
use Rattle.file_words.specs.Lines.{lines, pieces, is_number, digits_value}
use Rattle.file_words.specs.Cuts.{lacks}
use Rattle.file_words.proofs.DecimalLaws.{decimal-is_number, decimal-value, decimal-lacks, lacks-append, row_line, row-is_line, row_line-lacks_newline, numbers_of-row_line, lines-at_newline, pieces-at_space, pieces-at_end}
use Rattle.frame_net.specs.declared.net.Point.{Point}
use Rattle.certificates.specs.declared.certificate.Certificate.{Certificate}
use Rattle.certificate_files.specs.declared.fault.CertError.{CertError}
use Rattle.certificate_files.specs.declared.fault.CertError.TheVariants.{TooLarge}
use Rattle.certificate_files.specs.declared.forms.FrameLine.{FrameLine}
use Rattle.certificate_files.specs.declared.file.CertFile.{CertFile}
use Rattle.certificate_files.specs.declared.blocks.Opening.TheVariants.{Block}
use Rattle.certificate_files.specs.Files.{sign_of, is_point, point_of_word, is_small, Route, frame_saying, gate_saying, route_of, begins_with, saying_of, settled, Blocks, Front, Standing, read_parts, stood}
use Rattle.certificate_files.specs.Forms.{framed, gated, routed, are_small}
use Rattle.certificate_files.specs.Laws.{is_writable_route, is_writable_block}
use Rattle.certificate_files.specs.Steps.{next_by, certificate_block, block_with_gate, with_route, ended_blocks, opened}
use Rattle.certificate_files.specs.Texts.{sign_code, point_text, route_text, gate_text, frame_line_text, block_text}
use Rattle.certificate_files.proofs.FormLaws.{saying-frame, saying-gate, saying-route}
use Rattle.certificate_files.proofs.StepLaws.{one_line, gate_stood, route_stood, block_stood}
use Rattle.certificate_files.proofs.WordLaws.{last_of}

-- ---- a small number is one that a row may have

-- a number within the limit is below 2^64
pub small_below : (n : ℕ) → is_small n ≡ true → n < 2 ^ 64
small_below n small = let within = leb-true n (2 ^ 28 - 1) small in omega (arith, within)

-- ---- a point

abbrev word_of : Point → List ℕ
word_of p = decimal p.var ++ sign_code p.behind ∷ []

sign-lacks : (mark : ℕ) (behind : Bool) → mark < 43 → lacks mark (sign_code behind ∷ []) ≡ true
sign-lacks mark true low = search (rules, low)
sign-lacks mark false low = search (rules, low)

word-lacks : (mark : ℕ) (p : Point) → mark < 43 → lacks mark (word_of p) ≡ true
word-lacks mark p low = lacks-append mark (decimal p.var) (sign_code p.behind ∷ []) (decimal-lacks mark p.var (omega (arith, low))) (sign-lacks mark p.behind low)

module _ (p : Point) where
  long : length (word_of p) - 1 ≡ length (decimal p.var)
  long = omega (arith, length-append (decimal p.var) (sign_code p.behind ∷ []))

  front : take (length (word_of p) - 1) (word_of p) ≡ decimal p.var
  front = ap (λ (n : ℕ). take n (word_of p)) long ∙ take-append_seam (decimal p.var) (sign_code p.behind ∷ [])

  last : sign_of (word_of p) ≡ sign_code p.behind
  last = ap (λ (n : ℕ). get_or (word_of p) n 0) long ∙ last_of (decimal p.var) (sign_code p.behind)

  is_sign : (b : Bool) → (sign_code b == 43 || sign_code b == 45) ≡ true
  is_sign true = refl
  is_sign false = refl

  is_behind : (b : Bool) → (sign_code b == 43) ≡ b
  is_behind true = refl
  is_behind false = refl

  word-is_point : is_small p.var ≡ true → is_point (word_of p) ≡ true
  word-is_point small =
      ap₂ (λ (ds : List ℕ) (s : ℕ). is_number ds && (s == 43 || s == 45)) front last
      ∙ and_from (is_number (decimal p.var)) (sign_code p.behind == 43 || sign_code p.behind == 45) (decimal-is_number p.var (small_below p.var small)) (is_sign p.behind)

  point-again : is_small p.var ≡ true → point_of_word (word_of p) ≡ p
  point-again small =
      ap₂ (λ (ds : List ℕ) (s : ℕ). record { var = digits_value ds; behind = s == 43 }) front last
      ∙ ap₂ (λ (v : ℕ) (b : Bool). record { var = v; behind = b }) (decimal-value p.var (small_below p.var small)) (is_behind p.behind)

-- ---- a route

abbrev route_words : Point → List Point → List ℕ
route_words p ps = word_of p ++ flat_map point_text ps

pieces-route : (p : Point) (ps : List Point) → pieces (route_words p ps) ≡ map word_of (p ∷ ps)
pieces-route p [] = ap pieces (append-nil (word_of p)) ∙ pieces-at_end (word_of p) (word-lacks 32 p (omega arith))
pieces-route p (q ∷ qs) =
    pieces-at_space (word_of p) (route_words q qs) (word-lacks 32 p (omega arith)) ∙ ap (λ (ws : List (List ℕ)). word_of p ∷ ws) (pieces-route q qs)

words-are_points : (ps : List Point) → are_small ps ≡ true → list_all is_point (map word_of ps) ≡ true
words-are_points [] small = refl
words-are_points (p ∷ ps) small =
    let parts = and_parts (is_small p.var) (are_small ps) small in
    and_from (is_point (word_of p)) (list_all is_point (map word_of ps)) (word-is_point p parts.0) (words-are_points ps parts.1)

words-points : (ps : List Point) → are_small ps ≡ true → map point_of_word (map word_of ps) ≡ ps
words-points [] small = refl
words-points (p ∷ ps) small =
    let parts = and_parts (is_small p.var) (are_small ps) small in
    ap₂ (λ (q : Point) (qs : List Point). q ∷ qs) (point-again p parts.0) (words-points ps parts.1)

abbrev route_line : List Point → List ℕ
route_line ps = codes "r" ++ flat_map point_text ps

route-said : (at : ℕ) (ps : List Point) → is_writable_route ps ≡ true → routed at (saying_of (route_line ps)) ≡ Ok ps
route-said at [] writable = absurd (cc)
route-said at (p ∷ ps) writable =
    ap (routed at) (saying-route (route_line (p ∷ ps)) (route_words p ps) refl ∙ ap route_of (pieces-route p ps))
    ∙ ap (routed at) (cond-true (list_all is_point (map word_of (p ∷ ps))) (Some (Route (map point_of_word (map word_of (p ∷ ps))))) None (words-are_points (p ∷ ps) small))
    ∙ ap (λ (qs : List Point). routed at (Some (Route qs))) (words-points (p ∷ ps) small)
    ∙ cond-true (are_small (p ∷ ps)) (Ok (p ∷ ps)) (Err (TooLarge at)) small
  where
    small : are_small (p ∷ ps) ≡ true
    small = (and_parts (not (length (p ∷ ps) == 0)) (are_small (p ∷ ps)) writable).1

-- ---- the other lines

abbrev gate_line : ℕ → List ℕ
gate_line v = codes "g " ++ row_line (v ∷ [])

gate-said : (at v : ℕ) → is_small v ≡ true → gated at (saying_of (gate_line v)) ≡ Ok v
gate-said at v small =
    ap (gated at) (saying-gate (gate_line v) (row_line (v ∷ [])) refl ∙ ap gate_saying (numbers_of-row_line v [] (small_below v small, tt)))
    ∙ cond-true (is_small v) (Ok v) (Err (TooLarge at)) small

abbrev frame_line : ℕ → ℕ → ℕ → List ℕ
frame_line count gates routes = codes "frame " ++ row_line (count ∷ gates ∷ routes ∷ [])

frame-said : (at count gates routes : ℕ) → is_small count ≡ true → is_small gates ≡ true → is_small routes ≡ true
    → framed at (saying_of (frame_line count gates routes)) ≡ Ok (record { count = count; gates = gates; routes = routes })
frame-said at count gates routes a b c =
    ap (framed at) (saying-frame (frame_line count gates routes) (row_line (count ∷ gates ∷ routes ∷ [])) refl
    ∙ ap frame_saying (numbers_of-row_line count (gates ∷ routes ∷ []) (small_below count a, (small_below gates b, (small_below routes c, tt)))))
    ∙ cond-true (is_small count && is_small gates && is_small routes) (Ok (record { count = count; gates = gates; routes = routes })) (Err (TooLarge at))
    (and_from (is_small count && is_small gates) (is_small routes) (and_from (is_small count) (is_small gates) a b) c)

-- ---- the lines of the text

-- things of which each is written as a line
pub lines-of : {X : Type 0} (text line_of : X → List ℕ) → ((x : X) → text x ≡ line_of x ++ 10 ∷ []) → ((x : X) → lacks 10 (line_of x) ≡ true)
    → (xs : List X) (rest : List ℕ) → lines (flat_map text xs ++ rest) ≡ map line_of xs ++ lines rest
lines-of text line_of is clean [] rest = refl
lines-of text line_of is clean (x ∷ xs) rest =
    ap lines (append_assoc (text x) (flat_map text xs) rest ∙ ap (λ (t : List ℕ). t ++ (flat_map text xs ++ rest)) (is x) ∙ append_assoc (line_of x) (10 ∷ []) (flat_map text xs ++ rest))
    ∙ lines-at_newline (line_of x) (flat_map text xs ++ rest) (clean x)
    ∙ ap (λ (ls : List (List ℕ)). line_of x ∷ ls) (lines-of text line_of is clean xs rest)

gate-is_line : (v : ℕ) → gate_text v ≡ gate_line v ++ 10 ∷ []
gate-is_line v = ap (λ (t : List ℕ). codes "g " ++ t) (row-is_line (v ∷ []))

gate-clean : (v : ℕ) → lacks 10 (gate_line v) ≡ true
gate-clean v = lacks-append 10 (codes "g ") (row_line (v ∷ [])) refl (row_line-lacks_newline (v ∷ []))

points-clean : (ps : List Point) → lacks 10 (flat_map point_text ps) ≡ true
points-clean [] = refl
points-clean (p ∷ ps) = lacks-append 10 (point_text p) (flat_map point_text ps) (word-lacks 10 p (omega arith)) (points-clean ps)

route-is_line : (ps : List Point) → route_text ps ≡ route_line ps ++ 10 ∷ []
route-is_line ps = refl

route-clean : (ps : List Point) → lacks 10 (route_line ps) ≡ true
route-clean ps = points-clean ps

frame-clean : (count gates routes : ℕ) → lacks 10 (frame_line count gates routes) ≡ true
frame-clean count gates routes = lacks-append 10 (codes "frame ") (row_line (count ∷ gates ∷ routes ∷ [])) refl (row_line-lacks_newline (count ∷ gates ∷ routes ∷ []))

abbrev line_of_frame : Certificate → List ℕ
line_of_frame b = frame_line b.count (length b.gates) (length b.routes)

lines-block : (b : Certificate) (rest : List ℕ) → lines (block_text b ++ rest) ≡ line_of_frame b ∷ (map gate_line b.gates ++ (map route_line b.routes ++ lines rest))
lines-block b rest =
    ap lines (append_assoc (frame_line_text b ++ flat_map gate_text b.gates) (flat_map route_text b.routes) rest
    ∙ append_assoc (frame_line_text b) (flat_map gate_text b.gates) (flat_map route_text b.routes ++ rest)
    ∙ ap (λ (t : List ℕ). (codes "frame " ++ t) ++ behind) (row-is_line row)
    ∙ ap (λ (t : List ℕ). codes "frame " ++ t) (append_assoc (row_line row) (10 ∷ []) behind))
    ∙ lines-at_newline (line_of_frame b) behind (frame-clean b.count (length b.gates) (length b.routes))
    ∙ ap (λ (ls : List (List ℕ)). line_of_frame b ∷ ls)
    (lines-of gate_text gate_line gate-is_line gate-clean b.gates (flat_map route_text b.routes ++ rest)
    ∙ ap (λ (ls : List (List ℕ)). map gate_line b.gates ++ ls) (lines-of route_text route_line route-is_line route-clean b.routes rest))
  where
    row : List ℕ
    row = b.count ∷ length b.gates ∷ length b.routes ∷ []

    behind : List ℕ
    behind = flat_map gate_text b.gates ++ (flat_map route_text b.routes ++ rest)

-- ---- the blocks, wherever they begin: a text without a fault has no offset in its reading

abbrev pub Reads : ℕ → Standing → List (List ℕ) → Result CertFile CertError → Type 0
Reads end s ls result = (at : ℕ) → read_parts at end s ls ≡ result

-- a line that leads on
pub reads-line : {A : Type 0} (next : A → Standing) (end : ℕ) (s : Standing) (x : A) (line : List ℕ) (rest : List (List ℕ)) (result : Result CertFile CertError) (said : ℕ → Result A CertError)
    → ((at : ℕ) → stood at s line ≡ next_by next (said at)) → ((at : ℕ) → said at ≡ Ok x) → Reads end (next x) rest result → Reads end s (line ∷ rest) result
reads-line next end s x line rest result said stands is later at =
    one_line at end s line rest
    ∙ ap (λ (t : Result Standing CertError). t >>= λ q. read_parts (at + length line + 1) end q rest) (stands at ∙ ap (next_by next) (is at))
    ∙ later (at + length line + 1)

module _ (end : ℕ) (front : Front) where
  reads-gates : (done : List Certificate) (count routes : ℕ) (before gates : List ℕ) (rest : List (List ℕ)) (result : Result CertFile CertError)
      → list_all is_small gates ≡ true → Reads end (Blocks front (settled done (certificate_block count (before ++ gates) []) 0 routes)) rest result
      → Reads end (Blocks front (settled done (certificate_block count before []) (length gates) routes)) (map gate_line gates ++ rest) result
  reads-gates done count routes before [] rest result small later at =
      ap (λ (gs : List ℕ). read_parts at end (Blocks front (settled done (certificate_block count gs []) 0 routes)) rest) (sym (append-nil before)) ∙ later at
  reads-gates done count routes before (v ∷ vs) rest result small later at =
      let parts = and_parts (is_small v) (list_all is_small vs) small in
      reads-line (λ w. Blocks front (settled done (block_with_gate (certificate_block count before []) w) (length vs) routes)) end
      (Blocks front (settled done (certificate_block count before []) (suc (length vs)) routes)) v (gate_line v) (map gate_line vs ++ rest) result (λ a. gated a (saying_of (gate_line v)))
      (λ a. gate_stood a front done (gate_line v) (certificate_block count before []) (length vs) routes)
      (λ a. gate-said a v parts.0)
      (reads-gates done count routes (before ++ v ∷ []) vs rest result parts.1
      (λ a. ap (λ (gs : List ℕ). read_parts a end (Blocks front (settled done (certificate_block count gs []) 0 routes)) rest) (append_assoc before (v ∷ []) vs) ∙ later a)) at

  reads-routes : (done : List Certificate) (count : ℕ) (gates : List ℕ) (before routes : List (List Point)) (rest : List (List ℕ)) (result : Result CertFile CertError)
      → list_all is_writable_route routes ≡ true → Reads end (Blocks front (ended_blocks (done ++ certificate_block count gates (before ++ routes) ∷ []))) rest result
      → Reads end (Blocks front (settled done (certificate_block count gates before) 0 (length routes))) (map route_line routes ++ rest) result
  reads-routes done count gates before [] rest result small later at =
      ap (λ (rs : List (List Point)). read_parts at end (Blocks front (ended_blocks (done ++ certificate_block count gates rs ∷ []))) rest) (sym (append-nil before)) ∙ later at
  reads-routes done count gates before (r ∷ rs) rest result small later at =
      let parts = and_parts (is_writable_route r) (list_all is_writable_route rs) small in
      reads-line (λ ps. Blocks front (settled done (with_route (certificate_block count gates before) ps) 0 (length rs))) end
      (Blocks front (settled done (certificate_block count gates before) 0 (suc (length rs)))) r (route_line r) (map route_line rs ++ rest) result (λ a. routed a (saying_of (route_line r)))
      (λ a. route_stood a front done (route_line r) (certificate_block count gates before) (length rs))
      (λ a. route-said a r parts.0)
      (reads-routes done count gates (before ++ r ∷ []) rs rest result parts.1
      (λ a. ap (λ (xs : List (List Point)). read_parts a end (Blocks front (ended_blocks (done ++ certificate_block count gates xs ∷ []))) rest) (append_assoc before (r ∷ []) rs) ∙ later a)) at

  -- the line of a block begins no part
  frame-begins : (b : Certificate) (lists : Bool) → (lists && begins_with (codes "merged ") (line_of_frame b)) ≡ false
  frame-begins b true = refl
  frame-begins b false = refl

  reads-block : (done : List Certificate) (b : Certificate) (rest : List (List ℕ)) (result : Result CertFile CertError)
      → is_writable_block b ≡ true → Reads end (Blocks front (ended_blocks (done ++ b ∷ []))) rest result
      → Reads end (Blocks front (ended_blocks done)) (line_of_frame b ∷ (map gate_line b.gates ++ (map route_line b.routes ++ rest))) result
  reads-block done b rest result writable later =
      let count = and_parts (is_small b.count) _ writable in
      let gates = and_parts (is_small (length b.gates)) _ count.1 in
      let routes = and_parts (is_small (length b.routes)) _ gates.1 in
      let parts = and_parts (list_all is_small b.gates) (list_all is_writable_route b.routes) routes.1 in
      reads-line (λ (f : FrameLine). opened front done (Block f)) end (Blocks front (ended_blocks done)) (record { count = b.count; gates = length b.gates; routes = length b.routes })
      (line_of_frame b) (map gate_line b.gates ++ (map route_line b.routes ++ rest)) result (λ a. framed a (saying_of (line_of_frame b)))
      (λ a. block_stood a front done (line_of_frame b) (frame-begins b (is_some front.merged)))
      (λ a. frame-said a b.count (length b.gates) (length b.routes) count.0 gates.0 routes.0)
      (reads-gates done b.count (length b.routes) [] b.gates (map route_line b.routes ++ rest) result parts.0
      (reads-routes done b.count b.gates [] b.routes rest result parts.1 later))

  -- blocks that were written after others are read after them
  pub reads-blocks : (done blocks : List Certificate) (rest : List ℕ) (result : Result CertFile CertError) → list_all is_writable_block blocks ≡ true
      → Reads end (Blocks front (ended_blocks (done ++ blocks))) (lines rest) result → Reads end (Blocks front (ended_blocks done)) (lines (flat_map block_text blocks ++ rest)) result
  reads-blocks done [] rest result writable later at = ap (λ (bs : List Certificate). read_parts at end (Blocks front (ended_blocks bs)) (lines rest)) (sym (append-nil done)) ∙ later at
  reads-blocks done (b ∷ bs) rest result writable later at =
      let parts = and_parts (is_writable_block b) (list_all is_writable_block bs) writable in
      ap (λ (t : List ℕ). read_parts at end (Blocks front (ended_blocks done)) (lines t)) (append_assoc (block_text b) (flat_map block_text bs) rest)
      ∙ ap (read_parts at end (Blocks front (ended_blocks done))) (lines-block b (flat_map block_text bs ++ rest))
      ∙ reads-block done b (lines (flat_map block_text bs ++ rest)) result parts.0
      (reads-blocks (done ++ b ∷ []) bs rest result parts.1
      (λ a. ap (λ (cs : List Certificate). read_parts a end (Blocks front (ended_blocks cs)) (lines rest)) (append_assoc done (b ∷ []) bs) ∙ later a)) at
