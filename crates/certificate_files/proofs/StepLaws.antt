-- A text, line after line.
use Rattle.std.proofs.Common.{ℕ, suc, ◌+◌, ◌-◌, ◌≤◌, ◌≡◌, ◌⊎◌, inl, inr, length, List, [], ◌∷◌, Option, Some, None, Result, Ok, Err, refl, arith, Bool, true, false, ◌&&◌, ◌==◌, cond, ap, ◌∙◌, codes, is_some}
use Rattle.std.proofs.lemmas.Bool.{eqb-true}
use Rattle.file_words.specs.Answering.{◌>>=◌, Gives, Leads}
use Rattle.file_words.specs.Lines.{lines}
use Rattle.file_words.specs.Cuts.{IsFirst}
use Rattle.file_words.proofs.AnsweringLaws.{Fails-where}
use Rattle.certificates.specs.declared.certificate.Certificate.{Certificate}
use Rattle.certificate_files.specs.declared.fault.CertError.{CertError}
use Rattle.certificate_files.specs.declared.fault.CertError.TheVariants.{TooLarge, Truncated, NoMemory}
use Rattle.certificate_files.specs.declared.forms.FrameLine.{FrameLine}
use Rattle.certificate_files.specs.declared.blocks.Opening.TheVariants.{Block, Part}
use Rattle.certificate_files.specs.Files.{is_small, Saying, Frame, Gate, Route, begins_with, saying_of, count_in_line, Progress, settled, taken, Blocks, Front, Standing, ended_parts, file_at_end, file_of, read_parts, stood}
use Rattle.certificate_files.specs.Forms.{framed, gated, routed, are_small}
use Rattle.certificate_files.specs.Steps.{next_by, read_rest, certificate_block, block_with_gate, with_route, ended_blocks, opened}

-- ---- one line

-- two ways to go on that are one at each value are one after a result
pub then_same : {A B : Type 0} (r : Result A CertError) (f g : A → Result B CertError) → ((x : A) → f x ≡ g x) → (r >>= f) ≡ (r >>= g)
then_same (Ok x) f g same = same x
then_same (Err e) f g same = refl

no_more : (a b end : ℕ) (s : Standing) → read_parts a end s (lines []) ≡ read_parts b end s (lines [])
unfolding read_parts lines
no_more a b end s = refl

-- the first of the lines that are left is taken, and then what follows
pub one_line : (at end : ℕ) (s : Standing) (line : List ℕ) (rest : List (List ℕ))
    → read_parts at end s (line ∷ rest) ≡ (stood at s line >>= λ next. read_parts (at + length line + 1) end next rest)
unfolding read_parts
one_line at end s line rest = refl

-- the offset of the next line doesn't matter if there is none
pub same_start : (a end : ℕ) (more : List ℕ) (s : Standing) → (more ≡ []) ⊎ (a ≡ end - length more) → read_parts a end s (lines more) ≡ read_rest end more s
same_start a end more s (inl none) = rw none (no_more a (end - 0) end s)
same_start a end more s (inr here) = ap (λ (n : ℕ). read_parts n end s (lines more)) here

-- the next line, if there is one, begins behind the first one
pub starts_at : (end : ℕ) (text line more : List ℕ) → IsFirst text line more → length text ≤ end → (more ≡ []) ⊎ (end - length text + length line + 1 ≡ end - length more)
starts_at end text line more first within = by_case first.starts
  where
    by_case : (more ≡ []) ⊎ (length text ≡ length line + 1 + length more) → (more ≡ []) ⊎ (end - length text + length line + 1 ≡ end - length more)
    by_case (inl none) = inl none
    by_case (inr long) = inr (omega (arith, long, within))

-- what is left of a text is read by its first line, and then what follows that
pub read_line : (end : ℕ) (text line more : List ℕ) (s : Standing) → IsFirst text line more → length text ≤ end
    → read_rest end text s ≡ (stood (end - length text) s line >>= read_rest end more)
read_line end text line more s first within =
    ap (read_parts (end - length text) end s) first.whole
    ∙ one_line (end - length text) end s line (lines more)
    ∙ then_same (stood (end - length text) s line) _ (read_rest end more)
    (λ next. same_start (end - length text + length line + 1) end more next (starts_at end text line more first within))

-- ---- the end of the text

read_nothing : (end : ℕ) (s : Standing) → read_rest end [] s ≡ file_at_end end s
unfolding read_parts lines
read_nothing end s = refl

-- what is read of a text of which nothing is left
pub ends_so : (end : ℕ) (rest : List ℕ) (s : Standing) → rest ≡ [] → read_rest end rest s ≡ file_at_end end s
ends_so end rest s none = ap (λ (bytes : List ℕ). read_rest end bytes s) none ∙ read_nothing end s

-- if no block is open at the end of the text, the parts have been read
pub ends_closed : (end : ℕ) (rest : List ℕ) (front : Front) (blocks : List Certificate) → rest ≡ [] → read_rest end rest (Blocks front (ended_blocks blocks)) ≡ Ok (file_of front.choice (ended_parts front blocks))
ends_closed end rest front blocks none = ends_so end rest (Blocks front (ended_blocks blocks)) none

-- a text that ends if gates are lacking is truncated
pub ends_in_gates : (end : ℕ) (rest : List ℕ) (front : Front) (blocks : List Certificate) (block : Certificate) (gates routes : ℕ) → rest ≡ []
    → read_rest end rest (Blocks front (settled blocks block (suc gates) routes)) ≡ Err (Truncated end)
ends_in_gates end rest front blocks block gates routes none = ends_so end rest (Blocks front (settled blocks block (suc gates) routes)) none

-- a text that ends if routes are lacking is truncated
pub ends_in_routes : (end : ℕ) (rest : List ℕ) (front : Front) (blocks : List Certificate) (block : Certificate) (routes : ℕ) → rest ≡ []
    → read_rest end rest (Blocks front (settled blocks block 0 (suc routes))) ≡ Err (Truncated end)
ends_in_routes end rest front blocks block routes none = ends_so end rest (Blocks front (settled blocks block 0 (suc routes))) none

-- ---- what comes next

next_twice : {A B C : Type 0} (f : A → B) (g : B → C) (r : Result A CertError) → next_by g (next_by f r) ≡ next_by (λ x. g (f x)) r
next_twice f g (Ok x) = refl
next_twice f g (Err e) = refl

sized_next : {A : Type 0} (small : Bool) (x : A) (next : A → Progress) (fault : CertError)
    → cond {A = Result Progress CertError} small (Ok (next x)) (Err fault) ≡ next_by next (cond small (Ok x) (Err fault))
sized_next true x next fault = refl
sized_next false x next fault = refl

-- if gates are lacking, a line has to be that of one, which the block then has
pub gate_next : (at : ℕ) (blocks : List Certificate) (block : Certificate) (gates routes : ℕ) (said : Option Saying)
    → taken at (settled blocks block (suc gates) routes) said ≡ next_by (λ v. settled blocks (block_with_gate block v) gates routes) (gated at said)
gate_next at blocks block gates routes None = refl
gate_next at blocks block gates routes (Some (Frame a b c)) = refl
gate_next at blocks block gates routes (Some (Gate v)) = sized_next (is_small v) v (λ w. settled blocks (block_with_gate block w) gates routes) (TooLarge at)
gate_next at blocks block gates routes (Some (Route points)) = refl

-- if routes alone are lacking, a line has to be that of one, which the block then has
pub route_next : (at : ℕ) (blocks : List Certificate) (block : Certificate) (routes : ℕ) (said : Option Saying)
    → taken at (settled blocks block 0 (suc routes)) said ≡ next_by (λ points. settled blocks (with_route block points) 0 routes) (routed at said)
route_next at blocks block routes None = refl
route_next at blocks block routes (Some (Frame a b c)) = refl
route_next at blocks block routes (Some (Gate v)) = refl
route_next at blocks block routes (Some (Route points)) =
    let one_less : suc routes - 1 ≡ routes = omega arith in
    ap (λ (n : ℕ). cond (are_small points) (Ok (settled blocks (with_route block points) 0 n)) (Err (TooLarge at))) one_less
    ∙ sized_next (are_small points) points (λ ps. settled blocks (with_route block ps) 0 routes) (TooLarge at)

-- if no block is open, a line has to be the first one of a block
pub frame_next : (at : ℕ) (blocks : List Certificate) (said : Option Saying)
    → taken at (ended_blocks blocks) said ≡ next_by (λ (f : FrameLine). settled blocks (certificate_block f.count [] []) f.gates f.routes) (framed at said)
frame_next at blocks None = refl
frame_next at blocks (Some (Frame a b c)) =
    sized_next (is_small a && is_small b && is_small c) (record { count = a; gates = b; routes = c }) (λ (f : FrameLine). settled blocks (certificate_block f.count [] []) f.gates f.routes) (TooLarge at)
frame_next at blocks (Some (Gate v)) = refl
frame_next at blocks (Some (Route points)) = refl

-- the blocks of a part go on by a line
module _ (at : ℕ) (front : Front) (blocks : List Certificate) (line : List ℕ) where
  -- if gates are lacking, a line has to be that of one
  pub gate_stood : (block : Certificate) (gates routes : ℕ)
      → stood at (Blocks front (settled blocks block (suc gates) routes)) line ≡ next_by (λ v. Blocks front (settled blocks (block_with_gate block v) gates routes)) (gated at (saying_of line))
  gate_stood block gates routes =
      ap (next_by (λ (p : Progress). Blocks front p)) (gate_next at blocks block gates routes (saying_of line))
      ∙ next_twice (λ v. settled blocks (block_with_gate block v) gates routes) (λ (p : Progress). Blocks front p) (gated at (saying_of line))

  -- if routes alone are lacking, a line has to be that of one
  pub route_stood : (block : Certificate) (routes : ℕ)
      → stood at (Blocks front (settled blocks block 0 (suc routes))) line ≡ next_by (λ ps. Blocks front (settled blocks (with_route block ps) 0 routes)) (routed at (saying_of line))
  route_stood block routes =
      ap (next_by (λ (p : Progress). Blocks front p)) (route_next at blocks block routes (saying_of line))
      ∙ next_twice (λ ps. settled blocks (with_route block ps) 0 routes) (λ (p : Progress). Blocks front p) (routed at (saying_of line))

  abbrev by_opening : Bool → Result Standing CertError
  by_opening b =
      cond b (next_by (λ n. opened front blocks (Part n)) (count_in_line at line)) (next_by (λ (p : Progress). Blocks front p) (taken at (ended_blocks blocks) (saying_of line)))

  -- if no block is open, a line that begins a part says how many latches it merges
  pub part_stood : (is_some front.merged && begins_with (codes "merged ") line) ≡ true
      → stood at (Blocks front (ended_blocks blocks)) line ≡ next_by (λ n. opened front blocks (Part n)) (count_in_line at line)
  part_stood is = ap by_opening is

  -- another line has to be the first one of a block
  pub block_stood : (is_some front.merged && begins_with (codes "merged ") line) ≡ false
      → stood at (Blocks front (ended_blocks blocks)) line ≡ next_by (λ (f : FrameLine). opened front blocks (Block f)) (framed at (saying_of line))
  block_stood other =
      ap by_opening other
      ∙ ap (next_by (λ (p : Progress). Blocks front p)) (frame_next at blocks (saying_of line))
      ∙ next_twice (λ (f : FrameLine). settled blocks (certificate_block f.count [] []) f.gates f.routes) (λ (p : Progress). Blocks front p) (framed at (saying_of line))

-- a reading that goes on as a line says
leads_given : {A B C : Type 0} (next : A → B) (go : B → Result C CertError) (r s : Result A CertError) (read : Result C CertError)
    → read ≡ (next_by next s >>= go) → Gives NoMemory (λ x. x) r s → Leads NoMemory (λ x. go (next x)) r read
leads_given next go (Ok x) s read is given = is ∙ ap (λ (t : Result _ CertError). next_by next t >>= go) given
leads_given next go (Err e) s read is given = Fails-where e s read (λ fault. is ∙ ap (λ (t : Result _ CertError). next_by next t >>= go) fault) given

-- reading goes on with what a line gives, or ends with its fault
pub line_leads : {A : Type 0} (next : A → Standing) (end : ℕ) (text line more : List ℕ) (s : Standing) (r given : Result A CertError) → IsFirst text line more → length text ≤ end
    → stood (end - length text) s line ≡ next_by next given → Gives NoMemory (λ x. x) r given → Leads NoMemory (λ x. read_rest end more (next x)) r (read_rest end text s)
line_leads next end text line more s r given first within is gives =
    leads_given next (read_rest end more) r given (read_rest end text s)
    (read_line end text line more s first within ∙ ap (λ (t : Result Standing CertError). t >>= read_rest end more) is) gives

-- of a text whose rest has length 0 nothing is left
pub nothing_left : (rest : List ℕ) → (length rest == 0) ≡ true → rest ≡ []
nothing_left [] none = refl
nothing_left (b ∷ rest) none = absurd (omega (arith, eqb-true (length (b ∷ rest)) 0 none))
