-- What a line says, by the form of line that comes next. The form is looked at before the sizes.
use Rattle.std.specs.Prelude.{ℕ, ◌==◌, ◌&&◌, Bool, true, false, List, ◌++◌, map, Option, Some, None, Result, Ok, Err, if◌then◌else◌}
use Rattle.std.specs.List.{list_all}
use Rattle.file_words.specs.Lines.{is_number, digits_value}
use Rattle.ascii_file.specs.parts.Rows.{clamped}
use Rattle.frame_net.specs.declared.net.Point.{Point}
use Rattle.certificate_files.specs.declared.fault.CertError.{CertError}
use Rattle.certificate_files.specs.declared.fault.CertError.TheVariants.{BadLine, TooLarge}
use Rattle.certificate_files.specs.declared.forms.FrameLine.{FrameLine}
use Rattle.certificate_files.specs.Files.{is_point, point_of_word, is_small, Saying, Frame, Gate, Route}

-- the numbers of a line that begins a frame, or its fault: it is no such line, or a number is too
-- large
abbrev pub framed : ℕ → Option Saying → Result FrameLine CertError
framed at (Some (Frame count gates routes)) = if is_small count && is_small gates && is_small routes then Ok (record { count = count; gates = gates; routes = routes }) else Err (TooLarge at)
framed at saying = Err (BadLine at)

abbrev pub gated : ℕ → Option Saying → Result ℕ CertError
gated at (Some (Gate v)) = if is_small v then Ok v else Err (TooLarge at)
gated at saying = Err (BadLine at)

abbrev pub are_small : List Point → Bool
are_small points = list_all (λ p. is_small p.var) points

abbrev pub routed : ℕ → Option Saying → Result (List Point) CertError
routed at (Some (Route points)) = if are_small points then Ok points else Err (TooLarge at)
routed at saying = Err (BadLine at)

-- ---- words, as 32 bits hold their numbers

abbrev pub number_of : List ℕ → Option ℕ
number_of digits = if is_number digits then Some (clamped (digits_value digits)) else None

-- whether the point is the one after the variable
abbrev pub side_of : ℕ → Option Bool
side_of sign = if sign == 43 then Some true else (if sign == 45 then Some false else None)

abbrev pub clamped_point : Point → Point
clamped_point p = record { var = clamped p.var; behind = p.behind }

abbrev pub spelt_point : List ℕ → Option Point
spelt_point word = if is_point word then Some (clamped_point (point_of_word word)) else None

-- the points that words spell, if each of them is one
abbrev pub spelt_at : ℕ → List (List ℕ) → Result (List Point) CertError
spelt_at at words = if list_all is_point words then Ok (map (λ w. clamped_point (point_of_word w)) words) else Err (BadLine at)

-- points, and those that are read after them
abbrev pub onto : List Point → Result (List Point) CertError → Result (List Point) CertError
onto points (Ok more) = Ok (points ++ more)
onto points (Err fault) = Err fault

-- points, if their numbers are small
abbrev pub sized_points : ℕ → List Point → Result (List Point) CertError
sized_points at points = if are_small points then Ok points else Err (TooLarge at)
