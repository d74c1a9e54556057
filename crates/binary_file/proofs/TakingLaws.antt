-- What a call that takes an item answers, by the contents with that item.
use Rattle.std.proofs.Common.{◌≡◌, Result, Ok, Err, subst, ◌∙◌}
use Rattle.file_words.specs.declared.fault.ReadError.{ReadError}
use Rattle.file_words.specs.declared.fault.ReadError.TheVariants.{NoMemory}
use Rattle.file_words.specs.Answering.{Fails, Gives}
use Rattle.ascii_file.specs.declared.header.Header.{Header}
use Rattle.ascii_file.specs.Raw.{Raw}
use Rattle.file_words.proofs.AnsweringLaws.{Fails-where}
use Rattle.binary_file.specs.Headers.{IsHeaderWithin}
use Rattle.binary_file.specs.Contents.{Contents, IsAt}
use Rattle.binary_file.specs.Taking.{Takes}

-- the contents with one item more are those that reading gives, or the fault is
abbrev pub Agrees : Header → Result Contents ReadError → Result Raw ReadError → Type 0
Agrees h (Ok c) read = (raw : Raw) × (read ≡ Ok raw) × IsAt c h raw
Agrees h (Err error) read = read ≡ Err error

taken_fails : (h : Header) (error : ReadError) (taken : Result Contents ReadError) (read : Result Raw ReadError) → Fails NoMemory error taken → Agrees h taken read → Fails NoMemory error read
taken_fails h error taken read fails agrees = Fails-where error taken read (λ is. subst (λ (t : Result Contents ReadError). Agrees h t read) is agrees) fails

-- a call that gives the contents with an item takes it as reading does, if the contents agree with
-- reading
pub given_takes : {X : Type 0} (h : Header) (new : Contents) (r : Result X ReadError) (taken : Result Contents ReadError) (read : Result Raw ReadError)
    → Gives NoMemory (λ _. new) r taken → Agrees h taken read → Takes h new r read
given_takes h new (Ok x) taken read gives agrees = subst (λ (t : Result Contents ReadError). Agrees h t read) gives agrees
given_takes h new (Err error) taken read gives agrees = taken_fails h error taken read gives agrees

-- the limits of the header of a raw circuit whose contents these are
pub header_within : (b c : Contents) (h : Header) (raw : Raw) → b ≡ c → IsAt c h raw → IsHeaderWithin b.header → IsHeaderWithin h
header_within b c h raw same is within = subst (λ (d : Contents). IsHeaderWithin d.header) (same ∙ is) within
