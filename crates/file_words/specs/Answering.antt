-- What a function that reads answers, beside what reading gives. Memory may run out before a fault
-- is met, so each word takes the error that says so.
use Rattle.std.specs.Prelude.{◌≡◌, ◌⊎◌, Result, Ok, Err}

-- what comes next, unless there was a fault
infixl 10 ◌>>=◌
abbrev pub ◌>>=◌ : {A B E : Type 0} → Result A E → (A → Result B E) → Result B E
(Ok x) >>= next = next x
(Err fault) >>= next = Err fault

-- the error is want of memory, or the fault that reading gives
abbrev pub Fails : {Y E : Type 0} → E → E → Result Y E → Type 0
Fails no_memory error read = (error ≡ no_memory) ⊎ (read ≡ Err error)

-- the result, seen by view, is what reading gives; an error is its fault or want of memory
abbrev pub Gives : {X Y E : Type 0} → E → (X → Y) → Result X E → Result Y E → Type 0
Gives no_memory view (Ok x) read = read ≡ Ok (view x)
Gives no_memory view (Err error) read = Fails no_memory error read

-- at `Ok` the reading goes on as from the value; an error is the fault that reading gives, or want
-- of memory
abbrev pub Leads : {X Y E : Type 0} → E → (X → Result Y E) → Result X E → Result Y E → Type 0
Leads no_memory next (Ok x) read = read ≡ next x
Leads no_memory next (Err error) read = Fails no_memory error read
