-- Faults that pass through what comes next.
use Rattle.std.proofs.Common.{◌≡◌, ◌⊎◌, inl, inr, Result, Ok, Err, IfErr, sym, ap, ◌∙◌}
use Rattle.file_words.specs.Answering.{◌>>=◌, Fails, Gives}

-- ---- an error

-- a fault of one reading is one of another, which has each fault of the first
pub Fails-where : {Y Z E : Type 0} {no_memory : E} (e : E) (r : Result Y E) (s : Result Z E) → (r ≡ Err e → s ≡ Err e) → Fails no_memory e r → Fails no_memory e s
Fails-where e r s has (inl none) = inl none
Fails-where e r s has (inr is) = inr (has is)

-- a fault that reading has
pub Fails-with : {Y E : Type 0} {no_memory : E} (e : E) (r : Result Y E) → r ≡ Err e → Fails no_memory e r
Fails-with e r is = inr is

-- that, the other way round
pub Fails-is : {Y E : Type 0} {no_memory : E} (e : E) (r : Result Y E) → Err e ≡ r → Fails no_memory e r
Fails-is e r same = inr (sym same)

-- two readings that are one
pub Fails-same : {Y E : Type 0} {no_memory : E} (e : E) (a b : Result Y E) → a ≡ b → Fails no_memory e a → Fails no_memory e b
Fails-same e a b same fails = Fails-where e a b (λ is. sym same ∙ is) fails

-- that, the other way round
pub Fails-as : {Y E : Type 0} {no_memory : E} (e : E) (a b : Result Y E) → b ≡ a → Fails no_memory e a → Fails no_memory e b
Fails-as e a b same fails = Fails-where e a b (λ is. same ∙ is) fails

-- two readings with one fault
pub Fails-err : {Y Z E : Type 0} {no_memory : E} (e x : E) (a : Result Y E) (b : Result Z E) → a ≡ Err x → b ≡ Err x → Fails no_memory e a → Fails no_memory e b
Fails-err e x a b p q (inl none) = inl none
Fails-err e x a b p q (inr is) = inr (cc)

-- if reading has no fault, only memory fails
pub Fails-ok : {Y Z E : Type 0} {no_memory : E} (e : E) (y : Y) (b : Result Z E) → Fails no_memory e (Ok y) → Fails no_memory e b
Fails-ok e y b (inl none) = inl none
Fails-ok e y b (inr is) = absurd (cc)

-- what follows changes no fault
pub Fails-bind : {Y Z E : Type 0} {no_memory : E} (e : E) (r : Result Y E) (f : Y → Result Z E) → Fails no_memory e r → Fails no_memory e (r >>= f)
Fails-bind e r f fails = Fails-where e r (r >>= f) (λ is. ap (λ x. x >>= f) is) fails

-- ---- what was returned

-- two readings that are one
pub Gives-same : {X Y E : Type 0} (no_memory : E) (view : X → Y) (r : Result X E) (a b : Result Y E) → a ≡ b → Gives no_memory view r a → Gives no_memory view r b
Gives-same no_memory view (Ok x) a b same gives = sym same ∙ gives
Gives-same no_memory view (Err e) a b same gives = Fails-same e a b same gives

-- an answer that is the reading itself
pub Gives-exact : {Y E : Type 0} (no_memory : E) (r s : Result Y E) → s ≡ r → Gives no_memory (λ y. y) r s
Gives-exact no_memory (Ok y) s is = is
Gives-exact no_memory (Err e) s is = inr is

-- what a reading that is part of another gives
pub Gives-where : {X Y Z E : Type 0} (no_memory : E) (view : X → Y) (on : X → Z) (r : Result X E) (s : Result Y E) (u : Result Z E)
    → ((x : X) → s ≡ Ok (view x) → u ≡ Ok (on x)) → ((e : E) → s ≡ Err e → u ≡ Err e) → Gives no_memory view r s → Gives no_memory on r u
Gives-where no_memory view on (Ok x) s u taken failed given = taken x given
Gives-where no_memory view on (Err e) s u taken failed given = Fails-where e s u (failed e) given

-- an error is memory's, or the fault of the reading
pub Gives-fault : {Y E : Type 0} (no_memory : E) (r s : Result Y E) → Gives no_memory (λ y. y) r s → IfErr r (λ error. (error ≡ no_memory) ⊎ (s ≡ Err error))
Gives-fault no_memory (Ok y) s given = tt
Gives-fault no_memory (Err e) s given = given
