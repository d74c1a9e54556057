-- Bytes that come in pieces.
use Rattle.std.proofs.Common.{ℕ, ◌≡◌, List, [], ◌∷◌, ◌++◌, length, Result, Ok, Err, ap, refl, ◌∙◌}
use Rattle.file_words.specs.declared.fault.ReadError.{ReadError}
use Rattle.file_words.specs.Answering.{◌>>=◌}
use Rattle.binary_file.specs.Reading.{State, AtHeader, step, feed, finish, read_raw, circuit_of, read_binary}
use Rattle.binary_file.specs.Laws.{BinaryPiecesLaw}

feed-append : (bytes more : List ℕ) (state : State) → feed state (bytes ++ more) ≡ (feed state bytes >>= λ s. feed s more)
unfolding feed
feed-append [] more state = refl
feed-append (b ∷ bytes) more state = by_step (step state b) (feed-append bytes more)
  where
    by_step : (first : Result State ReadError) → ((next : State) → feed next (bytes ++ more) ≡ (feed next bytes >>= λ s. feed s more))
        → (first >>= λ next. feed next (bytes ++ more)) ≡ ((first >>= λ next. feed next bytes) >>= λ s. feed s more)
    by_step (Ok next) later = later next
    by_step (Err e) later = refl

stays : (bytes more : List ℕ) (e : ReadError) → feed (AtHeader []) bytes ≡ Err e → read_binary (bytes ++ more) ≡ Err e
unfolding read_binary read_raw
stays bytes more e was =
    ap (λ (r : Result State ReadError). (r >>= finish (length (bytes ++ more))) >>= λ all. Ok (circuit_of all.0 all.1))
    (feed-append bytes more (AtHeader []) ∙ ap (λ (r : Result State ReadError). r >>= λ s. feed s more) was)

-- feeding joined bytes is feeding them one after the other, and a fault of the first is that of the
-- whole
pub the_pieces_law : (bytes more : List ℕ) → BinaryPiecesLaw bytes more
the_pieces_law bytes more = record { joined = feed-append bytes more (AtHeader []); stays = stays bytes more }
