-- One text put after another, and what a flush makes of all of them.
--
-- A function that puts the lines of many items keeps, in its loop over `xs`,
--
--     Puts g.W.CountedWrite.output l.fn.out l.out (flat_map line (take l.x-index l.xs))
--
-- with `line x` for what one turn puts. Its one answer is
--
--     loop-x-preserved g c = puts-next line _ _ _ c.loop-x-test.true c.x-item.is
--         c.loop-x.invariant c.put_line.ensures
--
-- (often it needs none), and `puts-numbered_next` and `puts-range_next` if the lines are numbered.
-- One that puts several texts, one after the other, answers with as many `puts-then`, which stand
-- as the `++` of the text do:
--
--     returns g c = puts-then (puts-then c.put_a.ensures c.put_b.ensures) c.put_c.ensures
--
-- If a text is a literal, its cells are not seen as one text, and it is named: `puts-then {xs =
-- codes "aag "} ..`. One that makes the buffer, puts a text and flushes it, answers
--
--     returns g c = writes-whole c.new-out.ensures c.put_text.ensures c.flush.ensures
--         (search rules)
use Rattle.std.proofs.Common.{ℕ, ◌+◌, ◌<◌, ◌≤◌, ◌≡◌, true, false, List, [], ◌∷◌, ◌++◌, length, take, drop, Result, Ok, Err, refl, ap, sym, ◌∙◌, append_assoc, append-nil, subst, get_or, suc, zero, arith}
use Rattle.std.proofs.lemmas.List.{take-append-drop, take_all, take_more, length-take-le}
use Rattle.std.proofs.lemmas.List.Concat.{flat_map-append}
use Rattle.std.specs.Borrow.{MutBor}
use Rattle.std.specs.List.{flat_map, enumerate_from, range_with_len}
use Rattle.std.specs.Prelude.{OnOk, OnErr, is_err}
use Rattle.counted_io.specs.Output.{Output, WritesAll, WritesPart, Writes}
use Rattle.counted_io.specs.Buffered.{IsNew, HasPut, Puts, Flushes}
use Rattle.counted_io.specs.Line.{numbered_lines}
use Rattle.counted_io.specs.declared.buffered.Buffered.{Buffered}
use Rattle.counted_io.proofs.OutputLaws.{all-nothing, all-then, part-then, part-more}

module _ {W : Type 0} {output : W → Output} where
  -- nothing was put
  pub puts-nothing : (b : Buffered W) → Puts output b b []
  puts-nothing b = record {
    same_writer = refl;
    after = λ start before h. subst (λ (xs : List ℕ). HasPut output start b xs) (sym (append-nil before)) h;
  }

  -- a text, and another after it
  pub puts-then : {b c d : Buffered W} {xs ys : List ℕ} → Puts output b c xs → Puts output c d ys → Puts output b d (xs ++ ys)
  puts-then {b} {c} {d} {xs} {ys} p q = record {
    same_writer = q.same_writer ∙ p.same_writer;
    after = λ start before h. subst (λ (zs : List ℕ). HasPut output start d zs) (append_assoc before xs ys) (q.after start (before ++ xs) (p.after start before h));
  }

  -- a byte, and a text after it
  pub puts-byte : {b c d : Buffered W} {x : ℕ} {ys : List ℕ} → Puts output b c (x ∷ []) → Puts output c d ys → Puts output b d (x ∷ ys)
  puts-byte p q = puts-then p q

  -- the text waits whole
  pub puts-waits : (b : Buffered W) (waits xs : List ℕ) → waits ≡ b.waiting ++ xs → Puts output b (record b { waiting = waits }) xs
  puts-waits b waits xs e = record {
    same_writer = refl;
    after = λ start before h. record {
      so_far = λ f. let s = h.so_far f in record {
        written = s.written;
        writes = s.writes;
        whole = ap (λ zs. zs ++ xs) s.whole ∙ append_assoc s.written b.waiting xs ∙ ap (λ zs. s.written ++ zs) (sym e);
      };
      failed = λ f. part-more start (output b.writer.now) before xs (h.failed f);
    };
  }

  -- what waited was written, up to a write that failed
  pub puts-sent : {T E : Type 0} (b : Buffered W) (w : MutBor W) (waits : List ℕ) (r : Result T E) → b.failed ≡ false → w.ghost_name ≡ b.writer.ghost_name → waits ≡ []
      → Writes (output b.writer.now) (output w.now) r b.waiting → Puts output b (record { writer = w; waiting = waits; failed = is_err r }) []
  puts-sent b w waits (Ok x) good same empty writes = record {
    same_writer = same;
    after = λ start before h. let s = h.so_far good in record {
      so_far = λ f. record {
        written = s.written ++ b.waiting;
        writes = all-then start (output b.writer.now) (output w.now) s.written b.waiting s.writes writes.ok;
        whole = append-nil before ∙ s.whole ∙ sym (append-nil (s.written ++ b.waiting)) ∙ ap (λ zs. (s.written ++ b.waiting) ++ zs) (sym empty);
      };
      failed = λ f. absurd (cc);
    };
  }
  puts-sent b w waits (Err e) good same empty writes = record {
    same_writer = same;
    after = λ start before h. let s = h.so_far good in record {
      so_far = λ f. absurd (cc);
      failed = λ f. subst (λ (zs : List ℕ). WritesPart start (output w.now) zs) (sym (append-nil before ∙ s.whole))
          (part-then start (output b.writer.now) (output w.now) s.written b.waiting s.writes writes.err);
    };
  }

  -- what waited was dropped, since a write has failed
  pub puts-dropped : (b : Buffered W) (waits : List ℕ) → b.failed ≡ true → Puts output b (record b { waiting = waits }) []
  puts-dropped b waits bad = record {
    same_writer = refl;
    after = λ start before h. record {
      so_far = λ f. absurd (cc);
      failed = λ f. subst (λ (zs : List ℕ). WritesPart start (output b.writer.now) zs) (sym (append-nil before)) (h.failed bad);
    };
  }

  -- after a write that failed, what follows is dropped without being put
  pub puts-no_more : {b c : Buffered W} {xs : List ℕ} (ys : List ℕ) → c.failed ≡ true → Puts output b c xs → Puts output b c (xs ++ ys)
  puts-no_more {c = c} ys bad p = puts-then p record {
    same_writer = refl;
    after = λ start before h. record {
      so_far = λ f. absurd (cc);
      failed = λ f. part-more start (output c.writer.now) before ys (h.failed bad);
    };
  }

  -- a text in two pieces, and a flush between
  pub puts-piece : {b c d e : Buffered W} (n : ℕ) (xs : List ℕ) → Puts output b c (take n xs) → Puts output c d [] → Puts output d e (drop n xs) → Puts output b e xs
  puts-piece {b} {c} {d} {e} n xs p q r =
      subst (λ (zs : List ℕ). Puts output b e zs) (take-append-drop n xs) (puts-then p (puts-then q r))

  -- nothing has been put into a new buffer
  pub new-has_put : (w : MutBor W) (b : Buffered W) → IsNew w b → HasPut output (output w.now) b []
  new-has_put w b new = record {
    so_far = λ f. record {
      written = [];
      writes = subst (λ (v : W). WritesAll (output w.now) (output v) []) (sym new.writer_is) (all-nothing (output w.now));
      whole = sym new.waiting;
    };
    failed = λ f. absurd (cc);
  }

  -- what was put into a new buffer, which was then flushed
  has_put : {T E : Type 0} {w : MutBor W} {b c d : Buffered W} {r : Result T E} {text : List ℕ} → IsNew w b → Puts output b c text → Flushes output c d r
      → HasPut output (output w.now) d text
  has_put {w = w} {b} {d = d} {text = text} new puts flushes =
      subst (λ (zs : List ℕ). HasPut output (output w.now) d zs) (append-nil text) (flushes.puts.after _ _ (puts.after _ _ (new-has_put w b new)))

  -- the reference is still the one that the buffer was made with, so this is where the writer ends
  at_end : {T E : Type 0} {w : MutBor W} {b c d : Buffered W} {r : Result T E} {text : List ℕ} {x : W} → IsNew w b → Puts output b c text → Flushes output c d r
      → (d.writer.ghost_name ≡ w.ghost_name → x ≡ d.writer.now) → x ≡ d.writer.now
  at_end new puts flushes end = end (flushes.puts.same_writer ∙ puts.same_writer ∙ new.same_writer)

  whole-ok : {T E : Type 0} {w : MutBor W} {b c d : Buffered W} {text : List ℕ} {x : W} (r : Result T E) → IsNew w b → Puts output b c text → Flushes output c d r
      → (d.writer.ghost_name ≡ w.ghost_name → x ≡ d.writer.now) → OnOk r (WritesAll (output w.now) (output x) text)
  whole-ok (Err e) new puts flushes end = tt
  whole-ok {w = w} {d = d} {text} (Ok y) new puts flushes end =
      let s = (has_put new puts flushes).so_far flushes.ok in
      let written : text ≡ s.written = s.whole ∙ ap (λ zs. s.written ++ zs) flushes.waiting ∙ append-nil s.written in
      subst (λ v. WritesAll (output w.now) (output v) text) (sym (at_end new puts flushes end))
      (subst (λ (zs : List ℕ). WritesAll (output w.now) (output d.writer.now) zs) (sym written) s.writes)

  whole-err : {T E : Type 0} {w : MutBor W} {b c d : Buffered W} {text : List ℕ} {x : W} (r : Result T E) → IsNew w b → Puts output b c text → Flushes output c d r
      → (d.writer.ghost_name ≡ w.ghost_name → x ≡ d.writer.now) → OnErr r (WritesPart (output w.now) (output x) text)
  whole-err (Ok y) new puts flushes end = tt
  whole-err {w = w} {text = text} (Err e) new puts flushes end =
      subst (λ v. WritesPart (output w.now) (output v) text) (sym (at_end new puts flushes end)) ((has_put new puts flushes).failed flushes.err)

  -- a text that was put into a new buffer, which was then flushed, was written, if the writer ends
  -- as x
  pub writes-whole : {T E : Type 0} {w : MutBor W} {b c d : Buffered W} {r : Result T E} {text : List ℕ} {x : W} → IsNew w b → Puts output b c text → Flushes output c d r
      → (d.writer.ghost_name ≡ w.ghost_name → x ≡ d.writer.now) → Writes (output w.now) (output x) r text
  writes-whole {r = r} new puts flushes end = record { ok = whole-ok r new puts flushes end; err = whole-err r new puts flushes end }

flat_map-next : {X : Type 0} (f : X → List ℕ) (xs : List X) (i : ℕ) (x : X) → i < length xs → x ≡ get_or xs i x
    → flat_map f (take i xs) ++ f x ≡ flat_map f (take (i + 1) xs)
flat_map-next f xs i x h there =
    ap (λ y. flat_map f (take i xs) ++ f y) there ∙ sym (ap (flat_map f) (take_more xs i x h) ∙ flat_map-append f (take i xs) (get_or xs i x ∷ []) ∙ ap (λ ys. flat_map f (take i xs) ++ ys) (append-nil (f (get_or xs i x))))

module _ {W : Type 0} {output : W → Output} where
  -- one more line
  pub puts-next : {X : Type 0} {b c d : Buffered W} (f : X → List ℕ) (xs : List X) (i : ℕ) (x : X) → i < length xs → x ≡ get_or xs i x
      → Puts output b c (flat_map f (take i xs)) → Puts output c d (f x) → Puts output b d (flat_map f (take (i + 1) xs))
  puts-next {b = b} {d = d} f xs i x h there before line =
      subst (λ (ys : List ℕ). Puts output b d ys) (flat_map-next f xs i x h there) (puts-then before line)

  -- all the lines
  pub puts-end : {X : Type 0} {b c : Buffered W} (f : X → List ℕ) (xs : List X) (n : ℕ) → length xs ≤ n
      → Puts output b c (flat_map f (take n xs)) → Puts output b c (flat_map f xs)
  puts-end f xs n h before = rw take_all at before

-- ---- numbered things, and ranges of numbers

-- numbering joined lists goes on where the first one ends
pub enumerate_from-append : {X : Type 0} (first : ℕ) (xs ys : List X) → enumerate_from first (xs ++ ys) ≡ enumerate_from first xs ++ enumerate_from (first + length xs) ys
enumerate_from-append first [] ys = ap (λ n. enumerate_from n ys) (omega arith)
enumerate_from-append first (x ∷ xs) ys =
    let shift : first + 1 + length xs ≡ first + length (x ∷ xs) = omega arith in
    ap (λ es. (first, x) ∷ es) (enumerate_from-append (first + 1) xs ys ∙ ap (λ n. enumerate_from (first + 1) xs ++ enumerate_from n ys) shift)

range_with_len-suc : (first n : ℕ) → range_with_len first (suc n) ≡ range_with_len first n ++ (first + n) ∷ []
range_with_len-suc first zero = ap (λ k. k ∷ []) (omega arith)
range_with_len-suc first (suc n) =
    let shift : first + 1 + n ≡ first + suc n = omega arith in
    ap (λ ks. first ∷ ks) (range_with_len-suc (first + 1) n ∙ ap (λ k. range_with_len (first + 1) n ++ k ∷ []) shift)

range_with_len-more : (first n : ℕ) → range_with_len first (n + 1) ≡ range_with_len first n ++ (first + n) ∷ []
range_with_len-more first n = let next : n + 1 ≡ suc n = omega arith in ap (range_with_len first) next ∙ range_with_len-suc first n

flat_map-more : {X : Type 0} (f : X → List ℕ) (xs : List X) (x : X) → flat_map f xs ++ f x ≡ flat_map f (xs ++ x ∷ [])
flat_map-more f xs x = sym (flat_map-append f xs (x ∷ []) ∙ ap (λ ys. flat_map f xs ++ ys) (append-nil (f x)))

enumerate_from-more : {X : Type 0} (first : ℕ) (xs : List X) (k : ℕ) (x : X) → k < length xs → x ≡ get_or xs k x
    → enumerate_from first (take (k + 1) xs) ≡ enumerate_from first (take k xs) ++ (first + k, x) ∷ []
enumerate_from-more first xs k x h there =
    let reached : length (take k xs) ≡ k = length-take-le k xs (omega arith) in
    ap (enumerate_from first) (take_more xs k x h ∙ ap (λ y. take k xs ++ y ∷ []) (sym there))
    ∙ enumerate_from-append first (take k xs) (x ∷ []) ∙ ap (λ n. enumerate_from first (take k xs) ++ (first + n, x) ∷ []) reached

module _ {W : Type 0} {output : W → Output} where
  -- one more numbered line
  pub puts-numbered_next : {X : Type 0} {b c d : Buffered W} (f : ℕ → X → List ℕ) (first : ℕ) (xs : List X) (k : ℕ) (x : X) → k < length xs → x ≡ get_or xs k x
      → Puts output b c (numbered_lines f first (take k xs)) → Puts output c d (f (first + k) x) → Puts output b d (numbered_lines f first (take (k + 1) xs))
  puts-numbered_next {b = b} {d = d} f first xs k x h there before line =
      subst (λ (ys : List ℕ). Puts output b d ys)
      (flat_map-more (λ (e : ℕ × _). f e.0 e.1) (enumerate_from first (take k xs)) (first + k, x) ∙ ap (flat_map (λ (e : ℕ × _). f e.0 e.1)) (sym (enumerate_from-more first xs k x h there)))
      (puts-then before line)

  -- the line of one more number
  pub puts-range_next : {b c d : Buffered W} (f : ℕ → List ℕ) (first n : ℕ)
      → Puts output b c (flat_map f (range_with_len first n)) → Puts output c d (f (first + n)) → Puts output b d (flat_map f (range_with_len first (n + 1)))
  puts-range_next {b = b} {d = d} f first n before line =
      subst (λ (ys : List ℕ). Puts output b d ys) (flat_map-more f (range_with_len first n) (first + n) ∙ ap (flat_map f) (sym (range_with_len-more first n)))
      (puts-then before line)

  -- the lines of the numbers that are left, after a write that failed
  pub puts-range_ended : {b c : Buffered W} (f : ℕ → List ℕ) (first n left : ℕ) → c.failed ≡ true
      → Puts output b c (flat_map f (range_with_len first n)) → Puts output b c (flat_map f (range_with_len first (n + left)))
  puts-range_ended {b} {c} f first n zero bad before =
      let same : n ≡ n + 0 = omega arith in
      subst (λ (m : ℕ). Puts output b c (flat_map f (range_with_len first m))) same before
  puts-range_ended {b} {c} f first n (suc left) bad before =
      let next : n + left + 1 ≡ n + suc left = omega arith in
      subst (λ (m : ℕ). Puts output b c (flat_map f (range_with_len first m))) next
      (subst (λ (ys : List ℕ). Puts output b c ys)
      (flat_map-more f (range_with_len first (n + left)) (first + (n + left)) ∙ ap (flat_map f) (sym (range_with_len-more first (n + left))))
      (puts-no_more (f (first + (n + left))) bad (puts-range_ended f first n left bad before)))
