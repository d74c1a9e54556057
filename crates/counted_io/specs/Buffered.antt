-- What has been put into a buffered writer; the argument `output` is the member of `CountedWrite`.
use Rattle.std.specs.Prelude.{ℕ, ◌≡◌, true, false, List, [], ◌++◌, Result, OnOk, OnErr}
use Rattle.std.specs.Borrow.{MutBor}
use Rattle.counted_io.specs.Output.{Output, WritesAll, WritesPart}
use Rattle.counted_io.specs.declared.buffered.Buffered.{Buffered}

module _ {W : Type 0} where
  -- a buffer before this writer, into which nothing has been put
  pub record IsNew (writer : MutBor W) (b : Buffered W) : Type 0 where
    pub same_writer : b.writer.ghost_name ≡ writer.ghost_name
    pub writer_is : b.writer.now ≡ writer.now
    pub waiting : b.waiting ≡ []
    pub failed : b.failed ≡ false

module _ {W : Type 0} (output : W → Output) where
  -- a beginning of the text was written from the start on, and the rest waits
  pub record IsOnItsWay (start : Output) (b : Buffered W) (text : List ℕ) : Type 0 where
    pub written : List ℕ
    pub writes : WritesAll start (output b.writer.now) written
    pub whole : text ≡ written ++ b.waiting

  -- the text has been put since the writer was as at the start
  pub record HasPut (start : Output) (b : Buffered W) (text : List ℕ) : Type 0 where
    pub so_far : b.failed ≡ false → IsOnItsWay start b text
    pub failed : b.failed ≡ true → WritesPart start (output b.writer.now) text

  -- the text was put after what had been put before
  pub record Puts (old new : Buffered W) (text : List ℕ) : Type 0 where
    pub same_writer : new.writer.ghost_name ≡ old.writer.ghost_name
    pub after : (start : Output) (before : List ℕ) → HasPut start old before → HasPut start new (before ++ text)

  -- nothing waits, and an error says that a write has failed
  pub record Flushes {T E : Type 0} (old new : Buffered W) (result : Result T E) : Type 0 where
    pub puts : Puts old new []
    pub waiting : new.waiting ≡ []
    pub ok : OnOk result (new.failed ≡ false)
    pub err : OnErr result (new.failed ≡ true)
