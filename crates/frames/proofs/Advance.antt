-- The walker goes on to the next number at every frame that the spool has.
-- Assumes nothing.
use Prim.Native.Nat.{ℕ, ◌+◌, ◌<◌}
use mathlib.Core.Path.{◌≡◌}
use mathlib.Core.List.{List}
use borrow.Author.Tests.{lt-ltb}
use Rattle.refusal.specs.Answers.{sound}
use Rattle.records.specs.Layout.{header_of}
use Rattle.spool.specs.Open.{open_fault}
use Rattle.frames.specs.Walk.{next_number}

pub goes_on : (file : List ℕ) (k : ℕ) → open_fault file ≡ sound → k < (header_of file).count → next_number file k ≡ k + 1
goes_on file k opens below = rw (opens, lt-ltb _ _ below)
