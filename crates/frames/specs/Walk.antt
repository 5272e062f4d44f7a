-- Walk the frames of a spool (rule 7.7): document 01's walker.
-- Assumes nothing.
use Rattle.std.specs.Prelude.{ℕ, ◌+◌, cond, List, ◌≡◌, ltb}
use Rattle.std.specs.Borrow.{Bor}
use Rattle.frames.specs.declared.Frames.{Frames}
use Rattle.frames.specs.declared.Stepped.{Stepped}
use Rattle.spool.specs.Find.{find_said, find_says, IsPixels}
use Rattle.spool.specs.Open.{OpenSaid, opens, refuses_file, open_says}

-- The number after a step: it stays if the file does not open (1 to 4, and 20) or has no such frame (5), and else grows by one, whatever
-- Find says of the frame (6, 7, 21 or 8).
abbrev pub moved_by : OpenSaid → ℕ → ℕ
moved_by (opens count shop table) k = cond (ltb k count) (k + 1) k
moved_by (refuses_file n) k = k

abbrev pub next_number : List ℕ → ℕ → ℕ
next_number file k = moved_by (open_says file) k

-- A walk at its start, and after a step.
abbrev pub started : Bor (List ℕ) → Frames
started file = record { file = file; next = 0 }

abbrev pub advanced : Frames → Frames
advanced w = record { file = w.file; next = next_number w.file.now w.next }

-- What a step gives: Find's answer for the number, the frame's pixels, and the walk after it.
pub record IsStep (w : Frames) (s : Stepped) : Type 0 where
  pub answer : find_said s.frame.found ≡ find_says w.file.now w.next
  pub pixels : IsPixels w.file w.next s.frame.pixels
  pub rest : s.rest ≡ advanced w
