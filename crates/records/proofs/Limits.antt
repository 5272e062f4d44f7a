-- What `too_many_frames` says of a count.
-- Assumes nothing.
use Prim.Native.Nat.{ℕ, ◌≤◌, ◌<◌}
use mathlib.Core.Path.{◌≡◌, sym, ◌∙◌}
use mathlib.Core.Bool.{Bool, true, false}
use lib.Dec.{ltb}
use borrow.Author.Tests.{ltb-true, ltb-false}
use Rattle.records.specs.Faults.{frame_limit}

pub many_frames : {b : Bool} {count : ℕ} → b ≡ ltb frame_limit count → b ≡ true → frame_limit < count
many_frames says e = ltb-true _ _ (sym says ∙ e)

pub few_frames : {b : Bool} {count : ℕ} → b ≡ ltb frame_limit count → b ≡ false → count ≤ frame_limit
few_frames says e = ltb-false _ _ (sym says ∙ e)
