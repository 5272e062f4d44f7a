-- `picture::fill_pixels` meets its contract: the loop over samples again, pixel by pixel.
use Prim.Native.Nat.{◌*◌}
use Rattle.samples.specs.declared.Pixel.{Pixel}
use Rattle.samples.specs.Samples.{place, read}
use Rattle.picture.specs.HowConverted.{Gives}
use Rattle.numbers.proofs.Writing.{Written}
use Rattle.picture.proofs.Filling.{pixels_by}
use Rattle.picture.proofs.fill_pixels.Given as goal

abbrev pub invariant-loop-i : goal.invariant-loop-i
invariant-loop-i g l = (f : Pixel → Pixel) → Gives (goal.F-post g l.convert) f → Written (pixels_by l.wide_out f) (read l.wide_in l.src) l.dst (place l.wide_out (3 * l.i)) l.i
