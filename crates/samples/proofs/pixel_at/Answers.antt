-- `samples::pixel_at` meets its contract: three samples are a pixel, and behind the last there is none.
use Prim.Native.Nat.{◌+◌, ◌*◌, ◌<◌}
use mathlib.Core.Path.{sym}
use lib.ListN.{length, get_or-eq_default}
use Rattle.samples.specs.Samples.{sample_count, samples_of, no_pixel, read}
use Rattle.samples.proofs.Reading.{length_samples, pixel_held, pixel-at}
use Rattle.samples.proofs.Buffers.{length-read}
use Rattle.samples.proofs.pixel_at.Goals as goal

pub returns-then-src-pixel_size : goal.returns-then-src-pixel_size
returns-then-src-pixel_size c =
    let a = c.args in
    sym (get_or-eq_default (read a.wide a.src.now) no_pixel (rw (length-read a.wide a.src.now, ← c.pixel_size.ensures) c.if-src-pixel_size.true))

pub returns : goal.returns
returns c =
    let held : let a = c.args in 3 * a.i + 2 < sample_count a.wide (length a.src.now) =
    let a = c.args in
    pixel_held a.wide (length a.src.now) a.i (rw c.pixel_size.ensures at c.if-src-pixel_size.false) in
    let a = c.args in
    rw (c.held_sample.ensures, c.held_sample-2.ensures, c.held_sample-3.ensures)
    (sym (pixel-at (samples_of a.wide a.src.now) a.i (rw (length_samples a.wide a.src.now) held)))
