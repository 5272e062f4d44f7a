-- `picture::count_clipped` meets its contract: a pixel more, and one less that is left to be counted.
use Prim.Native.Nat.{◌/◌}
use mathlib.Core.Path.{◌≡◌}
use mathlib.Core.Bool.{true}
use native.Mathlib.Omega.{arith}
use lib.ListN.{length}
use Rattle.numbers.proofs.Counting.{count_most}
use Rattle.samples.specs.Samples.{read}
use Rattle.picture.specs.HowConverted.{pixel_outside}
use Rattle.picture.proofs.Narrowing.{counted_more, counted_all}
use Rattle.picture.proofs.count_clipped.Goals as goal

pub overflow_add-count : goal.overflow_add-count
overflow_add-count c =
    let a = c.args in
    let end : length a.src.now / c.pixel_size.result ≡ length a.src.now / 6 = rw c.pixel_size.ensures in
    let next = counted_more a.gamut a.src.now _ c.loop-j.j _ _ (omega arith) c.is_clipped.ensures c.pixel_at-p.ensures c.loop-j.invariant in
    record { fits = omega (arith, next, count_most (pixel_outside a.gamut) (read true a.src.now), c.requires) }

pub loop-j-preserved : goal.loop-j-preserved
loop-j-preserved c =
    let a = c.args in
    let end : length a.src.now / c.pixel_size.result ≡ length a.src.now / 6 = rw c.pixel_size.ensures in
    counted_more a.gamut a.src.now _ c.loop-j.j _ _ (omega arith) c.is_clipped.ensures c.pixel_at-p.ensures c.loop-j.invariant

pub returns : goal.returns
returns c =
    let a = c.args in
    let end : length a.src.now / c.pixel_size.result ≡ length a.src.now / 6 = rw c.pixel_size.ensures in
    counted_all a.gamut a.src.now _ c.loop-j.j (omega arith) c.loop-j.invariant
