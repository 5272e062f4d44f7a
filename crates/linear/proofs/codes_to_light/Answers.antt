-- `linear::codes_to_light` meets its contract: what is examined and sound is written, and anything else is left.
use Prim.Native.Nat.{ℕ, ◌/◌, ◌≤◌}
use mathlib.Core.Path.{sym}
use mathlib.Core.Bool.{true, false}
use native.Mathlib.Omega.{arith}
use lib.ListN.{length, get_or}
use Rattle.samples.specs.Samples.{two_by_two}
use Rattle.samples.proofs.Judging.{accepted-within}
use Rattle.samples.proofs.Order.{source_exact, source_samples}
use Rattle.linear.proofs.codes_to_light.Goals as goal

pub write_lights-requires-clause-room : goal.write_lights-requires-clause-room
write_lights-requires-clause-room c =
    let a = c.args in
    omega (arith, source_exact true _ false a.src.now (length a.dst.now) _ (sym c.in_ok-pixels.ensures))

pub write_lights-requires-clause-codes : goal.write_lights-requires-clause-codes
write_lights-requires-clause-codes c =
    let a = c.args in
    let sound : (k : ℕ) → get_or (two_by_two a.src.now) k 0 ≤ c.greatest_of.result =
    accepted-within _ (length a.src.now / 6) _ 0 (two_by_two a.src.now) (source_samples true _ false a.src.now (length a.dst.now) _ (sym c.in_ok-pixels.ensures)) in
    λ k. rw c.greatest_of.ensures at (sound k)
