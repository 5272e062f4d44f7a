-- `esycc::Sums::codes` meets its contract: a sum that is a code but for low needs no clipping.
use Prim.Native.Nat.{ℕ, ◌+◌, ◌-◌, ◌%◌, ◌^◌, ◌≤◌, ◌<◌, min}
use mathlib.Core.Path.{◌≡◌}
use native.Mathlib.Omega.{arith}
use lib.Bits.{bit_or, or_add_and, or_comm, and_le_r}
use Rattle.samples.specs.Samples.{pixel}
use Rattle.esycc.specs.HowCounted.{back_lift}
use Rattle.esycc.proofs.Sums.codes.Goals as goal

together : (x y z limit most : ℕ) → bit_or (bit_or x y) z ≤ limit → limit ≤ most → (x ≤ most) × (y ≤ most) × (z ≤ most)
together x y z limit most h within =
    let both = bit_or x y in (
      omega (arith, or_add_and both z, and_le_r both z, or_add_and x y, and_le_r x y),
      omega (arith, or_add_and both z, and_le_r both z, or_comm x y, or_add_and y x, and_le_r y x),
      omega (arith, or_comm both z, or_add_and z both, and_le_r z both),
    )

unclipped :
    (most low sum : ℕ) → sum < 2 ^ 32 → low ≤ back_lift → most ≤ 65535 → (sum + (2 ^ 32 - low)) % 2 ^ 32 ≤ most
    → (sum + (2 ^ 32 - low)) % 2 ^ 32 % 65536 ≡ min most (sum - low)
unclipped most low sum fits h few within = omega arith

pub returns-then-first-second : goal.returns-then-first-second
returns-then-first-second c =
    let most = c.args.most in
    let low = c.args.low in
    let s = c.args.self in
    let within = together _ _ _ _ most c.if-first-second.true (omega arith) in
    λ i. pixel
    (unclipped most low s.first (omega arith) c.requires (omega arith) within.0 i)
    (unclipped most low s.second (omega arith) c.requires (omega arith) within.1 i)
    (unclipped most low s.third (omega arith) c.requires (omega arith) within.2 i)
