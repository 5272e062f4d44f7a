-- Light at 16 bits keeps its promise (rule 6.9): it is near the exact light at every code, and on the table's levels it is the table's light.
-- And how much light a code has at most.
-- Assumes nothing.
use Prim.Native.Nat.{ℕ, zero, suc, ◌*◌, ◌^◌, ◌/◌, ◌≤◌, ◌<◌}
use mathlib.Core.Path.{◌≡◌, refl, sym, ap, ◌∙◌}
use mathlib.Core.Bool.{Bool, true, false}
use native.Mathlib.Omega.{arith}
use lib.Dec.{ltb}
use lib.IntN.{nat_abs}
use Rattle.esrgb.specs.declared.Depth.{Depth}
use Rattle.esrgb.specs.declared.Depth.TheVariants.{Twelve}
use Rattle.esrgb.specs.Depths.{bits, greatest, offset, step, scale}
use Rattle.esrgb.proofs.Scale.{scale as depth-scale}
use Rattle.transfer.specs.Light.{light_of_level, per_level, light_between, light_at, level_size, signed, light_of_code}
use Rattle.transfer.specs.Exact.{NearExact, most_apart, LightAtSixteen}
use Rattle.transfer.proofs.Between.{on_level, light_end, level_within, between-fits}
use Rattle.transfer.proofs.Scaling.{light_scaled, up, same_light, up_fits}

size_of_signed : (negative : Bool) (size : ℕ) → nat_abs (signed negative size) ≡ size
size_of_signed true zero = refl
size_of_signed true (suc k) = refl
size_of_signed false size = refl

near : (code : ℕ) → code < 2 ^ 16 → NearExact most_apart 16 code
unfolding light_of_code
near code h =
    let negative = ltb code (offset 16) in
    let light = light_between (level_size 16 code) in
    let size = size_of_signed negative light in
    record { size = rw size (level_within (level_size 16 code) (omega arith)); sign = ap (signed negative) (sym size) }

-- Every code is a 16-bit code of the same light, so no code has as much.
small_at_sixteen : (code : ℕ) → code < 2 ^ 16 → nat_abs (light_of_code 16 code) < light_end
unfolding light_of_code
small_at_sixteen code h =
    rw (size_of_signed (ltb code (offset 16)) (light_between (level_size 16 code))) (between-fits (level_size 16 code) (omega arith))

pub light_small : (d : Depth) (code : ℕ) → code ≤ greatest (bits d) → nat_abs (light_of_code (bits d) code) < light_end
light_small d code h =
    let n = bits d in
    let m = step 16 / step n in
    rw (← same_light n m code (depth-scale d) (up d)) (small_at_sixteen (m * code) (up_fits n m (depth-scale d) (up d) code h))

same_rule : (v : ℕ) → light_at 16 (per_level * v) ≡ light_of_level (scale 16) (per_level * v)
same_rule v = on_level v ∙ sym (light_scaled per_level (omega arith) (scale 12) v)

pub light_at_sixteen : LightAtSixteen
light_at_sixteen =
    record { near = near; same_code = λ code. same_light 12 per_level code (depth-scale Twelve) (up Twelve); same_rule = same_rule }
