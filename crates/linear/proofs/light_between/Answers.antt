-- `linear::light_between` meets its contract: the entries rise, and a share of the rise gives the light on the line.
use Prim.Native.Nat.{ℕ, ◌+◌, ◌-◌, ◌*◌, ◌/◌, ◌%◌, ◌≤◌, ◌<◌}
use mathlib.Core.Path.{◌≡◌, sym}
use mathlib.Core.List.{List}
use native.Mathlib.Omega.{arith}
use lib.ListN.{get_or}
use Rattle.esrgb.specs.Depths.{scale}
use Rattle.transfer.specs.Light.{light_of_level, per_level, light_between}
use Rattle.transfer.specs.HowTabled.{levels, LightTable}
use Rattle.transfer.proofs.Between.{light_end, lights_rise, between_is, share_fits}
use Rattle.linear.proofs.light_between.Goals as goal

module _ (lights : List ℕ) (table : LightTable lights) (v : ℕ) (h : v < levels 16) where
  abbrev light : ℕ
  light = get_or lights (v / per_level) 0

  abbrev next : ℕ
  next = get_or lights (v / per_level + 1) 0

  light_is : light ≡ light_of_level (scale 12) (v / per_level)
  light_is = table.at (v / per_level) (omega arith)

  next_is : next ≡ light_of_level (scale 12) (v / per_level + 1)
  next_is = table.at (v / per_level + 1) (omega arith)

  rises : light ≤ next
  rises = rw (light_is, next_is) (lights_rise v h)

  fits : light + (next - light) * (v % per_level) < per_level * light_end
  fits = rw (light_is, next_is) (share_fits v h)

  on_line : light + ((next - light) * (v % per_level) + per_level / 2) / per_level ≡ light_between v
  on_line = rw (light_is, next_is) (sym (between_is v h))

pub overflow_sub-rise : goal.overflow_sub-rise
overflow_sub-rise c =
    rises _ c.light_table-lights.ensures c.args.level c.requires

pub overflow_mul-result : goal.overflow_mul-result
overflow_mul-result c =
    omega (arith, fits _ c.light_table-lights.ensures c.args.level c.requires)

pub overflow_add-result : goal.overflow_add-result
overflow_add-result c =
    omega (arith, fits _ c.light_table-lights.ensures c.args.level c.requires)

pub returns : goal.returns
returns c =
    on_line _ c.light_table-lights.ensures c.args.level c.requires
