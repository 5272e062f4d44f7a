-- `transfer::table::light_table` meets its contract: every entry passes the two power tests, computed over the whole table.
use mathlib.Core.Path.{refl}
use Rattle.numbers.specs.Rounding.{nearest}
use Rattle.transfer.specs.Light.{reaches_light}
use Rattle.transfer.proofs.Light.{is_light, light_table_holds}
use Rattle.transfer.proofs.table.light_table.Goals as goal

pub returns : goal.returns
unfolding nearest reaches_light is_light
returns c = light_table_holds refl refl
