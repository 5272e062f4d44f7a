-- `transfer::thresholds::thresholds_at_ten` meets its contract: every entry passes its test, computed over the whole table.
use mathlib.Core.Path.{refl}
use Rattle.numbers.specs.Rounding.{nearest}
use Rattle.transfer.specs.Level.{reaches_level}
use Rattle.transfer.proofs.Level.{is_from, is_below, meets, is_threshold, threshold_table_holds}
use Rattle.transfer.proofs.thresholds.thresholds_at_ten.Goals as goal

pub returns : goal.returns
unfolding nearest reaches_level is_from is_below meets is_threshold
returns c = threshold_table_holds 10 refl refl refl
