-- `transfer::starts::start_table` meets its contract: every entry passes its test at both depths, computed over the whole table.
use mathlib.Core.Path.{refl}
use Rattle.numbers.specs.Rounding.{nearest}
use Rattle.transfer.specs.Level.{reaches_level}
use Rattle.transfer.proofs.Level.{is_from, is_below, meets}
use Rattle.transfer.proofs.Grouping.{may_start, start_table_holds}
use Rattle.transfer.proofs.starts.start_table.Goals as goal

pub returns : goal.returns
unfolding nearest reaches_level is_from is_below meets may_start
returns c = (start_table_holds 10 refl refl refl refl, start_table_holds 12 refl refl refl refl)
