-- `tint::light_number` meets its contract.
use Prim.Native.Nat.{◌^◌}
use mathlib.Core.Path.{◌≡◌}
use lib.Dec.{lit<}
use Rattle.doubles.specs.Doubles.{nearest_whole}
use Rattle.tint.specs.Tints.{times, light_limit, light_number}
use Rattle.tint.proofs.Rounded.{is_million, signed_cast, signed_is}
use Rattle.tint.proofs.light_number.Goals as goal
use Rattle.tint.proofs.light_number.Goals.{After-nearest_whole}

found :
    (c : After-nearest_whole)
    → c.nearest_whole.result ≡ nearest_whole light_limit light_limit (times c.args.number (10 ^ 6))
found c = rw is_million at c.nearest_whole.ensures

pub overflow_cast-result : goal.overflow_cast-result
overflow_cast-result c = signed_cast _ (record { sfits = c.nearest_whole.type_inv }) _ light_limit (lit< tt) (found c)

pub returns : goal.returns
unfolding light_number
returns c = signed_is _ (record { sfits = c.nearest_whole.type_inv }) _ light_limit (lit< tt) (found c)
