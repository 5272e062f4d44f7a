-- `tint::nonlinear_code` meets its contract.
use mathlib.Core.Path.{◌≡◌}
use lib.Dec.{lit<}
use Rattle.doubles.specs.Doubles.{nearest_whole}
use Rattle.esrgb.specs.Depths.{greatest, offset, scale}
use Rattle.tint.specs.Tints.{times, plus, nonlinear_code}
use Rattle.tint.proofs.Rounded.{is-scale, is-offset, natural_cast, natural_is}
use Rattle.tint.proofs.nonlinear_code.Goals as goal
use Rattle.tint.proofs.nonlinear_code.Goals.{After-nearest_whole}

found :
    (c : After-nearest_whole)
    → c.nearest_whole.result ≡ nearest_whole 0 (greatest 12) (plus (times c.args.number (scale 12)) (offset 12))
found c = rw (is-scale, is-offset) at c.nearest_whole.ensures

pub overflow_cast-result : goal.overflow_cast-result
overflow_cast-result c = natural_cast _ (record { sfits = c.nearest_whole.type_inv }) _ (greatest 12) (lit< tt) (found c)

pub returns : goal.returns
unfolding nonlinear_code
returns c = natural_is _ (record { sfits = c.nearest_whole.type_inv }) _ (greatest 12) (lit< tt) (found c)
