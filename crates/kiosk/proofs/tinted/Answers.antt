-- `kiosk::tinted` meets its contract: what the tint says, case by case.
use mathlib.Core.Path.{sym, ap, ◌∙◌}
use Rattle.tint.specs.Tints.{tint_said}
use Rattle.kiosk.proofs.Giving.{tints_given}
use Rattle.kiosk.proofs.tinted.Goals as goal

pub returns-in-Ok : goal.returns-in-Ok
returns-in-Ok c =
    let s = c.args in
    tints_given s.tint s.pixel.now s.place.now _ (ap tint_said (sym c.in-Ok.is) ∙ c.to_pixel.ensures)
