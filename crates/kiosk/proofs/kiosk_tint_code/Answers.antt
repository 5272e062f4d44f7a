-- `kiosk::kiosk_tint_code` meets its contract: 8-bit values are never refused.
use Rattle.kiosk.proofs.Giving.{tints_code}
use Rattle.kiosk.proofs.kiosk_tint_code.Goals as goal

pub returns : goal.returns
returns c = tints_code _ _ _ c.tinted-pixels.ensures
