-- `kiosk::length_of` meets its contract, case by case of what is found.
use mathlib.Core.Path.{ap, ◌∙◌}
use lib.IntN.{pos}
use mir.Syntax.{w64}
use mir.ValLaws.{to_z_pos}
use Rattle.kiosk.proofs.Counts.{frame-counts}
use borrow.Author.Rules.{rules}
use Rattle.kiosk.proofs.length_of.Goals as goal

pub returns-in-Ok : goal.returns-in-Ok
returns-in-Ok c =
    let s = c.in-Ok.strided in
    rw c.in-Ok.is
    (to_z_pos w64 c.span_bytes.result (rw c.span_bytes.ensures (frame-counts s (search rules) (search rules) (search rules))) ∙ ap pos c.span_bytes.ensures)
