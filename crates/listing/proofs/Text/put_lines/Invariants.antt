-- `listing::Text::put_lines` meets its contract.
use Prim.Native.Nat.{◌-◌}
use Rattle.listing.specs.Listing.{lines}
use Rattle.listing.proofs.Texts.{Leaves}
use Rattle.listing.proofs.Text.put_lines.Given as goal

abbrev pub invariant-loop-frame : goal.invariant-loop-frame
invariant-loop-frame l = Leaves l.initial.self (lines l.file l.count 0) l.self (lines l.file (l.count - l.frame) l.frame)
