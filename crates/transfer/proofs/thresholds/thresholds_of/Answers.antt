-- `transfer::thresholds::thresholds_of` meets its contract: the tables are those of 10 and of 12 bits.
use Prim.Native.Nat.{ℕ}
use mathlib.Core.Path.{◌≡◌, refl, sym, ap, subst}
use mathlib.Core.Bool.{true}
use mathlib.Core.List.{List}
use Rattle.esrgb.specs.Depths.{bits}
use Rattle.transfer.specs.Level.{offers_codes}
use Rattle.transfer.specs.HowTabled.{ThresholdTable}
use Rattle.transfer.proofs.thresholds.thresholds_of.Goals as goal

-- What holds at a depth that has thresholds.
abbrev Held : ℕ → List ℕ → Type 0
Held n thresholds = (offers_codes n ≡ true) × ThresholdTable n thresholds

at_depth : {n m : ℕ} {thresholds : List ℕ} → n ≡ m → Held m thresholds → Held n thresholds
at_depth {n} {m} {thresholds} same held = subst (λ (k : ℕ). Held k thresholds) (sym same) held

pub returns-in-Ten : goal.returns-in-Ten
returns-in-Ten c = at_depth (ap bits c.in-Ten.is) (refl, c.thresholds_at_ten.ensures)

pub returns-in-Twelve : goal.returns-in-Twelve
returns-in-Twelve c = at_depth (ap bits c.in-Twelve.is) (refl, c.thresholds_at_twelve.ensures)
