-- The depths at which a search for levels is made.
-- Assumes nothing.
use Rattle.std.specs.Prelude.{ℕ, ◌≡◌, true, false, Result, Ok, Err}
use Rattle.refusal.specs.declared.Refusal.{Refusal}
use Rattle.refusal.specs.declared.Refusal.TheVariants.{DepthNotOffered}
use Rattle.esrgb.specs.Depths.{bits}
use Rattle.transfer.specs.Level.{offers_codes}
use Rattle.linear.specs.declared.search.LevelSearch.{LevelSearch}

-- A number of bits that light has codes at has a search at that depth. Any other is not offered.
abbrev pub Searches : ℕ → Result LevelSearch Refusal → Type 0
Searches n (Ok search) = (offers_codes n ≡ true) × (n ≡ bits search.depth)
Searches n (Err refusal) = (offers_codes n ≡ false) × (refusal ≡ DepthNotOffered)
