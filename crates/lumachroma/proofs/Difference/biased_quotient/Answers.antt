-- `lumachroma::Difference::biased_quotient` meets its contract: rounded luma tells which half rounds, and the estimate leaves the rest of the
-- quotient.
use mathlib.Core.Path.{◌≡◌}
use Prim.Native.Nat.{ℕ, ◌+◌, ◌-◌, ◌*◌, ◌≤◌, ◌<◌}
use native.Mathlib.Omega.{arith}
use Rattle.numbers.specs.Rounding.{nearest}
use Rattle.lumachroma.specs.LumaChroma.{luma}
use Rattle.lumachroma.specs.HowDivided.{weighted, biased_dividend}
use Rattle.lumachroma.proofs.Quotient.{divided, above-luma, not_above_luma}
use Rattle.lumachroma.proofs.Difference.biased_quotient.Goals as goal
use native.Mathlib.Decide.{dec_lt}
use mir.Val.{bool_byte}
use Rattle.std.proofs.Common.{nat_lt, rules}

-- What rounded luma tells of the weighted sum: it is within a half of it over 1000.
module _ (r g b channel : ℕ) where
  above : luma r g b < channel → 299 * r + 587 * g + 114 * b ≤ 1000 * channel
  unfolding luma nearest
  above h = omega arith

  not_above : channel ≤ luma r g b → 1000 * channel ≤ 299 * r + 587 * g + 114 * b + 500
  unfolding luma nearest
  not_above h = omega arith

-- What is taken away so that a tie goes down.
tie : (y channel : ℕ) → y < channel → bool_byte (nat_lt y channel) ≡ 1
tie y channel h = search rules

no_tie : (y channel : ℕ) → channel ≤ y → bool_byte (nat_lt y channel) ≡ 0
no_tie y channel h = search rules

pub returns : goal.returns
returns g c =
    let d = c.args.self in
    let p = d.pixel in
    let den : ℕ = g.row.DEN in
    let e : ℕ = d.estimate in
    let whole : ℕ = biased_dividend (1000 * d.channel) (weighted p) den in
    let y : c.luma_of.result ≡ luma p.first p.second p.third = c.luma_of.ensures in
    elim (dec_lt c.luma_of.result d.channel) [
      | yes over ↦
          let t = tie c.luma_of.result d.channel over in
          rw (divided (whole - 1) den e _ c.rest.ensures (omega (arith, t)) (omega arith) (omega arith) (omega arith) (omega arith))
          (above-luma d.in_range (above p.first p.second p.third d.channel (omega arith)))
      | no not ↦
          let t = no_tie c.luma_of.result d.channel (omega (arith, not)) in
          rw (divided whole den e _ c.rest.ensures (omega (arith, t)) (omega arith) (omega arith) (omega arith) (omega arith))
          (not_above_luma d.in_range (not_above p.first p.second p.third d.channel (omega (arith, not))))
    ]
