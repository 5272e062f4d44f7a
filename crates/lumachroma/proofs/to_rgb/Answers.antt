-- `lumachroma::to_rgb` meets its contract: each channel is its definition at the middle code of the depth, clipped or in no need of it.
use Prim.Native.Nat.{ℕ, ◌+◌, ◌-◌, ◌*◌, ◌/◌, ◌^◌, ◌≤◌}
use mathlib.Core.Path.{◌≡◌, sym, ap, ◌∙◌}
use native.Mathlib.Omega.{arith}
use Rattle.samples.specs.declared.Pixel.{Pixel}
use Rattle.samples.specs.Samples.{pixel}
use Rattle.esrgb.specs.declared.Depth.{Depth}
use Rattle.esrgb.specs.Depths.{bits, middle}
use Rattle.lumachroma.specs.declared.Starts.{Starts}
use Rattle.lumachroma.specs.LumaChroma.{red_back, green_back, blue_back}
use Rattle.lumachroma.specs.HowDivided.{Middle, red_of_cr, blue_of_cb, green_of_cb, green_of_cr, starts_at, Unclipped}
use Rattle.numbers.specs.Rounding.{clipped_to}
use Rattle.lumachroma.proofs.Quotient.{clipped-at}
use Rattle.lumachroma.proofs.Back.{red_unclipped, green_unclipped, blue_unclipped, together, is_code}
use Rattle.lumachroma.proofs.to_rgb.Goals as goal

-- The channels at the middle code that the code has worked out.
module _ (d : Depth) (p : Pixel) (m : ℕ) (e : m ≡ middle (bits d)) where
  red : clipped_to (2 * m - 1) (1000 * p.first + 1402 * p.third) (1402 * m) 1000 ≡ red_back (bits d) p.first p.second p.third
  unfolding red_back
  red = ap (λ (m : ℕ). clipped_to (2 * m - 1) (1000 * p.first + 1402 * p.third) (1402 * m) 1000) e ∙ clipped-at d _ _ _

  green :
      clipped_to (2 * m - 1) (587000 * p.first + (202008 + 419198) * m) (202008 * p.second + 419198 * p.third) 587000
      ≡ green_back (bits d) p.first p.second p.third
  unfolding green_back
  green = ap (λ (m : ℕ). clipped_to (2 * m - 1) (587000 * p.first + (202008 + 419198) * m) (202008 * p.second + 419198 * p.third) 587000) e ∙ clipped-at d _ _ _

  blue : clipped_to (2 * m - 1) (1000 * p.first + 1772 * p.second) (1772 * m) 1000 ≡ blue_back (bits d) p.first p.second p.third
  unfolding blue_back
  blue = ap (λ (m : ℕ). clipped_to (2 * m - 1) (1000 * p.first + 1772 * p.second) (1772 * m) 1000) e ∙ clipped-at d _ _ _

-- The samples are of 16 bits, and the starts are those of that middle code.
record Given (p : Pixel) (m : ℕ) (starts : Starts) : Type 0 where
  first : p.first ≤ 65535
  second : p.second ≤ 65535
  third : p.third ≤ 65535
  middle-code : Middle m
  red-start : starts.red ≡ (starts_at m).red
  green-start : starts.green ≡ (starts_at m).green
  blue-start : starts.blue ≡ (starts_at m).blue

given :
    (d : Depth) (p : Pixel) {m : ℕ} {s : Starts} → (m ≡ middle (bits d)) × Middle m → p.first ≤ 65535 → p.second ≤ 65535 → p.third ≤ 65535
    → s ≡ starts_at (middle (bits d)) → Given p m s
given d p {m} {s} h hr hg hb e =
    let starts : s ≡ starts_at m = e ∙ ap starts_at (sym h.0) in
    record {
      first = hr;
      second = hg;
      third = hb;
      middle-code = h.1;
      red-start = ap (λ (r : Starts). r.red) starts;
      green-start = ap (λ (r : Starts). r.green) starts;
      blue-start = ap (λ (r : Starts). r.blue) starts;
    }

-- Then the three sums are the quotients of the channels, not yet clipped.
module _ {p : Pixel} {m : ℕ} {starts : Starts} (g : Given p m starts) (sum : ℕ) where
  red-sum : sum ≡ p.first + (starts.red + red_of_cr * p.third) / 2 ^ 30 → Unclipped m (1000 * p.first + 1402 * p.third) (1402 * m) 1000 sum
  red-sum e = rw (e, g.red-start) (red_unclipped m p.first p.third g.middle-code g.first g.third)

  green-sum :
      sum ≡ p.first + (starts.green - (green_of_cb * p.second + green_of_cr * p.third)) / 2 ^ 36
      → Unclipped m (587000 * p.first + (202008 + 419198) * m) (202008 * p.second + 419198 * p.third) 587000 sum
  green-sum e = rw (e, g.green-start) (green_unclipped m p.first p.second p.third g.middle-code g.first g.second g.third)

  blue-sum : sum ≡ p.first + (starts.blue + blue_of_cb * p.second) / 2 ^ 30 → Unclipped m (1000 * p.first + 1772 * p.second) (1772 * m) 1000 sum
  blue-sum e = rw (e, g.blue-start) (blue_unclipped m p.first p.second g.middle-code g.first g.second)

pub returns-then-red-green : goal.returns-then-red-green
returns-then-red-green c =
    let a = c.args in
    let m = c.middle_of-middle.ensures in
    let g = given a.depth a.p m (omega arith) (omega arith) (omega arith) c.starts_of-starts.ensures in
    let low = together _ _ _ _ c.if-red-green.true in
    λ i. pixel
    ((is_code _ _ _ _ _ m.1 (red-sum g _ c.add_chroma-red.ensures) low.0 ∙ red a.depth a.p _ m.0) i)
    ((is_code _ _ _ _ _ m.1 (green-sum g _ c.green_of-green.ensures) low.1 ∙ green a.depth a.p _ m.0) i)
    ((is_code _ _ _ _ _ m.1 (blue-sum g _ c.add_chroma-blue.ensures) low.2 ∙ blue a.depth a.p _ m.0) i)

pub returns-else-red-green : goal.returns-else-red-green
returns-else-red-green c =
    let a = c.args in
    let m = c.middle_of-middle.ensures in
    let g = given a.depth a.p m (omega arith) (omega arith) (omega arith) c.starts_of-starts.ensures in
    λ i. pixel
    ((c.clip.ensures ∙ (red-sum g _ c.add_chroma-red.ensures).clips ∙ red a.depth a.p _ m.0) i)
    ((c.clip-else-red-green.ensures ∙ (green-sum g _ c.green_of-green.ensures).clips ∙ green a.depth a.p _ m.0) i)
    ((c.clip-else-red-green-2.ensures ∙ (blue-sum g _ c.add_chroma-blue.ensures).clips ∙ blue a.depth a.p _ m.0) i)
