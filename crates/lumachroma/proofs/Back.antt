-- The way back: sums of luma and the chromas' shares are the definitions' quotients, not yet clipped; and one test tells of three sums
-- whether they are to be clipped.
-- Assumes nothing.
use mathlib.Core.Path.{◌≡◌}
use Prim.Native.Nat.{ℕ, ◌+◌, ◌-◌, ◌*◌, ◌/◌, ◌%◌, ◌^◌, ◌≤◌, ◌<◌}
use native.Mathlib.Omega.{arith}
use native.Mathlib.Nat.{mul-le-mul}
use lib.Bits.{bit_or, or_comm}
use Rattle.numbers.specs.Rounding.{nearest, clipped_to}
use Rattle.numbers.proofs.Bits.{low_bits}
use Rattle.numbers.proofs.Shares.{Share, counted, both, rounded-sum}
use Rattle.lumachroma.specs.HowDivided.{Middle, lift, allowance, start, red_of_cr, blue_of_cb, green_of_cb, green_of_cr, starts_at, Unclipped}

-- ---- red and blue: the share of one chroma is added
module _ (weight factor middle luma chroma : ℕ) (s : Share 1000 weight (2 ^ 30) factor) (few : weight ≤ 2000) (m : Middle middle) (h : chroma ≤ 65535) where
  pub one_unclipped :
      luma ≤ 65535
      → Unclipped middle (1000 * luma + weight * chroma) (weight * middle) 1000 (luma + (start (2 ^ 30) - factor * middle + factor * chroma) / 2 ^ 30)
  unfolding clipped_to nearest
  one_unclipped l =
      let up : weight * chroma ≤ 2000 * 65535 = mul-le-mul few h in
      let down : weight * middle ≤ 2000 * 32768 = mul-le-mul few m.most in
      let c = counted s middle in
      let order : start (2 ^ 30) - factor * middle + factor * chroma ≡ start (2 ^ 30) + factor * chroma - factor * middle = omega (arith, c.low) in
      rw (order, rounded-sum 500 (2 ^ 29) lift allowance (counted s chroma) c (omega arith) (omega arith) (omega (arith, m.most)) (omega arith))
      (record { clips = omega arith; least = omega arith; most = omega arith })

pub red_unclipped :
    (middle luma cr : ℕ) → Middle middle → luma ≤ 65535 → cr ≤ 65535
    → Unclipped middle (1000 * luma + 1402 * cr) (1402 * middle) 1000 (luma + ((starts_at middle).red + red_of_cr * cr) / 2 ^ 30)
red_unclipped middle luma cr m l h = one_unclipped 1402 red_of_cr middle luma cr (record { low = omega arith; near = omega arith }) (omega arith) m h l

pub blue_unclipped :
    (middle luma cb : ℕ) → Middle middle → luma ≤ 65535 → cb ≤ 65535
    → Unclipped middle (1000 * luma + 1772 * cb) (1772 * middle) 1000 (luma + ((starts_at middle).blue + blue_of_cb * cb) / 2 ^ 30)
blue_unclipped middle luma cb m l h = one_unclipped 1772 blue_of_cb middle luma cb (record { low = omega arith; near = omega arith }) (omega arith) m h l

-- ---- green: the shares of both chromas are taken away
cb_share : Share 293500 101004 (2 ^ 36) green_of_cb
cb_share = record { low = omega arith; near = omega arith }

cr_share : Share 293500 209599 (2 ^ 36) green_of_cr
cr_share = record { low = omega arith; near = omega arith }

pub green_unclipped :
    (middle luma cb cr : ℕ) → Middle middle → luma ≤ 65535 → cb ≤ 65535 → cr ≤ 65535
    → Unclipped middle (587000 * luma + (202008 + 419198) * middle) (202008 * cb + 419198 * cr) 587000
    (luma + ((starts_at middle).green - (green_of_cb * cb + green_of_cr * cr)) / 2 ^ 36)
unfolding clipped_to nearest
green_unclipped middle luma cb cr m l h k =
    rw (rounded-sum 146750 (2 ^ 35) lift allowance (both (counted cb_share middle) (counted cr_share middle)) (both (counted cb_share cb) (counted cr_share cr)) (omega arith) (omega (arith, m.most)) (omega arith) (omega arith))
    (record { clips = omega (arith, m.most); least = omega (arith, m.most); most = omega (arith, m.most) })

-- ---- three sums tested at once
pub together :
    (a b c limit : ℕ) → bit_or (bit_or a b) c % lift < limit → (a % lift < limit) × (b % lift < limit) × (c % lift < limit)
together a b c limit h =
    let both = low_bits 18 (bit_or a b) c in (
      omega (arith, both, low_bits 18 a b, h),
      omega (arith, both, low_bits 18 b a, or_comm b a, h),
      omega (arith, low_bits 18 c (bit_or a b), or_comm c (bit_or a b), h),
    )

-- A sum that is a code but for the lift needs no clipping.
pub is_code :
    (middle up down den sum : ℕ) → Middle middle → Unclipped middle up down den sum → sum % lift < 2 * middle
    → sum % 65536 ≡ clipped_to (2 * middle - 1) up down den
is_code middle up down den sum m s h = omega (arith, s.clips, s.least, s.most, m.most)
