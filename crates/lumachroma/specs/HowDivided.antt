-- How the code divides: luma and chroma by an estimate and what it leaves, and a channel on the way back, which is clipped. The quotient
-- of a chroma is signed, (up − down) / den.
-- Assumes nothing.
use Rattle.std.specs.Prelude.{ℕ, ◌+◌, ◌-◌, ◌*◌, ◌/◌, ◌%◌, ◌^◌, ◌≤◌, ◌<◌, min, ◌≡◌}
use Rattle.numbers.specs.Rounding.{nearest_down, clipped_to}
use Rattle.samples.specs.declared.Pixel.{Pixel}
use Rattle.lumachroma.specs.declared.Starts.{Starts}

-- What 16 bits hold.
abbrev pub span : ℕ
span = 65536

-- What the quotient of a chroma stands too high, so that it is not below 0: the middle code of 16 bits. An estimate of it starts two
-- lower, because two shares that are rounded down are taken away.
abbrev pub bias : ℕ
bias = 32768

abbrev pub estimate_bias : ℕ
estimate_bias = 32766

-- The shares that rule 2.3 gives the other two channels in a chroma, in 65,536ths.
abbrev pub cb_of_red : ℕ
cb_of_red = 11058

abbrev pub cb_of_green : ℕ
cb_of_green = 21710

abbrev pub cr_of_green : ℕ
cr_of_green = 27439

abbrev pub cr_of_blue : ℕ
cr_of_blue = 5329

-- 1000 times luma, not rounded.
abbrev pub weighted : Pixel → ℕ
weighted p = 299 * p.first + 587 * p.second + 114 * p.third

-- The quotient is within 32767.5 of 0, as it is for 16-bit samples whose weights on either side add up to half of den. A difference of
-- 500, by which rounding can change 1000 times luma, makes no tie.
pub record InRange (up down den : ℕ) : Type 0 where
  pub even : den % 2 ≡ 0
  pub some : 1002 ≤ den
  pub few : den ≤ 2000
  pub above : up ≤ down + 65535 * (den / 2)
  pub below : down ≤ up + 65535 * (den / 2)
  pub fits : up ≤ 65535000

-- What is divided by den: up − down with the bias and the half that rounds, ties upward. One less, ties go downward.
abbrev pub biased_dividend : ℕ → ℕ → ℕ → ℕ
biased_dividend up down den = den * bias + den / 2 + up - down

-- An estimate of dividend / den, and of one less over den: it is not too great, and what it leaves fits into 16 bits.
pub record Estimates (dividend den estimate : ℕ) : Type 0 where
  pub low : den * estimate < dividend
  pub near : dividend < den * estimate + span

-- What an estimate of a quotient leaves of its dividend, in the last 16 bits.
unfoldable pub rest_of : ℕ → ℕ → ℕ → ℕ
rest_of dividend den estimate = (dividend + den * span - den * estimate) % span

-- q is the quotient to the nearest, ties towards zero, plus the bias.
pub record Biased (up down den q : ℕ) : Type 0 where
  pub rounded : q + nearest_down (down - up) den ≡ bias + nearest_down (up - down) den
  pub fits : q < span

-- A number that can be the middle code of a depth.
pub record Middle (middle : ℕ) : Type 0 where
  pub some : 1 ≤ middle
  pub most : middle ≤ 32768

-- What a sum stands too high until it is clipped.
abbrev pub lift : ℕ
lift = 262144

-- Where a sum starts, in units: half a unit rounds it, and the allowance makes up for factors that are rounded down.
abbrev pub allowance : ℕ
allowance = 65536

abbrev pub start : ℕ → ℕ
start unit = lift * unit + unit / 2 + allowance

-- The factors: the shares that rule 2.5 gives a chroma in red, blue and green, in 2^30ths and for green in 2^36ths.
abbrev pub red_of_cr : ℕ
red_of_cr = 1505386037

abbrev pub blue_of_cb : ℕ
blue_of_cb = 1902670512

abbrev pub green_of_cb : ℕ
green_of_cb = 23648865513

abbrev pub green_of_cr : ℕ
green_of_cr = 49075071905

-- Where the sums start that count a chroma from this middle code.
abbrev pub starts_at : ℕ → Starts
starts_at middle =
    record {
      red = start (2 ^ 30) - red_of_cr * middle;
      green = start (2 ^ 36) + (green_of_cb * middle + green_of_cr * middle);
      blue = start (2 ^ 30) - blue_of_cb * middle;
    }

-- The sum is the quotient (up − down) / den to the nearest, plus the lift. Where that is no code, it is none on the same side: the greatest
-- code is one below twice the middle.
pub record Unclipped (middle up down den sum : ℕ) : Type 0 where
  pub clips : min (2 * middle - 1) (sum - lift) ≡ clipped_to (2 * middle - 1) up down den
  pub least : 65536 ≤ sum
  pub most : sum < 2 * lift
