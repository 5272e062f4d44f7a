-- The depths of e-sRGB codes, and the numbers of a depth (rules 1.1 to 1.5; PIMA 7667, 4.4.3 and A1).
-- Assumes nothing.
use Rattle.std.specs.Prelude.{ℕ, ◌+◌, ◌-◌, ◌*◌, ◌^◌, ◌≡◌, Bool, false, ◌||◌, eqb, Result, Ok, Err}
use Rattle.refusal.specs.declared.Refusal.{Refusal}
use Rattle.refusal.specs.declared.Refusal.TheVariants.{DepthNotOffered}
use Rattle.esrgb.specs.declared.Depth.{Depth}
use Rattle.esrgb.specs.declared.Depth.TheVariants.{Ten, Twelve, Sixteen}

-- Rule 1.1.
abbrev pub offered : ℕ → Bool
offered n = eqb n 10 || (eqb n 12 || eqb n 16)

abbrev pub bits : Depth → ℕ
bits Ten = 10
bits Twelve = 12
bits Sixteen = 16

-- What a number of bits names: a depth that is offered, or none, which is refused.
abbrev pub Names : ℕ → Result Depth Refusal → Type 0
Names n (Ok d) = n ≡ bits d
Names n (Err r) = (offered n ≡ false) × (r ≡ DepthNotOffered)

-- Rule 1.2: the greatest code.
abbrev pub greatest : ℕ → ℕ
greatest n = 2 ^ n - 1

-- The middle code (rule 2.4).
abbrev pub middle : ℕ → ℕ
middle n = 2 ^ (n - 1)

-- Rule 1.4: the code of level 0.
abbrev pub offset : ℕ → ℕ
offset n = 2 ^ (n - 2) + 2 ^ (n - 3)

-- Rule 1.3: how many codes lie from one 8-bit value to the next.
abbrev pub step : ℕ → ℕ
step n = 2 ^ (n - 9)

-- Rule 1.5: the level of white.
abbrev pub scale : ℕ → ℕ
scale n = 255 * step n
