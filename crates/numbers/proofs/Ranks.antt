-- Signed numbers of 16 bits by their rank: the one of rank x is x less 32,768, and ranks are in the order of the numbers.
-- Assumes nothing.
use Prim.Native.Nat.{ℕ, suc, ◌+◌, ◌-◌, ◌≤◌, ◌<◌, ◌^◌, max}
use mathlib.Core.Path.{◌≡◌, sym, ap, ◌∙◌}
use mathlib.Core.Bool.{cond}
use native.Mathlib.Omega.{arith}
use native.Mathlib.Decide.{dec_lt}
use lib.Dec.{ltb}
use lib.IntN.{ℤ, pos, negsuc, sub_ℕ, ◌+ℤ◌}
use lib.Signed.{mag, lt_z}
use mir.Syntax.{Width}
use mir.Val.{SFits, hbits}
use borrow.Author.Tests.{lt-ltb, le-ltb}
use Rattle.numbers.specs.HowRanked.{rank}

-- The signed number of rank x.
abbrev pub ranked : ℕ → ℤ
ranked x = sub_ℕ x 32768

low : (x : ℕ) → x < 32768 → ranked x ≡ negsuc (32768 - suc x)
low x h = rw (lt-ltb x 32768 h)

high : (x : ℕ) → 32768 ≤ x → ranked x ≡ pos (x - 32768)
high x h = rw (le-ltb x 32768 h)

module _ (x : ℕ) (h : x < 65536) where
  ranked_mag : mag (ranked x) < 32768
  ranked_mag = elim (dec_lt x 32768) [
    | yes below ↦ rw (low x below) (omega arith)
    | no above ↦ rw (high x (omega arith)) (omega arith)
  ]

  pub ranked_fits : (w : Width) → 32768 ≤ 2 ^ hbits w → SFits w (ranked x)
  ranked_fits w k = record { sfits = omega (arith, ranked_mag) }

  pub rank_ranked : rank (ranked x) ≡ x
  unfolding rank
  rank_ranked = elim (dec_lt x 32768) [
    | yes below ↦ rw (low x below) (omega arith)
    | no above ↦ rw (high x (omega arith)) (omega arith)
  ]

same_test : (a b c d : ℕ) → (a < b → c < d) → (c < d → a < b) → ltb a b ≡ ltb c d
same_test a b c d to from = elim (dec_lt a b) [
  | yes h ↦ lt-ltb a b h ∙ sym (lt-ltb c d (to h))
  | no h ↦
      let not-less : d ≤ c = elim (dec_lt c d) [ yes k ↦ absurd (h (from k)) | no k ↦ omega arith ] in
      le-ltb a b (omega arith) ∙ sym (le-ltb c d not-less)
]

pub in_order : (t : ℤ) (x : ℕ) → mag t < 32768 → lt_z t (ranked x) ≡ ltb (rank t) x
unfolding rank
in_order (pos n) x h = elim (dec_lt x 32768) [
  | yes below ↦ rw (low x below) (sym (le-ltb (32768 + n) x (omega arith)))
  | no above ↦ rw (high x (omega arith)) (same_test n (x - 32768) (32768 + n) x (λ k. omega arith) (λ k. omega arith))
]
in_order (negsuc n) x h = elim (dec_lt x 32768) [
  | yes below ↦ rw (low x below) (same_test (32768 - suc x) n (32767 - n) x (λ k. omega arith) (λ k. omega arith))
  | no above ↦ rw (high x (omega arith)) (sym (lt-ltb (32767 - n) x (omega arith)))
]

-- The greater of two numbers has the greater rank.
pub highest : (t : ℤ) (x : ℕ) → mag t < 32768 → x < 65536 → rank (cond (lt_z t (ranked x)) (ranked x) t) ≡ max (rank t) x
highest t x h f = elim (dec_lt (rank t) x) [
  | yes less ↦ rw (in_order t x h, lt-ltb (rank t) x less) (omega (arith, rank_ranked x f))
  | no not-less ↦ rw (in_order t x h, le-ltb (rank t) x (omega arith)) (omega arith)
]

-- A rank, worked out from the number in 32 bits.
pub rank-sum : (t : ℤ) → mag t < 32768 → t +ℤ pos 32768 ≡ pos (rank t)
unfolding rank
rank-sum (pos n) h = ap pos (omega arith)
rank-sum (negsuc n) h = rw (le-ltb 32768 (suc n) (omega arith)) (ap pos (omega arith))

pub rank-fits : (t : ℤ) → mag t < 32768 → rank t < 65536
unfolding rank
rank-fits (pos n) h = omega arith
rank-fits (negsuc n) h = omega arith
