-- The least rank of four tints is that of the tint that the pixel takes, and tells its number.
-- Assumes nothing.
use Prim.Native.Nat.{ℕ, ◌%◌, ◌≤◌, ◌<◌, min}
use mathlib.Core.Path.{◌≡◌, ap, ◌∙◌}
use mathlib.Core.List.{List}
use native.Mathlib.Omega.{arith}
use Rattle.samples.specs.declared.Pixel.{Pixel}
use Rattle.esrgb.specs.declared.Depth.TheVariants.{Twelve}
use Rattle.esrgb.specs.Depths.{greatest}
use Rattle.esrgb.proofs.Scale.{scale}
use Rattle.lumachroma.proofs.Pixel.{luma_bounds}
use Rattle.stickers.specs.declared.Four.{Four}
use Rattle.stickers.specs.Distances.{tint, tint_luma, winner, nearest}
use Rattle.stickers.specs.Choices.{tint_count, tint_of}
use Rattle.stickers.specs.Promise.{Ascending}
use Rattle.stickers.specs.HowSummed.{TintCodes}
use Rattle.stickers.specs.HowTaken.{tie_rank, rank_span, rank}
use Rattle.stickers.proofs.Nearest.{winner-is, winners_below, tint-codes}

module _ (tints : List ℕ) (codes : TintCodes tints) where
  pub luma_small : (t : ℕ) → t < tint_count → tint_luma tints t ≤ greatest 12
  unfolding tint_luma
  luma_small t h =
      let q = tint tints t in
      let c = tint-codes tints codes t h in
      omega (arith, (luma_bounds 12 q.first q.second q.third (scale Twelve) (omega (arith, c.0)) (omega (arith, c.1)) (omega (arith, c.2))).most)

  pub tie_rank_small : (t : ℕ) → t < tint_count → tie_rank tints t < rank_span
  unfolding tie_rank
  tie_rank_small t h = omega (arith, luma_small t h)

module _ (tints : List ℕ) (codes : TintCodes tints) (p : Pixel) where
  winner-rank : (x y : ℕ) → x < y → y < tint_count → rank tints p (winner tints p x y) ≡ min (rank tints p x) (rank tints p y)
  unfolding rank tie_rank
  winner-rank x y h l =
      let few = luma_small tints codes x (omega arith) in
      let few' = luma_small tints codes y l in
      winner-is tints p (λ t. rank tints p t ≡ min (rank tints p x) (rank tints p y)) x y (λ n. omega arith) (λ e d. omega arith) (λ e d. omega arith) (λ n. omega arith)

  -- Of ranks that are those of a set's first tints, and of a tint with a higher number.
  ranked_more :
      (x y r s m : ℕ) → x < y → y < tint_count → r ≡ rank tints p x → s ≡ rank tints p y → m ≡ min r s → m ≡ rank tints p (winner tints p x y)
  ranked_more x y r s m h l is_x is_y least = omega (arith, winner-rank x y h l)

  number_of_rank : (t : ℕ) → t < tint_count → rank tints p t % tint_count ≡ t
  unfolding rank tie_rank
  number_of_rank t h = omega arith

module _ (tints : List ℕ) (codes : TintCodes tints) (p : Pixel) (f : Four) (h : Ascending f) where
  -- Ranks of the four one after another, the least of those up to each, and what the last leaves.
  pub ranked :
      (a b c d two three four t : ℕ)
      → a ≡ rank tints p f.first → b ≡ rank tints p f.second → c ≡ rank tints p f.third → d ≡ rank tints p f.fourth
      → two ≡ min a b → three ≡ min two c → four ≡ min three d → t ≡ four % tint_count → t ≡ tint_of tints f p
  unfolding nearest
  ranked a b c d two three four t is-a is_b is_c is-d is-two is-three is-four is =
      let x = winner tints p f.first f.second in
      let y = winner tints p x f.third in
      let z = winner tints p y f.fourth in
      let below = winners_below tints p f h in
      let first = ranked_more tints codes p f.first f.second a b two h.low (omega (arith, h.middle, h.high, h.there)) is-a is_b is-two in
      let second = ranked_more tints codes p x f.third two c three below.0 (omega (arith, h.high, h.there)) first is_c is-three in
      let third = ranked_more tints codes p y f.fourth three d four below.1 h.there second is-d is-four in
      is ∙ ap (λ n. n % tint_count) third ∙ number_of_rank tints codes p z below.2
