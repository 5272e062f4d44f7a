-- Sums of light and its move, clipped to 32 bits; and lists of them.
-- Assumes nothing.
use Prim.Native.Nat.{ℕ, suc, ◌+◌, ◌/◌, ◌%◌, ◌≤◌, ◌<◌}
use mathlib.Core.Path.{◌≡◌, refl, sym, ap, ◌∙◌}
use mathlib.Core.Bool.{true, false, false≢true}
use mathlib.Core.List.{List, [], ◌∷◌, ◌++◌, append-nil, zip_with}
use native.Mathlib.Omega.{arith}
use native.Mathlib.Nat.{min-eq_left, min-eq_right, min_comm}
use native.Mathlib.Numerals.{add-one}
use borrow.Author.Tests.{ltb-true, ltb-false}
use lib.IntN.{ℤ, pos, negsuc, nat_abs, ◌+ℤ◌}
use lib.ListN.{length, get_or, take, drop, set, drop_of_length-le}
use lib.Seq.{take_all, drop-cons, append_snoc, drop-set-lt}
use lib.Signed.{mag, lt_z, nat_abs-le}
use mir.Syntax.{w32, w64}
use mir.Val.{SFits, to_z, of_z}
use mir.ValLaws.{to_z-of_z}
use Rattle.numbers.specs.Bytes.{little_endian, low_bytes, AllBytes}
use Rattle.numbers.proofs.Bytes.{two_held}
use Rattle.numbers.proofs.Sign.{sum-size}
use Rattle.numbers.proofs.Writing.{take-one}
use Rattle.samples.specs.Samples.{two_by_two}
use Rattle.esrgb.specs.Depths.{greatest}
use Rattle.transfer.specs.Light.{greatest_light, light_of_code}
use Rattle.transfer.specs.Level.{offers_codes, code_of_light}
use Rattle.transfer.specs.Steady.{most_moved}
use Rattle.transfer.proofs.Steady.{steady, moved-fits}
use Rattle.linear.specs.Moved.{clipped, moved, moved_codes}
use Rattle.linear.proofs.Sign.{read, read_fits}
use Rattle.std.specs.Int.{saturate_signed}

-- ---- clipped
pub clip_none : (z : ℤ) → mag z ≤ greatest_light → clipped z ≡ z
clip_none (pos k) h = ap pos (min-eq_right h)
clip_none (negsuc k) h = ap negsuc (min-eq_right h)

-- A sum that stops at the ends of 32 bits is clipped to them.
pub saturated : (z : ℤ) → saturate_signed w32 z ≡ clipped z
saturated (pos k) = ap pos (min_comm k greatest_light)
saturated (negsuc k) = ap negsuc (min_comm k greatest_light)

below-least : (z : ℤ) → lt_z z (negsuc greatest_light) ≡ true → clipped z ≡ negsuc greatest_light
below-least (pos k) e = absurd (false≢true e)
below-least (negsuc k) e =
    let less : greatest_light < k = ltb-true _ _ e in
    ap negsuc (min-eq_left (omega arith))

above-greatest : (z : ℤ) → lt_z (pos greatest_light) z ≡ true → clipped z ≡ pos greatest_light
above-greatest (pos k) e =
    let more : greatest_light < k = ltb-true _ _ e in
    ap pos (min-eq_left (omega arith))
above-greatest (negsuc k) e = absurd (false≢true e)

within : (z : ℤ) → lt_z z (negsuc greatest_light) ≡ false → lt_z (pos greatest_light) z ≡ false → mag z ≤ greatest_light
within (pos k) low high = ltb-false _ _ high
within (negsuc k) low high = ltb-false _ _ low

-- ---- as 64 bits compute it
wide : (z : ℤ) → SFits w32 z → to_z w64 (of_z w64 (to_z w32 (of_z w32 z))) ≡ z
wide z f = to_z-of_z w64 _ (read_fits z f) ∙ read z f

module _ (x y : ℤ) (f : SFits w32 x) (g : SFits w32 y) where
  abbrev sum : ℤ
  sum = to_z w64 (of_z w64 (to_z w32 (of_z w32 x))) +ℤ to_z w64 (of_z w64 (to_z w32 (of_z w32 y)))

  sum_is : sum ≡ x +ℤ y
  sum_is = rw (wide x f, wide y g)

  pub sum_fits : SFits w64 sum
  sum_fits = rw sum_is (record { sfits = omega (arith, sum-size x y, nat_abs-le x f.sfits, nat_abs-le y g.sfits) })

  abbrev held : ℤ
  held = to_z w64 (of_z w64 sum)

  held_is : held ≡ x +ℤ y
  held_is = to_z-of_z w64 _ sum_fits ∙ sum_is

  pub sum_low : lt_z held (negsuc greatest_light) ≡ true → negsuc greatest_light ≡ moved x y
  sum_low e = sym (below-least (x +ℤ y) (rw held_is at e))

  pub sum-high : lt_z (pos greatest_light) held ≡ true → pos greatest_light ≡ moved x y
  sum-high e = sym (above-greatest (x +ℤ y) (rw held_is at e))

  module _ (low : lt_z held (negsuc greatest_light) ≡ false) (high : lt_z (pos greatest_light) held ≡ false) where
    inside : mag (x +ℤ y) ≤ greatest_light
    inside = within (x +ℤ y) (rw held_is at low) (rw held_is at high)

    pub sum_narrow : SFits w32 held
    sum_narrow = rw held_is (record { sfits = omega (arith, inside) })

    pub sum_kept : to_z w32 (of_z w32 held) ≡ moved x y
    sum_kept = to_z-of_z w32 _ sum_narrow ∙ held_is ∙ sym (clip_none _ inside)

-- ---- light that a loop moves from the front: what is moved, and what is left, give the whole
abbrev pub MovedTo : List ℤ → List ℤ → List ℤ → ℕ → Type 0
MovedTo moves before light k = take k light ++ zip_with moved (drop k light) (drop k moves) ≡ zip_with moved before moves

pub moved_more :
    (moves before light : List ℤ) (k : ℕ) (x : ℤ) → k < length light → k < length moves → x ≡ moved (get_or light k (pos 0)) (get_or moves k (pos 0))
    → MovedTo moves before light k → MovedTo moves before (set light k x) (k + 1)
unfolding zip_with
moved_more moves before light k x h l e t =
    rw (take-one light k x h, add-one k, drop-set-lt (suc k) light k x (omega arith), append_snoc (take k light) x (zip_with moved (drop (suc k) light) (drop (suc k) moves)), e)
    (rw (drop-cons light k (pos 0) h, drop-cons moves k (pos 0) l) at t)

pub moved_all :
    (moves before light : List ℤ) (k : ℕ) → length light ≤ k → MovedTo moves before light k → light ≡ zip_with moved before moves
unfolding zip_with
moved_all moves before light k h t = rw (take_all k light h, drop_of_length-le light {i = k} h, append-nil light) at t

-- ---- a picture whose light is moved by no more than rule 6.10 allows comes back
module _ (n : ℕ) (o : offers_codes n ≡ true) where
  same_code : (x : ℕ) (move : ℤ) → x ≤ greatest n → nat_abs move ≤ most_moved n → code_of_light n (moved (light_of_code n x) move) ≡ x
  same_code x move h l =
      ap (code_of_light n) (clip_none (light_of_code n x +ℤ move) (moved-fits n o x h move l)) ∙ steady.back n o x h move l

  pub same_codes :
      (codes : List ℕ) (moves : List ℤ) → length codes % 2 ≡ 0 → length moves ≡ length codes / 2 → AllBytes codes
      → ((k : ℕ) → get_or (two_by_two codes) k 0 ≤ greatest n) → ((k : ℕ) → nat_abs (get_or moves k (pos 0)) ≤ most_moved n)
      → moved_codes n codes moves ≡ codes
  unfolding zip_with
  same_codes [] moves even long byte sound small = refl
  same_codes (low ∷ []) moves even long byte sound small = absurd (omega arith)
  same_codes (low ∷ high ∷ rest) [] even long byte sound small = absurd (omega arith)
  same_codes (low ∷ high ∷ rest) (move ∷ moves) even long byte sound small =
      let x = little_endian (low ∷ high ∷ []) in
      let first : low_bytes 2 (code_of_light n (moved (light_of_code n x) move)) ≡ low ∷ high ∷ [] =
      ap (low_bytes 2) (same_code x move (sound 0) (small 0)) ∙ two_held low high (byte 0) (byte 1) in
      let others = same_codes rest moves (omega arith) (omega arith) (λ i. byte (suc (suc i))) (λ k. sound (suc k)) (λ k. small (suc k)) in
      λ i. first i ++ others i
