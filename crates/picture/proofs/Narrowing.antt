-- To sRGB, block by block: what one test of the greatest sample tells, which pixels are counted, and that the blocks make the whole.
-- Assumes nothing.
use Prim.Native.Nat.{ℕ, suc, ◌+◌, ◌*◌, ◌-◌, ◌/◌, ◌%◌, ◌≤◌, ◌<◌, max}
use mathlib.Core.Path.{◌≡◌, refl, sym, ap, ◌∙◌}
use mathlib.Core.Bool.{Bool, true, false, cond, ◌||◌}
use mathlib.Core.List.{List, [], ◌∷◌, ◌++◌, map, append_assoc}
use native.Mathlib.Omega.{arith}
use native.Mathlib.Numerals.{add-one}
use native.Mathlib.Decide.{dec_lt}
use lib.Dec.{ltb}
use lib.ListN.{length, get_or, take, drop, drop_of_length-le, length-append, length-drop, take-append-drop}
use mir.Val.{bool_byte}
use lib.Seq.{drop-cons, drop-drop, length-take-le, take_at}
use borrow.Rule.Slice.PartMut.{post_of, put_mid}
use borrow.Author.Tests.{lt-ltb, le-ltb}
use Rattle.numbers.specs.Counting.{how_many}
use Rattle.numbers.proofs.Booleans.{or_false, or_assoc}
use Rattle.numbers.proofs.Counting.{count-append, count_at}
use Rattle.numbers.proofs.Writing.{Written, written_part}
use Rattle.samples.specs.declared.Pixel.{Pixel}
use Rattle.samples.specs.Samples.{pixel_size, no_pixel, two_by_two, bytes_of, pixels_of, read}
use Rattle.samples.proofs.Buffers.{length-read, two_append, read-append}
use Rattle.esrgb.specs.declared.Gamut.{Gamut}
use Rattle.esrgb.specs.HowApplied.{to_eight, cut_of, gamut_of, above_lowest, outside}
use Rattle.esrgb.proofs.Scale.{Scale}
use Rattle.esrgb.proofs.Held.{outside-clipped}
use Rattle.picture.specs.Convert.{clipped}
use Rattle.picture.specs.HowConverted.{narrowed, some_outside, pixel_outside}

-- ---- samples
ltb_max : (s a b : ℕ) → ltb s (max a b) ≡ ltb s a || ltb s b
ltb_max s a b = elim (dec_lt s a) [
  | yes above ↦ rw (lt-ltb s a above) (lt-ltb s (max a b) (omega arith))
  | no below ↦ elim (dec_lt s b) [
    | yes above ↦ rw (le-ltb s a (omega arith), lt-ltb s b above) (lt-ltb s (max a b) (omega arith))
    | no below-too ↦ rw (le-ltb s a (omega arith), le-ltb s b (omega arith)) (le-ltb s (max a b) (omega arith))
  ]
]

-- With one more sample, the greatest so far tells of it too.
pub sample_more :
    (gamut : Gamut) (xs : List ℕ) (k top : ℕ) → k < length xs
    → ltb gamut.span top || some_outside gamut (drop k xs)
    ≡ ltb gamut.span (max top (above_lowest gamut (get_or xs k 0))) || some_outside gamut (drop (k + 1) xs)
unfolding some_outside
sample_more gamut xs k top h =
    rw (drop-cons xs k 0 h, ltb_max gamut.span top (above_lowest gamut (get_or xs k 0)), add-one k)
    (sym (or_assoc (ltb gamut.span top) (outside gamut (get_or xs k 0)) (some_outside gamut (drop (suc k) xs))))

-- ---- pixels
pub none-counted : (gamut : Gamut) (xs : List ℕ) → some_outside gamut xs ≡ false → how_many (pixel_outside gamut) (pixels_of xs) ≡ 0
unfolding how_many some_outside
none-counted gamut [] h = refl
none-counted gamut (a ∷ []) h = refl
none-counted gamut (a ∷ b ∷ []) h = refl
none-counted gamut (a ∷ b ∷ c ∷ rest) h =
    let first = or_false (outside gamut a) _ h in
    let second = or_false (outside gamut b) _ first.1 in
    let third = or_false (outside gamut c) _ second.1 in
    rw (first.0, second.0, third.0) (omega (arith, none-counted gamut rest third.1))

pub ruleset counts_none = none-counted

-- Of samples of 16 bits, the definition says the same of a pixel.
module _ (n : ℕ) (s : Scale n) where
  pub same_count : (xs : List ℕ) → ((k : ℕ) → get_or xs k 0 ≤ 65535) → how_many (pixel_outside (gamut_of n)) (pixels_of xs) ≡ how_many (clipped n) (pixels_of xs)
  unfolding how_many
  same_count [] h = refl
  same_count (a ∷ []) h = refl
  same_count (a ∷ b ∷ []) h = refl
  same_count (a ∷ b ∷ c ∷ rest) h =
      rw (outside-clipped n a s (omega (arith, h 0)), outside-clipped n b s (omega (arith, h 1)), outside-clipped n c s (omega (arith, h 2)), same_count rest (λ k. h (suc (suc (suc k)))))

-- The pixels of a source, counted from the front: one more, and all.
as_number : (b : Bool) → bool_byte b ≡ cond b 1 0
as_number true = refl
as_number false = refl

pub counted_more :
    (gamut : Gamut) (src : List ℕ) (count j : ℕ) (b : Bool) (p : Pixel) → j < length src / pixel_size true → b ≡ pixel_outside gamut p
    → p ≡ get_or (read true src) j no_pixel → how_many (pixel_outside gamut) (read true src) ≡ count + how_many (pixel_outside gamut) (drop j (read true src))
    → how_many (pixel_outside gamut) (read true src) ≡ count + bool_byte b + how_many (pixel_outside gamut) (drop (j + 1) (read true src))
counted_more gamut src count j b p h e f so-far =
    let ps = read true src in
    let tested : bool_byte b ≡ cond (pixel_outside gamut (get_or ps j no_pixel)) 1 0 = as_number b ∙ ap (λ t. cond t 1 0) (e ∙ ap (pixel_outside gamut) f) in
    omega (arith, so-far, count_at (pixel_outside gamut) ps j no_pixel (rw (length-read true src) h), tested)

pub counted_all :
    (gamut : Gamut) (src : List ℕ) (count j : ℕ) → length src / pixel_size true ≤ j
    → how_many (pixel_outside gamut) (read true src) ≡ count + how_many (pixel_outside gamut) (drop j (read true src))
    → count ≡ how_many (pixel_outside gamut) (read true src)
unfolding how_many
counted_all gamut src count j h so-far =
    let rest : drop j (read true src) ≡ [] = drop_of_length-le (read true src) {i = j} (omega (arith, length-read true src)) in
    sym (so-far ∙ rw rest (omega arith))

-- ---- blocks behind one another
bytes-append : (f : ℕ → ℕ) (xs ys : List ℕ) → bytes_of false (map f (xs ++ ys)) ≡ bytes_of false (map f xs) ++ bytes_of false (map f ys)
bytes-append f [] ys = refl
bytes-append f (x ∷ xs) ys = rw (bytes-append f xs ys)

narrowed-append : (n : ℕ) (xs ys : List ℕ) → length xs % 6 ≡ 0 → narrowed n (xs ++ ys) ≡ narrowed n xs ++ narrowed n ys
narrowed-append n xs ys h = rw (two_append xs ys (omega arith)) (bytes-append (to_eight (cut_of n)) (two_by_two xs) (two_by_two ys))

-- The pixels from i to j of a source that holds them.
abbrev pub block : List ℕ → ℕ → ℕ → List ℕ
block src i j = take (6 * j - 6 * i) (drop (6 * i) src)

module _ (src : List ℕ) (i j : ℕ) (h : i ≤ j) (inside : 6 * j ≤ length src) where
  length-block : length (block src i j) ≡ 6 * (j - i)
  length-block = length-take-le (6 * j - 6 * i) (drop (6 * i) src) (rw (length-drop (6 * i) src) (omega arith)) ∙ omega arith

  pub block-pixels : length (read true (block src i j)) ≡ j - i
  block-pixels = omega (arith, length-read true (block src i j), length-block)

  whole-block : length (block src i j) % 6 ≡ 0
  whole-block = rw length-block (omega arith)

  -- With what is left behind it, it is what was left before it.
  in_two : drop (6 * i) src ≡ block src i j ++ drop (6 * j) src
  in_two =
      let e : 6 * i + (6 * j - 6 * i) ≡ 6 * j = omega arith in
      let rest : drop (6 * j - 6 * i) (drop (6 * i) src) ≡ drop (6 * j) src = rw e at (drop-drop (6 * j - 6 * i) (6 * i) src) in
      rw (← rest) (sym (take-append-drop (6 * j - 6 * i) (drop (6 * i) src)))

  pub count-block :
      (test : Pixel → Bool)
      → how_many test (read true (drop (6 * i) src)) ≡ how_many test (read true (block src i j)) + how_many test (read true (drop (6 * j) src))
  count-block test =
      ap (λ bytes. how_many test (read true bytes)) in_two
      ∙ ap (how_many test) (read-append (block src i j) (drop (6 * j) src) whole-block)
      ∙ count-append test (read true (block src i j)) (read true (drop (6 * j) src))

  -- Its bytes in the destination, between what was there before it and what is behind it.
  pub block_written :
      (n : ℕ) (dst made : List ℕ) → 3 * j ≤ length dst → length made ≡ 3 * j - 3 * i → made ≡ narrowed n (block src i j)
      → Written (narrowed n) src dst (3 * i) (6 * i) → Written (narrowed n) src (put_mid (3 * i) (3 * j - 3 * i) dst made) (3 * j) (6 * j)
  block_written n dst made room size e =
      let behind = post_of (3 * i) (3 * j - 3 * i) dst in
      let front : length (take (3 * i) dst ++ made) ≡ 3 * j =
      length-append (take (3 * i) dst) made ∙ rw (length-take-le (3 * i) dst (omega arith), size) (omega arith) in
      written_part (narrowed n) src (6 * i) (6 * j) (3 * i) (3 * j) dst (put_mid (3 * i) (3 * j - 3 * i) dst made) made
      (rw (← append_assoc (take (3 * i) dst) made behind) (take_at (take (3 * i) dst ++ made) behind (3 * j) front))
      (rw (in_two, narrowed-append n (block src i j) (drop (6 * j) src) whole-block, e))
