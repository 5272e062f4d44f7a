-- `picture::fill_srgb` meets its contract: blocks of whole pixels, counted and written one behind the other.
use Prim.Native.Nat.{ℕ, ◌+◌, ◌*◌, ◌-◌, ◌/◌, ◌≤◌, ◌<◌}
use mathlib.Core.Path.{◌≡◌, refl, sym, ◌∙◌}
use mathlib.Core.Bool.{Bool, true}
use mathlib.Core.List.{List, []}
use native.Mathlib.Omega.{arith}
use lib.ListN.{length, get_or, take, drop, length-drop, drop_of_length-le}
use lib.Seq.{length-take-le}
use borrow.Rule.Slice.PartMut.{put_mid, same_len_mid}
use Rattle.numbers.specs.Counting.{how_many}
use Rattle.numbers.proofs.Counting.{count_most}
use Rattle.numbers.proofs.Writing.{Written, written_all}
use Rattle.samples.specs.declared.Pixel.{Pixel}
use Rattle.samples.specs.Samples.{two_by_two, read}
use Rattle.samples.proofs.Buffers.{length-read}
use Rattle.samples.proofs.Judging.{two_below}
use Rattle.esrgb.specs.declared.Depth.{Depth}
use Rattle.esrgb.specs.Depths.{bits}
use Rattle.esrgb.specs.HowApplied.{gamut_of}
use Rattle.esrgb.proofs.Scale.{scale}
use Rattle.picture.specs.Convert.{clipped}
use Rattle.picture.specs.HowConverted.{narrowed, block_size, pixel_outside}
use Rattle.picture.proofs.Narrowing.{same_count, block, block-pixels, count-block, block_written}
use Rattle.picture.proofs.fill_srgb.Goals as goal

-- A turn, from the pixel i where it starts to the end j of its block: the source has the block, and the destination room for it.
record Turn (src dst : List ℕ) (i j : ℕ) : Type 0 where
  further : i < j
  few : j - i ≤ block_size
  inside : 6 * j ≤ length src
  room : 3 * j ≤ length dst

part_room : {src dst : List ℕ} {i j : ℕ} → Turn src dst i j → length (take (3 * j - 3 * i) (drop (3 * i) dst)) ≡ 3 * j - 3 * i
part_room {src} {dst} {i} {j} t =
    length-take-le (3 * j - 3 * i) (drop (3 * i) dst) (rw (length-drop (3 * i) dst) (omega (arith, t.room)))

-- once its block is counted
more :
    {src dst : List ℕ} {i j : ℕ} (test : Pixel → Bool) (all count new : ℕ) → Turn src dst i j → new ≡ how_many test (read true (block src i j))
    → all ≡ count + how_many test (read true (drop (6 * i) src)) → all ≡ count + new + how_many test (read true (drop (6 * j) src))
more {src} {dst} {i} {j} test all count new t e so-far = omega (arith, so-far, e, count-block src i j (omega (arith, t.further)) t.inside test)

-- once its bytes are written
written :
    {src dst : List ℕ} {i j : ℕ} (t : Turn src dst i j) (d : Depth) (made : List ℕ) → length made ≡ length (take (3 * j - 3 * i) (drop (3 * i) dst))
    → made ≡ narrowed (bits d) (block src i j) → Written (narrowed (bits d)) src dst (3 * i) (6 * i)
    → Written (narrowed (bits d)) src (put_mid (3 * i) (3 * j - 3 * i) dst made) (3 * j) (6 * j)
written {src} {dst} {i} {j} t d made size e so-far =
    block_written src i j (omega (arith, t.further)) t.inside (bits d) dst made t.room (size ∙ part_room t) e so-far

-- behind the last block, all is counted
counted :
    (d : Depth) (src : List ℕ) (count i : ℕ) → ((k : ℕ) → get_or src k 0 < 256) → 6 * i ≡ length src
    → how_many (pixel_outside (gamut_of (bits d))) (read true src) ≡ count + how_many (pixel_outside (gamut_of (bits d))) (read true (drop (6 * i) src))
    → count ≡ how_many (clipped (bits d)) (read true src)
unfolding how_many
counted d src count i byte end so-far =
    let rest : drop (6 * i) src ≡ [] = drop_of_length-le src {i = 6 * i} (omega arith) in
    sym (so-far ∙ rw rest (omega arith)) ∙ same_count (bits d) (scale d) (two_by_two src) (two_below src byte)

pub narrow_block-count-requires-clause-few : goal.narrow_block-count-requires-clause-few
narrow_block-count-requires-clause-few c =
    let size : length c.args.src.now / c.pixel_size.result ≡ length c.args.src.now / 6 = rw c.pixel_size.ensures in
    omega (arith, block-pixels c.args.src.now c.loop-start.start (c.loop-start.start + c.min.result) (omega arith) (omega arith))

pub overflow_add-count : goal.overflow_add-count
overflow_add-count c =
    let a = c.args in
    let test = pixel_outside (gamut_of (bits a.depth)) in
    let size : length a.src.now / c.pixel_size.result ≡ length a.src.now / 6 = rw c.pixel_size.ensures in
    let t : Turn a.src.now c.loop-start.dst c.loop-start.start (c.loop-start.start + c.min.result) =
    record { further = omega arith; few = omega arith; inside = omega arith; room = omega arith } in
    let next = more test _ c.loop-start.count _ t c.narrow_block-count.ensures.count c.loop-start.invariant.2 in
    record { fits = omega (arith, next, count_most test (read true a.src.now), length-read true a.src.now) }

pub loop-start-preserved : goal.loop-start-preserved
loop-start-preserved c =
    let a = c.args in
    let i : ℕ = c.loop-start.start in
    let test = pixel_outside (gamut_of (bits a.depth)) in
    let size : length a.src.now / c.pixel_size.result ≡ length a.src.now / 6 = rw c.pixel_size.ensures in
    let end : i + 16384 ≡ (c.loop-start.start + c.min.result) = omega arith in
    let t : Turn a.src.now c.loop-start.dst i (c.loop-start.start + c.min.result) = record { further = omega arith; few = omega arith; inside = omega arith; room = omega arith } in
    rw end (
      omega arith,
      written t a.depth _ c.narrow_block-count.auto.dst c.narrow_block-count.ensures.bytes c.loop-start.invariant.1,
      more test _ c.loop-start.count _ t c.narrow_block-count.ensures.count c.loop-start.invariant.2,
    )

pub returns-clause-count : goal.returns-clause-count
returns-clause-count c =
    let a = c.args in
    let size : length a.src.now / c.pixel_size.result ≡ length a.src.now / 6 = rw c.pixel_size.ensures in
    counted a.depth a.src.now _ c.loop-start.start (λ k. (c.type_inv.src k).fits) (omega (arith, c.requires.whole)) c.loop-start.invariant.2

pub returns-2-clause-bytes : goal.returns-2-clause-bytes
returns-2-clause-bytes c =
    let a = c.args in
    let i : ℕ = c.loop-start.start in
    let j : ℕ = (c.loop-start.start + c.min.result) in
    let size : length a.src.now / c.pixel_size.result ≡ length a.src.now / 6 = rw c.pixel_size.ensures in
    let t : Turn a.src.now c.loop-start.dst i j = record { further = omega arith; few = omega arith; inside = omega arith; room = omega arith } in
    let kept = same_len_mid (3 * i) (3 * j - 3 * i) c.loop-start.dst c.narrow_block-count.new.dst c.narrow_block-count.auto.dst in
    written_all (narrowed (bits a.depth)) a.src.now _ (3 * j) (6 * j) refl (omega (arith, c.requires.whole)) (omega (arith, kept, c.loop-start.auto.dst, c.requires))
    (written t a.depth _ c.narrow_block-count.auto.dst c.narrow_block-count.ensures.bytes c.loop-start.invariant.1)

pub returns-2-clause-count : goal.returns-2-clause-count
returns-2-clause-count c =
    let a = c.args in
    let j : ℕ = (c.loop-start.start + c.min.result) in
    let test = pixel_outside (gamut_of (bits a.depth)) in
    let size : length a.src.now / c.pixel_size.result ≡ length a.src.now / 6 = rw c.pixel_size.ensures in
    let t : Turn a.src.now c.loop-start.dst c.loop-start.start j = record { further = omega arith; few = omega arith; inside = omega arith; room = omega arith } in
    counted a.depth a.src.now _ j (λ k. (c.type_inv.src k).fits) (omega (arith, c.requires.whole))
    (more test _ c.loop-start.count _ t c.narrow_block-count.ensures.count c.loop-start.invariant.2)
