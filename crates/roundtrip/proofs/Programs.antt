-- The calls that a program makes, as demand 3 takes them.
-- Assumes nothing.
use Prim.Native.Nat.{ℕ, ◌*◌, ◌+◌, ◌%◌, ◌<◌}
use mathlib.Core.Path.{◌≡◌}
use mathlib.Core.List.{List}
use native.Mathlib.Omega.{arith}
use lib.ListN.{length, get_or}
use Rattle.refusal.specs.Answers.{Said}
use Rattle.samples.proofs.Reading.{pixel-at}
use Rattle.picture.specs.declared.Conversion.TheVariants.{FromSrgb, ToSrgb, ToLumaChroma, FromLumaChroma}
use Rattle.picture.specs.Forms.{srgb}
use Rattle.roundtrip.specs.Pictures.{Channel, first, second, third, channel, pixel_at, Picture}
use Rattle.roundtrip.specs.Calls.{Called, Clips}
use Rattle.roundtrip.specs.Programs.{Trip, BothRuns}
use Rattle.roundtrip.proofs.Demand.{demand3}

pub trip :
    {n : ℕ} {codes b₁ ycc b₂ back : List ℕ} {a₁ a₂ : Said}
    → Called (ToLumaChroma n) codes b₁ ycc a₁ → Called (FromLumaChroma n) ycc b₂ back a₂ → length ycc ≡ length b₁
    → Trip n codes b₁ ycc b₂ back a₁ a₂
trip there again kept = record {
  there = there;
  again = again;
  agrees = λ offered picture r₁ r₂.
      demand3.of_codes _ offered _ _ _ _ _ _ _ picture
      (record { room = omega (arith, picture.whole); called = there })
      (record { room = omega (arith, picture.whole); called = again });
}

-- Whole pixels of bytes are an sRGB picture.
byte_at :
    (bytes : List ℕ) → ((i : ℕ) → get_or bytes i 0 < 256) → (j : ℕ) → 3 * j + 2 < length bytes → (k : Channel)
    → channel k (pixel_at srgb bytes j) < 256
byte_at bytes byte j h first = rw (pixel-at bytes j h) (byte (3 * j))
byte_at bytes byte j h second = rw (pixel-at bytes j h) (byte (3 * j + 1))
byte_at bytes byte j h third = rw (pixel-at bytes j h) (byte (3 * j + 2))

picture_of_lem : (bytes : List ℕ) → ((i : ℕ) → get_or bytes i 0 < 256) → length bytes % 3 ≡ 0 → Picture srgb bytes
picture_of_lem bytes byte whole = record {
  whole = whole;
  codes = λ j h k. byte_at bytes byte j (omega arith) k;
}

pub both_runs :
    {n : ℕ} {picture b₀ codes b₁ ycc b₂ back b₃ direct b₄ round : List ℕ} {a₀ a₁ a₂ a₃ a₄ : Said} {k₃ k₄ : ℕ}
    → ((i : ℕ) → get_or picture i 0 < 256) → length codes ≡ length b₀ → length ycc ≡ length b₁ → length back ≡ length b₂
    → Called (FromSrgb n) picture b₀ codes a₀ → Trip n codes b₁ ycc b₂ back a₁ a₂
    → Called (ToSrgb n) codes b₃ direct a₃ → Clips n codes b₃ k₃ → Called (ToSrgb n) back b₄ round a₄ → Clips n back b₄ k₄
    → BothRuns n picture b₀ codes b₁ ycc b₂ back b₃ direct b₄ round a₀ a₁ a₂ a₃ a₄ k₃ k₄
both_runs {picture = picture} byte l₀ l₁ l₂ made trip direct-back direct-clips round-back round-clips = record {
  made = made;
  trip = trip;
  direct-back = direct-back;
  direct-clips = direct-clips;
  round-back = round-back;
  round-clips = round-clips;
  agrees = λ offered whole rooms.
      demand3.of_srgb _ offered _ _ _ _ _ _ _ _ _ _ _ _ _ _ _ _ _ _ (picture_of_lem picture byte whole)
      (record { room = omega (arith, rooms); called = made })
      (record { room = omega (arith, rooms); called = trip.there })
      (record { room = omega (arith, rooms); called = trip.again })
      (record { room = omega (arith, rooms); called = direct-back })
      direct-clips
      (record { room = omega (arith, rooms); called = round-back })
      round-clips;
}
