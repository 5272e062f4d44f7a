-- Calls of Convert, each on buffers as the calls before left them.
-- Assumes nothing.
use Rattle.std.specs.Prelude.{ℕ, ◌≡◌, List, length}
use Rattle.refusal.specs.Answers.{Said}
use Rattle.picture.specs.declared.Conversion.{Conversion}
use Rattle.picture.specs.declared.Conversion.TheVariants.{ToSrgb}
use Rattle.picture.specs.Convert.{needed, convert_says, convert_bytes, convert_clips}

-- What a call answers, and what it leaves in a destination that held anything before.
pub record Called (c : Conversion) (src before after : List ℕ) (answer : Said) : Type 0 where
  pub says : answer ≡ convert_says c src (length before)
  pub bytes : after ≡ convert_bytes c src before

-- A call whose destination has the length that it needs.
pub record Call (c : Conversion) (src before after : List ℕ) (answer : Said) : Type 0 where
  pub room : length before ≡ needed c src
  pub called : Called c src before after answer

-- How many clipped pixels a call to sRGB gives (rule 4.6).
abbrev pub Clips : ℕ → List ℕ → List ℕ → ℕ → Type 0
Clips n src before clipped = clipped ≡ convert_clips (ToSrgb n) src (length before)
