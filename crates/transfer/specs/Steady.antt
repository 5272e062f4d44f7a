-- What codes keep when light is moved, and which of two codes has more light (rules 6.10 and 6.11).
-- Assumes nothing.
use Rattle.std.specs.Prelude.{ℕ, ◌≤◌, ◌<◌, ◌≡◌, true, cond, eqb, ℤ, nat_abs, ◌+ℤ◌, ◌<ℤ◌}
use Rattle.esrgb.specs.Depths.{offered, greatest}
use Rattle.transfer.specs.Light.{light_of_code}
use Rattle.transfer.specs.Level.{offers_codes, code_of_light}

-- Rule 6.10: by how many millionths light may be moved, up or down, at 10 bits and at 12.
abbrev pub most_moved : ℕ → ℕ
most_moved n = cond (eqb n 10) 72 18

-- Rule 6.10, of depth n: light taken from any code, and moved by no more than that, has the same code.
abbrev pub SteadyAt : ℕ → Type 0
SteadyAt n =
    (code : ℕ) → code ≤ greatest n → (move : ℤ) → nat_abs move ≤ most_moved n → code_of_light n (light_of_code n code +ℤ move) ≡ code

-- Rule 6.11: of two codes up to the top one, the higher has more light.
abbrev pub Rises : (ℕ → ℤ) → ℕ → Type 0
Rises light top = (low high : ℕ) → low < high → high ≤ top → light low <ℤ light high

-- Both, at each depth that has codes of light, and at each depth that has light.
pub record Steady : Type 0 where
  pub back : (n : ℕ) → offers_codes n ≡ true → SteadyAt n

pub record Rising : Type 0 where
  pub more : (n : ℕ) → offered n ≡ true → Rises (light_of_code n) (greatest n)
