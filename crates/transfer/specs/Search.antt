-- The last number that passes a test.
-- Assumes nothing.
use Rattle.std.specs.Prelude.{ℕ, zero, suc, Bool, cond}

-- The greatest number from 1 to the bound that passes, or 0 if none does. Where the rules use it, the bound never decides:
-- proofs/Bounds.antt shows that.
unfoldable pub last_passing : (ℕ → Bool) → ℕ → ℕ
last_passing passes zero = zero
last_passing passes (suc k) = cond (passes (suc k)) (suc k) (last_passing passes k)
