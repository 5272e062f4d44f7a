-- Signed numbers of 16 bits in their order: the least of them, -32,768, has rank 0.
-- Assumes nothing.
use Rattle.std.specs.Prelude.{ℕ, ◌+◌, ◌-◌, ℤ, pos, negsuc}

-- `negsuc n` is -1 - n.
unfoldable pub rank : ℤ → ℕ
rank (pos n) = 32768 + n
rank (negsuc n) = 32767 - n
