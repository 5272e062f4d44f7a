-- A text that grows in a lent buffer, and what a step adds to it.
-- Assumes nothing.
use Rattle.std.specs.Prelude.{ℕ, List, ◌≡◌}
use Rattle.listing.specs.declared.Text.{Text}
use Rattle.listing.specs.Text.{Buffer, put_text}

-- The buffer, and the place behind the text so far.
abbrev pub shown : Text → Buffer
shown t = record { bytes = t.bytes.now; at = t.at }

-- From t to t' so many bytes are added, in the same lent buffer.
pub record Adds (t : Text) (xs : List ℕ) (t' : Text) : Type 0 where
  pub same : t'.bytes.ghost_name ≡ t.bytes.ghost_name
  pub text : shown t' ≡ put_text (shown t) xs
