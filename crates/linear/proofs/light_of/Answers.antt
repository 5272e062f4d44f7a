-- `linear::light_of` meets its contract: the light of the level's size, with the level's sign.
use mathlib.Core.Path.{refl, ◌∙◌}
use native.Mathlib.Omega.{arith}
use native.Mathlib.Nat.{lt_trans}
use lib.Dec.{lit<}
use mir.Syntax.{w32}
use mir.ValLaws.{to_z-of_z}
use Rattle.transfer.specs.Light.{light_of_code}
use Rattle.transfer.proofs.Between.{between-fits}
use Rattle.linear.proofs.light_of.Goals as goal

pub with_sign-requires : goal.with_sign-requires
with_sign-requires c = rw c.light_between.ensures (lt_trans (between-fits _ (omega (arith, c.level_size.ensures))) (lit< tt))

pub returns : goal.returns
unfolding light_of_code
returns c =
    to_z-of_z w32 _ (record { sfits = c.with_sign.type_inv })
    ∙ c.with_sign.ensures
    ∙ rw (c.light_between.ensures, c.level_size.ensures) refl
