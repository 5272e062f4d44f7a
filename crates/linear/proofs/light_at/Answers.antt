-- `linear::light_at` meets its contract: a code in range is a 16-bit code of the same light.
use Prim.Native.Nat.{◌/◌, ◌≤◌}
use mathlib.Core.Path.{ap, ◌∙◌}
use borrow.Author.Tests.{le-ltb}
use mir.Syntax.{w32}
use mir.ValLaws.{to_z-of_z}
use Rattle.esrgb.specs.Depths.{bits, greatest, step}
use Rattle.esrgb.proofs.Scale.{scale, offered-bits}
use Rattle.transfer.proofs.Scaling.{up, same_light}
use Rattle.linear.specs.Operations.{gives}
use Rattle.linear.proofs.light_at.Goals as goal

pub returns : goal.returns
returns c =
    let within : c.args.code ≤ greatest (bits c.args.depth) =
    rw c.greatest_of.ensures at c.if-greatest_of-code.false in
    let n = bits c.args.depth in
    let light = to_z-of_z w32 _ (record { sfits = c.light_of.type_inv }) ∙ c.light_of.ensures in
    let same = same_light n (step 16 / step n) c.args.code (scale c.args.depth) (up c.args.depth) in
    rw (offered-bits c.args.depth, le-ltb _ _ within, ← same, ← c.step_of.ensures) (ap gives light)
