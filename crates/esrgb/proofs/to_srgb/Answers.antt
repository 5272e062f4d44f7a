-- `esrgb::to_srgb` meets its contract: the cut of the depth gives the value, which is a byte, and its gamut tells whether the code is clipped.
use mathlib.Core.Path.{◌≡◌}
use native.Mathlib.Omega.{arith}
use Rattle.esrgb.specs.Depths.{bits}
use Rattle.esrgb.specs.Codes.{to_srgb, srgb_value}
use Rattle.esrgb.proofs.Scale.{scale}
use Rattle.esrgb.proofs.Eight.{to_srgb_byte, cut_value}
use Rattle.esrgb.proofs.Held.{outside-clipped}
use Rattle.esrgb.proofs.to_srgb.Goals as goal

value-is : (c : goal.After-apply-value) → let a = c.args in c.apply-value.result ≡ srgb_value (bits a.depth) a.code
value-is c =
    let a = c.args in
    rw (c.apply-value.ensures, c.cut_of.ensures) (cut_value (bits a.depth) a.code (scale a.depth))

clipped-is : (c : goal.After-is_outside) → let a = c.args in c.is_outside.result ≡ (to_srgb (bits a.depth) a.code).clipped
clipped-is c =
    let a = c.args in
    rw (c.is_outside.ensures, c.gamut_of.ensures) (outside-clipped (bits a.depth) a.code (scale a.depth) (omega arith))

pub overflow_cast-value : goal.overflow_cast-value
overflow_cast-value c =
    let a = c.args in omega (arith, value-is c, to_srgb_byte (bits a.depth) a.code)

pub returns : goal.returns
returns c = rw (value-is c.before.before, clipped-is c)
