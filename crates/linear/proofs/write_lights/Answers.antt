-- `linear::write_lights` meets its contract: a code of each depth, times its factor, is a 16-bit code of the same light.
use Prim.Native.Nat.{ℕ, ◌*◌, ◌/◌}
use mathlib.Core.Path.{◌≡◌, sym, ap, ◌∙◌}
use mathlib.Core.List.{List, map}
use Rattle.samples.specs.Samples.{two_by_two}
use Rattle.esrgb.specs.declared.Depth.{Depth}
use Rattle.esrgb.specs.declared.Depth.TheVariants.{Ten, Twelve, Sixteen}
use Rattle.esrgb.specs.Depths.{bits, step}
use Rattle.esrgb.proofs.Scale.{scale}
use Rattle.transfer.specs.Light.{light_of_code}
use Rattle.transfer.proofs.Scaling.{up, up_lights}
use Rattle.linear.proofs.write_lights.Goals as goal

module _ (depth d : Depth) (same : depth ≡ d) where
  lights : (xs : List ℕ) → map (λ (x : ℕ). light_of_code 16 (step 16 / step (bits d) * x)) xs ≡ map (light_of_code (bits depth)) xs
  lights xs = up_lights (bits d) _ (scale d) (up d) xs ∙ ap (λ (e : Depth). map (light_of_code (bits e)) xs) (sym same)

pub returns-in-Ten : goal.returns-in-Ten
returns-in-Ten c =
    rw c.write_multiples.ensures (lights c.args.depth Ten c.in-Ten.is (two_by_two c.args.src.now))

pub returns-in-Twelve : goal.returns-in-Twelve
returns-in-Twelve c =
    rw c.write_multiples-in-Twelve.ensures (lights c.args.depth Twelve c.in-Twelve.is (two_by_two c.args.src.now))

pub returns-in-Sixteen : goal.returns-in-Sixteen
returns-in-Sixteen c =
    rw c.write_multiples-in-Sixteen.ensures (lights c.args.depth Sixteen c.in-Sixteen.is (two_by_two c.args.src.now))
