-- `lumachroma::luma_of` meets its contract: the shares estimate the quotient.
use mathlib.Core.Path.{◌≡◌, ◌∙◌}
use Prim.Native.Nat.{ℕ, ◌+◌, ◌*◌, ◌/◌}
use native.Mathlib.Omega.{arith}
use Rattle.numbers.specs.Rounding.{nearest}
use Rattle.lumachroma.specs.LumaChroma.{luma}
use Rattle.lumachroma.specs.HowDivided.{weighted}
use Rattle.lumachroma.proofs.Quotient.{divided}
use Rattle.lumachroma.proofs.luma_of.Goals as goal
use Rattle.lumachroma.proofs.luma_of.Goals.{After-rest}

-- 500 rounds the weighted sum over 1000.
rounded : (r g b : ℕ) → (299 * r + 587 * g + 114 * b + 500) / 1000 ≡ luma r g b
unfolding luma nearest
rounded r g b = omega arith

is-luma :
    (c : After-rest)
    → c.share.result + c.share-2.result + c.share-3.result + c.rest.result / 1000
    ≡ luma c.args.p.first c.args.p.second c.args.p.third
is-luma c =
    let p = c.args.p in
    let e : ℕ = c.share.result + c.share-2.result + c.share-3.result in
    let q : e + c.rest.result / 1000 ≡ (weighted p + 500) / 1000 =
    divided (weighted p + 500) 1000 e _ c.rest.ensures (omega arith) (omega arith) (omega arith) (omega arith) (omega arith) in
    q ∙ rounded p.first p.second p.third

pub overflow_add-result : goal.overflow_add-result
unfolding luma nearest
overflow_add-result c = omega (arith, is-luma c)

pub returns : goal.returns
returns c = is-luma c
