-- `stickers::first_above` meets its contract: the codes before the first that is too great are not.
use Rattle.std.proofs.Common.{◌≤◌, ◌<◌, rules, tests}
use Rattle.std.proofs.lemmas.Iterator.{IsFirst-from_position, YieldsList-from_slice}
use Rattle.esrgb.specs.Depths.{greatest}
use Rattle.stickers.proofs.Requests.{first_says}
use Rattle.stickers.proofs.first_above.Goals as goal

pub returns : goal.returns
returns c =
    first_says c.args.tints.now c.position.result c.told-tints
    (IsFirst-from_position _ _ _ (λ x. greatest 12 < x) (λ x. x ≤ greatest 12) c.position.ensures.ran (YieldsList-from_slice c.args.tints.now cc)
    (λ x q k. search (rules, tests)) (λ x q k. search (rules, tests)))
