-- `tint::first_fault` meets its contract: the place of the first of three that is not finite.
use mathlib.Core.Path.{◌∙◌}
use mathlib.Core.Bool.{not}
use mathlib.Core.List.{[], ◌∷◌}
use lib.Ieee.Scale.{finite}
use Rattle.std.proofs.Common.{rules, tests}
use Rattle.std.proofs.lemmas.Iterator.{YieldsList-from_slice}
use Rattle.std.proofs.lemmas.Iterator.Search.{position_from_yields_List}
use Rattle.std.proofs.lemmas.Iterator.Adapters.{position_from-zero}
use Rattle.tint.proofs.first_fault.Goals as goal

pub returns : goal.returns
returns c =
    let a = c.args.channels in
    let xs = a.red ∷ a.green ∷ a.blue ∷ [] in
    position_from_yields_List (λ x. not (finite x)) _ _ _ c.position.ensures.ran (YieldsList-from_slice xs cc) (λ x b q k. search (rules, tests))
    ∙ position_from-zero (λ x. not (finite x)) xs
