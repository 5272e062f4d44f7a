-- `relayout::relayout` meets its contract.
use Rattle.std.proofs.Common.{length, ap, ◌∙◌}
use Rattle.refusal.specs.Answers.{Said, said, leaves}
use Rattle.layout.proofs.Passes.{passed_on}
use Rattle.relayout.specs.Relayout.{relaid}
use Rattle.relayout.proofs.Carrying.{shut}
use Rattle.relayout.proofs.ThereAndBack.{carried}
use Rattle.relayout.proofs.relayout.Goals as goal

pub returns-in_err-contents : goal.returns-in_err-contents
returns-in_err-contents c =
    let at = c.args in
    let refused = shut at.file.now (length at.dst.now) c.in_err-contents.was c.«open».ensures in
    let says = ap said (passed_on c.from_residual.result c.from_residual.ensures.1) ∙ refused in
    let bytes = ap (λ (s : Said). leaves s (relaid at.file.now) at.dst.now) refused in
    record { answer = says; bytes = bytes; carried = carried at.file.now at.dst.now (λ i. (c.type_inv.file i).fits) says bytes }

pub returns : goal.returns
returns c =
    let at = c.args in
    let done = c.carry.ensures in
    record { answer = done.answer; bytes = done.bytes; carried = carried at.file.now at.dst.now (λ i. (c.type_inv.file i).fits) done.answer done.bytes }
