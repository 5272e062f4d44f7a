-- `layout::lay_out` meets its contract.
use Rattle.std.proofs.Common.{sym}
use Rattle.std.specs.Prelude.{Err}
use Rattle.records.specs.declared.Layout.TheVariants.{Plain}
use Rattle.layout.proofs.Checking.{stays}
use Rattle.layout.proofs.Laid.{is-laid}
use Rattle.layout.proofs.Passes.{passed_on}
use Rattle.layout.proofs.lay_out.Goals as goal

pub returns-in_err-first : goal.returns-in_err-first
returns-in_err-first c =
    let at = c.args in
    let f = c.in_err-first.field-0.0 in
    let stay = sym (stays Plain at.records.now 0 f c.ready.new.dst) in
    rw (passed_on c.from_residual.result c.from_residual.ensures.1)
    (is-laid at.records.now at.shop at.dst.now (Err f) c.ready.new.dst c.check_records-checked.ensures c.in_err-first.ensures stay)

pub returns : goal.returns
returns c =
    let at = c.args in
    is-laid at.records.now at.shop at.dst.now c.write_records.result c.write_records.new.dst c.check_records-checked.ensures c.in_ok-first.ensures c.write_records.ensures
