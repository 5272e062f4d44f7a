-- `samples::examine` meets its contract: the lengths, and then the samples of codes; bytes are never at fault.
use mathlib.Core.Path.{◌≡◌, sym, ap, ◌∙◌}
use Rattle.std.proofs.Common.{rules}
use Rattle.refusal.specs.Answers.{said, fault_said}
use Rattle.refusal.proofs.Verdicts.{fault_not_accepted}
use Rattle.samples.specs.Faults.{source_says}
use Rattle.samples.proofs.Order.{bytes_say, codes_say_lem, codes-refused}
use Rattle.samples.proofs.examine.Goals as goal

pub returns-in-Bytes : goal.returns-in-Bytes
returns-in-Bytes c =
    let a = c.args in
    c.count_pixels.ensures
    ∙ bytes_say a.wide_out a.src.now a.room
    ∙ sym (ap (λ coding. source_says _ coding a.wide_out a.src.now a.room) c.in-Bytes.is)

pub returns-in_ok-pixels-in-Codes : goal.returns-in_ok-pixels-in-Codes
returns-in_ok-pixels-in-Codes c =
    let a = c.args in
    codes_say_lem a.wide_out a.src.now a.room _ _ _ _ (sym (c.in_ok-pixels-in-Codes.ensures)) c.judge.ensures
    ∙ sym (ap (λ coding. source_says _ coding a.wide_out a.src.now a.room) c.in-Codes.is)

pub returns-in_err-pixels-in-Codes : goal.returns-in_err-pixels-in-Codes
returns-in_err-pixels-in-Codes c =
    let a = c.args in
    let fault = c.in_err-pixels-in-Codes.field-0.0 in
    let same : said c.from_residual.result ≡ fault_said fault = search rules in
    codes-refused a.wide_out a.src.now a.room _ _ _ (λ n h. fault_not_accepted fault n (sym same ∙ h)) (same ∙ c.in_err-pixels-in-Codes.ensures)
    ∙ sym (ap (λ coding. source_says _ coding a.wide_out a.src.now a.room) c.in-Codes.is)
