-- `frame::read_header`. Step by step, as the definition goes.
-- Assumes nothing.
use mathlib.Core.Path.{◌≡◌, refl, sym, ap, ◌∙◌}
use Rattle.std.specs.Prelude.{ℕ, Option, None, Some, unwrap_or}
use Rattle.frame.specs.Frame.{header_in, option_of}
use Rattle.frame.specs.Readers.{header_read}
use Rattle.runs.proofs.Steps.{stops, goes, fails, holds}
use Rattle.frame.proofs.read_header.Goals as goal

pub returns-in_err-version : goal.returns-in_err-version
unfolding header_in header_read
returns-in_err-version c = c.from_residual.ensures ∙ sym (ap header_read (stops _ (sym c.in_err-version.ensures)))

pub returns-in_err-major : goal.returns-in_err-major
unfolding header_in header_read
returns-in_err-major c =
    c.from_residual-in_err-major.ensures ∙ sym (ap header_read (goes _ (sym c.in_ok-version.ensures) ∙ stops _ (sym c.in_err-major.ensures)))

pub returns-in_err-option : goal.returns-in_err-option
unfolding header_in header_read
returns-in_err-option c =
    c.from_residual-in_err-option.ensures
    ∙ sym (ap header_read (goes _ (sym c.in_ok-version.ensures) ∙ goes _ (sym c.in_ok-major.ensures) ∙ stops _ (sym c.in_err-option.ensures)))

pub returns-in_err-count : goal.returns-in_err-count
unfolding header_in header_read
returns-in_err-count c =
    c.from_residual-in_err-count.ensures
    ∙ sym (ap header_read (goes _ (sym c.in_ok-version.ensures) ∙ goes _ (sym c.in_ok-major.ensures) ∙ goes _ (sym c.in_ok-option.ensures) ∙ stops _ (sym c.in_err-count.ensures)))

pub returns-in_err-end : goal.returns-in_err-end
unfolding header_in header_read
returns-in_err-end c =
    c.from_residual-in_err-end.ensures
    ∙ sym (ap header_read (goes _ (sym c.in_ok-version.ensures) ∙ goes _ (sym c.in_ok-major.ensures) ∙ goes _ (sym c.in_ok-option.ensures)
    ∙ goes _ (sym c.in_ok-count.ensures) ∙ fails _ (sym c.in_err-end.ensures)))

stop_is : (o : Option ℕ) → unwrap_or o 2 ≡ option_of o
unfolding option_of
stop_is None = refl
stop_is (Some option) = refl

pub returns : goal.returns
unfolding header_in header_read
returns c =
    let h = c.in_ok-major in
    ap (λ (x : ℕ). Some (record { major = h.major; minor = h.minor; option = x; count = c.in_ok-count.count })) (c.unwrap_or-option.ensures ∙ stop_is c.in_ok-option.option)
    ∙ sym (ap header_read (goes _ (sym c.in_ok-version.ensures) ∙ goes _ (sym h.ensures) ∙ goes _ (sym c.in_ok-option.ensures)
    ∙ goes _ (sym c.in_ok-count.ensures) ∙ holds _ (sym c.in_ok-end.ensures)))
