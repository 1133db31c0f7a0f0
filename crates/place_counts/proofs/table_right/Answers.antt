-- `place_counts::table_right`. Each return is one law about a table of either count.
-- Assumes nothing.
use mathlib.Core.Path.{◌≡◌, sym, ap, ◌∙◌}
use Prim.Native.Nat.{ℕ}
use Rattle.table.specs.Layout.{places_ok}
use Rattle.table.specs.Records.{places_said}
use Rattle.soundness.specs.Sound.{sound}
use Rattle.place_counts.proofs.Counts.{short_wrong, other_wrong, sound_decides}
use Rattle.place_counts.proofs.table_right.Goals.{After-places_ok}
use Rattle.place_counts.proofs.table_right.Goals as goal

pub returns-then-t-lt-LEAD : goal.returns-then-t-lt-LEAD
returns-then-t-lt-LEAD c = sym (short_wrong c.args.t.now c.if-t-lt-LEAD.true)

tested : (c : After-places_ok) → c.places_ok.result ≡ places_ok (places_said (c.args.t.now))
tested c = c.places_ok.ensures ∙ ap places_ok c.places_said-n.ensures

pub returns-then-not-places_ok : goal.returns-then-not-places_ok
returns-then-not-places_ok c = sym (other_wrong (c.args.t.now) (sym (tested (goal.at.returns-then-not-places_ok c).After-places_ok) ∙ c.if-not-places_ok.true))

pub returns : goal.returns
returns c =
    c.is_sound.ensures
    ∙ ap (λ (n : ℕ). sound n (c.args.t.now)) c.places_said-n.ensures
    ∙ sym (sound_decides (c.args.t.now) (sym (tested (goal.at.returns c).After-places_ok) ∙ c.if-not-places_ok.false))
