-- `soundness::end_right`. By cases on what the search found; a place found is one of the table's.
-- Assumes nothing.
use Rattle.std.specs.Prelude.{Some}
use mathlib.Core.Path.{◌≡◌, sym, ap, ◌∙◌}
use Prim.Native.Nat.{ℕ}
use lib.Dec.{eqb}
use Rattle.search.specs.Search.{find}
use Rattle.search.proofs.Finds.{find_below}
use Rattle.soundness.specs.Sound.{if_stands}
use Rattle.soundness.specs.Checked.{has_link}
use Rattle.soundness.proofs.end_right.Goals.{In-Some}
use Rattle.soundness.proofs.end_right.Goals as goal

-- what the search found
found_at : (c : In-Some) → let a = c.args in
    find a.n a.t.now a.other ≡ Some c.in-Some.j
found_at c = sym c.find.ensures ∙ c.in-Some.is

pub link_at-requires : goal.link_at-requires
link_at-requires c =
    let a = c.args in
    record {
      place = record { sized = c.requires.sized; below = find_below a.n a.t.now a.other _ (found_at c) };
      in_line = c.requires.in_line;
    }

pub returns-in-Some : goal.returns-in-Some
unfolding if_stands
returns-in-Some c =
    let a = c.args in
    ap (λ (x : ℕ). eqb x a.serial) c.link_at.ensures
    ∙ sym (ap (if_stands (has_link a.t.now a.serial a.from)) (found_at (goal.at.returns-in-Some c).In-Some))

pub returns-in-None : goal.returns-in-None
unfolding if_stands
returns-in-None c =
    let a = c.args in
    sym (ap (if_stands (has_link a.t.now a.serial a.from)) (sym c.find.ensures ∙ c.in-None.is))
