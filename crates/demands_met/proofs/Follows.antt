-- What demand 3 gives for the runs of any box that meets it: the books are in order at every point, and what is gone stays gone.
-- Assumes nothing.
use Prim.Native.Nat.{ℕ, ◌≤◌, ◌<◌}
use native.Mathlib.Omega.{arith}
use mathlib.Core.Path.{◌≡◌, refl, sym, ap, subst, ◌∙◌}
use mathlib.Core.Bool.{Bool, true, false}
use mathlib.Core.List.{List, [], ◌∷◌, ◌++◌}
use Rattle.table.specs.Layout.{places_ok}
use Rattle.table.specs.declared.Record.{Record}
use Rattle.table.specs.Records.{serial_at, blank}
use Rattle.table.proofs.Places.{serial_is}
use Rattle.changes.specs.Records.{in_state}
use Rattle.demands.specs.Box.{Call, Box, counted}
use Rattle.demands.specs.Log.{Event, command_of, issued_by, issued, granted, onto, logged}
use Rattle.demands.specs.Demand3.{Later, here, further, Run, begins, calls, Stands, takes, Tame, DueOnly, InOrder, Path, arrived, went, Opens, accepted, refused, Demand3Of}
use Rattle.demands_met.proofs.Logged.{granted_more, issued_now, issued_before}
use Rattle.demands_met.proofs.Ordered.{inv_order}
use Rattle.demands_met.proofs.Runs.{blank_books}

-- ---- along a path

-- the books are in order behind it
pub path_order : {n : ℕ} {log events : List Event} {t v : List ℕ} → Path n log t events v → InOrder n log t → InOrder n (onto events log) v
unfolding onto
path_order arrived o = o
path_order (went ev u tame after rest) o = path_order rest after

-- a path along events and then others leads through a table between them
pub record Between (n : ℕ) (log : List Event) (t : List ℕ) (before later : List Event) (v : List ℕ) : Type 0 where
  pub table : List ℕ
  pub there : Path n log t before table
  pub on : Path n (onto before log) table later v

pub path_between : {n : ℕ} {log : List Event} {t v : List ℕ} (before later : List Event) → Path n log t (before ++ later) v → Between n log t before later v
unfolding onto
path_between {t = t} [] later p = record { table = t; there = arrived; on = p }
path_between (_ ∷ before) later (went ev u tame after rest) = let b = path_between before later rest in record { table = b.table; there = went ev u tame after b.there; on = b.on }

pub onto_append : (before later log : List Event) → onto (before ++ later) log ≡ onto later (onto before log)
unfolding onto
onto_append [] later log = refl
onto_append (ev ∷ before) later log = onto_append before later (ev ∷ log)

-- a call whose number is 0 opens with what is due
pub opens_due : {n : ℕ} {c : Call} {number : ℕ} {start : List ℕ} → Opens n c number start → number ≡ 0 → DueOnly n (counted c) c.table start
opens_due (accepted due) e = due
opens_due (refused h) e = absurd (h e)

-- what is due leaves every identifier in its place
pub due_serial : {n clock : ℕ} (t u : List ℕ) → DueOnly n clock t u → (i : ℕ) → i < n → serial_at u i ≡ serial_at t i
unfolding in_state
due_serial {n} t u due i low = serial_is n u i ∙ ap (λ (r : Record). r.serial) (due.others i low) ∙ sym (serial_is n t i)

-- x was issued, does not stand, and has so many units
pub record Gone (n : ℕ) (x units : ℕ) (log : List Event) (t : List ℕ) : Type 0 where
  pub once : 1 ≤ issued x log
  pub away : (i : ℕ) → Stands n x t i → ⊥
  pub same : granted x log ≡ units

module _ {n : ℕ} (x units : ℕ) (z : x ≡ 0 → ⊥) where
  -- an item does not bring it back
  item_gone : (log : List Event) (t u : List ℕ) (ev : Event) → Tame n ev t u → InOrder n (ev ∷ log) u → Gone n x units log t → Gone n x units (ev ∷ log) u
  item_gone log t u ev tame after g = record {
    once = omega (arith, before, g.once);
    away = λ i s. by_taking i s (takes n ev t i) refl;
    same = omega (arith, granted_more x ev log, tame.grants x z g.away, g.same);
  }
    where
      -- it is not issued again
      anew : issued_by (command_of ev) ev.answer.outcome ≡ x → ⊥
      anew e = omega (arith, issued_now x ev log e, after.once x z, g.once)

      before : issued x (ev ∷ log) ≡ issued x log
      before = issued_before x ev log anew

      by_taking : (i : ℕ) → Stands n x u i → (b : Bool) → takes n ev t i ≡ b → ⊥
      by_taking i s true e = anew (sym (tame.taken i s.below e).serial ∙ s.serial)
      by_taking i s false e = g.away i (record { below = s.below; serial = sym (tame.kept i s.below e) ∙ s.serial })

  pub path_gone : {log events : List Event} {t v : List ℕ} → Path n log t events v → Gone n x units log t → Gone n x units (onto events log) v
  unfolding onto
  path_gone arrived g = g
  path_gone {log} {t = t} (went ev u tame after rest) g = path_gone rest (item_gone log t u ev tame after g)

  -- what is due does not bring it back
  opens_gone : {log : List Event} {c : Call} {number : ℕ} {start : List ℕ} → Opens n c number start → Gone n x units log c.table → Gone n x units log start
  unfolding in_state
  opens_gone {c = c} (accepted {start} due) g = record {
    once = g.once;
    away = λ i s. g.away i (record { below = s.below; serial = sym (due_serial c.table start due i s.below) ∙ s.serial });
    same = g.same;
  }
  opens_gone (refused h) g = g

-- ---- along a run

-- it is a point of the run
pub later_run : {n : ℕ} {B : Box} {log : List Event} {t : List ℕ} {log' : List Event} {t' : List ℕ} → Run n B log t → Later n B log t log' t' → Run n B log' t'
later_run r here = r
later_run r (further c e l same lent b) = calls c e (later_run r l) same lent b

module _ (B : Box) (n : ℕ) (ok : places_ok n ≡ true) (d : Demand3Of n B) where
  -- the books are in order at every point between two calls, as they are between two items
  pub in_order_lem : {log : List Event} {t : List ℕ} → Run n B log t → InOrder n log t
  unfolding logged
  in_order_lem begins = let books = blank_books n ok in inv_order [] (blank n) books.inv books.dead
  in_order_lem (calls {log} {t} c e r same lent b) = let g = d.goes log t r c e same lent b in path_order g.path g.order

  later_gone : (x units : ℕ) → (x ≡ 0 → ⊥) → {log : List Event} {t : List ℕ} {log' : List Event} {t' : List ℕ} → Run n B log t → Gone n x units log t → Later n B log t log' t' → Gone n x units log' t'
  unfolding logged
  later_gone x units z r g here = g
  later_gone x units z r g (further {log'} {t'} c e l same lent b) =
      let goes = d.goes log' t' (later_run r l) c e same lent b in
      path_gone x units z goes.path (opens_gone x units z goes.opens (subst (Gone n x units log') (sym same) (later_gone x units z r g l)))

  -- "Once a newer object has taken the place, that identifier is granted nothing more", whatever calls follow
  pub gone_for_good : (log : List Event) (t : List ℕ) → Run n B log t → (x : ℕ) → (x ≡ 0 → ⊥) → 1 ≤ issued x log → ((i : ℕ) → Stands n x t i → ⊥)
      → (log' : List Event) (t' : List ℕ) → Later n B log t log' t' → granted x log' ≡ granted x log
  gone_for_good log t r x z o away log' t' l = (later_gone x (granted x log) z r (record { once = o; away = away; same = refl }) l).same
