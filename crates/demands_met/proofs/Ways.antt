-- The ways of a state: none leads out of the destroyed ones.
-- Assumes nothing.
use Prim.Native.Nat.{ℕ}
use mathlib.Core.Path.{◌≡◌, sym, ap, ◌∙◌}
use mathlib.Core.Logic.{◌⊎◌, inl, inr, ⊎_elim}
use mathlib.Core.Bool.{true, ◌&&◌, ◌||◌, false≢true}
use lib.Dec.{eqb}
use borrow.Author.Tests.{eqb-true}
use Rattle.octets.proofs.Bools.{and_l}
use Rattle.table.specs.declared.Record.{Record}
use Rattle.search.specs.Search.{is_destroyed}
use Rattle.date_rules.specs.Dates.{has_come}
use Rattle.answer.proofs.Tests.{on_or}
use Rattle.demands.specs.Demand3.{listed_by}
use Rattle.demands.specs.Plain.{Ways, still, by_item, by_date}
use Rattle.demands_met.proofs.Dead.{listed_stays}

-- a date moves a Pre-Active key or an Active one
dated_from : (clock : ℕ) (r : Record) (to : ℕ) → listed_by clock r to ≡ true → (r.state ≡ 1) ⊎ (r.state ≡ 2)
unfolding listed_by
dated_from clock r to h =
    let come = has_come clock r.activation in
    let gone = has_come clock r.deactivation in
    let a = eqb r.state 1 && come && eqb to 2 in
    let b = eqb r.state 2 && gone && eqb to 3 in
    let c = eqb r.state 1 && come && gone && eqb to 3 in
    on_or (a || b) c h
    (λ g. on_or a b g
    (λ k. inl (eqb-true r.state 1 (and_l (eqb r.state 1) come (and_l (eqb r.state 1 && come) (eqb to 2) k))))
    (λ k. inr (eqb-true r.state 2 (and_l (eqb r.state 2) gone (and_l (eqb r.state 2 && gone) (eqb to 3) k)))))
    (λ k. inl (eqb-true r.state 1 (and_l (eqb r.state 1) come (and_l (eqb r.state 1 && come) gone (and_l (eqb r.state 1 && come && gone) (eqb to 3) k)))))

-- none leads out of the destroyed states
pub ways_dead : {from to : ℕ} → Ways from to → is_destroyed from ≡ true → is_destroyed to ≡ true
ways_dead still d = d
ways_dead (by_item {via = via} {to = to} operation code w h) d = listed_stays operation code via to h (ways_dead w d)
ways_dead (by_date {to = to} clock r w h) d =
    let dead = ways_dead w d in
    absurd (⊎_elim (λ (e : r.state ≡ 1). false≢true (sym (ap is_destroyed e) ∙ dead)) (λ (e : r.state ≡ 2). false≢true (sym (ap is_destroyed e) ∙ dead)) (dated_from clock r to h))
