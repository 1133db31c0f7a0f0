-- What each return of the functions of this crate leaves, from what the functions that it called answered.
-- Assumes nothing.
use Rattle.std.specs.Prelude.{Result}
use Rattle.std.specs.Prelude.{Ok, Err}
use mathlib.Core.Path.{◌≡◌, refl, sym, ap, ◌∙◌}
use Prim.Native.Nat.{ℕ, ◌-◌}
use mathlib.Core.Bool.{Bool, true, false}
use Rattle.std.specs.Prelude.{Option, None, Some}
use mathlib.Core.List.{List, []}
use Rattle.octets.proofs.If.{ifb_true, ifb_false, on_bool}
use Rattle.table.specs.declared.Record.{Record}
use Rattle.table.specs.Records.{place_at, with_place, latest_clock}
use Rattle.search.specs.Search.{is_destroyed}
use Rattle.rules.specs.declared.Reason.{Reason}
use Rattle.rules.specs.declared.Reason.TheVariants.{ObjectDestroyed, WrongKeyLifecycleState}
use Rattle.rules.specs.Tests.{due}
use Rattle.rules.specs.States.{move_tests, moved_state, next_unless, next_state, grant_tests, left_unless, granting}
use Rattle.date_rules.specs.Dates.{is_late}
use Rattle.changes.specs.Records.{moved_to, with_count}
use Rattle.plans.specs.declared.Outcome.TheVariants.{Done, Got}
use Rattle.words.specs.declared.Words.{Words}
use Rattle.words.specs.Words.{words_of}
use Rattle.plans.specs.declared.Performed.{Performed}
use Rattle.deeds.specs.declared.Deed.{Deed}
use Rattle.deeds.specs.declared.Deed.TheVariants.{Replace, Allocate, Move, Show, Give}
use Rattle.plans.specs.Plans.{Did, empty_holder, failing, carried, carried_out, rekey_plan, allocation_plan, show_plan, get_plan, key_of, in_places, leaves, failed}
use Rattle.deeds.specs.Deeds.{showing, giving, storing, move_plan, deed_plan}
use Rattle.plans.proofs.Plans.{fails, fails_first, goes_further, is_done}

-- ---- records stored

pub stored : (n holder : ℕ) (t : List ℕ) (i : ℕ) (r : Record) (t' : List ℕ) → t' ≡ with_place n t i r → record { outcome = Done r.serial; table = t'; holder = holder } ≡ storing n holder t i r
stored n holder t i r t' e = ap (λ (u : List ℕ). record { outcome = Done r.serial; table = u; holder = holder }) e

-- ---- grants

-- what a grant makes of an item, by what is left
unfoldable on_granted : List ℕ → (ℕ → Did) → Result ℕ Reason → Did
on_granted t did (Ok count) = did count
on_granted t did (Err reason) = failing t reason

granted_by : (t : List ℕ) (did : ℕ → Did) (count : ℕ) (d : Option Reason) → carried t (did count) d ≡ on_granted t did (left_unless count d)
unfolding carried on_granted left_unless
granted_by t did count None = refl
granted_by t did count (Some reason) = refl

module _ (n holder : ℕ) (t : List ℕ) (amount i : ℕ) (old : Record) (loaded : old ≡ place_at n t i) (left : Result ℕ Reason) (is : left ≡ granting old.state old.unit old.count amount) where
  abbrev allocated : Record → Did
  allocated r = carried_out t (allocation_plan (in_places n []) holder t amount i r)

  -- what is stored where so many units are left
  abbrev counted : ℕ → Did
  counted count = storing n holder t i (with_count count old)

  granted : allocated (place_at n t i) ≡ on_granted t counted left
  unfolding allocation_plan granting
  granted =
      ap allocated (sym loaded)
      ∙ granted_by t counted (old.count - amount) (due (grant_tests old.state old.unit old.count amount))
      ∙ ap (on_granted t counted) (sym is)

  pub grants : (count : ℕ) → left ≡ Ok count → (new : Record) → new ≡ with_count count old → (done : Did) → done ≡ storing n holder t i new → done ≡ allocated (place_at n t i)
  unfolding on_granted
  grants count l new w done e = e ∙ ap (storing n holder t i) w ∙ sym (granted ∙ ap (on_granted t counted) l)

  pub grant_denied : (reason : Reason) → left ≡ Err reason → (r : Performed) → r ≡ failed reason → leaves r t ≡ allocated (place_at n t i)
  unfolding on_granted
  grant_denied reason d r e = fails t e ∙ sym (granted ∙ ap (on_granted t counted) d)

-- ---- moves

-- what a move makes of an item, by the next state
unfoldable on_next : List ℕ → (ℕ → Did) → Result ℕ Reason → Did
on_next t did (Ok state) = did state
on_next t did (Err reason) = failing t reason

moved_by : (t : List ℕ) (did : ℕ → Did) (state : ℕ) (d : Option Reason) → carried t (did state) d ≡ on_next t did (next_unless state d)
unfolding carried on_next next_unless
moved_by t did state None = refl
moved_by t did state (Some reason) = refl

module _ (n holder : ℕ) (t : List ℕ) (operation code i : ℕ) (old : Record) (loaded : old ≡ place_at n t i) (clock : ℕ) (now : clock ≡ latest_clock t)
    (late : Bool) (told : late ≡ is_late operation clock old.deactivation)
  where
    abbrev moving : Record → Did
    moving r = carried_out t (move_plan n holder t operation code i r)

    late_is : {b : Bool} → late ≡ b → is_late operation (latest_clock t) old.deactivation ≡ b
    late_is e = ap (λ (c : ℕ). is_late operation c old.deactivation) (sym now) ∙ sym told ∙ e

    pub move_late : late ≡ true → (r : Performed) → r ≡ failed WrongKeyLifecycleState → leaves r t ≡ moving (place_at n t i)
    unfolding move_plan
    move_late l r e = fails t e ∙ sym (ap moving (sym loaded) ∙ fails_first t _ _ _ (late_is l))

    module _ (early : late ≡ false) (next : Result ℕ Reason) (is : next ≡ next_state operation code old.state) where
      -- what is stored in this state
      abbrev stating : ℕ → Did
      stating state = storing n holder t i (moved_to operation code (latest_clock t) state old)

      moved : moving (place_at n t i) ≡ on_next t stating next
      unfolding move_plan next_state
      moved =
          ap moving (sym loaded) ∙ goes_further t _ _ _ (late_is early)
          ∙ moved_by t stating (moved_state operation code old.state) (due (move_tests operation code old.state))
          ∙ ap (on_next t stating) (sym is)

      pub moves : (state : ℕ) → next ≡ Ok state → (new : Record) → new ≡ moved_to operation code clock state old → (done : Did) → done ≡ storing n holder t i new
          → done ≡ moving (place_at n t i)
      unfolding on_next
      moves state m new w done e =
          e ∙ ap (storing n holder t i) (w ∙ ap (λ (c : ℕ). moved_to operation code c state old) now) ∙ sym (moved ∙ ap (on_next t stating) m)

      pub move_fails : (reason : Reason) → next ≡ Err reason → (r : Performed) → r ≡ failed reason → leaves r t ≡ moving (place_at n t i)
      unfolding on_next
      move_fails reason f r e = fails t e ∙ sym (moved ∙ ap (on_next t stating) f)

-- ---- a key handed out

module _ (holder : ℕ) (r old : Record) (loaded : old ≡ r) (gone : Bool) (is : gone ≡ is_destroyed old.state) where
  gone_is : {b : Bool} → gone ≡ b → is_destroyed r.state ≡ b
  gone_is e = ap (λ (x : Record). is_destroyed x.state) (sym loaded) ∙ sym is ∙ e

  pub gives_none : gone ≡ true → (p : Performed) → p ≡ failed ObjectDestroyed → p ≡ giving holder r
  unfolding giving
  gives_none g p e = e ∙ sym (ifb_true _ _ _ (gone_is g))

  pub gives : gone ≡ false → (w : Words) → w ≡ words_of old.material → record { outcome = Got (record { serial = old.serial; bits = old.bits; material = w }); holder = holder } ≡ giving holder r
  unfolding giving key_of
  gives g w e =
      ap (λ (x : Words). record { outcome = Got (record { serial = old.serial; bits = old.bits; material = x }); holder = holder }) e
      ∙ ap (λ (x : Record). record { outcome = Got (key_of x); holder = holder }) loaded
      ∙ sym (ifb_false _ _ _ (gone_is g))

-- ---- deeds

module _ (n : ℕ) (fresh : List ℕ) (holder : ℕ) (t : List ℕ) (i : ℕ) (deed : Deed) where
  abbrev doing : Deed → Did
  doing d = carried_out t (deed_plan (in_places n fresh) holder t d i (place_at n t i))

  module _ (done : Did) where
    pub does_replace : (offset : Option ℕ) → deed ≡ Replace offset → done ≡ carried_out t (rekey_plan (in_places n fresh) empty_holder t offset i (place_at n t i)) → done ≡ doing deed
    unfolding deed_plan rekey_plan
    does_replace offset d e = e ∙ sym (ap doing d)

    pub does_allocate : (amount : ℕ) → deed ≡ Allocate amount → done ≡ carried_out t (allocation_plan (in_places n []) holder t amount i (place_at n t i)) → done ≡ doing deed
    unfolding deed_plan allocation_plan
    does_allocate amount d e = e ∙ sym (ap doing d)

    pub does_move : (operation code : ℕ) → deed ≡ Move operation code → done ≡ carried_out t (move_plan n holder t operation code i (place_at n t i)) → done ≡ doing deed
    unfolding deed_plan
    does_move operation code d e = e ∙ sym (ap doing d)

  pub does_show : deed ≡ Show → (r : Performed) → r ≡ showing holder (place_at n t i) → leaves r t ≡ doing deed
  unfolding deed_plan show_plan
  does_show d r e = ap (λ (x : Performed). leaves x t) e ∙ sym (ap doing d ∙ is_done t _)

  pub does_give : deed ≡ Give → (r : Performed) → r ≡ giving holder (place_at n t i) → leaves r t ≡ doing deed
  unfolding deed_plan giving get_plan
  does_give d r e = ap (λ (x : Performed). leaves x t) e ∙ by_state ∙ sym (ap doing d)
    where
      gone : Bool
      gone = is_destroyed (place_at n t i).state

      by_state : leaves (giving holder (place_at n t i)) t ≡ carried_out t (get_plan (in_places n fresh) holder t i (place_at n t i))
      by_state =
          on_bool gone
          (λ g. ap (λ (x : Performed). leaves x t) (ifb_true gone _ _ g) ∙ sym (fails_first t _ _ _ g))
          (λ g. ap (λ (x : Performed). leaves x t) (ifb_false gone _ _ g) ∙ sym (goes_further t _ _ _ g ∙ is_done t _))
