-- What one item does to counts and serials, classified once for the log: each record after it is one from before with its grant taken off, or the new one.
-- Assumes nothing.
use Rattle.std.specs.Prelude.{Option, Some, Ok}
use Prim.Native.Nat.{ℕ, ◌+◌, ◌-◌, ◌≤◌, ◌<◌}
use native.Mathlib.Omega.{arith}
use native.Mathlib.Decide.{ℕ_discrete}
use mathlib.Core.Path.{◌≡◌, refl, sym, ap, subst, ◌∙◌}
use mathlib.Core.Logic.{◌⊎◌, inl, inr}
use mathlib.Core.Bool.{false}
use mathlib.Core.List.{List}
use lib.Dec.{eqb}
use borrow.Author.Tests.{eq-eqb, ne_eqb}
use Rattle.octets.specs.If.{ifb}
use Rattle.octets.specs.Octets.{Bytes}
use Rattle.octets.proofs.If.{ifb_true, ifb_false}
use Rattle.table.specs.declared.Record.{Record}
use Rattle.table.specs.Records.{place_at, last_serial, latest_clock}
use Rattle.search.specs.Search.{find, is_destroyed}
use Rattle.table.proofs.Places.{serial_is}
use Rattle.search.proofs.Finds.{find_below, find_serial, find_nonzero}
use Rattle.rules.specs.declared.Reason.{Reason}
use Rattle.rules.specs.declared.Attributes.{Attributes}
use Rattle.changes.specs.Records.{in_state, with_dates, moved_to, with_count}
use Rattle.heirs.specs.Heirs.{offset_wrong, heir_dated, heir_of, linked_to}
use Rattle.new_records.specs.New.{new_record}
use Rattle.rules.specs.States.{next_state, granting}
use Rattle.changes.specs.Changes.{is_full, next_serial, with_born, with_heir}
use Rattle.rules.proofs.Grants.{grant_is}
use Rattle.keeps.proofs.Stores.{Stored, other}
use Rattle.keeps.proofs.Keeps.{Held, facts, found_stands}
use Rattle.keeps.proofs.Leaves.{Born, Replaced, moved_leaves, count_leaves, born_leaves, heir_leaves}
use Rattle.target_read.specs.declared.Target.{Target}
use Rattle.payload.specs.declared.Command.{Command}
use Rattle.payload.specs.declared.Command.TheVariants.{Unsupported, Invalid, Create, Rekey, GetUsageAllocation, Activate, Revoke, Destroy, GetAttributes, Get, Locate}
use Rattle.plans.specs.declared.Outcome.{Outcome}
use Rattle.plans.specs.declared.Outcome.TheVariants.{Failed, Showed, Got}
use Rattle.plans.specs.Plans.{Env, Did, failing, create_plan, rekey_plan, changed, shown_of, key_of, locate_plan}
use Rattle.act.specs.Act.{sought}
use Rattle.act.proofs.Went.{Moving, activating, revoking, destroying, Kind, fails, creates, rekeys, grants, moves, shows, gets, locates}
use Rattle.batch_keeps.proofs.Commands.{Commanded, to_create}
use Rattle.keeps.proofs.Begun.{Allowed}
use Rattle.demands.specs.Log.{issued_by, grant_by}

-- ---- what the log says of an item

pub no_issue : (c : Command) (reason : Reason) → issued_by c (Failed reason) ≡ 0
unfolding issued_by
no_issue Unsupported reason = refl
no_issue Invalid reason = refl
no_issue (Create wanted) reason = refl
no_issue (Rekey target offset) reason = refl
no_issue (GetUsageAllocation target amount) reason = refl
no_issue (Activate target) reason = refl
no_issue (Revoke target code) reason = refl
no_issue (Destroy target) reason = refl
no_issue (GetAttributes target) reason = refl
no_issue (Get target) reason = refl
no_issue (Locate name) reason = refl

pub no_grant : (x : ℕ) (c : Command) (reason : Reason) → grant_by x c (Failed reason) ≡ 0
unfolding grant_by
no_grant x Unsupported reason = refl
no_grant x Invalid reason = refl
no_grant x (Create wanted) reason = refl
no_grant x (Rekey target offset) reason = refl
no_grant x (GetUsageAllocation target amount) reason = refl
no_grant x (Activate target) reason = refl
no_grant x (Revoke target code) reason = refl
no_grant x (Destroy target) reason = refl
no_grant x (GetAttributes target) reason = refl
no_grant x (Get target) reason = refl
no_grant x (Locate name) reason = refl

pub move_issues : {c : Command} {operation code : ℕ} {target : Target} → Moving c operation code target → (o : Outcome) → issued_by c o ≡ 0
unfolding issued_by
move_issues activating o = refl
move_issues revoking o = refl
move_issues destroying o = refl

pub move_grants : {c : Command} {operation code : ℕ} {target : Target} → Moving c operation code target → (x : ℕ) (o : Outcome) → grant_by x c o ≡ 0
unfolding grant_by
move_grants activating x o = refl
move_grants revoking x o = refl
move_grants destroying x o = refl

-- ---- tables

-- a record of the table before, with what was granted to it taken off
pub record Old (n : ℕ) (t : List ℕ) (g : ℕ → ℕ) (j : ℕ) (r : Record) : Type 0 where
  pub serial : (place_at n t j).serial ≡ r.serial
  pub total : (place_at n t j).total ≡ r.total
  pub count : g r.serial + r.count ≡ (place_at n t j).count

-- the record that is new: it has its whole total left
pub record New (t : List ℕ) (s : ℕ) (begun : ℕ) (r : Record) : Type 0 where
  pub serial : r.serial ≡ last_serial t + 1
  pub issued : s ≡ last_serial t + 1
  pub total : r.total ≡ begun
  pub count : r.count ≡ begun

-- x is granted something: its record stood, and had as much
pub record Had (n : ℕ) (t : List ℕ) (x : ℕ) (amount : ℕ) : Type 0 where
  pub place : ℕ
  pub below : place < n
  pub stood : x ≡ 0 → ⊥
  pub serial : (place_at n t place).serial ≡ x
  pub enough : amount ≤ (place_at n t place).count

-- from t to u with s issued (0: nothing), g granted, and a new record beginning with `begun`
pub record Counted (n : ℕ) (t u : List ℕ) (s : ℕ) (g : ℕ → ℕ) (begun : ℕ) : Type 0 where
  pub places : (j : ℕ) → j < n → ((place_at n u j).serial ≡ 0 → ⊥) → Old n t g j (place_at n u j) ⊎ New t s begun (place_at n u j)
  pub granted : (x : ℕ) → (g x ≡ 0) ⊎ Had n t x (g x)
  pub issued : ((s ≡ 0) × (last_serial u ≡ last_serial t)) ⊎ ((s ≡ last_serial t + 1) × (last_serial u ≡ last_serial t + 1))

-- a record as it was
same_old : (n : ℕ) (t : List ℕ) (g : ℕ → ℕ) (j : ℕ) (r : Record) → r ≡ place_at n t j → ((x : ℕ) → g x ≡ 0) → Old n t g j r
same_old n t g j r e z = record {
  serial = sym (ap (λ (q : Record). q.serial) e);
  total = sym (ap (λ (q : Record). q.total) e);
  count = let a : r.count ≡ (place_at n t j).count = ap (λ (q : Record). q.count) e in let b : g r.serial ≡ 0 = z r.serial in omega arith;
}

-- nothing changed
pub counted_same : (n : ℕ) (t : List ℕ) (s : ℕ) (g : ℕ → ℕ) (begun : ℕ) → s ≡ 0 → ((x : ℕ) → g x ≡ 0) → Counted n t t s g begun
counted_same n t s g begun z none = record {
  places = λ j l h. inl (same_old n t g j (place_at n t j) refl none);
  granted = λ x. inl (none x);
  issued = inl (z, refl);
}

-- a record at place i was stored anew with its serial and total kept, and nothing else changed
counted_edit : (n : ℕ) (t u : List ℕ) (i : ℕ) (r : Record) (s : ℕ) (g : ℕ → ℕ) (begun : ℕ) → s ≡ 0 → Stored n t i r (last_serial t) u
    → Old n t g i r → ((j : ℕ) → j < n → (j ≡ i → ⊥) → g (place_at n t j).serial ≡ 0) → ((x : ℕ) → (g x ≡ 0) ⊎ Had n t x (g x)) → Counted n t u s g begun
counted_edit n t u i r s g begun z st o others had = record {
  places = λ j l h. inl (elim (ℕ_discrete j i) [
    | yes e ↦ subst (λ (k : ℕ). Old n t g k (place_at n u k)) (sym e) (subst (Old n t g i) (sym st.here) o)
    | no e ↦ away j l e
  ]);
  granted = had;
  issued = inl (z, st.issued);
}
  where
    away : (j : ℕ) → j < n → (j ≡ i → ⊥) → Old n t g j (place_at n u j)
    away j l e =
        let q : place_at n u j ≡ place_at n t j = other n t i r (last_serial t) u st j l e in
        let d : (place_at n u j).serial ≡ (place_at n t j).serial = ap (λ (p : Record). p.serial) q in
        let b : (place_at n u j).count ≡ (place_at n t j).count = ap (λ (p : Record). p.count) q in
        let a : g (place_at n u j).serial ≡ 0 = ap g d ∙ others j l e in
        record { serial = sym d; total = sym (ap (λ (p : Record). p.total) q); count = omega arith }

-- ---- kinds

pub create_allowed : {operation : ℕ} {wanted : Attributes} → Commanded operation (Create wanted) → Allowed wanted
create_allowed (to_create o a) = a

-- the total with which a command's new object begins: what Create asks for, or what its record has
unfoldable pub begins_with : ℕ → List ℕ → ℕ → Command → ℕ → ℕ
begins_with n t holder (Create wanted) i = wanted.total
begins_with n t holder (Rekey target offset) i = (place_at n t i).total
begins_with n t holder Unsupported i = 0
begins_with n t holder Invalid i = 0
begins_with n t holder (GetUsageAllocation target amount) i = 0
begins_with n t holder (Activate target) i = 0
begins_with n t holder (Revoke target code) i = 0
begins_with n t holder (Destroy target) i = 0
begins_with n t holder (GetAttributes target) i = 0
begins_with n t holder (Get target) i = 0
begins_with n t holder (Locate name) i = 0

-- what a command counts, with the place of the record that it names where a new object copies its total
pub record Counts (n : ℕ) (t : List ℕ) (holder : ℕ) (c : Command) (did : Did) : Type 0 where
  pub place : ℕ
  pub copies : (target : Target) (offset : Option ℕ) → c ≡ Rekey target offset → issued_by c did.outcome ≡ last_serial t + 1 → find n t (sought holder target) ≡ Some place
  pub counted : Counted n t did.table (issued_by c did.outcome) (λ x. grant_by x c did.outcome) (begins_with n t holder c place)

not_rekey : {A : Type 0} {target : Target} {offset : Option ℕ} {c : Command} → c ≡ Rekey target offset → (q : Command → ℕ) → q c ≡ 0 → q (Rekey target offset) ≡ 1 → A
not_rekey e q z o = absurd (let y : ◌≡◌ {A = ℕ} 0 1 = sym z ∙ ap q e ∙ o in omega arith)

module _ (env : Env) (holder : ℕ) (t : List ℕ) (held : Held env.places t) (fresh_bytes : Bytes env.fresh) where
  -- an item that issues nothing copies nothing
  silent : {c : Command} {did : Did} → issued_by c did.outcome ≡ 0
      → Counted env.places t did.table (issued_by c did.outcome) (λ x. grant_by x c did.outcome) (begins_with env.places t holder c 0) → Counts env.places t holder c did
  silent z q = record { place = 0; copies = λ target offset e i. absurd (let y : 0 ≡ last_serial t + 1 = sym z ∙ i in omega arith); counted = q }

  -- the record that a search found
  module _ (x i : ℕ) (e : find env.places t x ≡ Some i) where
    serial_found_lem : (place_at env.places t i).serial ≡ x
    serial_found_lem = sym (serial_is env.places t i) ∙ find_serial env.places t x i e

    serial_stands : (place_at env.places t i).serial ≡ 0 → ⊥
    serial_stands z = find_nonzero env.places t x i e (sym serial_found_lem ∙ z)

    -- another place has another serial
    apart : (j : ℕ) → j < env.places → (j ≡ i → ⊥) → (place_at env.places t i).serial ≡ (place_at env.places t j).serial → ⊥
    apart j l d q =
        d (sym ((facts env.places t held).distinct i j (find_below env.places t x i e) l (found_stands env.places t x i e) (serial_is env.places t i ∙ q ∙ sym (serial_is env.places t j))))

  grant_counted : (target : Target) (amount i : ℕ) → find env.places t (sought holder target) ≡ Some i
      → (g : granting (place_at env.places t i).state (place_at env.places t i).unit (place_at env.places t i).count amount ≡ Ok ((place_at env.places t i).count - amount))
      → Counts env.places t holder (GetUsageAllocation target amount) (changed env holder t i (with_count ((place_at env.places t i).count - amount) (place_at env.places t i)))
  unfolding issued_by grant_by with_count
  grant_counted target amount i e g =
      let x = sought holder target in
      let r = place_at env.places t i in
      let enough : amount ≤ r.count = (grant_is r.state r.unit r.count amount (r.count - amount) g).enough in
      silent refl
      (counted_edit env.places t _ i (with_count (r.count - amount) r) 0 (λ y. ifb (eqb r.serial y) amount 0) _ refl
      (count_leaves env.places t held i (find_below env.places t x i e) (found_stands env.places t x i e) amount (r.count - amount) g)
      (record { serial = refl; total = refl; count = let a : ifb (eqb r.serial r.serial) amount 0 ≡ amount = ifb_true (eqb r.serial r.serial) amount 0 (eq-eqb r.serial r.serial refl) in omega arith })
      (λ j l d. ifb_false (eqb r.serial (place_at env.places t j).serial) amount 0 (ne_eqb r.serial (place_at env.places t j).serial (apart x i e j l d)))
      (λ y. elim (ℕ_discrete r.serial y) [
        | yes s ↦ inr (record {
          place = i;
          below = find_below env.places t x i e;
          stood = λ z. serial_stands x i e (s ∙ z);
          serial = s;
          enough = let a : ifb (eqb r.serial y) amount 0 ≡ amount = ifb_true (eqb r.serial y) amount 0 (eq-eqb r.serial y s) in omega arith;
        })
        | no s ↦ inl (ifb_false (eqb r.serial y) amount 0 (ne_eqb r.serial y s))
      ]))

  create_counted : (wanted : Attributes) → Allowed wanted → (room : is_full env.places t ≡ false) → Counts env.places t holder (Create wanted) (create_plan env holder t wanted).did
  unfolding create_plan issued_by grant_by new_record begins_with
  create_counted wanted a room =
      let b : Born env.places t (new_record (next_serial t) wanted env.fresh) _ = born_leaves env.places t held room env.fresh fresh_bytes wanted a in
      record {
        place = 0;
        copies = λ target offset e i. not_rekey e is_rekey refl refl;
        counted = record {
          places = λ j l h. elim (ℕ_discrete j b.place) [
            | yes q ↦ inr (subst (λ (k : ℕ). New t (last_serial t + 1) wanted.total (place_at env.places (with_born env.places t (new_record (next_serial t) wanted env.fresh)) k)) (sym q)
                (subst (New t (last_serial t + 1) wanted.total) (sym b.stored.here) (record { serial = refl; issued = refl; total = refl; count = refl })))
            | no q ↦ inl (same_old env.places t _ j _ (other env.places t b.place _ _ _ b.stored j l q) (λ x. refl))
          ];
          granted = λ x. inl refl;
          issued = inr (refl, b.stored.issued);
        };
      }
    where
      is_rekey : Command → ℕ
      is_rekey Unsupported = 0
      is_rekey Invalid = 0
      is_rekey (Create wanted) = 0
      is_rekey (Rekey target offset) = 1
      is_rekey (GetUsageAllocation target amount) = 0
      is_rekey (Activate target) = 0
      is_rekey (Revoke target code) = 0
      is_rekey (Destroy target) = 0
      is_rekey (GetAttributes target) = 0
      is_rekey (Get target) = 0
      is_rekey (Locate name) = 0

  rekey_counted : (target : Target) (offset : Option ℕ) (i : ℕ) → find env.places t (sought holder target) ≡ Some i → is_destroyed (place_at env.places t i).state ≡ false
      → offset_wrong (latest_clock t) offset (place_at env.places t i) ≡ false → (room : is_full env.places t ≡ false)
      → Counts env.places t holder (Rekey target offset) (rekey_plan env holder t offset i (place_at env.places t i)).did
  unfolding rekey_plan issued_by grant_by heir_of heir_dated linked_to begins_with
  rekey_counted target offset i e alive right room =
      let x = sought holder target in
      let r = place_at env.places t i in
      let b : Replaced env.places t i (heir_of (next_serial t) (latest_clock t) offset r env.fresh) _ =
      heir_leaves env.places t held room env.fresh fresh_bytes offset i (find_below env.places t x i e) (found_stands env.places t x i e) alive right in
      record {
        place = i;
        copies = λ other_target moved q _. subst (λ (y : Target). find env.places t (sought holder y) ≡ Some i) (same_target q) e;
        counted = record {
          places = λ j l h. elim (ℕ_discrete j b.place) [
            | yes q ↦ inr (subst (λ (k : ℕ). New t (last_serial t + 1) r.total (place_at env.places (with_heir env.places t i (heir_of (next_serial t) (latest_clock t) offset r env.fresh)) k)) (sym q)
                (subst (New t (last_serial t + 1) r.total) (sym b.new) (record { serial = refl; issued = refl; total = refl; count = refl })))
            | no q ↦ inl (elim (ℕ_discrete j i) [
              | yes p ↦ subst (λ (k : ℕ). Old env.places t (λ y. 0) k (place_at env.places (with_heir env.places t i (heir_of (next_serial t) (latest_clock t) offset r env.fresh)) k)) (sym p)
                  (subst (Old env.places t (λ y. 0) i) (sym b.old) (record { serial = refl; total = refl; count = omega arith }))
              | no p ↦ same_old env.places t _ j _ (b.others j l q p) (λ y. refl)
            ])
          ];
          granted = λ y. inl refl;
          issued = inr (refl, b.issued);
        };
      }
    where
      target_in : Command → Target → Target
      target_in Unsupported d = d
      target_in Invalid d = d
      target_in (Create wanted) d = d
      target_in (Rekey target offset) d = target
      target_in (GetUsageAllocation target amount) d = d
      target_in (Activate target) d = d
      target_in (Revoke target code) d = d
      target_in (Destroy target) d = d
      target_in (GetAttributes target) d = d
      target_in (Get target) d = d
      target_in (Locate name) d = d

      same_target : {other : Target} {moved : Option ℕ} → Rekey target offset ≡ Rekey other moved → target ≡ other
      same_target q = ap (λ (c : Command). target_in c target) q

  move_counted : {c : Command} {operation code : ℕ} {target : Target} (m : Moving c operation code target) (i next : ℕ) → find env.places t (sought holder target) ≡ Some i
      → next_state operation code (place_at env.places t i).state ≡ Ok next → Counts env.places t holder c (changed env holder t i (moved_to operation code (latest_clock t) next (place_at env.places t i)))
  unfolding moved_to with_dates in_state
  move_counted {c} {operation} {code} {target} m i next e g =
      let x = sought holder target in
      let r = place_at env.places t i in
      let did = changed env holder t i (moved_to operation code (latest_clock t) next r) in
      let none : (y : ℕ) → grant_by y c did.outcome ≡ 0 = λ y. move_grants m y did.outcome in
      silent {did = did} (move_issues m did.outcome)
      (counted_edit env.places t _ i (moved_to operation code (latest_clock t) next r) _ (λ y. grant_by y c did.outcome) _ (move_issues m did.outcome)
      (moved_leaves env.places t held i (find_below env.places t x i e) (found_stands env.places t x i e) operation code next g)
      (record { serial = refl; total = refl; count = let z : grant_by r.serial c did.outcome ≡ 0 = none r.serial in omega arith })
      (λ j l d. none (place_at env.places t j).serial) (λ y. inl (none y)))

  -- every kind of item
  pub kind_counts : {operation : ℕ} (c : Command) (did : Did) → Kind env holder t c did → Commanded operation c → Counts env.places t holder c did
  unfolding issued_by grant_by locate_plan
  kind_counts c did (fails reason) m = silent {did = failing t reason} (no_issue c reason) (counted_same env.places t _ _ _ (no_issue c reason) (λ x. no_grant x c reason))
  kind_counts c did (creates wanted free room) m = create_counted wanted (create_allowed m) room
  kind_counts c did (rekeys target offset i e alive none right room) m = rekey_counted target offset i e alive right room
  kind_counts c did (grants target amount i e g) m = grant_counted target amount i e g
  kind_counts c did (moves v i next e late g) m = move_counted v i next e g
  kind_counts c did (shows target i e) m = silent {did = record { outcome = Showed (shown_of (place_at env.places t i)); table = t; holder = holder }} refl (counted_same env.places t _ _ _ refl (λ x. refl))
  kind_counts c did (gets target i e alive) m = silent {did = record { outcome = Got (key_of (place_at env.places t i)); table = t; holder = holder }} refl (counted_same env.places t _ _ _ refl (λ x. refl))
  kind_counts c did (locates name) m = silent {did = (locate_plan env holder t name).did} refl (counted_same env.places t _ _ _ refl (λ x. refl))
