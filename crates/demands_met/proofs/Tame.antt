-- What one item may do to the records: states change only by the listed transitions, a record leaves its place only by a take-over, and untouched records stay.
-- Assumes nothing.
use Rattle.std.specs.Prelude.{Option, None, Some}
use Prim.Native.Nat.{ℕ, ◌+◌, ◌<◌, ◌≤◌}
use native.Mathlib.Omega.{arith}
use native.Mathlib.Decide.{ℕ_discrete}
use mathlib.Core.Path.{◌≡◌, refl, sym, ap, subst, ◌∙◌}
use mathlib.Core.Logic.{⊎_elim}
use mathlib.Core.Bool.{Bool, true, false, not, ◌&&◌, ◌||◌, true≢false, false≢true}
use mathlib.Core.List.{List}
use lib.ListN.{length}
use lib.Dec.{eqb}
use borrow.Author.Tests.{eqb-true, eq-eqb, ne_eqb}
use Rattle.name_search.proofs.Finds.{found_name_below}
use Rattle.name_search.specs.Names.{find_name}
use Rattle.names.specs.declared.Name.{Name}
use Rattle.names.specs.Names.{no_name}
use Rattle.octets.specs.If.{ifb}
use Rattle.octets.proofs.If.{ifb_true, ifb_false}
use Rattle.octets.specs.Octets.{Bytes}
use Rattle.octets.proofs.Bools.{and_i, and_no, or_l, or_r}
use Rattle.table.specs.declared.Record.{Record}
use Rattle.table.specs.Layout.{material_size}
use Rattle.table.specs.Records.{place_at, serial_at, is_free, last_serial, latest_clock}
use Rattle.search.specs.Search.{find, new_place, is_destroyed}
use Rattle.table.proofs.Places.{serial_is, state_is}
use Rattle.search.proofs.Finds.{find_below, new_at}
use Rattle.soundness.specs.Checked.{is_at}
use Rattle.changes.specs.Records.{in_state, with_dates, moved_to, with_count}
use Rattle.heirs.specs.Heirs.{heir_dated, heir_of, linked_to}
use Rattle.new_records.specs.New.{new_record}
use Rattle.rules.specs.Numbers.{active, destroy}
use Rattle.rules.proofs.Grants.{grant_is}
use Rattle.rules.proofs.States.{three}
use Rattle.rules.proofs.Moves.{Move, activates, compromises, compromises_destroyed, deactivates, destroys, destroys_compromised, move}
use Rattle.keeps.proofs.Stores.{other}
use Rattle.keeps.proofs.Keeps.{Held, found_stands}
use Rattle.keeps.proofs.Leaves.{moved_leaves, count_leaves, born_leaves, heir_leaves}
use Rattle.batch_item.specs.Item.{Asked}
use Rattle.target_read.specs.declared.Target.{Target}
use Rattle.payload.specs.declared.Command.{Command}
use Rattle.payload.specs.Payload.{command}
use Rattle.words.specs.Words.{words_of}
use Rattle.plans.specs.declared.Key.{Key}
use Rattle.plans.specs.declared.Outcome.{Outcome}
use Rattle.plans.specs.declared.Outcome.TheVariants.{Failed, Created, Done, Showed, Got, Located, Undone}
use Rattle.plans.specs.Plans.{Env, Did, env_at, create_plan, rekey_plan, locate_plan, serial_found, shown_of, key_of, is_failed}
use Rattle.act.specs.Act.{sought, step}
use Rattle.act.proofs.Went.{Moving, activating, revoking, destroying, Kind, fails, creates, rekeys, grants, moves, shows, gets, locates, step_kind}
use Rattle.batch.specs.Batch.{answer_to}
use Rattle.batch_keeps.proofs.Steps.{step_latest}
use Rattle.batch_keeps.proofs.Commands.{Commanded, to_activate, to_revoke, to_destroy, commanded}
use Rattle.demands.specs.Log.{Event, issued_by, heir_from, handed_by}
use Rattle.demands.specs.Demand3.{named_by, is_understood, moves_state, asks_key, asks_heir, asks_units, asks_name, is_made, carries, code_of, born_by, name_born, found_in, listed, Tame}
use Rattle.demands_met.proofs.Locates.{step_finds}
use Rattle.demands_met.proofs.Counted.{create_allowed, no_issue, move_issues, Counts, kind_counts}

-- ---- the listed transitions

move_listed : {operation code state next : ℕ} → Move operation code state next → listed operation code state next ≡ true
unfolding listed
move_listed (activates o s n) = rw (o, s, n)
move_listed {code} {state} (compromises o c h k n) = rw (o, c, n) (⊎_elim (λ e. rw e) (⊎_elim (λ e. rw e) (λ e. rw e)) (three state 1 h k))
move_listed (compromises_destroyed o c s n) = rw (o, c, s, n)
move_listed (deactivates o c s n) = rw (o, c, s, n)
move_listed {state} (destroys o s n) = rw (o, n) (⊎_elim (λ (e : state ≡ 1). rw e) (λ (e : state ≡ 3). rw e) s)
move_listed (destroys_compromised o s n) = rw (o, s, n)

-- what leads to a state that is not destroyed is no Destroy
move_live : {operation code state next : ℕ} → Move operation code state next → is_destroyed next ≡ false → eqb operation destroy ≡ false
move_live (activates o s n) d = ap (λ (x : ℕ). eqb x destroy) o
move_live (compromises o c h k n) d = ap (λ (x : ℕ). eqb x destroy) o
move_live (compromises_destroyed o c s n) d = ap (λ (x : ℕ). eqb x destroy) o
move_live (deactivates o c s n) d = ap (λ (x : ℕ). eqb x destroy) o
move_live (destroys o s n) d = absurd (false≢true (sym d ∙ ap is_destroyed n))
move_live (destroys_compromised o s n) d = absurd (false≢true (sym d ∙ ap is_destroyed n))

-- ---- places

is_at_lem : (i k : ℕ) (f : Option ℕ) → f ≡ Some k → i ≡ k → is_at i f ≡ true
unfolding is_at
is_at_lem i k f e q = ap (is_at i) e ∙ eq-eqb k i (sym q)

not_at : (i k : ℕ) (f : Option ℕ) → f ≡ Some k → (i ≡ k → ⊥) → is_at i f ≡ false
unfolding is_at
not_at i k f e q = ap (is_at i) e ∙ ne_eqb k i (λ z. q (sym z))

at_is : (i k : ℕ) (f : Option ℕ) → f ≡ Some k → is_at i f ≡ true → i ≡ k
unfolding is_at
at_is i k f e h = sym (eqb-true k i (sym (ap (is_at i) e) ∙ h))

and_false : (a b : Bool) → b ≡ false → (a && b) ≡ false
and_false true b h = h
and_false false b h = refl

-- ---- one place

-- the item of a command c names place i
abbrev named_at : ℕ → ℕ → List ℕ → Command → ℕ → Bool
named_at n holder t c i = is_at i (find n t (named_by holder c))

-- and takes it
abbrev took_at : ℕ → List ℕ → Command → Did → ℕ → Bool
took_at n t c did i = not (eqb (issued_by c did.outcome) 0) && is_at i (new_place n t)

-- an item takes no place but the one that is due, and none where it issues nothing
not_taken : (n : ℕ) (t : List ℕ) (c : Command) (did : Did) (i k : ℕ) → new_place n t ≡ Some k → (i ≡ k → ⊥) → took_at n t c did i ≡ false
not_taken n t c did i k e q = and_false (not (eqb (issued_by c did.outcome) 0)) (is_at i (new_place n t)) (not_at i k (new_place n t) e q)

none_taken : (n : ℕ) (t : List ℕ) (c : Command) (did : Did) (i : ℕ) → issued_by c did.outcome ≡ 0 → took_at n t c did i ≡ false
none_taken n t c did i e = and_no (not (eqb (issued_by c did.outcome) 0)) (is_at i (new_place n t)) (ap (λ (s : ℕ). not (eqb s 0)) e)

-- the record that a search in n places found
pub found_at : ℕ → List ℕ → Option ℕ → Record
found_at n t (Some i) = place_at n t i
found_at n t None = place_at n t 0

found_same : (n : ℕ) (t : List ℕ) (f : Option ℕ) → found_at n t f ≡ found_in n t f
unfolding found_at found_in
found_same n t (Some i) = refl
found_same n t None = refl

-- the state in which what the item issues begins
abbrev born_as : ℕ → ℕ → List ℕ → Command → ℕ
born_as n holder t c = born_by (latest_clock t) c (found_at n t (find n t (named_by holder c)))

-- and its name
abbrev born_called : ℕ → ℕ → List ℕ → Command → Name
born_called n holder t c = name_born c (found_at n t (find n t (named_by holder c)))

-- the item takes the name of place i
abbrev unnamed_at : ℕ → ℕ → List ℕ → Command → Did → ℕ → Bool
unnamed_at n holder t c did i = not (eqb (issued_by c did.outcome) 0) && is_at i (find n t (heir_from holder c))

-- it takes none where it issues nothing, and none of a place that it does not find
quiet_none : (n holder : ℕ) (t : List ℕ) (c : Command) (did : Did) (i : ℕ) → issued_by c did.outcome ≡ 0 → unnamed_at n holder t c did i ≡ false
quiet_none n holder t c did i e = and_no (not (eqb (issued_by c did.outcome) 0)) (is_at i (find n t (heir_from holder c))) (ap (λ (s : ℕ). not (eqb s 0)) e)

find_zero : (n : ℕ) (t : List ℕ) (i : ℕ) → is_at i (find n t 0) ≡ false
unfolding find is_at
find_zero n t i = ap (is_at i) (ifb_true (eqb 0 0) None _ refl)

-- and moves its state by a listed transition
abbrev way_at : ℕ → List ℕ → ℕ → Command → Did → ℕ → Bool
way_at n t operation c did i = listed operation (code_of c) (place_at n t i).state (place_at n did.table i).state

-- an item on place i, as the demand says it, for a command c of an operation
pub record TameAt (n holder : ℕ) (t : List ℕ) (operation : ℕ) (c : Command) (did : Did) (i : ℕ) : Type 0 where
  pub others : named_at n holder t c i ≡ false → took_at n t c did i ≡ false → place_at n did.table i ≡ place_at n t i
  pub kept : took_at n t c did i ≡ false → (place_at n did.table i).serial ≡ (place_at n t i).serial
  pub moves : took_at n t c did i ≡ false → ((place_at n did.table i).state ≡ (place_at n t i).state → ⊥)
      → (is_made did.outcome ≡ true) × (named_at n holder t c i ≡ true) × (way_at n t operation c did i ≡ true)
  pub obeys : named_at n holder t c i ≡ true → is_made did.outcome ≡ true → moves_state c ≡ true → way_at n t operation c did i ≡ true
  pub taken : took_at n t c did i ≡ true
      → ((is_free t i || is_destroyed (place_at n t i).state) ≡ true) × ((place_at n did.table i).serial ≡ issued_by c did.outcome) × ((place_at n did.table i).state ≡ born_as n holder t c) × ((place_at n did.table i).name ≡ born_called n holder t c)
  pub called : took_at n t c did i ≡ false → (place_at n did.table i).name ≡ ifb (unnamed_at n holder t c did i) no_name (place_at n t i).name
  pub holds : took_at n t c did i ≡ false → is_destroyed (place_at n did.table i).state ≡ false → key_of (place_at n did.table i) ≡ key_of (place_at n t i)

module _ {n holder : ℕ} {t : List ℕ} {operation : ℕ} {c : Command} {did : Did} (i : ℕ) where
  -- a record that stayed the same, and was not to move
  stayed : place_at n did.table i ≡ place_at n t i → took_at n t c did i ≡ false → unnamed_at n holder t c did i ≡ false → (named_at n holder t c i ≡ true → is_made did.outcome ≡ true → moves_state c ≡ true → ⊥)
      → TameAt n holder t operation c did i
  stayed e miss quiet still = record {
    holds = λ b d. ap key_of e;
    called = λ b. ap (λ (r : Record). r.name) e ∙ sym (ifb_false (unnamed_at n holder t c did i) no_name (place_at n t i).name quiet);
    others = λ a b. e;
    kept = λ b. ap (λ (r : Record). r.serial) e;
    moves = λ b d. absurd (d (ap (λ (r : Record). r.state) e));
    obeys = λ a f m. absurd (still a f m);
    taken = λ b. absurd (true≢false (sym b ∙ miss));
  }

  -- a named record with its serial and state kept, by a command that moves none
  touched : (place_at n did.table i).serial ≡ (place_at n t i).serial → (place_at n did.table i).state ≡ (place_at n t i).state
      → (place_at n did.table i).name ≡ ifb (unnamed_at n holder t c did i) no_name (place_at n t i).name
      → key_of (place_at n did.table i) ≡ key_of (place_at n t i) → named_at n holder t c i ≡ true → took_at n t c did i ≡ false → moves_state c ≡ false → TameAt n holder t operation c did i
  touched s e m key hit miss still = record {
    holds = λ b d. key;
    called = λ b. m;
    others = λ a b. absurd (true≢false (sym hit ∙ a));
    kept = λ b. s;
    moves = λ b d. absurd (d e);
    obeys = λ a f m. absurd (true≢false (sym m ∙ still));
    taken = λ b. absurd (true≢false (sym b ∙ miss));
  }

  -- a named record that moved
  shifted : (place_at n did.table i).serial ≡ (place_at n t i).serial → (place_at n did.table i).name ≡ ifb (unnamed_at n holder t c did i) no_name (place_at n t i).name
      → (is_destroyed (place_at n did.table i).state ≡ false → key_of (place_at n did.table i) ≡ key_of (place_at n t i)) → is_made did.outcome ≡ true
      → named_at n holder t c i ≡ true → took_at n t c did i ≡ false → way_at n t operation c did i ≡ true → TameAt n holder t operation c did i
  shifted s m key done hit miss w = record {
    holds = λ b d. key d;
    called = λ b. m;
    others = λ a b. absurd (true≢false (sym hit ∙ a));
    kept = λ b. s;
    moves = λ b d. (done, hit, w);
    obeys = λ a f m. w;
    taken = λ b. absurd (true≢false (sym b ∙ miss));
  }

  -- an object that is new
  born : (k : ℕ) → new_place n t ≡ Some k → i ≡ k → (issued_by c did.outcome ≡ 0 → ⊥) → moves_state c ≡ false
      → (place_at n did.table i).serial ≡ issued_by c did.outcome → (place_at n did.table i).state ≡ born_as n holder t c → (place_at n did.table i).name ≡ born_called n holder t c → TameAt n holder t operation c did i
  born k e q new still s b m = record {
    holds = λ miss d. absurd (true≢false (sym hit ∙ miss));
    called = λ miss. absurd (true≢false (sym hit ∙ miss));
    others = λ a miss. absurd (true≢false (sym hit ∙ miss));
    kept = λ miss. absurd (true≢false (sym hit ∙ miss));
    moves = λ miss d. absurd (true≢false (sym hit ∙ miss));
    obeys = λ a f m. absurd (true≢false (sym m ∙ still));
    taken = λ y. (was, s, b, m);
  }
    where
      hit : took_at n t c did i ≡ true
      hit = and_i _ (is_at i (new_place n t)) (ap not (ne_eqb _ 0 new)) (is_at_lem i k (new_place n t) e q)

      was : (is_free t i || is_destroyed (place_at n t i).state) ≡ true
      was =
          ⊎_elim (λ z. or_l (is_free t i) _ (eq-eqb (serial_at t i) 0 z))
          (λ d. or_r (is_free t i) _ (ap is_destroyed (sym (state_is n t i)) ∙ d.1))
          (new_at n t i (e ∙ ap Some (sym q)))

-- a record's key with other bytes
abbrev key_with : Record → List ℕ → Key
key_with r material = record { serial = r.serial; bits = r.bits; material = words_of material }

-- ---- kinds

move_code : (holder : ℕ) {c : Command} {operation code o : ℕ} {target : Target} → Moving c operation code target → Commanded o c → (o ≡ operation) × (code_of c ≡ code) × (named_by holder c ≡ sought holder target)
unfolding code_of named_by
move_code holder activating (to_activate e) = (e, refl, refl)
move_code holder revoking (to_revoke e) = (e, refl, refl)
move_code holder destroying (to_destroy e) = (e, refl, refl)

module _ (env : Env) (holder : ℕ) (t : List ℕ) (held : Held env.places t) (fresh_bytes : Bytes env.fresh) (i : ℕ) (low : i < env.places) where
  abbrev n : ℕ
  n = env.places

  -- a record stored anew at place k, and read at i
  here : (u : List ℕ) {k : ℕ} {r : Record} → i ≡ k → place_at n u k ≡ r → place_at n u i ≡ r
  here u q e = ap (place_at n u) q ∙ e

  pub kind_tame : {operation : ℕ} (c : Command) (did : Did) → Kind env holder t c did → Commanded operation c → TameAt env.places holder t operation c did i
  unfolding create_plan rekey_plan locate_plan new_record heir_of heir_dated linked_to with_count moved_to with_dates in_state named_by heir_from name_born moves_state is_made issued_by born_by found_at key_of
  kind_tame c did (fails reason) m = stayed i refl (none_taken n t c did i (no_issue c reason)) (quiet_none n holder t c did i (no_issue c reason)) (λ a f z. false≢true f)
  kind_tame c did (shows target k e) m = stayed i refl refl refl (λ a f z. false≢true z)
  kind_tame c did (gets target k e live) m = stayed i refl refl refl (λ a f z. false≢true z)
  kind_tame c did (locates name) m = stayed i refl refl refl (λ a f z. false≢true z)
  kind_tame c did (creates wanted free room) m =
      let b = born_leaves n t held room env.fresh fresh_bytes wanted (create_allowed m) in
      elim (ℕ_discrete i b.place) [
        | no q ↦ stayed i (other n t b.place _ _ _ b.stored i low q) (not_taken n t c did i b.place b.due q) (and_false (not (eqb (last_serial t + 1) 0)) (is_at i (find n t 0)) (find_zero n t i)) (λ a f z. false≢true z)
        | yes q ↦ (let r = here did.table q b.stored.here in
            born i b.place b.due q (λ z. (let y : last_serial t + 1 ≡ 0 = z in omega arith)) refl (ap (λ (x : Record). x.serial) r) (ap (λ (x : Record). x.state) r) (ap (λ (x : Record). x.name) r))
      ]
  kind_tame c did (rekeys target offset k e alive single right room) m =
      let x = sought holder target in
      let b = heir_leaves n t held room env.fresh fresh_bytes offset k (find_below n t x k e) (found_stands n t x k e) alive right in
      let begins = ap (λ (f : Option ℕ). born_by (latest_clock t) c (found_at n t f)) e in
      let called_so = ap (λ (f : Option ℕ). name_born c (found_at n t f)) e in
      let issues : (last_serial t + 1 ≡ 0) → ⊥ = λ z. omega arith in
      elim (ℕ_discrete i b.place) [
        | yes q ↦ (let r = here did.table q b.new in
            born i b.place b.due q (λ z. (let y : last_serial t + 1 ≡ 0 = z in omega arith)) refl (ap (λ (x : Record). x.serial) r) (ap (λ (x : Record). x.state) r ∙ sym begins) (ap (λ (x : Record). x.name) r ∙ sym called_so))
        | no q ↦ elim (ℕ_discrete i k) [
          | yes p ↦ (let r = here did.table p b.old in
              let s : place_at n t k ≡ place_at n t i = ap (place_at n t) (sym p) in
              touched i (ap (λ (x : Record). x.serial) r ∙ ap (λ (x : Record). x.serial) s) (ap (λ (x : Record). x.state) r ∙ ap (λ (x : Record). x.state) s)
              (ap (λ (x : Record). x.name) r ∙ sym (ifb_true (unnamed_at n holder t c did i) no_name (place_at n t i).name (and_i (not (eqb (last_serial t + 1) 0)) (is_at i (find n t x)) (ap not (ne_eqb (last_serial t + 1) 0 issues)) (is_at_lem i k (find n t x) e p))))
              (ap key_of r ∙ ap key_of s) (is_at_lem i k (find n t x) e p) (not_taken n t c did i b.place b.due q) refl)
          | no p ↦ stayed i (b.others i low q p) (not_taken n t c did i b.place b.due q) (and_false (not (eqb (last_serial t + 1) 0)) (is_at i (find n t x)) (not_at i k (find n t x) e p)) (λ a f z. false≢true z)
        ]
      ]
  kind_tame c did (grants target amount k e g) m =
      let x = sought holder target in
      let st = count_leaves n t held k (find_below n t x k e) (found_stands n t x k e) amount _ g in
      elim (ℕ_discrete i k) [
        | no p ↦ stayed i (other n t k _ _ _ st i low p) refl refl (λ a f z. false≢true z)
        | yes p ↦ (let r = here did.table p st.here in
            let s : place_at n t k ≡ place_at n t i = ap (place_at n t) (sym p) in
            touched i (ap (λ (x : Record). x.serial) r ∙ ap (λ (x : Record). x.serial) s) (ap (λ (x : Record). x.state) r ∙ ap (λ (x : Record). x.state) s)
            (ap (λ (x : Record). x.name) r ∙ ap (λ (x : Record). x.name) s ∙ sym (ifb_false (unnamed_at n holder t c did i) no_name (place_at n t i).name refl))
            (ap key_of r ∙ ap key_of s) (is_at_lem i k (find n t x) e p) refl refl)
      ]
  kind_tame {operation} c did (moves {operation = op} {code} {target} v k next e late g) m =
      let x = sought holder target in
      let st = moved_leaves n t held k (find_below n t x k e) (found_stands n t x k e) op code next g in
      let w = move_code holder v m in
      let found : find n t (named_by holder c) ≡ Some k = ap (find n t) w.2 ∙ e in
      let miss : took_at n t c did i ≡ false = none_taken n t c did i (move_issues v did.outcome) in
      elim (ℕ_discrete i k) [
        | no p ↦ stayed i (other n t k _ _ _ st i low p) miss (quiet_none n holder t c did i (move_issues v did.outcome)) (λ a f z. p (at_is i k _ found a))
        | yes p ↦ (let r = here did.table p st.here in
            let s : place_at n t k ≡ place_at n t i = ap (place_at n t) (sym p) in
            shifted i (ap (λ (x : Record). x.serial) r ∙ ap (λ (x : Record). x.serial) s)
            (ap (λ (x : Record). x.name) r ∙ ap (λ (x : Record). x.name) s ∙ sym (ifb_false (unnamed_at n holder t c did i) no_name (place_at n t i).name (quiet_none n holder t c did i (move_issues v did.outcome))))
            (λ d. ap key_of r ∙ ap (λ (m : List ℕ). key_with (place_at n t k) m) (ifb_false (eqb op destroy) _ _ (move_live (move op code (place_at n t k).state next g) (sym (ap (λ (y : Record). is_destroyed y.state) r) ∙ d))) ∙ ap key_of s)
            refl (is_at_lem i k _ found p) miss
            (subst (λ (y : Record). listed operation (code_of c) (place_at n t i).state y.state ≡ true) (sym r)
            (subst (λ (y : Record). listed operation (code_of c) y.state next ≡ true) s
            (subst (λ (o : ℕ). listed o (code_of c) (place_at n t k).state next ≡ true) (sym w.0)
            (subst (λ (o : ℕ). listed op o (place_at n t k).state next ≡ true) (sym w.1) (move_listed (move op code (place_at n t k).state next g)))))))
      ]

-- what is issued stands
kind_stands : (env : Env) (holder : ℕ) (t : List ℕ) → Held env.places t → Bytes env.fresh → {operation : ℕ} (c : Command) (did : Did) → Kind env holder t c did → Commanded operation c
    → (issued_by c did.outcome ≡ 0 → ⊥) → (i : ℕ) × (i < env.places) × ((place_at env.places did.table i).serial ≡ issued_by c did.outcome)
unfolding create_plan rekey_plan locate_plan new_record heir_of heir_dated issued_by
kind_stands env holder t held fresh_bytes c did (fails reason) m h = absurd (h (no_issue c reason))
kind_stands env holder t held fresh_bytes c did (creates wanted free room) m h =
    let b = born_leaves env.places t held room env.fresh fresh_bytes wanted (create_allowed m) in
    (b.place, b.below, ap (λ (r : Record). r.serial) b.stored.here)
kind_stands env holder t held fresh_bytes c did (rekeys target offset k e alive single right room) m h =
    let x = sought holder target in
    let b = heir_leaves env.places t held room env.fresh fresh_bytes offset k (find_below env.places t x k e) (found_stands env.places t x k e) alive right in
    (b.place, b.below, ap (λ (r : Record). r.serial) b.new)
kind_stands env holder t held fresh_bytes c did (grants target amount k e g) m h = absurd (h refl)
kind_stands env holder t held fresh_bytes c did (moves v k next e late g) m h = absurd (h (move_issues v did.outcome))
kind_stands env holder t held fresh_bytes c did (shows target k e) m h = absurd (h refl)
kind_stands env holder t held fresh_bytes c did (gets target k e live) m h = absurd (h refl)
kind_stands env holder t held fresh_bytes c did (locates name) m h = absurd (h refl)

-- a success that issues nothing is about a record that stands, and carries its identifier
module _ (env : Env) (holder : ℕ) (t : List ℕ) where
  named_there : (c : Command) (did : Did) (x k : ℕ) → find env.places t x ≡ Some k → named_by holder c ≡ x → carries did.outcome ≡ (place_at env.places t k).serial
      → (i : ℕ) × (i < env.places) × (is_at i (find env.places t (named_by holder c)) ≡ true) × (carries did.outcome ≡ serial_at t i)
  named_there c did x k e n s =
      (k, find_below env.places t x k e, is_at_lem k k _ (ap (find env.places t) n ∙ e) refl, s ∙ sym (serial_is env.places t k))

  kind_about : {operation : ℕ} (c : Command) (did : Did) → Kind env holder t c did → Commanded operation c → is_made did.outcome ≡ true → issued_by c did.outcome ≡ 0 → asks_name c ≡ false
      → (i : ℕ) × (i < env.places) × (is_at i (find env.places t (named_by holder c)) ≡ true) × (carries did.outcome ≡ serial_at t i)
  unfolding create_plan rekey_plan locate_plan with_count moved_to with_dates in_state shown_of key_of is_made issued_by named_by carries asks_name
  kind_about c did (fails reason) m f z a = absurd (false≢true f)
  kind_about c did (creates wanted free room) m f z a = absurd (let y : last_serial t + 1 ≡ 0 = z in omega arith)
  kind_about c did (rekeys target offset k e live single right room) m f z a = absurd (let y : last_serial t + 1 ≡ 0 = z in omega arith)
  kind_about c did (grants target amount k e g) m f z a = named_there c did (sought holder target) k e refl refl
  kind_about c did (moves {target = target} v k next e late g) m f z a = named_there c did (sought holder target) k e (move_code holder v m).2 refl
  kind_about c did (shows target k e) m f z a = named_there c did (sought holder target) k e refl refl
  kind_about c did (gets target k e live) m f z a = named_there c did (sought holder target) k e refl refl
  kind_about c did (locates name) m f z a = absurd (true≢false a)

  -- what a search for a name found stands
  named_found : (name : Name) (f : Option ℕ) → find_name env.places t name ≡ f → (serial_found t f ≡ 0 → ⊥) → (i : ℕ) × (i < env.places) × (serial_at t i ≡ serial_found t f)
  unfolding serial_found
  named_found name (Some i) e h = (i, found_name_below env.places t name i e, refl)
  named_found name None e h = absurd (h refl)

  moving_named : {c : Command} {operation code : ℕ} {target : Target} → Moving c operation code target → asks_name c ≡ false
  unfolding asks_name
  moving_named activating = refl
  moving_named revoking = refl
  moving_named destroying = refl

  kind_located : (c : Command) (did : Did) → Kind env holder t c did → asks_name c ≡ true → (carries did.outcome ≡ 0 → ⊥) → (i : ℕ) × (i < env.places) × (serial_at t i ≡ carries did.outcome)
  unfolding create_plan rekey_plan locate_plan asks_name carries
  kind_located c did (fails reason) a h = absurd (h refl)
  kind_located c did (creates wanted free room) a h = absurd (false≢true a)
  kind_located c did (rekeys target offset k e live single right room) a h = absurd (false≢true a)
  kind_located c did (grants target amount k e g) a h = absurd (false≢true a)
  kind_located c did (moves v k next e late g) a h = absurd (true≢false (sym a ∙ moving_named v))
  kind_located c did (shows target k e) a h = absurd (false≢true a)
  kind_located c did (gets target k e live) a h = absurd (false≢true a)
  kind_located c did (locates name) a h = named_found name (find_name env.places t name) refl h

  -- a replacement is that of a record that stands, is not destroyed and has none
  moving_heir : {c : Command} {operation code : ℕ} {target : Target} → Moving c operation code target → asks_heir c ≡ false
  unfolding asks_heir
  moving_heir activating = refl
  moving_heir revoking = refl
  moving_heir destroying = refl

  kind_renews : (c : Command) (did : Did) → Kind env holder t c did → is_made did.outcome ≡ true → asks_heir c ≡ true
      → (i : ℕ) × (i < env.places) × (is_at i (find env.places t (named_by holder c)) ≡ true) × (is_destroyed (place_at env.places t i).state ≡ false) × ((place_at env.places t i).replacement ≡ 0)
  unfolding create_plan rekey_plan locate_plan is_made named_by asks_heir
  kind_renews c did (fails reason) f a = absurd (false≢true f)
  kind_renews c did (creates wanted free room) f a = absurd (false≢true a)
  kind_renews c did (rekeys target offset k e live single right room) f a = (k, find_below env.places t (sought holder target) k e, is_at_lem k k _ e refl, live, single)
  kind_renews c did (grants target amount k e g) f a = absurd (false≢true a)
  kind_renews c did (moves v k next e late g) f a = absurd (true≢false (sym a ∙ moving_heir v))
  kind_renews c did (shows target k e) f a = absurd (false≢true a)
  kind_renews c did (gets target k e live) f a = absurd (false≢true a)
  kind_renews c did (locates name) f a = absurd (false≢true a)

-- a key that is handed out is not destroyed
moving_asks : {c : Command} {operation code : ℕ} {target : Target} → Moving c operation code target → asks_key c ≡ false
unfolding asks_key
moving_asks activating = refl
moving_asks revoking = refl
moving_asks destroying = refl

kind_hands : (env : Env) (holder : ℕ) (t : List ℕ) (c : Command) (did : Did) → Kind env holder t c did → (handed_by did.outcome ≡ 0 → ⊥) → asks_key c ≡ true
unfolding create_plan rekey_plan locate_plan handed_by asks_key
kind_hands env holder t c did (fails reason) h = absurd (h refl)
kind_hands env holder t c did (creates wanted free room) h = absurd (h refl)
kind_hands env holder t c did (rekeys target offset k e live single right room) h = absurd (h refl)
kind_hands env holder t c did (grants target amount k e g) h = absurd (h refl)
kind_hands env holder t c did (moves v k next e late g) h = absurd (h refl)
kind_hands env holder t c did (shows target k e) h = absurd (h refl)
kind_hands env holder t c did (gets target k e live) h = refl
kind_hands env holder t c did (locates name) h = absurd (h refl)

kind_alive : (env : Env) (holder : ℕ) (t : List ℕ) (c : Command) (did : Did) → Kind env holder t c did → (i : ℕ) → is_at i (find env.places t (named_by holder c)) ≡ true → is_made did.outcome ≡ true
    → asks_key c ≡ true → is_destroyed (place_at env.places t i).state ≡ false
unfolding create_plan rekey_plan locate_plan is_made named_by asks_key
kind_alive env holder t c did (fails reason) i a f k = absurd (false≢true f)
kind_alive env holder t c did (creates wanted free room) i a f k = absurd (false≢true k)
kind_alive env holder t c did (rekeys target offset j e live single right room) i a f k = absurd (false≢true k)
kind_alive env holder t c did (grants target amount j e g) i a f k = absurd (false≢true k)
kind_alive env holder t c did (moves v j next e late g) i a f k = absurd (true≢false (sym k ∙ moving_asks v))
kind_alive env holder t c did (shows target j e) i a f k = absurd (false≢true k)
kind_alive env holder t c did (gets target j e live) i a f k = ap (λ (l : ℕ). is_destroyed (place_at env.places t l).state) (at_is i j _ e a) ∙ live
kind_alive env holder t c did (locates name) i a f k = absurd (false≢true k)

-- what is handed out is the key of the record that is named
abbrev is_got : Outcome → Bool
is_got (Failed reason) = false
is_got (Created serial) = false
is_got (Done serial) = false
is_got (Showed shown) = false
is_got (Got key) = true
is_got (Located serial) = false
is_got Undone = false

abbrev got_in : Key → Outcome → Key
got_in other (Failed reason) = other
got_in other (Created serial) = other
got_in other (Done serial) = other
got_in other (Showed shown) = other
got_in other (Got key) = key
got_in other (Located serial) = other
got_in other Undone = other

kind_gives : (env : Env) (holder : ℕ) (t : List ℕ) (c : Command) (did : Did) → Kind env holder t c did → (key : Key) → did.outcome ≡ Got key → (i : ℕ)
    → is_at i (find env.places t (named_by holder c)) ≡ true → key ≡ key_of (place_at env.places t i)
unfolding create_plan rekey_plan locate_plan named_by
kind_gives env holder t c did (fails reason) key o i a = absurd (false≢true (ap is_got o))
kind_gives env holder t c did (creates wanted free room) key o i a = absurd (false≢true (ap is_got o))
kind_gives env holder t c did (rekeys target offset j e live single right room) key o i a = absurd (false≢true (ap is_got o))
kind_gives env holder t c did (grants target amount j e g) key o i a = absurd (false≢true (ap is_got o))
kind_gives env holder t c did (moves v j next e late g) key o i a = absurd (false≢true (ap is_got o))
kind_gives env holder t c did (shows target j e) key o i a = absurd (false≢true (ap is_got o))
kind_gives env holder t c did (gets target j e live) key o i a = sym (ap (got_in key) o) ∙ ap (λ (l : ℕ). key_of (place_at env.places t l)) (sym (at_is i j _ e a))
kind_gives env holder t c did (locates name) key o i a = absurd (false≢true (ap is_got o))

-- units are granted to an Active key
moving_units : {c : Command} {operation code : ℕ} {target : Target} → Moving c operation code target → asks_units c ≡ false
unfolding asks_units
moving_units activating = refl
moving_units revoking = refl
moving_units destroying = refl

kind_spends : (env : Env) (holder : ℕ) (t : List ℕ) (c : Command) (did : Did) → Kind env holder t c did → (i : ℕ) → is_at i (find env.places t (named_by holder c)) ≡ true → is_made did.outcome ≡ true
    → asks_units c ≡ true → (place_at env.places t i).state ≡ active
unfolding create_plan rekey_plan locate_plan is_made named_by asks_units
kind_spends env holder t c did (fails reason) i a f k = absurd (false≢true f)
kind_spends env holder t c did (creates wanted free room) i a f k = absurd (false≢true k)
kind_spends env holder t c did (rekeys target offset j e live single right room) i a f k = absurd (false≢true k)
kind_spends env holder t c did (grants target amount j e g) i a f k =
    ap (λ (l : ℕ). (place_at env.places t l).state) (at_is i j _ e a) ∙ (grant_is (place_at env.places t j).state (place_at env.places t j).unit (place_at env.places t j).count amount _ g).usable
kind_spends env holder t c did (moves v j next e late g) i a f k = absurd (true≢false (sym k ∙ moving_units v))
kind_spends env holder t c did (shows target j e) i a f k = absurd (false≢true k)
kind_spends env holder t c did (gets target j e live) i a f k = absurd (false≢true k)
kind_spends env holder t c did (locates name) i a f k = absurd (false≢true k)

-- a failed item leaves the table
kind_failed : (env : Env) (holder : ℕ) (t : List ℕ) (c : Command) (did : Did) → Kind env holder t c did → is_made did.outcome ≡ false → did.table ≡ t
unfolding create_plan rekey_plan locate_plan is_made
kind_failed env holder t c did (fails reason) h = refl
kind_failed env holder t c did (creates wanted free room) h = absurd (true≢false h)
kind_failed env holder t c did (rekeys target offset k e alive single right room) h = absurd (true≢false h)
kind_failed env holder t c did (grants target amount k e g) h = absurd (true≢false h)
kind_failed env holder t c did (moves v k next e late g) h = absurd (true≢false h)
kind_failed env holder t c did (shows target k e) h = refl
kind_failed env holder t c did (gets target k e live) h = refl
kind_failed env holder t c did (locates name) h = refl

-- what was not understood fails
moving_understood : {c : Command} {operation code : ℕ} {target : Target} → Moving c operation code target → is_understood c ≡ true
unfolding is_understood
moving_understood activating = refl
moving_understood revoking = refl
moving_understood destroying = refl

pub kind_understood : (env : Env) (holder : ℕ) (t : List ℕ) (c : Command) (did : Did) → Kind env holder t c did → is_understood c ≡ false → is_failed did.outcome ≡ true
unfolding is_understood is_failed
kind_understood env holder t c did (fails reason) h = refl
kind_understood env holder t c did (creates wanted free room) h = absurd (true≢false h)
kind_understood env holder t c did (rekeys target offset k e alive single right room) h = absurd (true≢false h)
kind_understood env holder t c did (grants target amount k e g) h = absurd (true≢false h)
kind_understood env holder t c did (moves v k next e late g) h = absurd (true≢false (sym (moving_understood v) ∙ h))
kind_understood env holder t c did (shows target k e) h = absurd (true≢false h)
kind_understood env holder t c did (gets target k e live) h = absurd (true≢false h)
kind_understood env holder t c did (locates name) h = absurd (true≢false h)

-- ---- one item, as an event

-- an item with its answer
abbrev pub event_of : ℕ → Asked → Did → Event
event_of holder asked did = record { held = holder; asked = asked; answer = answer_to asked did }

module _ (n : ℕ) (strip : List ℕ) (k holder : ℕ) (t : List ℕ) (asked : Asked) where
  -- what item k meets, and what it leaves
  abbrev own : Env
  own = env_at n strip k

  abbrev did : Did
  did = step own holder t asked

  abbrev c : Command
  c = command asked.operation asked.payload

  pub step_tame : Held n t → Bytes own.fresh → material_size ≤ length own.fresh → Tame n (event_of holder asked did) t did.table
  step_tame held fresh_bytes long = record {
    operation = refl;
    id = refl;
    understood = kind_understood own holder t c did went;
    failed = kind_failed own holder t c did went;
    others = λ i low a b. (at i low).others a b;
    kept = λ i low b. serial_is n did.table i ∙ (at i low).kept b ∙ sym (serial_is n t i);
    moves = λ i low b d. (let w = (at i low).moves b d in record { done = w.0; named = w.1; way = w.2 });
    obeys = λ i low a f m. (at i low).obeys a f m;
    taken = λ i low y. (let w = (at i low).taken y in record { was = w.0; serial = serial_is n did.table i ∙ w.1; state = w.2 ∙ ap (born_by (latest_clock t) c) (found_same n t _); name = w.3 ∙ ap (name_born c) (found_same n t _) });
    called = λ i low b. (at i low).called b;
    stands = λ h. (let w = kind_stands own holder t held fresh_bytes c did went (commanded asked.operation asked.payload) h in (w.0, record { below = w.1; serial = serial_is n did.table w.0 ∙ w.2 }));
    about = λ f z a. (let w = kind_about own holder t c did went (commanded asked.operation asked.payload) f z a in record { place = w.0; below = w.1; named = w.2; serial = w.3 });
    renews = λ f a. (let w = kind_renews own holder t c did went f a in record { place = w.0; below = w.1; named = w.2; live = w.3; single = w.4 });
    located = λ a h. (let w = kind_located own holder t c did went a h in (w.0, record { below = w.1; serial = w.2 }));
    found = λ name e m. step_finds strip k holder t asked held name e;
    hands = kind_hands own holder t c did went;
    alive = λ i low a f k. kind_alive own holder t c did went i a f k;
    gives = λ key o i low a. kind_gives own holder t c did went key o i a;
    holds = λ i low b d. (at i low).holds b d;
    spends = λ i low a f k. kind_spends own holder t c did went i a f k;
    latest = step_latest own holder t held fresh_bytes long asked;
    grants = λ x z away. ⊎_elim (λ none. none) (λ h. absurd (away h.place (record { below = h.below; serial = serial_is n t h.place ∙ h.serial }))) (counts.counted.granted x);
  }
    where
      went : Kind own holder t c did
      went = step_kind own holder t asked

      counts : Counts n t holder c did
      counts = kind_counts own holder t held fresh_bytes c did went (commanded asked.operation asked.payload)

      at : (i : ℕ) → i < n → TameAt n holder t asked.operation c did i
      at i low = kind_tame own holder t held fresh_bytes i low c did went (commanded asked.operation asked.payload)
