-- An item on a sound table leaves a sound table, and its answer is one that a response may have.
-- Assumes nothing.
use Rattle.std.specs.Prelude.{Option, None, Some}
use Prim.Native.Nat.{ℕ, ◌/◌, ◌^◌, ◌≤◌, ◌<◌}
use native.Mathlib.Omega.{arith}
use mathlib.Core.Path.{◌≡◌, refl, sym, ap, ◌∙◌}
use mathlib.Core.Logic.{◌⊎◌, inl, inr, ⊎_elim}
use mathlib.Core.Bool.{Bool, true, false, ◌&&◌}
use mathlib.Core.List.{List}
use lib.ListN.{length, drop}
use lib.Dec.{leb, ltb, eqb}
use borrow.Author.Tests.{le-leb, lt-ltb, eq-eqb, ne_eqb}
use Rattle.octets.specs.If.{ifb}
use Rattle.octets.specs.Octets.{Bytes, all_zero}
use Rattle.table.specs.declared.Record.{Record}
use Rattle.utf8.specs.Text.{text}
use Rattle.names.specs.declared.Name.{Name}
use Rattle.names.specs.Names.{no_name, name_text, name_of, shape_right}
use Rattle.names.proofs.Stored.{NameRange}
use Rattle.names.proofs.Same.{same_of}
use Rattle.names.proofs.Texts.{name_again, text_ok, unnamed_none}
use Rattle.name_search.specs.Names.{find_name}
use Rattle.name_search.proofs.Finds.{found_name_below}
use Rattle.octets.proofs.If.{on_if}
use Rattle.table.specs.Layout.{material_size}
use Rattle.table.specs.Records.{place_at, serial_at, last_serial, latest_clock}
use Rattle.search.specs.Search.{find}
use Rattle.table.proofs.Lines.{InRange}
use Rattle.table.proofs.Places.{serial_is}
use Rattle.search.proofs.Finds.{find_below}
use Rattle.values.specs.Values.{bits_ok, mask_ok, unit_ok, total_ok, not_negative, in_order}
use Rattle.octets.proofs.Bools.{and_i, or_l, or_r}
use Rattle.record_rules.proofs.Fit.{Unlimited, Limited, Fit, Dated}
use Rattle.rules.specs.Numbers.{create, locate, get, get_attributes}
use Rattle.changes.specs.Records.{in_state, with_dates, moved_to, with_count}
use Rattle.changes.specs.Changes.{serial_most, next_serial}
use Rattle.rules.specs.declared.Attributes.{Attributes}
use Rattle.keeps.proofs.Begun.{Allowed}
use Rattle.keeps.proofs.Keeps.{Held, facts, last_fits, found_stands, range, fit, dated, next_fits, keeps_moved, keeps_count, keeps_born, keeps_heir}
use Rattle.keeps.proofs.Leaves.{moved_leaves, count_leaves, born_leaves, heir_leaves}
use Rattle.words.specs.Words.{words_of, word_bytes, words_ok}
use Rattle.words.proofs.Laws.{words_back, words_fit}
use Rattle.batch_item.specs.Item.{Asked, id_most}
use Rattle.target_read.specs.declared.Target.{Target}
use Rattle.payload.specs.declared.Command.{Command}
use Rattle.payload.specs.declared.Command.TheVariants.{Create, Rekey, GetUsageAllocation, GetAttributes, Get, Locate}
use Rattle.plans.specs.Plans.{Env, Did, create_plan, rekey_plan, locate_plan, serial_found, shown_of, key_of}
use Rattle.act.specs.Act.{sought, step}
use Rattle.act.proofs.Went.{Moving, activating, revoking, destroying, Kind, fails, creates, rekeys, grants, moves, shows, gets, locates, step_kind}
use Rattle.answer.specs.Read.{answers_done, serial_ok, link_ok, name_shown_ok, shown_ok, key_ok, outcome_ok, answer_ok}
use Rattle.batch.specs.Batch.{answer_to}
use Rattle.batch_keeps.proofs.Commands.{Commanded, to_create, to_rekey, to_allocate, to_activate, to_revoke, to_destroy, to_show, to_get, to_locate, commanded}

-- ---- what a command's operation answers

create_allowed : {operation : ℕ} {wanted : Attributes} → Commanded operation (Create wanted) → (operation ≡ create) × Allowed wanted
create_allowed (to_create o a) = (o, a)

rekey_done : {operation : ℕ} {target : Target} {offset : Option ℕ} → Commanded operation (Rekey target offset) → answers_done operation ≡ true
rekey_done (to_rekey o) = rw o

allocation_done : {operation amount : ℕ} {target : Target} → Commanded operation (GetUsageAllocation target amount) → answers_done operation ≡ true
allocation_done (to_allocate o) = rw o

move_done : {c : Command} {operation code o : ℕ} {target : Target} → Moving c operation code target → Commanded o c → answers_done o ≡ true
move_done activating (to_activate e) = rw e
move_done revoking (to_revoke e) = rw e
move_done destroying (to_destroy e) = rw e

show_operation : {operation : ℕ} {target : Target} → Commanded operation (GetAttributes target) → operation ≡ get_attributes
show_operation (to_show o) = o

get_operation : {operation : ℕ} {target : Target} → Commanded operation (Get target) → operation ≡ get
get_operation (to_get o) = o

locate_operation : {operation : ℕ} {name : Name} → Commanded operation (Locate name) → operation ≡ locate
locate_operation (to_locate o) = o

-- ---- serials and records that may be answered

serial_ok_lem : (s : ℕ) → (s ≡ 0 → ⊥) → s < 256 ^ 4 → serial_ok s ≡ true
serial_ok_lem s z l = and_i (leb 1 s) (leb s serial_most) (le-leb 1 s (omega arith)) (le-leb s serial_most (omega arith))

link_ok_lem : (s : ℕ) → s < 256 ^ 4 → link_ok s ≡ true
link_ok_lem s l = le-leb s serial_most (omega arith)

limit_ok : (r : Record) → Unlimited r ⊎ Limited r
    → ifb (eqb r.unit 0) (eqb r.total 0 && eqb r.count 0) (unit_ok r.unit && total_ok r.total && leb r.count r.total) ≡ true
unfolding ifb
limit_ok r (inl u) = rw (u.unit, u.total, u.count)
limit_ok r (inr l) =
    let z : eqb r.unit 0 ≡ false = ne_eqb r.unit 0 (λ e. no_unit (sym (ap unit_ok e) ∙ l.unit)) in
    rw z (and_i (unit_ok r.unit && total_ok r.total) (leb r.count r.total)
    (and_i (unit_ok r.unit) (total_ok r.total) l.unit (and_i (leb 1 r.total) (leb r.total 1_000_000_000_000) (le-leb 1 r.total l.least) (le-leb r.total 1_000_000_000_000 l.most)))
    (le-leb r.count r.total l.count))
  where
    no_unit : unit_ok 0 ≡ true → ⊥
    no_unit e = let y : ◌≡◌ {A = ℕ} 0 1 = cc in omega arith

-- a name as a sound table has it is none, or one that its own text makes
name_ok_lem : (m : Name) → NameRange m → shape_right m ≡ true → text (name_text m) ≡ true → name_shown_ok m ≡ true
unfolding name_shown_ok
name_ok_lem m g shape is =
    on_if (λ (b : Bool). b ≡ true)
    (λ e. and_i _ _ (text_ok m g shape e is) (same_of (name_of (name_text m)) m (name_again m g shape)))
    (λ e. same_of no_name m (sym (unnamed_none m g shape e)))

shown_ok_lem : (last latest : ℕ) (r : Record) → (r.serial ≡ 0 → ⊥) → InRange r → Fit last r → Dated latest r → shown_ok (shown_of r) ≡ true
unfolding shown_ok shown_of
shown_ok_lem last latest r z g f d =
    and_i _ (name_shown_ok r.name)
    (and_i _ (link_ok r.replacement)
    (and_i _ (link_ok r.replaced)
    (and_i _ _
    (and_i _ (in_order r.activation r.deactivation)
    (and_i _ (not_negative r.deactivation)
    (and_i _ (not_negative r.activation)
    (and_i _ (leb 1 r.state && leb r.state 6)
    (and_i _ (mask_ok r.mask)
    (and_i (serial_ok r.serial) (bits_ok r.bits) (serial_ok_lem r.serial z g.serial) f.bits)
    (le-leb r.mask 0x00FFFFFF f.mask))
    (and_i (leb 1 r.state) (leb r.state 6) (le-leb 1 r.state f.low) (le-leb r.state 6 f.high)))
    (lt-ltb r.activation (2 ^ 63) d.activation))
    (lt-ltb r.deactivation (2 ^ 63) d.deactivation))
    (⊎_elim (λ e. or_l _ _ (eq-eqb r.deactivation 0 e)) (λ e. or_r (eqb r.deactivation 0) _ (le-leb r.activation r.deactivation e)) d.order))
    (limit_ok r f.limit))
    (link_ok_lem r.replaced g.replaced))
    (link_ok_lem r.replacement g.replacement))
    (name_ok_lem r.name g.name f.shape f.text)

key_ok_lem : (last : ℕ) (r : Record) → (r.serial ≡ 0 → ⊥) → InRange r → Fit last r → key_ok (key_of r) ≡ true
unfolding key_ok key_of
key_ok_lem last r z g f =
    let whole : word_bytes (words_of r.material) ≡ r.material = words_back r.material g.long g.bytes in
    and_i _ _
    (and_i _ (words_ok (words_of r.material))
    (and_i (serial_ok r.serial) (bits_ok r.bits) (serial_ok_lem r.serial z g.serial) f.bits)
    (words_fit r.material g.long g.bytes))
    (ap (λ (v : List ℕ). all_zero (drop (r.bits / 8) v)) whole ∙ f.tail)

-- ---- items

module _ (env : Env) (holder : ℕ) (t : List ℕ) (held : Held env.places t) (fresh_bytes : Bytes env.fresh) (long : material_size ≤ length env.fresh) where
  -- what a search found is a record of the table
  found_serial : (s i : ℕ) → find env.places t s ≡ Some i → (place_at env.places t i).serial ≡ 0 → ⊥
  found_serial s i e z = found_stands env.places t s i e (serial_is env.places t i ∙ z)

  record_ok : (s i : ℕ) → find env.places t s ≡ Some i → serial_ok (place_at env.places t i).serial ≡ true
  record_ok s i e =
      serial_ok_lem (place_at env.places t i).serial (found_serial s i e)
      (range env.places t held i (find_below env.places t s i e) (found_stands env.places t s i e)).serial

  kind_held : {operation : ℕ} (c : Command) (did : Did) → Kind env holder t c did → Commanded operation c → Held env.places did.table
  unfolding create_plan rekey_plan locate_plan
  kind_held c did (fails reason) m = held
  kind_held c did (creates wanted free room) m = keeps_born env.places t held room env.fresh fresh_bytes long wanted (create_allowed m).1 free
  kind_held c did (rekeys target offset i e alive none right room) m =
      keeps_heir env.places t held room env.fresh fresh_bytes long offset i (find_below env.places t (sought holder target) i e) (found_stands env.places t (sought holder target) i e) alive none right
  kind_held c did (grants target amount i e g) m =
      keeps_count env.places t held i (find_below env.places t (sought holder target) i e) (found_stands env.places t (sought holder target) i e) amount _ g
  kind_held c did (moves {operation} {code} {target} v i next e late g) m =
      keeps_moved env.places t held i (find_below env.places t (sought holder target) i e) (found_stands env.places t (sought holder target) i e) operation code next g late
  kind_held c did (shows target i e) m = held
  kind_held c did (gets target i e alive) m = held
  kind_held c did (locates name) m = held

  -- no item moves the clock
  kind_latest : {operation : ℕ} (c : Command) (did : Did) → Kind env holder t c did → Commanded operation c → latest_clock did.table ≡ latest_clock t
  unfolding create_plan rekey_plan locate_plan
  kind_latest c did (fails reason) m = refl
  kind_latest c did (creates wanted free room) m = (born_leaves env.places t held room env.fresh fresh_bytes wanted (create_allowed m).1).stored.latest
  kind_latest c did (rekeys target offset i e alive none right room) m =
      (heir_leaves env.places t held room env.fresh fresh_bytes offset i (find_below env.places t (sought holder target) i e) (found_stands env.places t (sought holder target) i e) alive right).latest
  kind_latest c did (grants target amount i e g) m =
      (count_leaves env.places t held i (find_below env.places t (sought holder target) i e) (found_stands env.places t (sought holder target) i e) amount _ g).latest
  kind_latest c did (moves {operation} {code} {target} v i next e late g) m =
      (moved_leaves env.places t held i (find_below env.places t (sought holder target) i e) (found_stands env.places t (sought holder target) i e) operation code next g).latest
  kind_latest c did (shows target i e) m = refl
  kind_latest c did (gets target i e alive) m = refl
  kind_latest c did (locates name) m = refl

  -- what a search for a name found is a place of the table; 0 is answered for nothing
  found_ok : (name : Name) (f : Option ℕ) → find_name env.places t name ≡ f → link_ok (serial_found t f) ≡ true
  unfolding serial_found
  found_ok name (Some i) e =
      let last = last_fits env.places t held in
      link_ok_lem (serial_at t i) (omega (arith, (facts env.places t held).issued i (found_name_below env.places t name i e)))
  found_ok name None e = refl

  kind_ok : {operation : ℕ} (c : Command) (did : Did) → Kind env holder t c did → Commanded operation c → outcome_ok operation did.outcome ≡ true
  unfolding outcome_ok create_plan rekey_plan locate_plan with_count moved_to with_dates in_state
  kind_ok c did (fails reason) m = refl
  kind_ok {operation} c did (creates wanted free room) m =
      and_i (eqb operation create) (serial_ok (next_serial t)) (eq-eqb operation create (create_allowed m).0) (serial_ok_lem (next_serial t) (λ z. omega arith) (next_fits env.places t held room))
  kind_ok {operation} c did (rekeys target offset i e alive none right room) m =
      and_i (answers_done operation) (serial_ok (next_serial t)) (rekey_done m) (serial_ok_lem (next_serial t) (λ z. omega arith) (next_fits env.places t held room))
  kind_ok {operation} c did (grants target amount i e g) m =
      and_i (answers_done operation) (serial_ok (place_at env.places t i).serial) (allocation_done m) (record_ok (sought holder target) i e)
  kind_ok {operation} c did (moves {target} v i next e late g) m =
      and_i (answers_done operation) (serial_ok (place_at env.places t i).serial) (move_done v m) (record_ok (sought holder target) i e)
  kind_ok {operation} c did (shows target i e) m =
      and_i (eqb operation get_attributes) (shown_ok (shown_of (place_at env.places t i))) (eq-eqb operation get_attributes (show_operation m))
      (shown_ok_lem (last_serial t) (latest_clock t) (place_at env.places t i) (found_serial (sought holder target) i e)
      (range env.places t held i (find_below env.places t (sought holder target) i e) (found_stands env.places t (sought holder target) i e))
      (fit env.places t held i (find_below env.places t (sought holder target) i e) (found_stands env.places t (sought holder target) i e))
      (dated env.places t held i (find_below env.places t (sought holder target) i e) (found_stands env.places t (sought holder target) i e)))
  kind_ok {operation} c did (gets target i e alive) m =
      and_i (eqb operation get) (key_ok (key_of (place_at env.places t i))) (eq-eqb operation get (get_operation m))
      (key_ok_lem (last_serial t) (place_at env.places t i) (found_serial (sought holder target) i e)
      (range env.places t held i (find_below env.places t (sought holder target) i e) (found_stands env.places t (sought holder target) i e))
      (fit env.places t held i (find_below env.places t (sought holder target) i e) (found_stands env.places t (sought holder target) i e)))
  kind_ok {operation} c did (locates name) m =
      and_i (eqb operation locate) (link_ok (serial_found t (find_name env.places t name))) (eq-eqb operation locate (locate_operation m)) (found_ok name (find_name env.places t name) refl)

  module _ (asked : Asked) where
    -- an item leaves a sound table of bytes
    pub step_held : Held env.places (step env holder t asked).table
    step_held = kind_held _ _ (step_kind env holder t asked) (commanded asked.operation asked.payload)

    -- with the latest clock that it met
    pub step_latest : latest_clock (step env holder t asked).table ≡ latest_clock t
    step_latest = kind_latest _ _ (step_kind env holder t asked) (commanded asked.operation asked.payload)

    -- and its answer is one that a response may have
    pub step_ok : asked.operation < 256 ^ 4 → length asked.id ≤ id_most → answer_ok (answer_to asked (step env holder t asked)) ≡ true
    unfolding answer_ok
    step_ok o l =
        and_i _ (outcome_ok asked.operation (step env holder t asked).outcome)
        (and_i (ltb asked.operation (2 ^ 32)) (leb (length asked.id) id_most) (lt-ltb asked.operation (2 ^ 32) (omega arith)) (le-leb (length asked.id) id_most l))
        (kind_ok _ _ (step_kind env holder t asked) (commanded asked.operation asked.payload))
