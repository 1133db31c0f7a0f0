-- Fields read back: each reader of a field gives what its writer put there, and reads nothing else.
-- Assumes nothing. The laws named -back say that a field is read as it was written, those named -spells that what is read was written so.
use mathlib.Core.Path.{◌≡◌, refl, ap}
use Prim.Native.Nat.{ℕ, ◌^◌, ◌≤◌, ◌<◌}
use native.Mathlib.Omega.{arith}
use mathlib.Core.Bool.{true, false, false≢true}
use Rattle.std.specs.Prelude.{Option, None, Some}
use mathlib.Core.List.{List}
use lib.Dec.{leb, eqb}
use borrow.Author.Tests.{eqb-true, eqb-false, not-true, leb-true, eq-eqb, ne_eqb}
use Rattle.octets.specs.If.{ifb}
use Rattle.octets.specs.Maybe.{◌>>=◌, ◌>>◌}
use Rattle.octets.specs.Octets.{be, from_be}
use Rattle.octets.proofs.If.{on_if}
use Rattle.octets.proofs.Numbers.{from_be_be}
use Rattle.ttlv_types.specs.Types.{text_string}
use Rattle.ttlv.specs.Items.{Items, nil, value, group, ended}
use Rattle.fields.specs.Fields.{starts_with, bytes_of, body_of, optional}
use Rattle.octets.proofs.Bools.{both}
use Rattle.identifier.specs.Identifier.{identifier, serial_of}
use Rattle.identifier.proofs.Texts.{serial_back, serial_spells}
use Rattle.changes.specs.Changes.{serial_most}
use Rattle.answer.specs.Read.{spelled, fixed, serial_in, serial_ok}
use Rattle.answer.proofs.Tests.{same_is, same_self}
use Rattle.octets.proofs.Maybe.{not_some, some_is, on_bind, on_test, if_some}

-- ---- one item

pub ended_is : (t : Items) → ended t ≡ true → t ≡ nil
unfolding ended
ended_is nil h = refl
ended_is (value tag kind v rest) h = absurd (false≢true h)
ended_is (group tag body rest) h = absurd (false≢true h)

pub bytes_back : (tag kind : ℕ) (v : List ℕ) (rest : Items) → bytes_of tag kind (value tag kind v rest) ≡ Some (v, rest)
unfolding bytes_of ifb
bytes_back tag kind v rest = rw (eq-eqb tag tag refl, eq-eqb kind kind refl)

pub body_back : (tag : ℕ) (body rest : Items) → body_of tag (group tag body rest) ≡ Some (body, rest)
unfolding body_of ifb
body_back tag body rest = rw (eq-eqb tag tag refl)

pub bytes_spells : (tag kind : ℕ) (t : Items) {a : List ℕ × Items} → bytes_of tag kind t ≡ Some a → t ≡ value tag kind a.0 a.1
unfolding bytes_of
bytes_spells tag kind nil h = absurd (not_some h)
bytes_spells tag kind (value tag2 kind2 v rest) h =
    let p = if_some h in
    let q = both (eqb tag2 tag) (eqb kind2 kind) p.0 in
    rw (eqb-true tag2 tag q.0, eqb-true kind2 kind q.1, ← p.1)
bytes_spells tag kind (group tag2 body rest) h = absurd (not_some h)

pub body_spells : (tag : ℕ) (t : Items) {a : Items × Items} → body_of tag t ≡ Some a → t ≡ group tag a.0 a.1
unfolding body_of
body_spells tag nil h = absurd (not_some h)
body_spells tag (value tag2 kind v rest) h = absurd (not_some h)
body_spells tag (group tag2 body rest) h =
    let p = if_some h in
    rw (eqb-true tag2 tag p.0, ← p.1)

-- ---- a number in its w bytes

pub spelled_back : (w tag kind n : ℕ) (rest : Items) → n < 256 ^ w → spelled w tag kind (value tag kind (be w n) rest) ≡ Some (n, rest)
unfolding spelled ◌>>=◌ ◌>>◌
spelled_back w tag kind n rest h = rw (bytes_back, from_be_be w n h, same_self)

pub spelled_spells : (w tag kind : ℕ) (t : Items) {a : ℕ × Items} → spelled w tag kind t ≡ Some a → t ≡ value tag kind (be w a.0) a.1
unfolding spelled
spelled_spells w tag kind t h =
    on_bind h (λ a e g. on_test g (λ u f.
    let v : a.0 ≡ be w (from_be a.0) = same_is _ _ u in
    rw (bytes_spells tag kind t e, ← (some_is f)) (ap (λ (x : List ℕ). value tag kind x a.1) v)))

-- ---- a number that is known

pub fixed_back : (tag kind n : ℕ) (rest : Items) → n < 256 ^ 4 → fixed tag kind n (value tag kind (be 4 n) rest) ≡ Some rest
unfolding fixed ◌>>=◌ ◌>>◌
fixed_back tag kind n rest h = rw (spelled_back 4 tag kind n rest h, eq-eqb n n refl)

pub fixed_other : (tag kind n other : ℕ) (rest : Items) → other < 256 ^ 4 → eqb other n ≡ false → fixed tag kind n (value tag kind (be 4 other) rest) ≡ None
unfolding fixed ◌>>=◌ ◌>>◌
fixed_other tag kind n other rest h e = rw (spelled_back 4 tag kind other rest h, e)

pub fixed_spells : (tag kind n : ℕ) (t : Items) {rest : Items} → fixed tag kind n t ≡ Some rest → t ≡ value tag kind (be 4 n) rest
unfolding fixed
fixed_spells tag kind n t h =
    on_bind h (λ a e g. on_test g (λ u f.
    rw (spelled_spells 4 tag kind t e, eqb-true a.0 n u, ← (some_is f))))

-- ---- the identifier of a record

pub serial_range : (serial : ℕ) → serial_ok serial ≡ true → (1 ≤ serial) × (serial ≤ serial_most)
serial_range serial h =
    let p = both (leb 1 serial) (leb serial serial_most) h in
    (leb-true 1 serial p.0, leb-true serial serial_most p.1)

pub serial_in_back : (tag serial : ℕ) (rest : Items) → serial_ok serial ≡ true
    → serial_in tag (value tag text_string (identifier serial) rest) ≡ Some (serial, rest)
unfolding serial_in ◌>>=◌ ◌>>◌
serial_in_back tag serial rest h =
    let p = serial_range serial h in
    rw (bytes_back, serial_back serial (omega arith), ne_eqb serial 0 (λ e. omega arith))

pub serial_in_spells : (tag : ℕ) (t : Items) {a : ℕ × Items} → serial_in tag t ≡ Some a
    → (t ≡ value tag text_string (identifier a.0) a.1) × (eqb a.0 0 ≡ false)
unfolding serial_in
serial_in_spells tag t h =
    on_bind h (λ a e g. on_test g (λ u f.
    let n : eqb (serial_of a.0) 0 ≡ false = not-true _ u in
    rw (bytes_spells tag text_string t e, ← (some_is f))
    (ap (λ (x : List ℕ). value tag text_string x a.1) (serial_spells a.0 (serial_of a.0) refl (eqb-false (serial_of a.0) 0 n)), n)))

-- ---- fields that may be absent

module _ {A : Type 0} (tag : ℕ) (read : Items → Option (A × Items)) (t : Items) where
  pub absent_back : starts_with tag t ≡ false → optional tag read t ≡ Some (None, t)
  unfolding optional ifb
  absent_back h = rw h

  pub given_back : {a : A} {rest : Items} → starts_with tag t ≡ true → read t ≡ Some (a, rest) → optional tag read t ≡ Some (Some a, rest)
  unfolding optional ifb ◌>>=◌
  given_back h e = rw (h, e)

  -- it was absent and nothing was read, or it was read
  pub on_optional {ℓ} : (P : Option A × Items → Type ℓ) {a : Option A × Items} → optional tag read t ≡ Some a
      → P (None, t) → ((x : A) (rest : Items) → read t ≡ Some (x, rest) → P (Some x, rest)) → P a
  unfolding optional
  on_optional P {a} h absent given = on_if (λ (o : Option (Option A × Items)). o ≡ Some a → P a) {b = starts_with tag t} taken left h
    where
      taken : starts_with tag t ≡ true → (read t >>= λ (x, rest). Some (Some x, rest)) ≡ Some a → P a
      taken b g = on_bind g (λ x e f. rw (← (some_is f)) (given x.0 x.1 e))

      left : starts_with tag t ≡ false → Some (None, t) ≡ Some a → P a
      left b g = rw (← (some_is g)) absent
