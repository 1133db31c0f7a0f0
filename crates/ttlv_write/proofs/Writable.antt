-- The writers' tests are the right ones: an item is written exactly when it reads back and the room has place for it.
-- Assumes nothing.
use mathlib.Core.Path.{◌≡◌, sym, ◌∙◌}
use mathlib.Core.Bool.{Bool, true, false, not, ◌&&◌, and_assoc, and-true}
use Rattle.std.specs.Prelude.{Some}
use Prim.Native.Nat.{ℕ, suc, ◌+◌, ◌^◌, ◌≤◌, ◌<◌}
use native.Mathlib.Omega.{arith}
use mathlib.Core.List.{List}
use lib.ListN.{length, take, drop}
use lib.Seq.{take_at}
use lib.Dec.{eqb}
use borrow.Author.Tests.{lt-ltb}
use Rattle.octets.specs.If.{ifb}
use Rattle.octets.specs.Octets.{be}
use Rattle.octets.proofs.If.{ifb_false, on_bool}
use Rattle.octets.proofs.Numbers.{length_be}
use Rattle.ttlv_types.specs.Types.{structure, integer, long_integer, big_integer, enumeration, boolean, text_string, byte_string, date_time, interval, date_time_extended, padded, length_ok, value_ok}
use Rattle.utf8.specs.Text.{text}
use Rattle.ttlv.specs.Items.{Items, nil, group, encode, item_ok, well_formed}
use Rattle.tags.specs.Tags.{tag_ok}
use Rattle.ttlv.specs.Parse.{parse}
use Rattle.ttlv.proofs.Back.{parse_back}
use Rattle.octets.proofs.Bools.{both, facts, tests}
use Rattle.ttlv_put.specs.Write.{item, number_item, fits, spellable, value_fits, Wrote}
use Rattle.ttlv_numbers.specs.Allowed.{Allowed, integer_allowed, enumeration_allowed, interval_allowed, long_integer_allowed, date_time_allowed, date_time_extended_allowed, boolean_allowed}
use Rattle.ttlv_numbers.specs.Bit.{bit}
use Rattle.ttlv_write.specs.Writable.{writable}
use Rattle.ttlv_put.proofs.Sizes.{length_value}
use Rattle.ttlv_put.proofs.Holds.{wrote_size, wrote_bytes}

-- what the type table says of a value
abbrev allowed : ℕ → List ℕ → Bool
allowed kind v = not (eqb kind structure) && length_ok kind (length v) && value_ok kind v

module _ (tag : ℕ) (room : List ℕ) where
  value_writable : (kind : ℕ) (v : List ℕ) → writable (item tag kind v) room ≡ (tag_ok tag && allowed kind v && value_fits room (length v))
  unfolding item_ok well_formed
  value_writable kind v = rw length_value (simp (and_assoc, and-true))

  -- ---- each writer

  -- every number that its type allows; of every instance of `Number` by the trait's law (`Numbers`)
  pub number_writable : (width kind bits : ℕ) → Allowed kind width bits → writable (number_item width tag kind bits) room ≡ (tag_ok tag && fits room 16)
  number_writable width kind bits ok =
      let l : 1 ≤ width = search facts depth 8 in
      let m : width ≤ 8 = search facts depth 8 in
      let c : allowed kind (be width bits) ≡ true = rw (length_be width bits) (search (facts, tests) depth 12) in
      let s : spellable width ≡ true = lt-ltb width (256 ^ 4) (omega arith) in
      let p : 8 + padded width ≡ 16 = omega arith in
      value_writable kind (be width bits) ∙ rw (c, and-true, length_be width bits, s, p)

  pub integer_writable : (bits : ℕ) → writable (number_item 4 tag integer bits) room ≡ (tag_ok tag && fits room 16)
  integer_writable bits = number_writable 4 integer bits (integer_allowed bits)

  pub enumeration_writable : (bits : ℕ) → writable (number_item 4 tag enumeration bits) room ≡ (tag_ok tag && fits room 16)
  enumeration_writable bits = number_writable 4 enumeration bits (enumeration_allowed bits)

  pub interval_writable : (bits : ℕ) → writable (number_item 4 tag interval bits) room ≡ (tag_ok tag && fits room 16)
  interval_writable bits = number_writable 4 interval bits (interval_allowed bits)

  pub long_integer_writable : (bits : ℕ) → writable (number_item 8 tag long_integer bits) room ≡ (tag_ok tag && fits room 16)
  long_integer_writable bits = number_writable 8 long_integer bits (long_integer_allowed bits)

  pub date_time_writable : (bits : ℕ) → writable (number_item 8 tag date_time bits) room ≡ (tag_ok tag && fits room 16)
  date_time_writable bits = number_writable 8 date_time bits (date_time_allowed bits)

  pub date_time_extended_writable : (bits : ℕ) → writable (number_item 8 tag date_time_extended bits) room ≡ (tag_ok tag && fits room 16)
  date_time_extended_writable bits = number_writable 8 date_time_extended bits (date_time_extended_allowed bits)

  pub boolean_writable : (b : Bool) → writable (number_item 8 tag boolean (bit b)) room ≡ (tag_ok tag && fits room 16)
  boolean_writable b = number_writable 8 boolean (bit b) (boolean_allowed b)

  pub bytes_writable : (v : List ℕ) → writable (item tag byte_string v) room ≡ (tag_ok tag && true && value_fits room (length v))
  unfolding length_ok value_ok ifb
  bytes_writable v = value_writable byte_string v

  pub text_writable : (v : List ℕ) → writable (item tag text_string v) room ≡ (tag_ok tag && text v && value_fits room (length v))
  unfolding length_ok value_ok ifb
  text_writable v = value_writable text_string v

  pub big_integer_writable : (v : List ℕ) → writable (item tag big_integer v) room ≡ (tag_ok tag && length_ok big_integer (length v) && value_fits room (length v))
  unfolding value_ok ifb
  big_integer_writable v = value_writable big_integer v ∙ simp (and-true)

  -- a structure reads back where its items do, its tag is one and its length can be spellable
  pub structure_writable : (d : ℕ) (b : Items) → well_formed d b ≡ true → well_formed (suc d) (group tag b nil) ≡ (tag_ok tag && spellable (length (encode b)))
  unfolding well_formed
  structure_writable d b e = rw e (simp and-true)

-- ---- and what is written reads back

pub reads_back : (t : Items) (room : List ℕ) {size r : ℕ} {after : List ℕ} → size ≡ length (encode t) → Wrote (writable t room) size (encode t) room after r → 0 < r
    → parse 1 (take r after) ≡ Some t
reads_back t room {size} {r} {after} e w h = on_bool (writable t room) yes no_room
  where
    yes : writable t room ≡ true → parse 1 (take r after) ≡ Some t
    yes ok =
        let b : take r after ≡ encode t = rw (wrote_bytes ok w) (take_at (encode t) (drop (length (encode t)) room) r (sym (wrote_size ok w ∙ e))) in
        rw b (parse_back 1 t (both (well_formed 1 t) (fits room (length (encode t))) ok).0)

    no_room : writable t room ≡ false → parse 1 (take r after) ≡ Some t
    no_room bad = let z : r ≡ 0 = w.answer ∙ ifb_false (writable t room) size 0 bad in absurd (omega arith)
