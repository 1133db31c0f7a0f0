-- Calls that are worked out, on which the wrong boxes are tried.
-- Assumes nothing.
use Prim.Native.Nat.{ℕ, ◌^◌, ◌<◌}
use mathlib.Core.Path.{◌≡◌, refl, sym, ap}
use mathlib.Core.Bool.{Bool, true, false, ◌||◌}
use mathlib.Core.List.{List, [], ◌∷◌}
use lib.ListN.{replicate}
use lib.Dec.{leb, ltb, eqb, lit<}
use borrow.Author.Tests.{ltb-true}
use Rattle.hex_digits.specs.Texts.{hex}
use Rattle.octets.specs.Octets.{Bytes, all, counted_from}
use Rattle.octets.specs.If.{ifb}
use Rattle.octets.proofs.If.{ifb_true}
use Rattle.octets.proofs.Bools.{and_l, and_r}
use Rattle.table.specs.Layout.{small_count}
use Rattle.table.specs.Records.{blank}
use Rattle.calls.specs.Effects.{Effect}
use Rattle.demands.specs.Box.{Call, Lent}
use Rattle.demands.specs.Demand2.{frame_of, of_frame, refusal_conditions, lowest}
use Rattle.wrong_boxes.specs.Wrong.{or_refused}
use Rattle.cases.specs.Cards.{life_request, grant_request, last_request}
use Rattle.cases.proofs.Cases.{opened}

-- bytes, by a test
unfoldable pub is_byte : ℕ → Bool
is_byte x = ltb x 256

pub bytes_test : (s : List ℕ) → all is_byte s ≡ true → Bytes s
unfolding all is_byte
bytes_test [] h = tt
bytes_test (x ∷ s) h = (ltb-true x 256 (and_l (ltb x 256) (all is_byte s) h), bytes_test s (and_r (ltb x 256) (all is_byte s) h))

-- a request on a table, with the strip 0 to 255 twice, a clock, 6,360 bytes of room and a copy of the table as second buffer
abbrev pub calling_on : List ℕ → List ℕ → ℕ → Call
calling_on t request clock = record { request = request; table = t; strip = counted_from 0 512; clock = clock; output = replicate 6360 0; undo = t }

-- on a blank table
abbrev pub calling : List ℕ → ℕ → Call
calling request clock = calling_on (blank small_count) request clock

pub lent_on : (t request : List ℕ) (clock : ℕ) → Bytes t → all is_byte request ≡ true → clock < 2 ^ 64 → Lent (calling_on t request clock)
unfolding opened is_byte
lent_on t request clock b r h = record {
  request = bytes_test request r;
  table = b;
  strip = bytes_test (counted_from 0 512) refl;
  output = bytes_test (replicate 6360 0) refl;
  clock = h;
  undo = b;
}

pub lent_blank : (request : List ℕ) (clock : ℕ) → all is_byte request ≡ true → clock < 2 ^ 64 → Lent (calling request clock)
unfolding opened is_byte
lent_blank request clock r h = lent_on (blank small_count) request clock (bytes_test (blank small_count) refl) r h

-- where no refusal is due, each box does what it does where a request is accepted
pub accepted_is : (c : Call) (e : Effect) → lowest 1 (refusal_conditions c) ≡ 0 → e ≡ or_refused c e
unfolding or_refused
accepted_is c e h = sym (ifb_true _ e _ (ap (λ (k : ℕ). eqb k 0) h))

-- ---- the life of a key: five items under Continue

pub lent_life : (clock : ℕ) → clock < 2 ^ 64 → Lent (calling life_request clock)
unfolding opened is_byte
lent_life clock h = lent_blank life_request clock refl h

pub life_accepted : (clock : ℕ) → (eqb clock 0 || leb (2 ^ 63) clock) ≡ false → lowest 1 (refusal_conditions (calling life_request clock)) ≡ 0
unfolding opened frame_of of_frame refusal_conditions lowest
life_accepted clock h = ap (λ (b : Bool). ifb b 10 0) h

-- ---- grants of 60 and 40 of 100

abbrev pub grant_call : Call
grant_call = calling grant_request 1

pub lent_grant : Lent grant_call
unfolding opened is_byte
lent_grant = lent_blank grant_request 1 refl (lit< tt)

pub grant_accepted : lowest 1 (refusal_conditions grant_call) ≡ 0
unfolding opened frame_of of_frame refusal_conditions lowest
grant_accepted = refl

-- ---- two keys

abbrev pub pair_call : Call
pair_call = calling last_request 1

pub lent_pair : Lent pair_call
unfolding opened is_byte
lent_pair = lent_blank last_request 1 refl (lit< tt)

pub pair_accepted : lowest 1 (refusal_conditions pair_call) ≡ 0
unfolding opened frame_of of_frame refusal_conditions lowest
pair_accepted = refl

-- ---- a Create that fails, and one that would not, under Stop

-- no option: a Create of 129 bits, then a Create of 128
unfoldable pub past_request : List ℕ
past_request = hex "42007801 00000110 42007701 00000038 42006901 00000020 42006A02 00000004 00000002 00000000 42006B02 00000004 00000001 00000000 42000D02 00000004 00000002 00000000 42000F01 00000060 42005C05 00000004 00000001 00000000 42007901 00000048 42005705 00000004 00000002 00000000 42012501 00000030 42002805 00000004 00000003 00000000 42002A02 00000004 00000081 00000000 42002C02 00000004 00000004 00000000 42000F01 00000060 42005C05 00000004 00000001 00000000 42007901 00000048 42005705 00000004 00000002 00000000 42012501 00000030 42002805 00000004 00000003 00000000 42002A02 00000004 00000080 00000000 42002C02 00000004 00000004 00000000"

abbrev pub past_call : Call
past_call = calling past_request 1

pub lent_past : Lent past_call
unfolding opened is_byte past_request
lent_past = lent_blank past_request 1 refl (lit< tt)

pub past_accepted : lowest 1 (refusal_conditions past_call) ≡ 0
unfolding opened past_request frame_of of_frame refusal_conditions lowest
past_accepted = refl
