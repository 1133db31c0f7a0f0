-- Two calls more that boxes are given: keys under names, one of which is looked for; and no request at all.
-- Assumes nothing.
use Prim.Native.Nat.{ℕ}
use mathlib.Core.Path.{◌≡◌, refl}
use mathlib.Core.List.{List, []}
use lib.Dec.{lit<}
use Rattle.hex_digits.specs.Texts.{hex}
use Rattle.demands.specs.Box.{Call, Lent}
use Rattle.demands.specs.Demand2.{frame_of, of_frame, refusal_conditions, lowest}
use Rattle.cases.proofs.Cases.{opened}
use Rattle.wrong_boxes.proofs.Calling.{is_byte, calling, lent_blank}

-- Create with the name "a", Create with the name "b", Locate of "b"
unfoldable pub name_request : List ℕ
name_request = hex "42007801 000001B0 42007701 00000038 42006901 00000020 42006A02 00000004 00000002 00000000 42006B02 00000004 00000001 00000000 42000D02 00000004 00000003 00000000 42000F01 00000088 42005C05 00000004 00000001 00000000 42007901 00000070 42005705 00000004 00000002 00000000 42012501 00000058 42002805 00000004 00000003 00000000 42002A02 00000004 00000080 00000000 42002C02 00000004 00000004 00000000 42005301 00000020 42005507 00000001 61000000 00000000 42005405 00000004 00000001 00000000 42000F01 00000088 42005C05 00000004 00000001 00000000 42007901 00000070 42005705 00000004 00000002 00000000 42012501 00000058 42002805 00000004 00000003 00000000 42002A02 00000004 00000080 00000000 42002C02 00000004 00000004 00000000 42005301 00000020 42005507 00000001 62000000 00000000 42005405 00000004 00000001 00000000 42000F01 00000048 42005C05 00000004 00000008 00000000 42007901 00000030 42012501 00000028 42005301 00000020 42005507 00000001 62000000 00000000 42005405 00000004 00000001 00000000"

abbrev pub name_call : Call
name_call = calling name_request 1

pub lent_name : Lent name_call
unfolding opened is_byte name_request
lent_name = lent_blank name_request 1 refl (lit< tt)

pub name_accepted : lowest 1 (refusal_conditions name_call) ≡ 0
unfolding opened name_request frame_of of_frame refusal_conditions lowest
name_accepted = refl

-- no request at all, which is refusal 4
abbrev pub no_call : Call
no_call = calling [] 1

pub lent_none : Lent no_call
unfolding opened is_byte
lent_none = lent_blank [] 1 refl (lit< tt)

pub none_refused : lowest 1 (refusal_conditions no_call) ≡ 4
unfolding opened frame_of of_frame refusal_conditions lowest
none_refused = refl
