-- What a well-formed item is, fact by fact: the tests of `well_formed` taken apart and put together.
-- Assumes nothing.
use mathlib.Core.Path.{◌≡◌, ap}
use Prim.Native.Nat.{ℕ, suc, ◌/◌, ◌^◌, ◌<◌}
use mathlib.Core.Bool.{true, not}
use mathlib.Core.List.{List}
use lib.ListN.{length}
use lib.Dec.{ltb, eqb}
use borrow.Author.Tests.{eqb-true, eqb-false, ltb-true, not-true, eq-eqb, ne_eqb, lt-ltb}
use Rattle.ttlv_types.specs.Types.{structure, length_ok, value_ok}
use Rattle.tags.specs.Tags.{tag_lead, tag_ok}
use Rattle.ttlv.specs.Items.{Items, value, group, encode, item_ok, well_formed}
use Rattle.octets.proofs.Bools.{both, and_i}

-- an item that can be written
pub record FineValue (tag kind : ℕ) (v : List ℕ) : Type 0 where
  pub lead : tag / 65536 ≡ tag_lead
  pub plain : kind ≡ structure → ⊥
  pub allowed : length_ok kind (length v) ≡ true
  pub valued : value_ok kind v ≡ true
  pub short : length v < 256 ^ 4

-- the head of a structure of n bytes that can be written
pub record FineGroup (tag n : ℕ) : Type 0 where
  pub lead : tag / 65536 ≡ tag_lead
  pub short : n < 256 ^ 4

pub fine_value : (tag kind : ℕ) (v : List ℕ) → item_ok tag kind v ≡ true → FineValue tag kind v
unfolding item_ok
fine_value tag kind v e =
    let p4 = both _ (ltb (length v) (256 ^ 4)) e in
    let p3 = both _ (value_ok kind v) p4.0 in
    let p2 = both _ (length_ok kind (length v)) p3.0 in
    let p1 = both (tag_ok tag) (not (eqb kind structure)) p2.0 in
    record {
      lead = eqb-true (tag / 65536) tag_lead p1.0;
      plain = eqb-false kind structure (not-true _ p1.1);
      allowed = p2.1;
      valued = p3.1;
      short = ltb-true (length v) (256 ^ 4) p4.1;
    }

pub value_fine : (tag kind : ℕ) (v : List ℕ) → FineValue tag kind v → item_ok tag kind v ≡ true
unfolding item_ok
value_fine tag kind v f =
    and_i _ _ (and_i _ _ (and_i _ _ (and_i _ _ (eq-eqb (tag / 65536) tag_lead f.lead) (ap not (ne_eqb kind structure f.plain))) f.allowed) f.valued)
    (lt-ltb (length v) (256 ^ 4) f.short)

-- a run that is well-formed has a well-formed first item and rest

pub well_value : (d tag kind : ℕ) (v : List ℕ) (rest : Items) → well_formed (suc d) (value tag kind v rest) ≡ true
    → FineValue tag kind v × (well_formed (suc d) rest ≡ true)
unfolding well_formed
well_value d tag kind v rest e =
    let p = both (item_ok tag kind v) (well_formed (suc d) rest) e in
    (fine_value tag kind v p.0, p.1)

pub value_well : (d tag kind : ℕ) (v : List ℕ) (rest : Items) → FineValue tag kind v → well_formed (suc d) rest ≡ true
    → well_formed (suc d) (value tag kind v rest) ≡ true
unfolding well_formed
value_well d tag kind v rest f w = and_i _ _ (value_fine tag kind v f) w

pub well_group : (d tag : ℕ) (body rest : Items) → well_formed (suc d) (group tag body rest) ≡ true
    → FineGroup tag (length (encode body)) × (well_formed d body ≡ true) × (well_formed (suc d) rest ≡ true)
unfolding well_formed
well_group d tag body rest e =
    let p3 = both _ (well_formed (suc d) rest) e in
    let p2 = both _ (well_formed d body) p3.0 in
    let p1 = both (tag_ok tag) (ltb (length (encode body)) (256 ^ 4)) p2.0 in
    (record { lead = eqb-true (tag / 65536) tag_lead p1.0; short = ltb-true (length (encode body)) (256 ^ 4) p1.1 }, p2.1, p3.1)

pub group_well : (d tag : ℕ) (body rest : Items) → FineGroup tag (length (encode body)) → well_formed d body ≡ true → well_formed (suc d) rest ≡ true
    → well_formed (suc d) (group tag body rest) ≡ true
unfolding well_formed
group_well d tag body rest f b w =
    and_i _ _ (and_i _ _ (and_i _ _ (eq-eqb (tag / 65536) tag_lead f.lead) (lt-ltb (length (encode body)) (256 ^ 4) f.short)) b) w
