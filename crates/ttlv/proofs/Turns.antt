-- The equation of reading a run, with no count of turns: behind `items_step` nobody sees one again.
-- Assumes nothing.
use mathlib.Core.Path.{◌≡◌, refl, ap}
use Prim.Native.Nat.{ℕ, zero, suc, ◌+◌, ◌-◌, ◌%◌, ◌≤◌, ◌<◌}
use native.Mathlib.Omega.{arith}
use mathlib.Core.Bool.{true}
use Rattle.std.specs.Prelude.{Option}
use mathlib.Core.List.{List}
use lib.ListN.{length, drop, length-drop}
use borrow.Author.Tests.{eqb-true}
use Rattle.octets.specs.If.{ifb}
use Rattle.octets.specs.Octets.{part}
use Rattle.ttlv_types.specs.Types.{structure, padded, length_ok}
use Rattle.ttlv.specs.Items.{Items}
use Rattle.ttlv.specs.Parse.{first_of, put_value, put_group, more, walk, parse}
use Rattle.ttlv.specs.declared.First.{First}
use Rattle.ttlv.specs.declared.First.TheVariants.{End, Bad, Value, Group}
use Rattle.ttlv.proofs.View.{Head, View, end, bad, val, grp, view}

-- a structure's length is a multiple of 8, so it is its own padded length
pub whole : (n : ℕ) → length_ok structure n ≡ true → padded n ≡ n
unfolding length_ok ifb
whole n h = omega (arith, eqb-true (n % 8) 0 h)

-- where a structure ends
pub group_room : (s : List ℕ) (tag n : ℕ) → Head s tag structure n → 8 + n ≤ length s
group_room s tag n hd = omega (arith, hd.room, whole n hd.allowed)

-- the number of turns does not matter once it is above the length
pub walk_turns : (b : List ℕ → Option Items) (k m : ℕ) (s : List ℕ) → length s < k → length s < m → walk b k s ≡ walk b m s
unfolding walk more
walk_turns b zero m s h g = absurd (omega arith)
walk_turns b (suc k) zero s h g = absurd (omega arith)
walk_turns b (suc k) (suc m) s h g = go (λ t. walk_turns b k m t) (first_of s) (view s)
  where
    go : ((t : List ℕ) → length t < k → length t < m → walk b k t ≡ walk b m t)
        → (f : First) → View s f → more b (walk b k) s f ≡ more b (walk b m) s f
    go ih End (end e) = refl
    go ih Bad bad = refl
    go ih (Value tag kind n next) (val hd k1 ok z) =
        rw (ih (drop (8 + padded n) s) (rw length-drop (omega (arith, hd.room))) (rw length-drop (omega (arith, hd.room))))
    go ih (Group tag next) (grp {n} hd) =
        rw (ih (drop (8 + n) s) (rw length-drop (omega (arith, group_room s tag n hd))) (rw length-drop (omega (arith, group_room s tag n hd))))

-- s read as a run of items, with b to read a structure's own run
unfoldable pub items : (List ℕ → Option Items) → List ℕ → Option Items
items b s = walk b (suc (length s)) s

pub items_step : (b : List ℕ → Option Items) (s : List ℕ) → items b s ≡ more b (items b) s (first_of s)
unfolding items walk more
items_step b s = go (first_of s) (view s)
  where
    go : (f : First) → View s f → more b (walk b (length s)) s f ≡ more b (items b) s f
    go End (end e) = refl
    go Bad bad = refl
    go (Value tag kind n next) (val hd k1 ok z) =
        let t = drop (8 + padded n) s in
        let l : length t < length s = rw length-drop (omega (arith, hd.room)) in
        ap (put_value tag kind (part s 8 n)) (walk_turns b (length s) (suc (length t)) t l (omega arith))
    go (Group tag next) (grp {n} hd) =
        let t = drop (8 + n) s in
        let l : length t < length s = rw length-drop (omega (arith, group_room s tag n hd)) in
        ap (put_group tag (b (part s 8 (8 + n - 8)))) (walk_turns b (length s) (suc (length t)) t l (omega arith))

pub parse_suc : (d : ℕ) (s : List ℕ) → parse (suc d) s ≡ items (parse d) s
unfolding parse items
parse_suc d s = refl

-- one item more is read
pub parse_step : (d : ℕ) (s : List ℕ) → parse (suc d) s ≡ more (parse d) (parse (suc d)) s (first_of s)
unfolding parse items
parse_step d s = items_step (parse d) s
