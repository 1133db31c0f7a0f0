-- One step of the check: what the item at the front says of whether bytes are a run of items.
-- Assumes nothing.
use mathlib.Core.Path.{◌≡◌, refl}
use Prim.Native.Nat.{ℕ, zero, suc, ◌+◌, ◌-◌, ◌≤◌}
use native.Mathlib.Omega.{arith}
use mathlib.Core.Bool.{true, false, ◌&&◌}
use Rattle.std.specs.Prelude.{Option}
use mathlib.Core.List.{List, [], ◌∷◌}
use lib.ListN.{length, take, drop, length-drop}
use lib.Seq.{take_all}
use lib.Dec.{eqb}
use borrow.Author.Tests.{ne_eqb}
use Rattle.octets.specs.Maybe.{is_some}
use Rattle.octets.specs.Octets.{part}
use Rattle.ttlv_types.specs.Types.{length_ok, value_ok}
use Rattle.ttlv.specs.Items.{Items}
use Rattle.ttlv.specs.Parse.{first_of, more, parse}
use Rattle.ttlv.specs.declared.First.{First}
use Rattle.ttlv.specs.declared.First.TheVariants.{End, Bad, Value, Group}
use Rattle.ttlv.proofs.View.{View, end, bad, val, grp, view}
use Rattle.ttlv.proofs.Put.{some_value, some_group}
use Rattle.ttlv.proofs.Turns.{group_room, items, items_step, parse_suc}

-- above depth 0 a run is read item by item, with structures one level less deep
pub parse_pos : (d : ℕ) (s : List ℕ) → (d ≡ 0 → ⊥) → parse d s ≡ items (parse (d - 1)) s
parse_pos zero s h = absurd (h refl)
parse_pos (suc d) s h = let e : suc d - 1 ≡ d = omega arith in rw e (parse_suc d s)

-- at depth 0 there is nothing
pub nothing : (s : List ℕ) → eqb (length s) 0 ≡ is_some (parse 0 s)
unfolding parse is_some
nothing [] = refl
nothing (x ∷ s) = ne_eqb (length (x ∷ s)) 0 (λ e. omega arith)

-- ---- where the item at the front ends

-- an item ends within t
abbrev pub Within : List ℕ → ℕ → Type 0
Within t next = (8 ≤ next) × (next ≤ length t)

-- a value ends where its padding starts, and this where the next item does; the type allows its length and it
abbrev pub Holds : List ℕ → ℕ → ℕ → ℕ → Type 0
Holds t kind n next = (8 + n ≤ next) × (next ≤ length t) × (length_ok kind n ≡ true) × (value_ok kind (part t 8 n) ≡ true)

abbrev Ends : List ℕ → First → Type 0
Ends t End = Unit {0}
Ends t Bad = Unit {0}
Ends t (Value tag kind n next) = Holds t kind n next
Ends t (Group tag next) = Within t next

ends : (t : List ℕ) (f : First) → View t f → Ends t f
ends t End (end e) = tt
ends t Bad bad = tt
ends t (Value tag kind n next) (val hd k1 ok z) = (omega arith, hd.room, hd.allowed, ok)
ends t (Group tag next) (grp {n} hd) = (omega arith, group_room t tag n hd)

pub value_ends : (t : List ℕ) {tag kind n next : ℕ} → first_of t ≡ Value tag kind n next → Holds t kind n next
value_ends t e = rw e at (ends t (first_of t) (view t))

pub group_ends : (t : List ℕ) {tag next : ℕ} → first_of t ≡ Group tag next → Within t next
group_ends t e = rw e at (ends t (first_of t) (view t))

-- what is left of a slice, as code cuts it
pub rest : (t : List ℕ) (n : ℕ) → take (length t - n) (drop n t) ≡ drop n t
rest t n = take_all (length t - n) (drop n t) (rw length-drop (omega arith))

-- ---- the step

module _ (b : List ℕ → Option Items) (t : List ℕ) where
  pub step_end : first_of t ≡ End → is_some (items b t) ≡ true
  unfolding more is_some
  step_end e = rw (items_step b t, e)

  pub step_bad : first_of t ≡ Bad → is_some (items b t) ≡ false
  unfolding more is_some
  step_bad e = rw (items_step b t, e)

  pub step_value : {tag kind n next : ℕ} → first_of t ≡ Value tag kind n next → is_some (items b t) ≡ is_some (items b (take (length t - next) (drop next t)))
  unfolding more
  step_value {tag} {kind} {n} {next} e = rw (items_step b t, e, rest t next) (some_value tag kind (part t 8 n) (items b (drop next t)))

  pub step_group : {tag next : ℕ} → first_of t ≡ Group tag next
      → is_some (items b t) ≡ (is_some (b (part t 8 (next - 8))) && is_some (items b (take (length t - next) (drop next t))))
  unfolding more
  step_group {tag} {next} e = rw (items_step b t, e, rest t next) (some_group tag (b (part t 8 (next - 8))) (items b (drop next t)))
