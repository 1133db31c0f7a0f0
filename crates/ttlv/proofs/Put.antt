-- What an item with its rest was put together from, and whether it was.
-- Assumes nothing.
use mathlib.Core.Path.{◌≡◌, refl}
use Prim.Native.Nat.{ℕ}
use native.Mathlib.Omega.{arith}
use mathlib.Core.Bool.{◌&&◌}
use Rattle.std.specs.Prelude.{Option, None, Some}
use mathlib.Core.List.{List}
use Rattle.octets.specs.Maybe.{is_some}
use Rattle.ttlv.specs.Items.{Items, value, group}
use Rattle.ttlv.specs.Parse.{put_value, put_group}

pub no_some : {t : Items} → None ≡ Some t → ⊥
no_some h = let z : ◌≡◌ {A = ℕ} 0 1 = cc in omega arith

pub same_some : {t u : Items} → Some t ≡ Some u → t ≡ u
same_some h = cc

pub inv_value : (tag kind : ℕ) (v : List ℕ) (o : Option Items) (t : Items) → put_value tag kind v o ≡ Some t → (r : Items) × (o ≡ Some r) × (t ≡ value tag kind v r)
unfolding put_value
inv_value tag kind v None t h = absurd (no_some h)
inv_value tag kind v (Some r) t h = (r, refl, cc)

pub inv_group : (tag : ℕ) (p o : Option Items) (t : Items) → put_group tag p o ≡ Some t → (b : Items) × (r : Items) × (p ≡ Some b) × (o ≡ Some r) × (t ≡ group tag b r)
unfolding put_group
inv_group tag None o t h = absurd (no_some h)
inv_group tag (Some b) None t h = absurd (no_some h)
inv_group tag (Some b) (Some r) t h = (b, r, refl, refl, cc)

pub some_value : (tag kind : ℕ) (v : List ℕ) (o : Option Items) → is_some (put_value tag kind v o) ≡ is_some o
unfolding put_value is_some
some_value tag kind v None = refl
some_value tag kind v (Some r) = refl

pub some_group : (tag : ℕ) (p o : Option Items) → is_some (put_group tag p o) ≡ (is_some p && is_some o)
unfolding put_group is_some
some_group tag None o = refl
some_group tag (Some i) None = refl
some_group tag (Some i) (Some r) = refl
