-- The steps of a reader: what is left of a definition once a step gave something, or nothing.
-- Assumes nothing.
use mathlib.Core.Path.{◌≡◌, ap}
use mathlib.Core.Bool.{Bool, true, false}
use Rattle.std.specs.Prelude.{ℕ, Option, None, Some}
use Rattle.octets.specs.Maybe.{◌>>=◌, ◌>>◌}
use Rattle.octets.proofs.If.{ifb_true, ifb_false}
use Rattle.ttlv.specs.Items.{Items}
use Rattle.fields.specs.Fields.{starts_with, optional}

module _ {A B : Type 0} {o : Option A} (k : A → Option B) where
  pub stops : o ≡ None → (o >>= k) ≡ None
  unfolding ◌>>=◌
  stops e = ap (λ (x : Option A). x >>= k) e

  pub goes : {a : A} → o ≡ Some a → (o >>= k) ≡ k a
  unfolding ◌>>=◌
  goes e = ap (λ (x : Option A). x >>= k) e

module _ {B : Type 0} {b : Bool} (x : Option B) where
  pub fails : b ≡ false → (b >> x) ≡ None
  unfolding ◌>>◌
  fails e = ap (λ (c : Bool). c >> x) e

  pub holds : b ≡ true → (b >> x) ≡ x
  unfolding ◌>>◌
  holds e = ap (λ (c : Bool). c >> x) e

-- ---- an optional field

module _ {A : Type 0} (tag : ℕ) (t : Items) (read : Items → Option (A × Items)) where
  pub there : starts_with tag t ≡ true → optional tag read t ≡ (read t >>= λ (a, rest). Some (Some a, rest))
  unfolding optional
  there e = ifb_true _ _ _ e

  pub absent : starts_with tag t ≡ false → optional tag read t ≡ Some (None, t)
  unfolding optional
  absent e = ifb_false _ _ _ e
