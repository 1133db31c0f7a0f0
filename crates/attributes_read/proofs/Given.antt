-- What is not given: a date is 0, and so are a limit's unit and total.
-- Assumes nothing.
use mathlib.Core.Path.{◌≡◌, refl, ap, ◌∙◌}
use mathlib.Core.Bool.{Bool}
use Rattle.std.specs.Prelude.{ℕ, Option, None, Some, unwrap_or}
use Rattle.rules.specs.declared.Attributes.{Attributes}
use Rattle.names.specs.declared.Name.{Name}
use Rattle.values.specs.Values.{in_order}
use Rattle.attributes_read.specs.declared.Limit.{Limit}
use Rattle.attributes_read.specs.Attributes.{or_unset, wanted_of}

unset : (o : Option ℕ) → unwrap_or o 0 ≡ or_unset o
unfolding or_unset
unset None = refl
unset (Some date) = refl

module _ (o p : Option ℕ) {x y : ℕ} (e : x ≡ unwrap_or o 0) (f : y ≡ unwrap_or p 0) where
  pub dates : {b : Bool} → in_order x y ≡ b → in_order (or_unset o) (or_unset p) ≡ b
  dates {b} h = let g = e ∙ unset o in let k = f ∙ unset p in cc

  pub given : {name : Name} → ◌≡◌ {A = Option (ℕ × ℕ × Name)} (Some (x, y, name)) (Some (or_unset o, or_unset p, name))
  given {name} = let g = e ∙ unset o in let k = f ∙ unset p in cc

module _ (bits mask activation deactivation : ℕ) (name : Name) where
  -- the attributes with this limit
  abbrev with : Limit → Option Attributes
  with limit = Some (record { bits = bits; mask = mask; unit = limit.unit; total = limit.total; activation = activation; deactivation = deactivation; name = name })

  no_limit : (o : Option Limit) → with (unwrap_or o (record { unit = 0; total = 0 })) ≡ Some (wanted_of bits mask o activation deactivation name)
  unfolding wanted_of
  no_limit None = refl
  no_limit (Some limit) = refl

  pub wanted : (o : Option Limit) (limit : Limit) → limit ≡ unwrap_or o (record { unit = 0; total = 0 })
      → ◌≡◌ {A = Option Attributes} (Some (record { bits = bits; mask = mask; unit = limit.unit; total = limit.total; activation = activation; deactivation = deactivation; name = name }))
      (Some (wanted_of bits mask o activation deactivation name))
  wanted o limit e = ap with e ∙ no_limit o
