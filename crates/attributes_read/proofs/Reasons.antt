-- What the readers' answers say in the papers' terms: a part of Attributes that cannot be read is Invalid Field.
-- Assumes nothing. The promises are of the answers themselves; these laws say what the definitions of the same name in specs give of them.
use mathlib.Core.Path.{◌≡◌, refl, ap, ◌∙◌}
use Prim.Native.Nat.{ℕ}
use Rattle.std.specs.Prelude.{Option, None, Some, option_map}
use Rattle.ttlv.specs.Items.{Items}
use Rattle.fields.specs.Fields.{optional}
use Rattle.tags.specs.Tags.{usage_limits}
use Rattle.rules.specs.Tests.{read_reason}
use Rattle.rules.specs.declared.Attributes.{Attributes}
use Rattle.names.specs.declared.Name.{Name}
use Rattle.runs.specs.Runs.{behind}
use Rattle.runs.specs.declared.run.Run.{Run}
use Rattle.attributes_read.specs.declared.Limit.{Limit}
use Rattle.attributes_read.specs.Attributes.{limit_first, date_first}
use Rattle.attributes_read.specs.Reasons.{limit_reason, limits_reason, date_reason, dated_reason, attributes_reason}

pub limit_reason_lem : (o : Option Limit) → limit_reason o ≡ read_reason o
unfolding limit_reason read_reason
limit_reason_lem None = refl
limit_reason_lem (Some limit) = refl

pub limits_reason_lem : (mask : ℕ) (t : Items) (r : Option (Option Limit × Run)) → option_map behind r ≡ optional usage_limits (limit_first mask) t
    → limits_reason r ≡ read_reason (optional usage_limits (limit_first mask) t)
unfolding limits_reason read_reason
limits_reason_lem mask t None e = ap read_reason e
limits_reason_lem mask t (Some limit) e = ap read_reason e

pub date_reason_lem : (tag : ℕ) (t : Items) (r : Option (Option ℕ × Run)) → option_map behind r ≡ optional tag (date_first tag) t
    → date_reason r ≡ read_reason (optional tag (date_first tag) t)
unfolding date_reason read_reason
date_reason_lem tag t None e = ap read_reason e
date_reason_lem tag t (Some date) e = ap read_reason e

pub dated_reason_lem : (o : Option (ℕ × ℕ × Name)) → dated_reason o ≡ read_reason o
unfolding dated_reason read_reason
dated_reason_lem None = refl
dated_reason_lem (Some dated) = refl

pub attributes_reason_lem : (o : Option Attributes) → attributes_reason o ≡ read_reason o
unfolding attributes_reason read_reason
attributes_reason_lem None = refl
attributes_reason_lem (Some wanted) = refl
