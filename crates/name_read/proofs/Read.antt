-- The last attribute, by whether anything is left: nothing, or the Name that Locate asks for in its place too.
-- Assumes nothing.
use mathlib.Core.Path.{◌≡◌, refl}
use mathlib.Core.Bool.{true, false, true≢false, false≢true}
use Rattle.std.specs.Prelude.{Option, None, Some, eqb}
use Rattle.octets.specs.Maybe.{◌>>=◌, ◌>>◌}
use Rattle.octets.specs.If.{ifb}
use Rattle.octets.proofs.If.{on_bool}
use Rattle.ttlv.specs.Items.{Items, nil, value, group, ended}
use Rattle.fields.specs.Fields.{starts_with, body_of, optional}
use Rattle.tags.specs.Tags.{name_tag}
use Rattle.names.specs.declared.Name.{Name}
use Rattle.names.specs.Names.{no_name}
use Rattle.name_read.specs.Name.{name_first, only_name_in, or_no_name, last_name_in}

-- one that is there
there : (o : Option (Name × Items))
    → ((o >>= λ (name, r). Some (Some name, r)) >>= λ (given, rest). ended rest >> Some (or_no_name given)) ≡ (o >>= λ (name, r). ended r >> Some name)
unfolding ◌>>=◌ or_no_name
there None = refl
there (Some x) = refl

-- nothing is left
pub last_none : (t : Items) → ended t ≡ true → last_name_in t ≡ Some no_name
unfolding last_name_in optional starts_with ended or_no_name ifb ◌>>=◌ ◌>>◌
last_none nil e = refl
last_none (value tag kind v rest) e = absurd (false≢true e)
last_none (group tag body rest) e = absurd (false≢true e)

-- something is
pub last_name : (t : Items) → ended t ≡ false → last_name_in t ≡ only_name_in t
unfolding last_name_in only_name_in optional starts_with ended name_first body_of or_no_name ifb ◌>>=◌ ◌>>◌
last_name nil e = absurd (true≢false e)
last_name (value tag kind v rest) e = on_bool (eqb tag name_tag) (λ y. rw y refl) (λ n. rw n refl)
last_name (group tag body rest) e = on_bool (eqb tag name_tag) (λ y. rw y (there _)) (λ n. rw n refl)
