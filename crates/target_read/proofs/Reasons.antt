-- What the reader's answer says in the papers' terms: a target that cannot be read is Invalid Field.
-- Assumes nothing. The promise is of the answer itself; the law says what the definition of the same name in specs gives of it.
use Rattle.std.specs.Prelude.{Option, None, Some}
use Rattle.target_read.specs.declared.Target.{Target}
use Prim.Native.Nat.{ℕ}
use mathlib.Core.Path.{◌≡◌, refl, sym, ap}
use mathlib.Core.Bool.{true}
use mathlib.Core.List.{List}
use Rattle.ttlv.specs.Tree.{is_run, tree_of}
use Rattle.rules.specs.Tests.{read_reason}
use Rattle.target_read.specs.Target.{target_in}
use Rattle.target_read.specs.Readers.{target_at}
use Rattle.target_read.specs.Reasons.{target_reason}
use Rattle.target_read.proofs.Targets.{target_is, target_none}

pub target_reason_lem : (s : List ℕ) (run : is_run s ≡ true) → target_reason (target_at s) ≡ read_reason (target_in (tree_of s))
unfolding target_reason read_reason
target_reason_lem s run = go (target_at s) refl
  where
    go : (r : Option (Target × ℕ)) → target_at s ≡ r → target_reason r ≡ read_reason (target_in (tree_of s))
    go (Some (target, next)) e = sym (ap read_reason (target_is s run e).read)
    go None e = sym (ap read_reason (target_none s run e))
