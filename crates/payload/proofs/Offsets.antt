-- A Re-key's Offset behind its target: none, one that is not by the rules, or one that is the last item.
-- Assumes nothing.
use mathlib.Core.Path.{◌≡◌, refl, sym, ◌∙◌}
use Prim.Native.Nat.{ℕ}
use mathlib.Core.Bool.{true, false}
use Rattle.std.specs.Prelude.{Option, None, Some}
use Rattle.octets.specs.Maybe.{◌>>=◌, ◌>>◌}
use Rattle.octets.proofs.If.{on_bool}
use Rattle.octets.proofs.Maybe.{not_some}
use Rattle.ttlv_types.specs.Types.{interval}
use Rattle.ttlv.specs.Items.{Items, ended}
use Rattle.fields.specs.Fields.{starts_with, number_of, optional}
use Rattle.runs.proofs.Starts.{starts_ended, number_starts}
use Rattle.runs.proofs.Steps.{stops, goes, fails, holds, there, absent}
use Rattle.tags.specs.Tags.{offset}
use Rattle.target_read.specs.declared.Target.{Target}
use Rattle.payload.specs.declared.Command.{Command}
use Rattle.payload.specs.declared.Command.TheVariants.{Rekey}

module _ (target : Target) (t : Items) where
  -- what the definition asks for behind a target
  abbrev pub offset_behind : Option Command
  offset_behind = optional offset (number_of offset interval) t >>= λ (given, r). ended r >> Some (Rekey target given)

  pub no_offset : ended t ≡ true → offset_behind ≡ Some (Rekey target None)
  no_offset e = goes _ (absent offset t _ (starts_ended offset t e)) ∙ holds _ e

  -- the number of an Offset with nothing behind it
  abbrev pub only_offset : Option ℕ
  only_offset = number_of offset interval t >>= λ (seconds, r). ended r >> Some seconds

  pub none_behind : ended t ≡ false → number_of offset interval t ≡ None → offset_behind ≡ None
  none_behind e h =
      on_bool (starts_with offset t)
      (λ y. stops _ (there offset t _ y ∙ stops _ h))
      (λ n. goes _ (absent offset t _ n) ∙ fails _ e)

  module _ {seconds : ℕ} {r : Items} (h : number_of offset interval t ≡ Some (seconds, r)) where
    given : optional offset (number_of offset interval) t ≡ Some (Some seconds, r)
    given = there offset t _ (number_starts offset interval t h) ∙ goes _ h

    pub more_behind : ended r ≡ false → offset_behind ≡ None
    more_behind e = goes _ given ∙ fails _ e

    pub an_offset : ended r ≡ true → offset_behind ≡ Some (Rekey target (Some seconds))
    an_offset e = goes _ given ∙ holds _ e

  -- something else is behind the target: no Offset, or one with more behind it
  pub other_offset : ended t ≡ false → only_offset ≡ None → offset_behind ≡ None
  other_offset e h = go (number_of offset interval t) refl
    where
      go : (o : Option (ℕ × Items)) → number_of offset interval t ≡ o → offset_behind ≡ None
      go None f = none_behind e f
      go (Some (seconds, r)) f =
          on_bool (ended r)
          (λ y. absurd (not_some (sym h ∙ goes _ f ∙ holds _ y)))
          (λ n. more_behind f n)
