-- Of every instance of `Number`, by the trait's law: the test of `write_number` is the right one, and what it writes reads back.
-- Assumes nothing.
use seplogic.Ra.Ura.{Ura}
use mir.Syntax.{Dict}
use types.Logic.{Logic}
use prog.Model.{Model}
use contract.Running.{Running}
use denote.RattleType.{RattleType}
use mathlib.Core.Path.{◌≡◌, sym}
use mathlib.Core.Bool.{true, ◌&&◌}
use Rattle.std.specs.Prelude.{Some}
use Prim.Native.Nat.{ℕ, ◌≤◌, ◌<◌}
use mathlib.Core.List.{List}
use lib.ListN.{take}
use Rattle.octets.proofs.Bools.{facts}
use Rattle.tags.specs.Tags.{tag_ok}
use Rattle.ttlv.specs.Parse.{parse}
use Rattle.ttlv_put.specs.Write.{number_item, fits, width_ok, WroteNumber}
use Rattle.ttlv_put.proofs.Sizes.{length_number}
use Rattle.ttlv_numbers.specs.Allowed.{Allowed}
use Rattle.ttlv_numbers.specs.declared.Number.{Ghosts}
use Rattle.ttlv_numbers.specs.contracts.Number.TheBound.{Met}
use Rattle.ttlv_write.specs.Writable.{writable}
use Rattle.ttlv_write.proofs.Writable.{number_writable, reads_back}

module _ {M : Type 1} {𝓤 : Ura M} (𝓛 : Logic 𝓤) (𝓜 : Model 𝓤 𝓛.H) (𝓡 : Running 𝓤 𝓛.H 𝓜) (N : RattleType) (known : Ghosts N.Denot) (methods : Dict)
    (met : Met 𝓛 𝓜 𝓡 𝓡.env N known methods) (tag : ℕ) (number : N.Denot) (room : List ℕ) where
  pub any_number_writable : writable (number_item known.width tag known.kind (known.bits number)) room ≡ (tag_ok tag && fits room 16)
  any_number_writable = number_writable tag room known.width known.kind (known.bits number) (met.allowed number)

  pub any_number_reads_back : {after : List ℕ} {r : ℕ} → WroteNumber known.width tag known.kind (known.bits number) room after r → 0 < r
      → parse 1 (take r after) ≡ Some (number_item known.width tag known.kind (known.bits number))
  any_number_reads_back w h =
      let ok : Allowed known.kind known.width (known.bits number) = met.allowed number in
      let l : 1 ≤ known.width = search facts depth 8 in
      let m : known.width ≤ 8 = search facts depth 8 in
      let t : width_ok known.width ≡ true = search facts depth 8 in
      reads_back (number_item known.width tag known.kind (known.bits number)) room (sym (length_number known.width tag known.kind (known.bits number) l m)) (rw (any_number_writable) (rw t at w)) h
