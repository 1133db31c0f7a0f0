-- The two rules of a record's material as one test.
-- Assumes nothing.
use mathlib.Core.Path.{◌≡◌, refl, sym, ap, ◌∙◌}
use Prim.Native.Nat.{ℕ, ◌/◌}
use mathlib.Core.Bool.{true, ◌&&◌}
use lib.ListN.{drop}
use Rattle.octets.specs.Octets.{is_zero, all_zero}
use Rattle.octets.proofs.If.{ifb_true, ifb_false, on_bool}
use Rattle.octets.proofs.All.{all_drop}
use Rattle.octets.proofs.Bools.{and_true, and_implied}
use Rattle.table.specs.declared.Record.{Record}
use Rattle.search.specs.Search.{is_destroyed}
use Rattle.record_rules.specs.Rules.{tail_right, wiped_right}
use Rattle.record_rules.specs.Checked.{material_right, zeros_from}

-- the two rules of the material are one test, from where its zeros start
pub material_zeros : (r : Record) → material_right r ≡ all_zero (drop (zeros_from r) r.material)
unfolding material_right tail_right wiped_right zeros_from
material_zeros r =
    let m = r.material in
    let k = r.bits / 8 in
    on_bool (is_destroyed r.state)
    (λ d. ap (◌&&◌ (all_zero (drop k m))) (ifb_true _ _ _ d) ∙ and_implied (all_zero (drop k m)) (all_zero m) (all_drop is_zero m k) ∙ sym (ap (λ (from : ℕ). all_zero (drop from m)) (ifb_true _ _ _ d)))
    (λ d. ap (◌&&◌ (all_zero (drop k m))) (ifb_false _ _ _ d) ∙ and_true (all_zero (drop k m)) true refl ∙ sym (ap (λ (from : ℕ). all_zero (drop from m)) (ifb_false _ _ _ d)))
