-- Which item stands first: none where no item is left, and the one with the tag of what was read.
-- Assumes nothing.
use mathlib.Core.Path.{◌≡◌, refl, sym, ◌∙◌}
use Prim.Native.Nat.{ℕ}
use native.Mathlib.Omega.{arith}
use mathlib.Core.Bool.{true, false, false≢true}
use mathlib.Core.List.{List}
use lib.Dec.{eqb}
use Rattle.std.specs.Prelude.{Option, None, Some}
use Rattle.octets.specs.Octets.{from_be}
use Rattle.octets.specs.Maybe.{◌>>=◌}
use Rattle.octets.proofs.Bools.{and_no}
use Rattle.octets.proofs.If.{ifb_false, on_bool}
use Rattle.ttlv.specs.Items.{Items, nil, value, group, ended}
use Rattle.fields.specs.Fields.{starts_with, bytes_of, number_of}

pub starts_ended : (tag : ℕ) (t : Items) → ended t ≡ true → starts_with tag t ≡ false
unfolding starts_with ended
starts_ended tag nil e = refl
starts_ended tag (value tag2 kind v rest) e = absurd (false≢true e)
starts_ended tag (group tag2 body rest) e = absurd (false≢true e)

pub bytes_starts : (tag kind : ℕ) (t : Items) {x : List ℕ × Items} → bytes_of tag kind t ≡ Some x → starts_with tag t ≡ true
unfolding starts_with bytes_of
bytes_starts tag kind nil h = let z : ◌≡◌ {A = ℕ} 0 1 = cc in absurd (omega arith)
bytes_starts tag kind (value tag2 kind2 v rest) {x} h =
    on_bool (eqb tag2 tag)
    (λ y. y)
    (λ n. let q : ◌≡◌ {A = Option (List ℕ × Items)} None (Some x) = sym (ifb_false _ _ _ (and_no (eqb tag2 tag) (eqb kind2 kind) n)) ∙ h in
    let z : ◌≡◌ {A = ℕ} 0 1 = cc in absurd (omega arith))
bytes_starts tag kind (group tag2 body rest) h = let z : ◌≡◌ {A = ℕ} 0 1 = cc in absurd (omega arith)

pub number_starts : (tag kind : ℕ) (t : Items) {x : ℕ × Items} → number_of tag kind t ≡ Some x → starts_with tag t ≡ true
unfolding number_of ◌>>=◌
number_starts tag kind t {x} h = go (bytes_of tag kind t) refl h
  where
    go : (b : Option (List ℕ × Items)) → bytes_of tag kind t ≡ b → (b >>= λ (v, rest). Some (from_be v, rest)) ≡ Some x → starts_with tag t ≡ true
    go None e q = let z : ◌≡◌ {A = ℕ} 0 1 = cc in absurd (omega arith)
    go (Some y) e q = bytes_starts tag kind t e
