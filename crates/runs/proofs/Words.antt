-- The value of a type of four bytes has four.
-- Assumes nothing.
use mathlib.Core.Path.{◌≡◌, refl, sym, ap, ◌∙◌}
use Prim.Native.Nat.{ℕ}
use native.Mathlib.Omega.{arith}
use mathlib.Core.Bool.{true}
use mathlib.Core.List.{List}
use lib.ListN.{length}
use borrow.Author.Tests.{eqb-true}
use Rattle.std.specs.Prelude.{Option, None, Some}
use Rattle.octets.specs.Octets.{part}
use Rattle.octets.proofs.If.{ifb_true}
use Rattle.octets.proofs.Stores.{length_part}
use Rattle.ttlv_types.specs.Types.{is_word, length_ok}
use Rattle.ttlv.specs.Items.{Items}
use Rattle.ttlv.specs.Tree.{is_run, tree_of}
use Rattle.fields.specs.Fields.{bytes_of}
use Rattle.fields.specs.Found.{bytes_at}
use Rattle.fields.proofs.Found.{bytes_ends}
use Rattle.fields.proofs.Lift.{bytes_read, bytes_lifts}

four : (kind n : ℕ) → is_word kind ≡ true → length_ok kind n ≡ true → n ≡ 4
unfolding length_ok
four kind n w a = eqb-true n 4 (sym (ifb_true _ _ _ w) ∙ a)

-- two pairs that are the same
first : {A B : Type 0} {a c : A} {b d : B} → ◌≡◌ {A = Option (A × B)} (Some (a, b)) (Some (c, d)) → a ≡ c
first {A} {B} {a} {c} {b} {d} h = let p : ◌≡◌ {A = A × B} (a, b) (c, d) = cc in ap (λ (x : A × B). x.0) p

module _ (s : List ℕ) (run : is_run s ≡ true) (tag kind : ℕ) (w : is_word kind ≡ true) where
  found : {v : List ℕ} {t : Items} (b : Option (ℕ × ℕ)) → bytes_at s tag kind ≡ b → bytes_read s b ≡ Some (v, t) → length v ≡ 4
  found {v} {t} None e h = let z : ◌≡◌ {A = ℕ} 0 1 = cc in absurd (omega arith)
  found {v} {t} (Some (n, next)) e h =
      let f : part s 8 n ≡ v = first h in
      let i = bytes_ends s tag kind e in
      ap length (sym f) ∙ length_part s 8 n (omega arith) ∙ four kind n w i.2

  pub word_size : {v : List ℕ} {t : Items} → bytes_of tag kind (tree_of s) ≡ Some (v, t) → length v ≡ 4
  word_size h = found (bytes_at s tag kind) refl (sym (bytes_lifts s run tag kind) ∙ h)
