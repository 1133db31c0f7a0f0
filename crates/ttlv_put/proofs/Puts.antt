-- Puts one behind the other from the front on: what they leave is one run of stores, and an item is such a run.
-- Assumes nothing.
use mathlib.Core.Path.{◌≡◌, sym, ◌∙◌}
use Prim.Native.Nat.{ℕ, ◌+◌, ◌-◌, ◌%◌, ◌≤◌, ◌<◌}
use native.Mathlib.Omega.{arith}
use mathlib.Core.List.{List, [], ◌∷◌, ◌++◌, append_assoc, append-nil}
use lib.ListN.{length, length-append}
use lib.Seq.{sets}
use mathlib.Core.Bool.{Bool, true, false, and-false}
use Rattle.octets.specs.Octets.{be, over}
use Rattle.octets.proofs.If.{ifb_true, ifb_false}
use Rattle.octets.proofs.Numbers.{length_be, be_zero}
use Rattle.octets.proofs.Stores.{sets_then, sets_over}
use Rattle.ttlv_types.specs.Types.{padded}
use Rattle.ttlv.specs.Items.{nil, value, head, encode}
use Rattle.ttlv.proofs.Sizes.{length_head}
use Rattle.ttlv_put.proofs.Sizes.{length_value}
use Rattle.ttlv_put.specs.Write.{item, Wrote, WroteValue}

-- a byte of one is the byte
one_byte : (x : ℕ) → x < 256 → be 1 x ≡ x ∷ []
unfolding be
one_byte x h = let e : x % 256 ≡ x = omega arith in rw e

-- tag, type and length
pub head_puts : (tag kind n : ℕ) (zs : List ℕ) {t₁ t₂ t₃ : List ℕ} → kind < 256
    → t₁ ≡ sets zs 0 (be 3 tag) → t₂ ≡ sets t₁ 3 (be 1 kind) → t₃ ≡ sets t₂ 4 (be 4 n) → t₃ ≡ sets zs 0 (head tag kind n)
head_puts tag kind n zs h e₁ e₂ e₃ =
    let two = sets_then zs (be 3 tag) (be 1 kind) 3 e₁ (length_be 3 tag) e₂ in
    let l : length (be 3 tag ++ be 1 kind) ≡ 4 = rw (length-append, length_be 3 tag, length_be 1 kind) in
    sets_then zs (be 3 tag ++ be 1 kind) (be 4 n) 4 two l e₃ ∙ rw (one_byte kind h, append_assoc)

-- ---- one value

-- head, value and w zeros
value_puts : (tag kind n w : ℕ) (v zs : List ℕ) {t₁ t₂ t₃ : List ℕ} → length v ≡ n → w ≡ padded n - n
    → t₁ ≡ sets zs 0 (head tag kind n) → t₂ ≡ sets t₁ 8 v → t₃ ≡ sets t₂ (8 + n) (be w 0) → t₃ ≡ sets zs 0 (encode (value tag kind v nil))
unfolding encode
value_puts tag kind n w v zs l p e₁ e₂ e₃ =
    let two = sets_then zs (head tag kind n) v 8 e₁ (length_head tag kind n) e₂ in
    let k : length (head tag kind n ++ v) ≡ 8 + n = rw (length-append, length_head, l) in
    sets_then zs (head tag kind n ++ v) (be w 0) (8 + n) two k e₃ ∙ rw (be_zero w, p, l, append-nil, append_assoc)

-- ---- what a writer answers

pub wrote_all : (ok : Bool) (size : ℕ) (b room : List ℕ) {after : List ℕ} → ok ≡ true → size ≡ length b → size ≤ length room → after ≡ sets room 0 b → Wrote ok size b room after size
wrote_all ok size b room h k l e =
    let f : length b ≤ length room = rw k at l in
    record { answer = sym (ifb_true ok size 0 h); bytes = e ∙ sets_over b room f ∙ sym (ifb_true ok (over b room) room h); within = l }

pub wrote_none : (ok : Bool) (size : ℕ) (b room : List ℕ) → ok ≡ false → Wrote ok size b room room 0
wrote_none ok size b room h = record { answer = sym (ifb_false ok size 0 h); bytes = sym (ifb_false ok (over b room) room h); within = omega arith }

-- a value of n bytes, by its three puts
pub wrote_value : (ok : Bool) (tag kind n w size : ℕ) (v zs : List ℕ) {t₁ t₂ t₃ : List ℕ} → ok ≡ true → length v ≡ n → w ≡ padded n - n → size ≡ 8 + padded n → size ≤ length zs
    → t₁ ≡ sets zs 0 (head tag kind n) → t₂ ≡ sets t₁ 8 v → t₃ ≡ sets t₂ (8 + n) (be w 0) → Wrote ok size (encode (value tag kind v nil)) zs t₃ size
wrote_value ok tag kind n w size v zs h l p e room e₁ e₂ e₃ =
    let k : size ≡ length (encode (value tag kind v nil)) = e ∙ sym (length_value tag kind v ∙ rw l) in
    wrote_all ok size (encode (value tag kind v nil)) zs h k room (value_puts tag kind n w v zs l p e₁ e₂ e₃)

-- a value that its type may refuse
module _ (right : Bool) (tag kind : ℕ) (v room : List ℕ) where
  pub wrote_right : {after : List ℕ} {r : ℕ} → right ≡ true → WroteValue true tag kind v room after r → WroteValue right tag kind v room after r
  wrote_right e w = rw e w

  pub wrote_wrong : right ≡ false → WroteValue right tag kind v room room 0
  wrote_wrong e = wrote_none _ (8 + padded (length v)) (encode (item tag kind v)) room (rw (e, and-false))
