-- The walk over a message: what is written is the front of the message, and what is left is a run.
-- Assumes nothing.
use mathlib.Core.Path.{◌≡◌, refl, sym, ap, ◌∙◌}
use mathlib.Core.Bool.{Bool, true, false≢true}
use Rattle.std.specs.Prelude.{Option, None, Some}
use Prim.Native.Nat.{ℕ, ◌+◌, ◌-◌, ◌≤◌}
use native.Mathlib.Omega.{arith}
use mathlib.Core.List.{List, ◌++◌}
use lib.ListN.{length, take, drop, length-take, length-drop}
use lib.Seq.{take_all, take-add, drop-drop, length-take-le}
use borrow.Rule.Slice.PartMut.{put_mid, mid_of}
use Rattle.octets.specs.Maybe.{is_some}
use Rattle.octets.specs.Octets.{over}
use Rattle.octets.proofs.If.{ifb_true}
use Rattle.octets.proofs.Over.{length_over, lent_then}
use Rattle.ttlv.specs.Items.{Items}
use Rattle.ttlv.specs.Parse.{message}
use Rattle.ttlv.specs.Tree.{is_run}
use Rattle.ttlv.proofs.Message.{message_tree}
use Rattle.ttlv_put.specs.Write.{Wrote}
use Rattle.rewrite.specs.Again.{Again}

-- a message is a run
message_run : (s : List ℕ) → is_some (message s) ≡ true → is_run s ≡ true
unfolding is_some
message_run s h = go (message s) refl h
  where
    go : (o : Option Items) → message s ≡ o → is_some o ≡ true → is_run s ≡ true
    go None e g = absurd (false≢true g)
    go (Some t) e g = (message_tree s t e).0

-- `at` bytes of s stand over the front of the room, and t is the rest of s
pub record Mid (s room out : List ℕ) (at : ℕ) (t : List ℕ) : Type 0 where
  pub fits : length s ≤ length room
  pub passed : at ≤ length s
  pub left : t ≡ drop at s
  pub run : is_run t ≡ true
  pub bytes : out ≡ over (take at s) room

pub start : (s room : List ℕ) → is_some (message s) ≡ true → length s ≤ length room → Mid s room room 0 s
start s room h l = record { fits = l; passed = omega arith; left = refl; run = message_run s h; bytes = refl }

module _ {s room out t : List ℕ} {at : ℕ} (m : Mid s room out at t) where
  -- the room keeps its length
  pub kept : length out ≡ length room
  kept =
      let l : length (take at s) ≡ at = length-take-le at s m.passed in
      rw m.bytes (length_over (take at s) room (omega (arith, m.fits, m.passed)))

  pub length_left : length t ≡ length s - at
  length_left = rw m.left (length-drop at s)

  -- what is left fits the room that is left
  pub left_fits : length t ≤ length (mid_of at (length out - at) out)
  left_fits = rw (length-take, length-drop, length_left, kept) (omega (arith, m.fits))

  pub again : {ys : List ℕ} {r : ℕ} → Again t (mid_of at (length out - at) out) ys r → Mid s room (put_mid at (length out - at) out ys) (at + r) (take (length t - r) (drop r t))
  again {ys} {r} a =
      let rest : take (length t - r) (drop r t) ≡ drop r t = take_all (length t - r) (drop r t) (rw length-drop (omega arith)) in
      let w = a.within in
      let l = length_left in
      let k : length (take at s) ≡ at = length-take-le at s m.passed in
      let e : take at s ++ take r t ≡ take (at + r) s = rw m.left (sym (take-add at r s)) in
      record {
        fits = m.fits;
        passed = omega (arith, m.passed);
        left = rest ∙ rw m.left (drop-drop r at s);
        run = rw rest a.run;
        bytes = lent_then at (take at s) (take r t) out ys room m.bytes k a.bytes ∙ ap (λ (y : List ℕ). over y room) e;
      }

  pub whole : (ok : Bool) → ok ≡ true → length t ≡ 0 → Wrote ok (length s) s room out at
  whole ok h z =
      let e : at ≡ length s = omega (arith, length_left, m.passed) in
      let a : take at s ≡ s = take_all at s (omega arith) in
      record { answer = e ∙ sym (ifb_true ok (length s) 0 h); bytes = rw a at m.bytes ∙ sym (ifb_true ok (over s room) room h); within = omega (arith, m.fits) }
