-- What the readers' answers say as refusals: each is 6 exactly where its definition reads nothing, and the request is then turned away with 6.
-- Assumes nothing. The promises are of the answers themselves; these laws say what the definitions of the same name in specs give of them.
use Prim.Native.Nat.{ℕ}
use mathlib.Core.Path.{◌≡◌, refl, sym, ◌∙◌}
use Rattle.std.specs.Prelude.{Option, None, Some}
use mathlib.Core.List.{List}
use native.Mathlib.Omega.{arith}
use Rattle.octets.proofs.If.{on_bool}
use Rattle.octets.proofs.Maybe.{not_some}
use Rattle.ttlv.specs.Items.{Items}
use Rattle.batch_item.specs.Item.{Asked, item_in}
use Rattle.batch_item.specs.Readers.{items_read}
use Rattle.frame.specs.Frame.{Header, Frame, Request, refused, asked, frame_wrong, version_in, version_ok, count_ok, option_of, option_ok, framing}
use Rattle.frame.specs.Readers.{header_read, frame_read}
use Rattle.frame.specs.Refusals.{read_refusal}
use Rattle.frame.proofs.Frame.{other_version, other_count, other_option, accepted}

-- what was read says of a refusal: 6 where it is nothing, 0 where it is something, and 6 nowhere else
abbrev pub SaysRead : {A : Type 0} → Option A → Type 0
SaysRead {A} o = (o ≡ None → read_refusal o ≡ frame_wrong) × (((a : A) → o ≡ Some a → read_refusal o ≡ 0) × (read_refusal o ≡ frame_wrong → o ≡ None))

says_read : {A : Type 0} (o : Option A) → SaysRead o
unfolding read_refusal
says_read None = ((λ e. refl), ((λ a e. absurd (not_some e)), (λ h. refl)))
says_read (Some a) = ((λ e. absurd (not_some (sym e))), ((λ b e. refl), (λ h. absurd (omega arith))))

pub version_refusal_lem : (t : Items) → SaysRead (version_in t)
version_refusal_lem t = says_read (version_in t)

pub item_refusal_lem : (t : Items) → SaysRead (item_in t)
item_refusal_lem t = says_read (item_in t)

pub header_refusal_lem : (o : Option Header) → read_refusal (header_read o) ≡ read_refusal o
unfolding header_read read_refusal
header_refusal_lem None = refl
header_refusal_lem (Some h) = refl

pub items_refusal_lem : (o : Option (List Asked)) → read_refusal (items_read o) ≡ read_refusal o
unfolding items_read read_refusal
items_refusal_lem None = refl
items_refusal_lem (Some items) = refl

pub frame_refusal_lem : (o : Option Frame) (at : ℕ) → read_refusal (frame_read o at) ≡ read_refusal o
unfolding frame_read read_refusal
frame_refusal_lem None at = refl
frame_refusal_lem (Some f) at = refl

-- ---- refusal 6 is given where the frame reads as nothing, and nowhere else

pub frame_wrong_lem : (o : Option Frame) → read_refusal o ≡ frame_wrong → framing o ≡ refused frame_wrong
unfolding read_refusal framing
frame_wrong_lem None h = refl
frame_wrong_lem (Some f) h = absurd (omega arith)

pub wrong_frame : (o : Option Frame) → framing o ≡ refused frame_wrong → read_refusal o ≡ frame_wrong
unfolding read_refusal
wrong_frame None h = refl
wrong_frame (Some f) h =
    on_bool (version_ok f.header)
    (λ v. on_bool (count_ok f)
    (λ c. on_bool (option_ok (option_of f.header.option))
    (λ o. absurd (not_six (sym (accepted f v c o) ∙ h)))
    (λ o. absurd (six 9 (λ z. omega arith) (sym (other_option f v c o) ∙ h))))
    (λ c. absurd (six 8 (λ z. omega arith) (sym (other_count f v c) ∙ h))))
    (λ v. absurd (six 7 (λ z. omega arith) (sym (other_version f v) ∙ h)))
  where
    six : (n : ℕ) → (n ≡ frame_wrong → ⊥) → refused n ≡ refused frame_wrong → ⊥
    six n x e = x cc

    not_six : {r : Request} → asked r ≡ refused frame_wrong → ⊥
    not_six e = let z : ◌≡◌ {A = ℕ} 0 1 = cc in omega arith
