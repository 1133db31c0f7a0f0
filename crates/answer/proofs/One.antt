-- Each response has items and bytes of its own, and its bytes are read back as it was meant.
-- Assumes nothing.
use mathlib.Core.Path.{◌≡◌, refl, sym, ap, ◌∙◌}
use Prim.Native.Nat.{ℕ}
use mathlib.Core.Bool.{true}
use Rattle.std.specs.Prelude.{Some}
use mathlib.Core.List.{List}
use Rattle.octets.specs.Maybe.{◌>>=◌}
use Rattle.octets.specs.Octets.{Bytes}
use Rattle.ttlv.specs.Items.{encode}
use Rattle.ttlv.specs.Parse.{depth_most, is_one, message}
use Rattle.ttlv.proofs.Well.{encode_one}
use Rattle.ttlv.proofs.Message.{message_back, message_spells}
use Rattle.answer.specs.Respond.{Response, respond}
use Rattle.answer.specs.Read.{allowed, answers_in}
use Rattle.octets.proofs.Maybe.{some_is, on_bind}
use Rattle.answer.proofs.Answers.{answers_back, answers_spell}
use Rattle.answer.proofs.Well.{respond_well}

-- ---- one response

module _ (r : Response) (h : allowed r ≡ true) where
  pub response_message_lem : message (encode (respond r)) ≡ Some (respond r)
  unfolding respond is_one
  response_message_lem = message_back (respond r) (respond_well r h) refl

  -- its bytes are read back as it was meant
  pub response_back : (message (encode (respond r)) >>= answers_in) ≡ Some r
  unfolding ◌>>=◌
  response_back = rw response_message_lem (answers_back r h)

-- bytes that are read as a response are those that it is written as, and it is allowed
pub response_spells : (s : List ℕ) (r : Response) → Bytes s → (message s >>= answers_in) ≡ Some r → (s ≡ encode (respond r)) × (allowed r ≡ true)
response_spells s r b h =
    on_bind h (λ t e g.
    let p = answers_spell t r g in
    (sym (message_spells s t b e) ∙ ap encode p.0, p.1))

-- ---- two responses

module _ (r q : Response) (h : allowed r ≡ true) (g : allowed q ≡ true) where
  pub respond_one : respond r ≡ respond q → r ≡ q
  respond_one e = some_is (sym (answers_back r h) ∙ ap answers_in e ∙ answers_back q g)

  pub bytes_one : encode (respond r) ≡ encode (respond q) → r ≡ q
  bytes_one e = respond_one (encode_one depth_most depth_most (respond r) (respond q) (respond_well r h) (respond_well q g) e)
