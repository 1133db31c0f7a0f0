-- A response by its front and its batch items, and how long it is.
-- Assumes nothing.
use mathlib.Core.Path.{◌≡◌, refl, ◌∙◌}
use Prim.Native.Nat.{ℕ, ◌+◌, ◌≤◌}
use native.Mathlib.Omega.{arith}
use mathlib.Core.Bool.{true}
use mathlib.Core.List.{List, [], ◌∷◌, ◌++◌, append_assoc, append-nil}
use lib.ListN.{length, length-append}
use Rattle.octets.proofs.Numbers.{length_be}
use Rattle.ttlv_types.specs.Types.{structure}
use Rattle.ttlv.specs.Items.{Items, nil, group, head, encode}
use Rattle.tags.specs.Tags.{response_header}
use Rattle.answer.specs.Respond.{Answer, Response, batch_items, version_items, header_items, respond}
use Rattle.answer.specs.Read.{allowed}
use Rattle.answer.specs.Front.{header_size, frame_size, response_most, front}
use Rattle.answer.proofs.Answers.{allowed_facts}
use Rattle.ttlv.proofs.Sizes.{size, size_nil}
use Rattle.answer.proofs.Sizes.{sizes, batch_size}

-- ---- runs of structures

-- a structure alone, and a structure in front of others
encode_alone : (tag : ℕ) (body : Items) → encode (group tag body nil) ≡ head tag structure (length (encode body)) ++ encode body
unfolding encode
encode_alone tag body = rw append-nil

encode_first : (tag : ℕ) (body rest : Items) → encode (group tag body rest) ≡ encode (group tag body nil) ++ encode rest
unfolding encode
encode_first tag body rest = simp (append_assoc, append-nil)

-- the batch items of answers, and then those of others
pub batch_append : (xs ys : List Answer) → encode (batch_items (xs ++ ys)) ≡ encode (batch_items xs) ++ encode (batch_items ys)
unfolding batch_items encode
batch_append [] ys = refl
batch_append (a ∷ xs) ys = rw (batch_append xs ys) (simp append_assoc)

-- ---- the front

pub header_size_lem : (clock count : ℕ) (rest : Items) → size (group response_header (header_items clock count) rest) ≡ header_size + size rest
unfolding header_items version_items
header_size_lem clock count rest = simp sizes (omega arith)

pub frame_size_lem : (clock count n : ℕ) → length (front clock count n) ≡ frame_size
unfolding front
frame_size_lem clock count n = simp (length-append, length_be, header_size_lem, size_nil) (omega arith)

-- a response is its front, and then its batch items
pub respond_splits : (r : Response)
    → encode (respond r) ≡ front r.clock (length r.answers) (length (encode (batch_items r.answers))) ++ encode (batch_items r.answers)
unfolding respond front
respond_splits r = encode_alone _ _ ∙ rw (header_size_lem, encode_first) (simp append_assoc)

-- each response fits the longest
pub response_size : (r : Response) → allowed r ≡ true → length (encode (respond r)) ≤ response_most
unfolding respond
response_size r h =
    let f = allowed_facts r h in
    simp (header_size_lem, sizes) (omega (arith, batch_size r.answers f.answers_ok, f.few_answers))
