-- What each answer of the frame's readers says as a refusal: 6 where nothing was read, 0 where nothing is wrong so far.
-- Assumes nothing. The laws that tie this to the readers' promises stand in the proofs of the same name.
use Rattle.std.specs.Prelude.{ℕ, Option, None, Some}
use Rattle.frame.specs.Frame.{frame_wrong}

-- what was read, or nothing
unfoldable pub read_refusal : {A : Type 0} → Option A → ℕ
read_refusal None = frame_wrong
read_refusal (Some a) = 0
