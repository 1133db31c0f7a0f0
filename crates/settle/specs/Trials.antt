-- What the functions of this crate ask and answer: a batch that is tried, and the whole.
-- Assumes nothing.
use Rattle.std.specs.Prelude.{Option, None, Some}
use Rattle.rules.specs.declared.Reason.{Reason}
use Rattle.std.specs.Prelude.{ℕ, ◌+◌, ◌≡◌, List, [], ◌∷◌, length}
use Rattle.plans.specs.declared.Outcome.{Outcome}
use Rattle.plans.specs.declared.Outcome.TheVariants.{Failed, Created, Done, Showed, Got, Located, Undone}
use Rattle.answer.specs.Respond.{Answer}
use Rattle.batch.specs.declared.BatchDone.{BatchDone}
use Rattle.batch.specs.Batch.{Ran, first_item}
use Rattle.batch.specs.Runs.{Runs, RanIs}
use Rattle.settle.specs.Undo.{settled, kept_in}

-- ---- the try

-- why an item failed, if it did
unfoldable pub failure_of : Outcome → Option Reason
failure_of (Failed reason) = Some reason
failure_of (Created serial) = None
failure_of (Done serial) = None
failure_of (Showed shown) = None
failure_of (Got key) = None
failure_of (Located serial) = None
failure_of Undone = None

-- this item is the first that failed, and why
abbrev pub fails_at : ℕ → Reason → Option (ℕ × Reason)
fails_at index reason = Some (index, reason)

-- item i failed; or what comes behind it decides
unfoldable pub fails_or : ℕ → Option (ℕ × Reason) → Option Reason → Option (ℕ × Reason)
fails_or i later (Some reason) = fails_at i reason
fails_or i later None = later

-- which of some answers, numbered from i on, is the first failure, and why
unfoldable pub first_failure : ℕ → List Answer → Option (ℕ × Reason)
first_failure i [] = None
first_failure i (a ∷ answers) = fails_or i (first_failure (i + 1) answers) (failure_of a.outcome)

-- a batch that was tried under Undo
pub record TriedIs (ran : Ran) (r : Option (ℕ × Reason)) (t' : List ℕ) : Type 0 where
  pub trial : r ≡ first_failure first_item ran.answers
  pub table : t' ≡ ran.table

-- ---- the whole

-- a batch that can be settled: it can be run, and the second buffer has the table's size
pub record Settles (n : ℕ) (items t fresh out buffer : List ℕ) : Type 0 where
  pub runs : Runs n items t fresh out
  pub sized : length buffer ≡ length t

-- a batch carried out and answered under its option, and the second buffer
pub record SettledIs (option : ℕ) (ran : Ran) (t out buffer : List ℕ) (r : BatchDone) (t' out' buffer' : List ℕ) : Type 0 where
  pub left : RanIs (settled option t ran) out r t' out'
  pub kept : buffer' ≡ kept_in option t buffer
