-- 02, L8: what a batch leaves under its option, and what the second buffer holds then.
-- Assumes nothing. There is no byte of output in it.
use Rattle.std.specs.Prelude.{ℕ, Bool, false, ◌&&◌, ◌||◌, List, [], ◌∷◌, map, eqb}
use Rattle.octets.specs.If.{ifb}
use Rattle.frame.specs.Frame.{undo}
use Rattle.plans.specs.Plans.{is_failed}
use Rattle.answer.specs.Respond.{Answer}
use Rattle.batch.specs.Batch.{Ran}
use Rattle.undone_answers.specs.Undone.{undone_to}

-- "if any item fails"
unfoldable pub any_failed : List Answer → Bool
any_failed [] = false
any_failed (a ∷ answers) = is_failed a.outcome || any_failed answers

-- whether a batch with these answers is undone: "option 3"
abbrev pub is_undone : ℕ → List Answer → Bool
is_undone option answers = eqb option undo && any_failed answers

-- "the table after the request is the table before it, apart from the latest clock and the due changes": `start` is the table before the first item
unfoldable pub settled : ℕ → List ℕ → Ran → Ran
settled option start ran = ifb (is_undone option ran.answers) (record { answers = map undone_to ran.answers; table = start }) ran

-- the second buffer: "what it holds after an accepted request with option 3 is the table before the first item .., and it is untouched by any other request"
unfoldable pub kept_in : ℕ → List ℕ → List ℕ → List ℕ
kept_in option start buffer = ifb (eqb option undo) start buffer
