-- `answer_write::write_outcome`. Each outcome by its writer; a success by its payload's.
-- Assumes nothing.
use native.Mathlib.Omega.{arith}
use mathlib.Core.Path.{refl}
use Rattle.std.proofs.Common.{rules}
use lib.ListN.{length-drop}
use Rattle.tags.specs.Tags.{unique_identifier}
use Rattle.answer.specs.Respond.{outcome_items}
use Rattle.named_write.proofs.Named.{puts_named}
use Rattle.named_write.proofs.Compose.{puts_within}
use Rattle.answer_write.proofs.Parts.{puts_outcome}
use Rattle.answer_write.proofs.write_outcome.Goals as goal

pub returns-in-Failed : goal.returns-in-Failed
returns-in-Failed c = puts_outcome c.in-Failed.is (puts_within c.write_failure.ensures (omega arith))

pub returns-in-Created : goal.returns-in-Created
unfolding outcome_items
returns-in-Created c =
    puts_outcome c.in-Created.is (puts_within (c.write_success.ensures 32 _ (λ n left ran. search rules) (omega arith)) (omega arith))

pub returns-in-Done : goal.returns-in-Done
unfolding outcome_items
returns-in-Done c =
    puts_outcome c.in-Done.is (puts_within (c.write_success-in-Done.ensures 16 _ (λ n left ran. puts_named unique_identifier c.in-Done.serial refl (search rules) (rw length-drop (omega arith))) (omega arith)) (omega arith))

pub returns-in-Showed : goal.returns-in-Showed
unfolding outcome_items
returns-in-Showed c =
    puts_outcome c.in-Showed.is (puts_within (c.write_success-in-Showed.ensures 320 _ (λ n left ran. search rules) (omega arith)) (omega arith))

pub returns-in-Got : goal.returns-in-Got
unfolding outcome_items
returns-in-Got c =
    puts_outcome c.in-Got.is (puts_within (c.write_success-in-Got.ensures 144 _ (λ n left ran. search rules) (omega arith)) (omega arith))

pub returns-in-Located : goal.returns-in-Located
unfolding outcome_items
returns-in-Located c =
    puts_outcome c.in-Located.is (puts_within (c.write_success-in-Located.ensures 16 _ (λ n left ran. search rules) (omega arith)) (omega arith))

pub returns-in-Undone : goal.returns-in-Undone
returns-in-Undone c = puts_outcome c.in-Undone.is (puts_within c.write_undone.ensures (omega arith))
