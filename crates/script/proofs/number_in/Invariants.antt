-- `script::number_in`. What is left decides.
-- Assumes nothing.
use mathlib.Core.Path.{◌≡◌}
use lib.ListN.{drop}
use Rattle.script.specs.Numbers.{number_after, number_in}
use Rattle.script.proofs.number_in.Given as goal

abbrev pub invariant-loop-c : goal.invariant-loop-c
invariant-loop-c l = number_in l.s ≡ number_after l.n (drop l.c-index l.s)
