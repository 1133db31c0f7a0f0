-- `next_state` meets its contract: each arm is one law of the transitions.
-- Assumes nothing.
use mathlib.Core.Path.{sym}
use mathlib.Core.Logic.{inl, inr}
use native.Mathlib.Omega.{arith}
use Rattle.rules.proofs.States.{on_other, activates, activates_not, is_compromise_lem, not_compromise, compromises, compromises_destroyed, compromises_not, deactivates, deactivates_not, destroys, destroys_compromised, destroys_destroyed, destroys_not}
use Rattle.rules.proofs.next_state.Goals.{in_default-code-via-then-code-lt2, in_default-code-via-else-code-lt2+else-code-lt4}
use Rattle.rules.proofs.next_state.Goals as goal

pub returns-in-1 : goal.returns-in-1
returns-in-1 c = search activates

pub returns-in_default-state : goal.returns-in_default-state
returns-in_default-state c = search activates_not

pub returns-in-5 : goal.returns-in-5
returns-in-5 c =
    let a = c.args in
    sym (compromises_destroyed a.operation a.code a.state (omega arith) (is_compromise_lem a.code (omega arith) (omega arith)) (omega arith))

pub returns-in-1-to-3 : goal.returns-in-1-to-3
returns-in-1-to-3 c =
    let a = c.args in
    sym (compromises a.operation a.code a.state (omega arith) (is_compromise_lem a.code (omega arith) (omega arith)) (omega arith) (omega arith))

pub returns-in_default-state-2 : goal.returns-in_default-state-2
returns-in_default-state-2 c =
    let a = c.args in
    sym (compromises_not a.operation a.code a.state (omega arith) (is_compromise_lem a.code (omega arith) (omega arith)) (omega arith) (omega arith) (omega arith) (omega arith))

pub returns-in_default-state-2-2 : goal.returns-in_default-state-2-2
returns-in_default-state-2-2 c =
    let a = c.args in
    sym (compromises_not a.operation a.code a.state (omega arith) (is_compromise_lem a.code (omega arith) (omega arith)) (omega arith) (omega arith) (omega arith) (omega arith))

pub returns-in-2 : goal.returns-in-2
returns-in-2 c =
    let a = c.args in
    sym (deactivates a.operation a.code a.state (omega arith) (elim c.in_default-code.branch [ in_default-code-via-then-code-lt2 w ↦ not_compromise a.code (omega arith) (omega arith) | in_default-code-via-else-code-lt2+else-code-lt4 w ↦ not_compromise a.code (omega arith) (omega arith) ]) (omega arith))

pub returns-in_default-state-3 : goal.returns-in_default-state-3
returns-in_default-state-3 c =
    let a = c.args in
    sym (deactivates_not a.operation a.code a.state (omega arith) (elim c.in_default-code.branch [ in_default-code-via-then-code-lt2 w ↦ not_compromise a.code (omega arith) (omega arith) | in_default-code-via-else-code-lt2+else-code-lt4 w ↦ not_compromise a.code (omega arith) (omega arith) ]) (omega arith))

pub returns-in-1-state : goal.returns-in-1-state
returns-in-1-state c =
    let a = c.args in
    sym (destroys a.operation a.code a.state (omega arith) (inl (omega arith)))

pub returns-in-3 : goal.returns-in-3
returns-in-3 c =
    let a = c.args in
    sym (destroys a.operation a.code a.state (omega arith) (inr (omega arith)))

pub returns-in-4 : goal.returns-in-4
returns-in-4 c = search destroys_compromised

pub returns-in-5-to-6 : goal.returns-in-5-to-6
returns-in-5-to-6 c =
    let a = c.args in
    sym (destroys_destroyed a.operation a.code a.state (omega arith) (omega arith) (omega arith))

pub returns-in_default-state-4 : goal.returns-in_default-state-4
returns-in_default-state-4 c =
    let a = c.args in
    sym (destroys_not a.operation a.code a.state (omega arith) (omega arith) (omega arith) (omega arith) (omega arith) (omega arith))

pub returns-in_default-state-4-2 : goal.returns-in_default-state-4-2
returns-in_default-state-4-2 c =
    let a = c.args in
    sym (destroys_not a.operation a.code a.state (omega arith) (omega arith) (omega arith) (omega arith) (omega arith) (omega arith))

pub returns-in_default : goal.returns-in_default
returns-in_default c = search on_other
