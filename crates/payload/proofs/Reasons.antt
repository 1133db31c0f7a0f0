-- What a command says in the papers' terms: it is of the operation that asked for it, unless it fails by itself.
-- Assumes nothing. The promise is of the command itself; the law says what the definitions of the same name in specs give of it.
use Prim.Native.Nat.{ℕ}
use mathlib.Core.Path.{◌≡◌, refl, sym, ap, ◌∙◌}
use mathlib.Core.Bool.{true}
use Rattle.std.specs.Prelude.{Option, None, Some}
use native.Mathlib.Omega.{arith}
use lib.Dec.{eqb}
use borrow.Author.Tests.{eqb-true}
use Rattle.octets.proofs.If.{on_if}
use Rattle.octets.proofs.Maybe.{some_is, on_bind, on_test}
use Rattle.ttlv.specs.Items.{Items}
use Rattle.rules.specs.Numbers.{create, rekey, locate, get, get_attributes, get_usage_allocation, activate, revoke, destroy}
use Rattle.payload.specs.Payload.{create_in, rekey_in, alone_in, allocation_in, revoke_in, locate_in, or_invalid, command}
use Rattle.payload.specs.Reasons.{operation_of, reason_of}
use Rattle.target_read.specs.declared.Target.{Target}
use Rattle.payload.specs.declared.Command.{Command}
use Rattle.payload.specs.declared.Command.TheVariants.{Activate, Destroy, GetAttributes, Get}

-- what was read is of the operation
Of : ℕ → Option Command → Type 0
Of operation o = (c : Command) → o ≡ Some c → operation_of c ≡ Some operation

create_of : (t : Items) → Of create (create_in t)
unfolding Of create_in operation_of
create_of t c h =
    on_bind h λ a e1 h1. on_test h1 λ kind h2. on_bind h2 λ b e2 h3. on_test h3 λ end h4. on_bind h4 λ wanted e4 h5.
    ap operation_of (sym (some_is h5))

rekey_of : (t : Items) → Of rekey (rekey_in t)
unfolding Of rekey_in operation_of
rekey_of t c h = on_bind h λ a e1 h1. on_bind h1 λ b e2 h2. on_test h2 λ end h3. ap operation_of (sym (some_is h3))

alone_of_lem : {operation : ℕ} (make : Target → Command) → ((target : Target) → operation_of (make target) ≡ Some operation) → (t : Items) → Of operation (alone_in make t)
unfolding Of alone_in
alone_of_lem make f t c h = on_bind h λ a e1 h1. on_test h1 λ end h2. ap operation_of (sym (some_is h2)) ∙ f a.0

allocation_of : (t : Items) → Of get_usage_allocation (allocation_in t)
unfolding Of allocation_in operation_of
allocation_of t c h =
    on_bind h λ a e1 h1. on_bind h1 λ b e2 h2. on_test h2 λ amount h3. on_test h3 λ end h4. ap operation_of (sym (some_is h4))

revoke_of : (t : Items) → Of revoke (revoke_in t)
unfolding Of revoke_in operation_of
revoke_of t c h =
    on_bind h λ a e1 h1. on_bind h1 λ b e2 h2. on_test h2 λ end h3. on_bind h3 λ code e3 h4. on_test h4 λ good h5. on_test h5 λ end2 h6.
    ap operation_of (sym (some_is h6))

locate_of : (t : Items) → Of locate (locate_in t)
unfolding Of locate_in operation_of
locate_of t c h = on_bind h λ a e1 h1. on_test h1 λ end h2. on_bind h2 λ name e2 h3. ap operation_of (sym (some_is h3))

-- a command is of the operation that asked for it, unless it fails by itself
Asked : ℕ → Command → Type 0
Asked operation c = reason_of c ≡ None → operation_of c ≡ Some operation

asked : (operation n : ℕ) (o : Option Command) → eqb operation n ≡ true → Of n o → Asked operation (or_invalid o)
unfolding Asked Of or_invalid reason_of
asked operation n None e f h = let z : ◌≡◌ {A = ℕ} 0 1 = cc in absurd (omega arith)
asked operation n (Some c) e f h = f c refl ∙ ap (λ (x : ℕ). Some x) (sym (eqb-true operation n e))

pub command_operation : (operation : ℕ) (t : Items) → reason_of (command operation t) ≡ None → operation_of (command operation t) ≡ Some operation
unfolding Asked command reason_of operation_of
command_operation operation t =
    on_if (Asked operation) (λ e. asked operation create _ e (create_of t))
    (λ _. on_if (Asked operation) (λ e. asked operation rekey _ e (rekey_of t))
    (λ _. on_if (Asked operation) (λ e. asked operation get_usage_allocation _ e (allocation_of t))
    (λ _. on_if (Asked operation) (λ e. asked operation activate _ e (alone_of_lem Activate (λ target. refl) t))
    (λ _. on_if (Asked operation) (λ e. asked operation revoke _ e (revoke_of t))
    (λ _. on_if (Asked operation) (λ e. asked operation destroy _ e (alone_of_lem Destroy (λ target. refl) t))
    (λ _. on_if (Asked operation) (λ e. asked operation get_attributes _ e (alone_of_lem GetAttributes (λ target. refl) t))
    (λ _. on_if (Asked operation) (λ e. asked operation get _ e (alone_of_lem Get (λ target. refl) t))
    (λ _. on_if (Asked operation) (λ e. asked operation locate _ e (locate_of t))
    (λ _ h. let z : ◌≡◌ {A = ℕ} 0 1 = cc in absurd (omega arith))))))))))
