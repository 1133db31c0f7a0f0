-- `payload::alone`. The chain of tests.
-- Assumes nothing.
use mathlib.Core.Path.{◌≡◌, sym, ◌∙◌}
use mathlib.Core.Bool.{false}
use lib.Dec.{eqb}
use Rattle.octets.specs.If.{ifb}
use Rattle.octets.proofs.If.{ifb_true, ifb_false}
use borrow.Author.Tests.{eq-eqb, ne_eqb}
use Rattle.rules.specs.Numbers.{get, activate, destroy}
use Rattle.target_read.specs.declared.Target.{Target}
use Rattle.payload.specs.declared.Command.TheVariants.{GetAttributes, Get}
use Rattle.payload.specs.Readers.{alone_of}
use Rattle.payload.proofs.alone.Goals.{Else-operation-eq-ACTIVATE, Else-operation-eq-DESTROY}
use Rattle.payload.proofs.alone.Goals as goal

-- ---- the operation, and that it is not Activate

not_activate : (c : Else-operation-eq-ACTIVATE) → eqb c.args.operation activate ≡ false
not_activate c = ne_eqb c.args.operation activate c.if-operation-eq-ACTIVATE.false

pub returns-then-operation-eq-ACTIVATE : goal.returns-then-operation-eq-ACTIVATE
unfolding alone_of
returns-then-operation-eq-ACTIVATE c = sym (ifb_true _ _ _ (eq-eqb c.args.operation activate c.if-operation-eq-ACTIVATE.true))

pub returns-then-operation-eq-DESTROY : goal.returns-then-operation-eq-DESTROY
unfolding alone_of
returns-then-operation-eq-DESTROY c = sym (ifb_false _ _ _ (not_activate (goal.at.returns-then-operation-eq-DESTROY c).Else-operation-eq-ACTIVATE) ∙ ifb_true _ _ _ (eq-eqb c.args.operation destroy c.if-operation-eq-DESTROY.true))

-- past two tests it is Get or Get Attributes
shows : (c : Else-operation-eq-DESTROY) (target : Target) → alone_of c.args.operation target ≡ ifb (eqb c.args.operation get) (Get target) (GetAttributes target)
unfolding alone_of
shows c target = ifb_false _ _ _ (not_activate (goal.at.Else-operation-eq-DESTROY c).Else-operation-eq-ACTIVATE) ∙ ifb_false _ _ _ (ne_eqb c.args.operation destroy c.if-operation-eq-DESTROY.false)

pub returns-then-operation-eq-GET : goal.returns-then-operation-eq-GET
returns-then-operation-eq-GET c = sym (shows (goal.at.returns-then-operation-eq-GET c).Else-operation-eq-DESTROY _ ∙ ifb_true _ _ _ (eq-eqb _ get c.if-operation-eq-GET.true))

pub returns : goal.returns
returns c = sym (shows (goal.at.returns c).Else-operation-eq-DESTROY _ ∙ ifb_false _ _ _ (ne_eqb _ get c.if-operation-eq-GET.false))
