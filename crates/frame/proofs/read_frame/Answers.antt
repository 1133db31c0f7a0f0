-- `frame::read_frame`. The refusals in order, by what the frame reader tells.
-- Assumes nothing.
use mathlib.Core.Path.{◌≡◌, refl, sym, ◌∙◌}
use Rattle.std.proofs.lemmas.Result.{err_from_is_err_and}
use Rattle.refusal.specs.declared.Refusal.{Refusal}
use native.Mathlib.Omega.{arith}
use Prim.Native.Nat.{ℕ}
use Rattle.std.specs.Prelude.{Option, None, Some, Result, Ok, Err, ok_or}
use mathlib.Core.Bool.{true}
use Rattle.ttlv.specs.Tree.{tree_of}
use Rattle.frame.specs.Frame.{frame_in, is_version, is_count, option_ok, framed}
use Rattle.frame.specs.Readers.{items_at, framing_in, framing_of}
use Rattle.frame.proofs.Frame.{Told, told, taken_6, taken_7, taken_8, taken_9, taken, option_small}
use Rattle.frame.proofs.read_frame.Goals.{Else-not-count_ok, Else-not-option_ok, Else-not-version_ok, In_ok-parts}
use Rattle.frame.proofs.read_frame.Goals as goal

pub find_frame-requires : goal.find_frame-requires
find_frame-requires c = c.requires

-- a frame, or the refusal that stands for none
there : {A E : Type 0} {o : Option A} (e : E) {r : Result A E} {a : A} → r ≡ ok_or o e → r ≡ Ok a → o ≡ Some a
there {o = None} e p q = let z : ◌≡◌ {A = ℕ} 0 1 = cc in absurd (omega arith)
there {o = Some b} e p q = cc

not_there : {A E : Type 0} {o : Option A} (e : E) {r : Result A E} {x : E} → r ≡ ok_or o e → r ≡ Err x → (o ≡ None) × (x ≡ e)
not_there {o = None} e p q = (refl, cc)
not_there {o = Some b} e p q = let z : ◌≡◌ {A = ℕ} 0 1 = cc in absurd (omega arith)

pub returns-in_err-parts : goal.returns-in_err-parts
unfolding framing_of framed framing_in
returns-in_err-parts c =
    let p = err_from_is_err_and c.from_residual.result c.from_residual.ensures.1 in
    let q = not_there Refusal.Frame c.ok_or.ensures.value c.in_err-parts.was in
    rw (p.1, p.2, q.1) (sym (taken_6 _ (items_at c.args.request.now) (sym c.find_frame.ensures ∙ q.0)))

-- ---- a frame was read: the request, and what is told of it

tells : (c : In_ok-parts) → Told ((frame_in (tree_of c.args.request.now))) (items_at c.args.request.now) c.in_ok-parts.parts.major c.in_ok-parts.parts.minor c.in_ok-parts.parts.option c.in_ok-parts.parts.count c.in_ok-parts.parts.found c.in_ok-parts.parts.items
tells c = told ((frame_in (tree_of c.args.request.now))) (items_at c.args.request.now) (sym c.find_frame.ensures ∙ there Refusal.Frame c.ok_or.ensures.value c.in_ok-parts.was)

pub returns-then-not-version_ok : goal.returns-then-not-version_ok
unfolding framing_of framed framing_in
returns-then-not-version_ok c =
    sym (taken_7 ((frame_in (tree_of c.args.request.now))) (items_at c.args.request.now) (tells (goal.at.returns-then-not-version_ok c).In_ok-parts) (sym c.version_ok.ensures ∙ c.if-not-version_ok.true))

-- ---- the version is 2.1

version : (c : Else-not-version_ok) → is_version c.in_ok-parts.parts.major c.in_ok-parts.parts.minor ≡ true
version c = sym c.version_ok.ensures ∙ c.if-not-version_ok.false

pub returns-then-not-count_ok : goal.returns-then-not-count_ok
unfolding framing_of framed framing_in
returns-then-not-count_ok c =
    sym (taken_8 ((frame_in (tree_of c.args.request.now))) (items_at c.args.request.now) (tells (goal.at.returns-then-not-count_ok c).In_ok-parts) (version (goal.at.returns-then-not-count_ok c).Else-not-version_ok) (sym c.count_ok.ensures ∙ c.if-not-count_ok.true))

-- ---- the count is right

counts : (c : Else-not-count_ok) → is_count c.in_ok-parts.parts.count c.in_ok-parts.parts.found ≡ true
counts c = sym c.count_ok.ensures ∙ c.if-not-count_ok.false

pub returns-then-not-option_ok : goal.returns-then-not-option_ok
unfolding framing_of framed framing_in
returns-then-not-option_ok c =
    sym (taken_9 ((frame_in (tree_of c.args.request.now))) (items_at c.args.request.now) (tells (goal.at.returns-then-not-option_ok c).In_ok-parts) (version (goal.at.returns-then-not-option_ok c).Else-not-version_ok) (counts (goal.at.returns-then-not-option_ok c).Else-not-count_ok) (sym c.option_ok.ensures ∙ c.if-not-option_ok.true))

-- ---- the option is one that there is

known : (c : Else-not-option_ok) → option_ok c.in_ok-parts.parts.option ≡ true
known c = sym c.option_ok.ensures ∙ c.if-not-option_ok.false

pub overflow_cast-result : goal.overflow_cast-result
overflow_cast-result c = omega (arith, option_small c.in_ok-parts.parts.option (known (goal.at.overflow_cast-result c).Else-not-option_ok))

pub returns : goal.returns
unfolding framing_of framed framing_in
returns c =
    sym (taken ((frame_in (tree_of c.args.request.now))) (items_at c.args.request.now) (tells (goal.at.returns c).In_ok-parts) (version (goal.at.returns c).Else-not-version_ok) (counts (goal.at.returns c).Else-not-count_ok) (known (goal.at.returns c).Else-not-option_ok))
