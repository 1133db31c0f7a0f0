-- `script_verbs::verb_of`. Name by name: behind each test, the names that are left.
-- Assumes nothing.
use mathlib.Core.Path.{◌≡◌, sym, ◌∙◌}
use lib.ListN.{drop}
use Rattle.octets.proofs.If.{ifb_true, ifb_false}
use Rattle.script_verbs.specs.Verbs.{verbs, named, verb_of}
use borrow.Author.Rules.{rules}
use Rattle.script_verbs.proofs.verb_of.Statement.{statement}
use Rattle.script_verbs.proofs.verb_of.Tie as tie

passed_1 : (c : tie.Else-same) → verb_of (c.args.word.now) ≡ named (c.args.word.now) (drop 1 verbs)
unfolding verb_of
passed_1 c = ifb_false _ _ _ (sym c.same.ensures ∙ c.if-same.false)

passed_2 : (c : tie.Else-same-2) → verb_of (c.args.word.now) ≡ named (c.args.word.now) (drop 2 verbs)
passed_2 c = passed_1 c.before.before.before.before ∙ ifb_false _ _ _ (sym c.same-2.ensures ∙ c.if-same-2.false)

passed_3 : (c : tie.Else-same-3) → verb_of (c.args.word.now) ≡ named (c.args.word.now) (drop 3 verbs)
passed_3 c = passed_2 c.before.before.before.before ∙ ifb_false _ _ _ (sym c.same-3.ensures ∙ c.if-same-3.false)

passed_4 : (c : tie.Else-same-4) → verb_of (c.args.word.now) ≡ named (c.args.word.now) (drop 4 verbs)
passed_4 c = passed_3 c.before.before.before.before ∙ ifb_false _ _ _ (sym c.same-4.ensures ∙ c.if-same-4.false)

passed_5 : (c : tie.Else-same-5) → verb_of (c.args.word.now) ≡ named (c.args.word.now) (drop 5 verbs)
passed_5 c = passed_4 c.before.before.before.before ∙ ifb_false _ _ _ (sym c.same-5.ensures ∙ c.if-same-5.false)

passed_6 : (c : tie.Else-same-6) → verb_of (c.args.word.now) ≡ named (c.args.word.now) (drop 6 verbs)
passed_6 c = passed_5 c.before.before.before.before ∙ ifb_false _ _ _ (sym c.same-6.ensures ∙ c.if-same-6.false)

passed_7 : (c : tie.Else-same-7) → verb_of (c.args.word.now) ≡ named (c.args.word.now) (drop 7 verbs)
passed_7 c = passed_6 c.before.before.before.before ∙ ifb_false _ _ _ (sym c.same-7.ensures ∙ c.if-same-7.false)

passed_8 : (c : tie.Else-same-8) → verb_of (c.args.word.now) ≡ named (c.args.word.now) (drop 8 verbs)
passed_8 c = passed_7 c.before.before.before.before ∙ ifb_false _ _ _ (sym c.same-8.ensures ∙ c.if-same-8.false)

passed_9 : (c : tie.Else-same-9) → verb_of (c.args.word.now) ≡ named (c.args.word.now) (drop 9 verbs)
passed_9 c = passed_8 c.before.before.before.before ∙ ifb_false _ _ _ (sym c.same-9.ensures ∙ c.if-same-9.false)

passed_10 : (c : tie.Else-same-10) → verb_of (c.args.word.now) ≡ named (c.args.word.now) (drop 10 verbs)
passed_10 c = passed_9 c.before.before.before.before ∙ ifb_false _ _ _ (sym c.same-10.ensures ∙ c.if-same-10.false)

passed_11 : (c : tie.Else-same-11) → verb_of (c.args.word.now) ≡ named (c.args.word.now) (drop 11 verbs)
passed_11 c = passed_10 c.before.before.before.before ∙ ifb_false _ _ _ (sym c.same-11.ensures ∙ c.if-same-11.false)

same-requires : tie.Need-same-requires
same-requires c κs = search rules

returns-then-same : tie.Need-returns-then-same
unfolding verb_of
returns-then-same c = sym (ifb_true _ _ _ (sym c.same.ensures ∙ c.if-same.true))

same-requires-2 : tie.Need-same-requires-2
same-requires-2 c κs = search rules

returns-then-same-2 : tie.Need-returns-then-same-2
returns-then-same-2 c = sym (passed_1 c.before.before.before.before ∙ ifb_true _ _ _ (sym c.same-2.ensures ∙ c.if-same-2.true))

same-requires-3 : tie.Need-same-requires-3
same-requires-3 c κs = search rules

returns-then-same-3 : tie.Need-returns-then-same-3
returns-then-same-3 c = sym (passed_2 c.before.before.before.before ∙ ifb_true _ _ _ (sym c.same-3.ensures ∙ c.if-same-3.true))

same-requires-4 : tie.Need-same-requires-4
same-requires-4 c κs = search rules

returns-then-same-4 : tie.Need-returns-then-same-4
returns-then-same-4 c = sym (passed_3 c.before.before.before.before ∙ ifb_true _ _ _ (sym c.same-4.ensures ∙ c.if-same-4.true))

same-requires-5 : tie.Need-same-requires-5
same-requires-5 c κs = search rules

returns-then-same-5 : tie.Need-returns-then-same-5
returns-then-same-5 c = sym (passed_4 c.before.before.before.before ∙ ifb_true _ _ _ (sym c.same-5.ensures ∙ c.if-same-5.true))

same-requires-6 : tie.Need-same-requires-6
same-requires-6 c κs = search rules

returns-then-same-6 : tie.Need-returns-then-same-6
returns-then-same-6 c = sym (passed_5 c.before.before.before.before ∙ ifb_true _ _ _ (sym c.same-6.ensures ∙ c.if-same-6.true))

same-requires-7 : tie.Need-same-requires-7
same-requires-7 c κs = search rules

returns-then-same-7 : tie.Need-returns-then-same-7
returns-then-same-7 c = sym (passed_6 c.before.before.before.before ∙ ifb_true _ _ _ (sym c.same-7.ensures ∙ c.if-same-7.true))

same-requires-8 : tie.Need-same-requires-8
same-requires-8 c κs = search rules

returns-then-same-8 : tie.Need-returns-then-same-8
returns-then-same-8 c = sym (passed_7 c.before.before.before.before ∙ ifb_true _ _ _ (sym c.same-8.ensures ∙ c.if-same-8.true))

same-requires-9 : tie.Need-same-requires-9
same-requires-9 c κs = search rules

returns-then-same-9 : tie.Need-returns-then-same-9
returns-then-same-9 c = sym (passed_8 c.before.before.before.before ∙ ifb_true _ _ _ (sym c.same-9.ensures ∙ c.if-same-9.true))

same-requires-10 : tie.Need-same-requires-10
same-requires-10 c κs = search rules

returns-then-same-10 : tie.Need-returns-then-same-10
returns-then-same-10 c = sym (passed_9 c.before.before.before.before ∙ ifb_true _ _ _ (sym c.same-10.ensures ∙ c.if-same-10.true))

same-requires-11 : tie.Need-same-requires-11
same-requires-11 c κs = search rules

returns-then-same-11 : tie.Need-returns-then-same-11
returns-then-same-11 c = sym (passed_10 c.before.before.before.before ∙ ifb_true _ _ _ (sym c.same-11.ensures ∙ c.if-same-11.true))

returns : tie.Need-returns
returns c = sym (passed_11 c)

pub verb_of_spec : {M : Type 1} → statement M
verb_of_spec =
    tie.close
    (tie.spec
    same-requires
    returns-then-same
    same-requires-2
    returns-then-same-2
    same-requires-3
    returns-then-same-3
    same-requires-4
    returns-then-same-4
    same-requires-5
    returns-then-same-5
    same-requires-6
    returns-then-same-6
    same-requires-7
    returns-then-same-7
    same-requires-8
    returns-then-same-8
    same-requires-9
    returns-then-same-9
    same-requires-10
    returns-then-same-10
    same-requires-11
    returns-then-same-11
    returns)
