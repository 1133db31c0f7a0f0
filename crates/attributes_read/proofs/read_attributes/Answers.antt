-- `attributes_read::read_attributes`. Step by step, as the definition goes.
-- Assumes nothing.
use mathlib.Core.Path.{sym, ◌∙◌}
use borrow.Author.Tests.{eq-eqb, ne_eqb}
use Rattle.attributes_read.specs.Attributes.{aes, attributes_in}
use Rattle.runs.proofs.Steps.{stops, goes, fails, holds}
use Rattle.attributes_read.proofs.read_attributes.Goals as goal

pub returns-in_err-algorithm : goal.returns-in_err-algorithm
unfolding attributes_in
returns-in_err-algorithm c =
    c.from_residual.ensures ∙ sym (stops _ (sym c.in_err-algorithm.ensures))

pub returns-then-algorithm-ne-AES : goal.returns-then-algorithm-ne-AES
unfolding attributes_in
returns-then-algorithm-ne-AES c =
    sym (goes _ (sym c.in_ok-algorithm.ensures) ∙ fails _ (ne_eqb _ aes c.if-algorithm-ne-AES.true))

pub returns-in_err-bits : goal.returns-in_err-bits
unfolding attributes_in
returns-in_err-bits c =
    c.from_residual-in_err-bits.ensures ∙ sym (goes _ (sym c.in_ok-algorithm.ensures) ∙ holds _ (eq-eqb _ aes c.if-algorithm-ne-AES.false)
    ∙ stops _ (sym c.in_err-bits.ensures))

pub returns-then-not-bits_ok : goal.returns-then-not-bits_ok
unfolding attributes_in
returns-then-not-bits_ok c =
    sym (goes _ (sym c.in_ok-algorithm.ensures) ∙ holds _ (eq-eqb _ aes c.if-algorithm-ne-AES.false) ∙ goes _ (sym c.in_ok-bits.ensures)
    ∙ fails _ (sym c.if-not-bits_ok.ensures))

pub returns : goal.returns
unfolding attributes_in
returns c =
    c.read_masked.ensures ∙ sym (goes _ (sym c.in_ok-algorithm.ensures) ∙ holds _ (eq-eqb _ aes c.if-algorithm-ne-AES.false)
    ∙ goes _ (sym c.in_ok-bits.ensures) ∙ holds _ (sym c.if-not-bits_ok.ensures))
