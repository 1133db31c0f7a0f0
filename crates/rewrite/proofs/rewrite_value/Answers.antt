-- `rewrite::rewrite_value`. Each type by its arm; the number that a value spells spells the value.
-- Assumes nothing.
use mathlib.Core.Path.{◌≡◌, ap, ◌∙◌}
use native.Mathlib.Omega.{arith}
use lib.ListN.{length}
use lib.Seq.{take_all}
use Rattle.octets.specs.Octets.{from_be}
use Rattle.octets.proofs.Numbers.{bytes_of}
use Rattle.rewrite.proofs.Values.{is_word_lem, is_long_lem, text_value, boolean_value, number_again}
use Rattle.rewrite.proofs.rewrite_value.Goals as goal

pub returns-in-7 : goal.returns-in-7
returns-in-7 c =
    let e = c.in-7.is in
    let t = text_value c.args.v.now (rw e at c.requires.2) in
    rw e (rw t at c.write_text.ensures)

pub rewrite_word-requires : goal.rewrite_word-requires
rewrite_word-requires c =
    let v = c.args.v.now in
    is_word_lem c.args.kind (length v) c.requires.1 c.requires.0 (omega arith) (omega arith) (omega arith) c.if-v-eq4.true

pub returns-in_default : goal.returns-in_default
returns-in_default c =
    let v = c.args.v.now in
    let b = bytes_of v (λ i. (c.shared_slice_known-1.given i).fits) in
    let w = rw c.number.ensures.0 at c.rewrite_word.ensures in
    number_again 4 c.args.tag c.args.kind v c.args.out.now (omega arith) (omega arith) c.if-v-eq4.true b w

pub rewrite_long-requires : goal.rewrite_long-requires
rewrite_long-requires c =
    let v = c.args.v.now in
    let p = is_long_lem c.args.kind (length v) c.requires.1 c.requires.0 (omega arith) (omega arith) (omega arith) c.if-v-eq4.false in
    let l = p.1 in
    let n : c.number-in_default-2.result ≡ from_be v = c.number-in_default-2.ensures.0 ∙ ap from_be (take_all 8 v (omega arith)) in
    (p.0, λ e. rw n (boolean_value v (rw e at c.requires.2)))

pub returns-in_default-2 : goal.returns-in_default-2
returns-in_default-2 c =
    let v = c.args.v.now in
    let b = bytes_of v (λ i. (c.shared_slice_known-1.given i).fits) in
    let p = is_long_lem c.args.kind (length v) c.requires.1 c.requires.0 (omega arith) (omega arith) (omega arith) c.if-v-eq4.false in
    let w = rw c.number-in_default-2.ensures.0 at c.rewrite_long.ensures in
    number_again 8 c.args.tag c.args.kind v c.args.out.now (omega arith) (omega arith) p.1 b w
