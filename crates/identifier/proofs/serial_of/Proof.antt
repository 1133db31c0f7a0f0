-- `identifier::serial_of`. The number of the text says what it names.
-- Assumes nothing.
use mathlib.Core.Path.{◌≡◌, sym, ap, ◌∙◌}
use native.Mathlib.Omega.{arith}
use lib.ListN.{length}
use lib.Seq.{take_all}
use borrow.Author.Rules.{rules}
use Rattle.octets.specs.Octets.{Bytes, from_be}
use Rattle.octets.proofs.Numbers.{bytes_of}
use Rattle.identifier.specs.Words.{digits_in, characters_in, side_by_side}
use Rattle.identifier.proofs.Texts.{serial_length}
use Rattle.identifier.proofs.Words.{word_names, word_none}
use Rattle.identifier.proofs.serial_of.Statement.{statement}
use Rattle.identifier.proofs.serial_of.Tie as tie

eight : (c : tie.After-number-word) → length (c.args.text.now) ≡ 8
eight c = omega arith

bytes : (c : tie.After-number-word) → Bytes (c.args.text.now)
bytes c = bytes_of (c.args.text.now) (λ i. (c.shared_slice_known-1.given i).fits)

number_is : (c : tie.After-number-word) → c.number-word.result ≡ from_be (c.args.text.now)
number_is c = c.number-word.ensures.0 ∙ ap from_be (take_all 8 (c.args.text.now) (omega arith))

-- what the digits are written as
written_is : (c : tie.After-characters_in) → c.characters_in.result ≡ characters_in (digits_in c.number-word.result)
written_is c = c.characters_in.ensures ∙ ap characters_in c.digits_in-digits.ensures.0

returns-then-text-ne8 : tie.Need-returns-then-text-ne8
returns-then-text-ne8 c = sym (serial_length c.args.text.now (λ e. omega arith))

number-word-requires : tie.Need-number-word-requires
number-word-requires c κs = search rules

digits_in-digits-requires : tie.Need-digits_in-digits-requires
digits_in-digits-requires c κs = search rules

characters_in-requires : tie.Need-characters_in-requires
characters_in-requires c κs = search rules

returns-then-characters_in-word : tie.Need-returns-then-characters_in-word
returns-then-characters_in-word c =
    sym (word_none (c.args.text.now) (bytes c.before.before.before) (eight c.before.before.before) c.number-word.result (number_is c.before.before.before) (λ e. c.if-characters_in-word.true (written_is c.before ∙ e)))

side_by_side-requires : tie.Need-side_by_side-requires
side_by_side-requires c κs = search rules

returns : tie.Need-returns
returns c =
    let names = word_names (c.args.text.now) (bytes c.before.before.before.before) (eight c.before.before.before.before) c.number-word.result (number_is c.before.before.before.before) in
    let fits = sym (written_is c.before.before) ∙ c.if-characters_in-word.false in
    c.side_by_side.ensures ∙ ap side_by_side c.digits_in-digits.ensures.0 ∙ sym (names fits)

pub serial_of_spec : {M : Type 1} → statement M
serial_of_spec =
    tie.close
    (tie.spec
    returns-then-text-ne8
    number-word-requires
    digits_in-digits-requires
    characters_in-requires
    returns-then-characters_in-word
    side_by_side-requires
    returns)
