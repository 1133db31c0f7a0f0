-- `records::load`. The fields, read one by one, are the record at the place.
-- Assumes nothing.
use Prim.Native.Nat.{ℕ, ◌+◌, ◌≤◌}
use native.Mathlib.Omega.{arith}
use lib.ListN.{length}
use mir.Syntax.{w64}
use mir.Val.{Fits}
use mathlib.Core.Path.{◌≡◌}
use mathlib.Core.List.{List}
use Rattle.octets.specs.Octets.{from_be, part}
use Rattle.table.specs.Layout.{body_size, line_start, body_start, material_size, serial_in, state_in, unit_in, bits_in, replaced_in, replacement_in, total_in, count_in, mask_in, material_in, activation_in, deactivation_in}
use Rattle.names.specs.declared.Name.{Name}
use Rattle.table.specs.Records.{place_at, name_at}
use Rattle.table.specs.declared.Record.{Record}
use Rattle.table.proofs.Places.{place_fields}
use borrow.Author.Rules.{rules}
use Rattle.records.proofs.load.Statement.{statement}
use Rattle.records.proofs.load.Tie as tie

-- a whole body lies behind it
inside : (c : tie.After-body-body) → c.body-body.result + body_size ≤ length c.args.t.now
inside c = omega arith

reach : (c : tie.After-body-body) → Fits w64 (c.body-body.result + deactivation_in)
reach c = omega arith

-- so its last field does
ends : (b l : ℕ) → b + body_size ≤ l → b + deactivation_in + 8 ≤ l
ends b l h = omega arith

line-line-requires : tie.Need-line-line-requires
line-line-requires c κs = search rules

body-body-requires : tie.Need-body-body-requires
body-body-requires c κs = search rules

overflow_add-line : tie.Need-overflow_add-line
overflow_add-line c = search rules

number_at-serial-requires : tie.Need-number_at-serial-requires
number_at-serial-requires c κs = search rules

overflow_cast-serial : tie.Need-overflow_cast-serial
overflow_cast-serial c = search rules

overflow_add-line-2 : tie.Need-overflow_add-line-2
overflow_add-line-2 c = search rules

number_at-state-requires : tie.Need-number_at-state-requires
number_at-state-requires c κs = search rules

overflow_cast-state : tie.Need-overflow_cast-state
overflow_cast-state c = search rules

overflow_add-line-3 : tie.Need-overflow_add-line-3
overflow_add-line-3 c = search rules

number_at-unit-requires : tie.Need-number_at-unit-requires
number_at-unit-requires c κs = search rules

overflow_cast-unit : tie.Need-overflow_cast-unit
overflow_cast-unit c = search rules

overflow_add-line-4 : tie.Need-overflow_add-line-4
overflow_add-line-4 c = search rules

number_at-bits-requires : tie.Need-number_at-bits-requires
number_at-bits-requires c κs = search rules

overflow_cast-bits : tie.Need-overflow_cast-bits
overflow_cast-bits c = search rules

overflow_add-line-5 : tie.Need-overflow_add-line-5
overflow_add-line-5 c = search rules

number_at-replaced-requires : tie.Need-number_at-replaced-requires
number_at-replaced-requires c κs = search rules

overflow_cast-replaced : tie.Need-overflow_cast-replaced
overflow_cast-replaced c = search rules

overflow_add-line-6 : tie.Need-overflow_add-line-6
overflow_add-line-6 c = search rules

number_at-replacement-requires : tie.Need-number_at-replacement-requires
number_at-replacement-requires c κs = search rules

overflow_cast-replacement : tie.Need-overflow_cast-replacement
overflow_cast-replacement c = search rules

overflow_add-body : tie.Need-overflow_add-body
overflow_add-body c = search rules

number_at-total-requires : tie.Need-number_at-total-requires
number_at-total-requires c κs = search rules

overflow_add-body-2 : tie.Need-overflow_add-body-2
overflow_add-body-2 c = search rules

number_at-count-requires : tie.Need-number_at-count-requires
number_at-count-requires c κs = search rules

overflow_add-body-3 : tie.Need-overflow_add-body-3
overflow_add-body-3 c = search rules

number_at-mask-requires : tie.Need-number_at-mask-requires
number_at-mask-requires c κs = search rules

overflow_cast-mask : tie.Need-overflow_cast-mask
overflow_cast-mask c = search rules

overflow_add-body-4 : tie.Need-overflow_add-body-4
overflow_add-body-4 c = search rules

material_at-material-requires : tie.Need-material_at-material-requires
material_at-material-requires c κs = search rules

overflow_add-body-5 : tie.Need-overflow_add-body-5
overflow_add-body-5 c = search rules

number_at-activation-requires : tie.Need-number_at-activation-requires
number_at-activation-requires c κs = search rules

overflow_add-body-6 : tie.Need-overflow_add-body-6
overflow_add-body-6 c = reach c.before.before.before.before.before.before.before.before.before.before.before

number_at-deactivation-requires : tie.Need-number_at-deactivation-requires
number_at-deactivation-requires c κs = (ends _ _ (inside c.before.before.before.before.before.before.before.before.before.before.before), omega arith)

-- the fields, each read where it stands
fields_read : (n : ℕ) (t : List ℕ) (i : ℕ) {l b serial state unit bits replaced replacement total count mask activation deactivation : ℕ} {material : List ℕ} {name : Name} → l ≡ line_start i → b ≡ body_start n i
    → serial ≡ from_be (part t (l + serial_in) 4)
    → state ≡ from_be (part t (l + state_in) 1)
    → unit ≡ from_be (part t (l + unit_in) 1)
    → bits ≡ from_be (part t (l + bits_in) 2)
    → replaced ≡ from_be (part t (l + replaced_in) 4)
    → replacement ≡ from_be (part t (l + replacement_in) 4)
    → total ≡ from_be (part t (b + total_in) 8)
    → count ≡ from_be (part t (b + count_in) 8)
    → mask ≡ from_be (part t (b + mask_in) 4)
    → activation ≡ from_be (part t (b + activation_in) 8)
    → deactivation ≡ from_be (part t (b + deactivation_in) 8)
    → material ≡ part t (b + material_in) material_size
    → name ≡ name_at n t i
    → ◌≡◌ {A = Record} (record { serial = serial; state = state; unit = unit; bits = bits; replaced = replaced; replacement = replacement; total = total; count = count; mask = mask; material = material; activation = activation; deactivation = deactivation; name = name }) (place_at n t i)
fields_read n t i hl hb e₁ e₂ e₃ e₄ e₅ e₆ e₇ e₈ e₉ e₁₀ e₁₁ e₁₂ e₁₃ = rw (e₁, e₂, e₃, e₄, e₅, e₆, e₇, e₈, e₉, e₁₀, e₁₁, e₁₂, e₁₃, hl, hb) (place_fields n t i)

name_at-name-requires : tie.Need-name_at-name-requires
name_at-name-requires c κs = search rules

returns : tie.Need-returns
returns c =
    let a = c.args in
    fields_read a.n a.t.now a.i c.line-line.ensures c.body-body.ensures
    c.number_at-serial.ensures.0
    c.number_at-state.ensures.0
    c.number_at-unit.ensures.0
    c.number_at-bits.ensures.0
    c.number_at-replaced.ensures.0
    c.number_at-replacement.ensures.0
    c.number_at-total.ensures.0
    c.number_at-count.ensures.0
    c.number_at-mask.ensures.0
    c.number_at-activation.ensures.0
    c.number_at-deactivation.ensures.0
    c.material_at-material.ensures
    c.name_at-name.ensures

pub load_spec : {M : Type 1} → statement M
load_spec =
    tie.close
    (tie.spec
    line-line-requires
    body-body-requires
    overflow_add-line
    number_at-serial-requires
    overflow_cast-serial
    overflow_add-line-2
    number_at-state-requires
    overflow_cast-state
    overflow_add-line-3
    number_at-unit-requires
    overflow_cast-unit
    overflow_add-line-4
    number_at-bits-requires
    overflow_cast-bits
    overflow_add-line-5
    number_at-replaced-requires
    overflow_cast-replaced
    overflow_add-line-6
    number_at-replacement-requires
    overflow_cast-replacement
    overflow_add-body
    number_at-total-requires
    overflow_add-body-2
    number_at-count-requires
    overflow_add-body-3
    number_at-mask-requires
    overflow_cast-mask
    overflow_add-body-4
    material_at-material-requires
    overflow_add-body-5
    number_at-activation-requires
    overflow_add-body-6
    number_at-deactivation-requires
    name_at-name-requires
    returns)
