-- `records_write::store`. The line, the body up to its name, and the name, each written at its offset.
-- Assumes nothing.
use Prim.Native.Nat.{ℕ, ◌+◌}
use mathlib.Core.Path.{◌≡◌, sym, ap, ◌∙◌}
use mathlib.Core.List.{List}
use lib.ListN.{length}
use lib.Seq.{sets}
use Rattle.octets.proofs.Stores.{sets_append}
use Rattle.names.specs.Names.{name_field}
use Rattle.table.specs.Layout.{material_size, line_start, body_start, name_in}
use Rattle.table.specs.Records.{line_bytes, with_place}
use Rattle.table.specs.declared.Record.{Record}
use Rattle.table.proofs.Lines.{body_front, length_front}
use borrow.Author.Rules.{rules}
use Rattle.records_write.proofs.store.Statement.{statement}
use Rattle.records_write.proofs.store.Tie as tie

line-line_at-requires : tie.Need-line-line_at-requires
line-line_at-requires c κs = search rules

body-body_at-requires : tie.Need-body-body_at-requires
body-body_at-requires c κs = search rules

put_line-requires : tie.Need-put_line-requires
put_line-requires c κs = search rules

put_body-requires : tie.Need-put_body-requires
put_body-requires c κs = search rules

overflow_add-body_at : tie.Need-overflow_add-body_at
overflow_add-body_at c = search rules

put_name-requires : tie.Need-put_name-requires
put_name-requires c κs = search rules

shape_of-t : tie.Need-shape_of-t
shape_of-t c = search rules

-- the material has as many bytes as its type says
whole : (s : tie.Start) → length s.args.r.material ≡ material_size
whole s = s.well_formed.1.1.1.0.1.1.1.1.1.1.1.1.1.1.1.0.1.0.1

-- the line, then the body up to its name, and then the name
all_stored : (n : ℕ) (t : List ℕ) (i : ℕ) (r : Record) {l b : ℕ} {t₁ t₂ t₃ : List ℕ} → length r.material ≡ material_size → l ≡ line_start i → b ≡ body_start n i
    → t₁ ≡ sets t l (line_bytes r) → t₂ ≡ sets t₁ b (body_front r) → t₃ ≡ sets t₂ (b + name_in) (name_field r.name) → t₃ ≡ with_place n t i r
unfolding with_place
all_stored n t i r m hl hb e₁ e₂ e₃ =
    rw (e₃, e₂, e₁, hl, hb)
    (ap (λ (k : ℕ). sets (sets (sets t (line_start i) (line_bytes r)) (body_start n i) (body_front r)) (body_start n i + k) (name_field r.name)) (sym (length_front r m))
    ∙ sym (sets_append (sets t (line_start i) (line_bytes r)) (body_start n i) (body_front r) (name_field r.name)))

returns : tie.Need-returns
returns c =
    let a = c.args in
    all_stored a.n a.t.now a.i a.r (whole c.before.before.before.before.before.before.before.before.before.before.before.before.before.before.before.before.before) c.line-line_at.ensures c.body-body_at.ensures c.put_line.ensures c.put_body.ensures c.put_name.ensures

pub store_spec : {M : Type 1} → statement M
store_spec =
    tie.close
    (tie.spec
    line-line_at-requires
    body-body_at-requires
    put_line-requires
    put_body-requires
    overflow_add-body_at
    put_name-requires
    shape_of-t
    returns)
