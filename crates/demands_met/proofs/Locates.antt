-- What a sound table says of names, and what a Locate answers on it.
-- Assumes nothing.
use Prim.Native.Nat.{ℕ, ◌<◌}
use native.Mathlib.Omega.{arith}
use mathlib.Core.Path.{◌≡◌, refl, sym, ap, subst, ◌∙◌}
use mathlib.Core.Bool.{true, true≢false}
use Rattle.std.specs.Prelude.{Option, None, Some}
use mathlib.Core.List.{List}
use Rattle.octets.proofs.Maybe.{some_is, on_bind, on_test}
use Rattle.ttlv.specs.Items.{Items}
use Rattle.table.specs.declared.Record.{Record}
use Rattle.table.specs.Records.{place_at, serial_at, name_at}
use Rattle.table.proofs.Places.{name_is}
use Rattle.table.proofs.Blank.{zero_place}
use Rattle.names.specs.declared.Name.{Name}
use Rattle.names.specs.Names.{is_named}
use Rattle.names.proofs.Texts.{of_named}
use Rattle.name_search.specs.Names.{find_name}
use Rattle.name_search.proofs.Finds.{found_name_below, found_name, none_named}
use Rattle.name_read.specs.Name.{name_body, name_first, only_name_in}
use Rattle.payload.specs.declared.Command.{Command}
use Rattle.payload.specs.declared.Command.TheVariants.{Locate}
use Rattle.payload.specs.Payload.{locate_in, or_invalid, command}
use Rattle.payload.proofs.Commands.{of_locate}
use Rattle.rules.specs.Numbers.{locate}
use Rattle.keeps.proofs.Keeps.{Held, facts}
use Rattle.batch_item.specs.Item.{Asked}
use Rattle.plans.specs.Plans.{Env, Did, env_at, serial_found, locate_plan, carried_out}
use Rattle.plans.proofs.Plans.{is_done}
use Rattle.act.specs.Act.{plan, step}
use Rattle.batch_keeps.proofs.Commands.{Commanded, to_locate, commanded}
use Rattle.demands.specs.Demand3.{Finds, carries}

-- ---- a table

module _ {n : ℕ} (t : List ℕ) (held : Held n t) where
  -- no two records have the same name
  pub names_apart : (i j : ℕ) → i < n → j < n → is_named (place_at n t i).name ≡ true → (place_at n t i).name ≡ (place_at n t j).name → i ≡ j
  names_apart i j h g there e =
      (facts n t held).named i j h g (ap is_named (name_is n t i) ∙ there) (name_is n t i ∙ e ∙ sym (name_is n t j))

  -- a record with a name stands
  named_stands : (i : ℕ) → i < n → is_named (name_at n t i) ≡ true → serial_at t i ≡ 0 → ⊥
  named_stands i low there z =
      let empty = (facts n t held).free i low z in
      let bare : place_at n t i ≡ _ = zero_place n t i (facts n t held).size low empty.line empty.body in
      true≢false (sym there ∙ ap is_named (name_is n t i ∙ ap (λ (r : Record). r.name) bare))

  finds : (name : Name) → is_named name ≡ true → (f : Option ℕ) → find_name n t name ≡ f → Finds n name t (serial_found t f)
  unfolding serial_found
  finds name is (Some i) e =
      let low = found_name_below n t name i e in
      let here = found_name n t name i e in
      let there = ap is_named here ∙ is in
      record {
        nothing = λ z. absurd (named_stands i low there z);
        there = λ z. (i, record { below = low; serial = refl }, sym (name_is n t i) ∙ here);
      }
  finds name is None e = record {
    nothing = λ z j l q. none_named n t name is e j l (name_is n t j ∙ q);
    there = λ z. absurd (z refl);
  }

-- ---- an item

-- a name that Locate asks for is one
body_named : (t : Items) {m : Name} → name_body t ≡ Some m → is_named m ≡ true
unfolding name_body
body_named t h =
    on_bind h λ v e1 h1. on_test h1 λ ok h2. on_bind h2 λ kind e2 h3. on_test h3 λ one h4. on_test h4 λ end h5.
    subst (λ (m : Name). is_named m ≡ true) (some_is h5) (of_named v.0 ok)

only_named : (t : Items) {m : Name} → only_name_in t ≡ Some m → is_named m ≡ true
unfolding only_name_in name_first
only_named t h =
    on_bind h λ a e1 h1. on_test h1 λ end h2.
    subst (λ (m : Name). is_named m ≡ true) (some_is h2)
    (on_bind e1 λ b e3 h3. on_bind h3 λ m e4 h4. subst (λ (p : Name × Items). is_named p.0 ≡ true) (some_is h4) (body_named b.0 e4))

locate_named : (t : Items) {name : Name} → or_invalid (locate_in t) ≡ Locate name → is_named name ≡ true
unfolding locate_in or_invalid
locate_named t {name} h =
    on_bind (read (locate_in t) h) λ a e1 h1. on_test h1 λ end h2. on_bind h2 λ m e3 h3.
    subst (λ (m : Name). is_named m ≡ true) (made (some_is h3)) (only_named a.0 e3)
  where
    read : (o : Option Command) → or_invalid o ≡ Locate name → o ≡ Some (Locate name)
    read None z = let y : ◌≡◌ {A = ℕ} 0 1 = cc in absurd (omega arith)
    read (Some c) z = ap (λ (x : Command). Some x) z

    made : {m : Name} → Locate m ≡ Locate name → m ≡ name
    made z = cc

pub asked_named : (operation : ℕ) (t : Items) {name : Name} → command operation t ≡ Locate name → is_named name ≡ true
asked_named operation t e = locate_named t (sym (of_locate operation t (locate_is e (commanded operation t))) ∙ e)
  where
    locate_is : {name : Name} {c : Command} → c ≡ Locate name → Commanded operation c → operation ≡ locate
    locate_is q m = by_locate (subst (Commanded operation) q m)
      where
        by_locate : {name : Name} → Commanded operation (Locate name) → operation ≡ locate
        by_locate (to_locate o) = o

module _ {n : ℕ} (strip : List ℕ) (k holder : ℕ) (t : List ℕ) (asked : Asked) (held : Held n t) where
  abbrev env : Env
  env = env_at n strip k

  -- an item that asks for a name answers what is found
  pub step_finds : (name : Name) → command asked.operation asked.payload ≡ Locate name → Finds n name t (carries (step env holder t asked).outcome)
  unfolding step plan locate_plan carries
  step_finds name e =
      let did : carried_out t (plan env holder t (command asked.operation asked.payload)) ≡ (locate_plan env holder t name).did = ap (λ (c : Command). carried_out t (plan env holder t c)) e ∙ is_done t _ in
      subst (λ (serial : ℕ). Finds n name t serial) (sym (ap (λ (d : Did). carries d.outcome) did))
      (finds t held name (asked_named asked.operation asked.payload e) (find_name n t name) refl)
