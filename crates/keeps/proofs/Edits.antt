-- A record that stays where it is: a store that keeps its serial and its links, and is right by itself, keeps the table sound.
-- Assumes nothing.
use mathlib.Core.Path.{◌≡◌, refl, sym, ap, ◌∙◌}
use mathlib.Core.Logic.{◌⊎◌, inl, inr}
use Prim.Native.Nat.{ℕ, ◌≤◌, ◌<◌}
use native.Mathlib.Omega.{arith}
use mathlib.Core.List.{List}
use Rattle.names.specs.Names.{is_named}
use Rattle.table.specs.declared.Record.{Record}
use Rattle.table.specs.Records.{place_at, with_place, serial_at, name_at, last_serial, latest_clock}
use Rattle.table.proofs.Lines.{InRange}
use Rattle.table.proofs.Places.{serial_is, name_is}
use Rattle.record_rules.proofs.Fit.{Unlimited, Limited, Fit, Dated}
use Rattle.soundness.proofs.SoundIs.{Stands, Sound}
use Rattle.keeps.proofs.Stores.{stored, Mutual, LinkedAll, Bare, bare, linked, joined, bare_stored, linked_stored, named_stored, named_all}

-- links by the fields that they are made of
pub mutual_as : {p p' q q' : Record} → p'.serial ≡ p.serial → p'.replaced ≡ p.replaced → q'.serial ≡ q.serial → q'.replacement ≡ q.replacement
    → Mutual p q → Mutual p' q'
mutual_as a b c d m = record { back = λ e. d ∙ m.back (sym b ∙ e ∙ c) ∙ sym a; forth = λ e. b ∙ m.forth (sym d ∙ e ∙ a) ∙ sym c }

-- a limit of which perhaps something was taken off
pub limit_as : (r r' : Record) → r'.unit ≡ r.unit → r'.total ≡ r.total → r'.count ≤ r.count → Unlimited r ⊎ Limited r → Unlimited r' ⊎ Limited r'
limit_as r r' u t c (inl l) = inl (record { unit = u ∙ l.unit; total = t ∙ l.total; count = omega (arith, l.count) })
limit_as r r' u t c (inr l) = inr (record { unit = rw u l.unit; least = rw t l.least; most = rw t l.most; count = omega (arith, l.count) })

-- the same serial, the same links and the same name
pub record Stays (r old : Record) : Type 0 where
  pub serial : r.serial ≡ old.serial
  pub replaced : r.replaced ≡ old.replaced
  pub replacement : r.replacement ≡ old.replacement
  pub name : r.name ≡ old.name

module _ (n : ℕ) (t : List ℕ) (i : ℕ) (r : Record) (s : Sound n t) (lo : i < n) (stands : Stands t i) (range : InRange r) (fit : Fit (last_serial t) r) (dated : Dated (latest_clock t) r) where
  module _ (serial : r.serial ≡ (place_at n t i).serial) where
    was : r.serial ≡ serial_at t i
    was = serial ∙ sym (serial_is n t i)

    -- but for the links
    pub edit_bare : Bare n (with_place n t i r)
    edit_bare =
        bare_stored n t i r (last_serial t) (with_place n t i r) (stored n t i r s.size lo range)
        (λ z. stands (sym was ∙ z)) (bare n t s)
        (λ j l ne q. ne (sym (s.distinct i j lo l stands (sym was ∙ sym q))))
        (omega arith) (rw was (s.issued i lo)) fit dated

  pub edit_sound : Stays r (place_at n t i) → Sound n (with_place n t i r)
  edit_sound same =
      let all : LinkedAll n t = linked n t s in
      joined n (with_place n t i r) (edit_bare same.serial)
      (linked_stored n t i r (last_serial t) (with_place n t i r) (stored n t i r s.size lo range)
      (λ a b h g na nb sa sb. all a b h g sa sb)
      (λ j l ne st. (mutual_as same.serial same.replaced refl refl (all i j lo l stands st), mutual_as refl refl same.serial same.replacement (all j i l lo st stands)))
      (mutual_as same.serial same.replaced same.serial same.replacement (all i i lo lo stands stands)))
      (named_all n (with_place n t i r)
      (named_stored n t i r (last_serial t) (with_place n t i r) (stored n t i r s.size lo range) (λ j. Unit {0}) (λ a b h g pa pb. s.named a b h g)
      (λ j l pj ne there e.
      let here : name_at n t i ≡ r.name = name_is n t i ∙ sym same.name in
      ne (sym (s.named i j lo l (ap is_named here ∙ there) (here ∙ sym e))))))
