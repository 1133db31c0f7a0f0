-- Names are the same exactly when the test says so.
-- Assumes nothing.
use mathlib.Core.Path.{◌≡◌, refl, ap}
use Prim.Native.Nat.{ℕ}
use mathlib.Core.Bool.{true, false, ◌&&◌}
use lib.Dec.{eqb}
use borrow.Author.Tests.{eq-eqb, eqb-true}
use Rattle.octets.proofs.Bools.{and_l, and_r, no_unless}
use Rattle.names.specs.declared.Name.{Name}
use Rattle.names.specs.Names.{same_name}

pub same_of : (m k : Name) → m ≡ k → same_name m k ≡ true
unfolding same_name
same_of m k e =
    rw e
    (rw (eq-eqb k.len k.len refl, eq-eqb k.zeros k.zeros refl, eq-eqb k.words.a k.words.a refl, eq-eqb k.words.b k.words.b refl, eq-eqb k.words.c k.words.c refl, eq-eqb k.words.d k.words.d refl))

parts_same : {l l' z z' a a' b b' c c' d d' : ℕ} → l ≡ l' → z ≡ z' → a ≡ a' → b ≡ b' → c ≡ c' → d ≡ d'
    → ◌≡◌ {A = Name} (record { len = l; zeros = z; words = record { a = a; b = b; c = c; d = d } }) (record { len = l'; zeros = z'; words = record { a = a'; b = b'; c = c'; d = d' } })
parts_same hl hz ha hb hc hd = rw (hl, hz, ha, hb, hc, hd)

pub same_is : (m k : Name) → same_name m k ≡ true → m ≡ k
unfolding same_name
same_is m k e =
    let l = eqb m.len k.len in
    let z = eqb m.zeros k.zeros in
    let a = eqb m.words.a k.words.a in
    let b = eqb m.words.b k.words.b in
    let c = eqb m.words.c k.words.c in
    let d = eqb m.words.d k.words.d in
    let e4 = and_l (l && z && a && b && c) d e in
    let e3 = and_l (l && z && a && b) c e4 in
    let e2 = and_l (l && z && a) b e3 in
    let e1 = and_l (l && z) a e2 in
    let hl = eqb-true m.len k.len (and_l l z e1) in
    let hz = eqb-true m.zeros k.zeros (and_r l z e1) in
    let ha = eqb-true m.words.a k.words.a (and_r (l && z) a e2) in
    let hb = eqb-true m.words.b k.words.b (and_r (l && z && a) b e3) in
    let hc = eqb-true m.words.c k.words.c (and_r (l && z && a && b) c e4) in
    let hd = eqb-true m.words.d k.words.d (and_r (l && z && a && b && c) d e) in
    parts_same hl hz ha hb hc hd

-- names whose first bytes differ are not the same
pub other_start : (m k : Name) → (m.words.a ≡ k.words.a → ⊥) → same_name m k ≡ false
other_start m k h = no_unless (same_name m k) (λ e. h (ap (λ (x : Name). x.words.a) (same_is m k e)))
