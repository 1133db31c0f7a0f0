-- The steps of a reader of items: what is left of a definition once a field was found at the front of a run, or none was.
-- Assumes nothing. The rest of a run is cut off as a slice is: `tail`.
use mathlib.Core.Path.{◌≡◌, refl, sym, ap, ◌∙◌}
use Prim.Native.Nat.{ℕ, ◌-◌, ◌≤◌}
use native.Mathlib.Omega.{arith}
use mathlib.Core.Bool.{Bool, true, false}
use Rattle.std.specs.Prelude.{Option, None, Some}
use mathlib.Core.List.{List}
use lib.ListN.{length}
use lib.Dec.{eqb}
use borrow.Author.Tests.{eqb-true, eqb-false}
use Rattle.octets.specs.Maybe.{◌>>=◌, ◌>>◌}
use Rattle.octets.specs.Octets.{part}
use Rattle.octets.proofs.If.{ifb_true, ifb_false, on_bool}
use Rattle.ttlv.specs.Items.{Items, ended}
use Rattle.ttlv.specs.Tree.{is_run, tree_of}
use Rattle.fields.specs.Fields.{body_of, number_of}
use Rattle.fields.specs.Found.{number_at, body_at}
use Rattle.fields.proofs.Found.{same_parts}
use Rattle.fields.proofs.Lift.{is_number, number_rest, body_rest, body_is_run}
use Rattle.fields.proofs.Runs.{tail, run_behind, ended_yes, ended_not, number_some, number_none, body_some, body_none}
use Rattle.last_field.specs.Last.{last_number, only_number_at, last_body, only_body_at}

-- ---- steps that give something or nothing

module _ {A B : Type 0} {o : Option A} (k : A → Option B) where
  pub stops : o ≡ None → (o >>= k) ≡ None
  unfolding ◌>>=◌
  stops e = ap (λ (x : Option A). x >>= k) e

  pub goes : {a : A} → o ≡ Some a → (o >>= k) ≡ k a
  unfolding ◌>>=◌
  goes e = ap (λ (x : Option A). x >>= k) e

module _ {B : Type 0} {b : Bool} (x : Option B) where
  pub fails : b ≡ false → (b >> x) ≡ None
  unfolding ◌>>◌
  fails e = ap (λ (c : Bool). c >> x) e

  pub holds : b ≡ true → (b >> x) ≡ x
  unfolding ◌>>◌
  holds e = ap (λ (c : Bool). c >> x) e

-- ---- a field that ends where the run ends

last_number_lem : (n : ℕ) (f : Option (ℕ × ℕ)) {v next : ℕ} → last_number n f ≡ Some (v, next) → (f ≡ Some (v, next)) × (next ≡ n)
unfolding last_number
last_number_lem n (Some (w, m)) {v} {next} h =
    on_bool (eqb m n)
    (λ e. let q = sym (ifb_true _ _ _ e) ∙ h in
    (q, sym (same_parts q).1 ∙ eqb-true m n e))
    (λ e. let q = sym (ifb_false _ _ _ e) ∙ h in let z : ◌≡◌ {A = ℕ} 0 1 = cc in absurd (omega arith))
last_number_lem n None h = let z : ◌≡◌ {A = ℕ} 0 1 = cc in absurd (omega arith)

last_body_lem : (n : ℕ) (f : Option ℕ) {next : ℕ} → last_body n f ≡ Some next → (f ≡ Some next) × (next ≡ n)
unfolding last_body
last_body_lem n (Some m) {next} h =
    on_bool (eqb m n)
    (λ e. let q : Some m ≡ Some next = sym (ifb_true _ _ _ e) ∙ h in
    let ends : m ≡ next = cc in
    (q, sym ends ∙ eqb-true m n e))
    (λ e. let q : None ≡ Some next = sym (ifb_false _ _ _ e) ∙ h in let z : ◌≡◌ {A = ℕ} 0 1 = cc in absurd (omega arith))
last_body_lem n None h = let z : ◌≡◌ {A = ℕ} 0 1 = cc in absurd (omega arith)

-- ---- a number

module _ (s : List ℕ) (run : is_run s ≡ true) (tag kind : ℕ) (num : is_number kind ≡ true) where
  module _ {v next : ℕ} (e : number_at s tag kind ≡ Some (v, next)) where
    pub number_within : next ≤ length s
    number_within = (number_rest s run tag kind e).within

    pub number_behind : is_run (tail s next) ≡ true
    number_behind = run_behind s run (number_rest s run tag kind e)

    pub number_goes : {B : Type 0} (k : ℕ × Items → Option B) → (number_of tag kind (tree_of s) >>= k) ≡ k (v, tree_of (tail s next))
    number_goes k = goes k (number_some s run tag kind num e)

  pub number_stops : {B : Type 0} (k : ℕ × Items → Option B) → number_at s tag kind ≡ None → (number_of tag kind (tree_of s) >>= k) ≡ None
  number_stops k e = stops k (number_none s run tag kind num e)

  -- the last field is a number at the front
  pub only_found : {v next : ℕ} → only_number_at s tag kind ≡ Some (v, next) → number_at s tag kind ≡ Some (v, next)
  unfolding only_number_at
  only_found h = (last_number_lem (length s) (number_at s tag kind) h).0

  -- a number that is tested, with nothing behind it
  module _ {B : Type 0} (p : ℕ → Bool) (k : ℕ → Option B) where
    abbrev then : ℕ × Items → Option B
    then = λ (v, r). p v >> (ended r >> k v)

    only_goes : {v next : ℕ} → only_number_at s tag kind ≡ Some (v, next) → (number_of tag kind (tree_of s) >>= then) ≡ (p v >> k v)
    unfolding only_number_at
    only_goes {v} {next} h =
        let i = last_number_lem (length s) (number_at s tag kind) h in
        number_goes i.0 then ∙ ap (λ (o : Option B). p v >> o) (holds (k v) (ended_yes s run (number_rest s run tag kind i.0) i.1))

    pub only_bad : {v next : ℕ} → only_number_at s tag kind ≡ Some (v, next) → p v ≡ false → (number_of tag kind (tree_of s) >>= then) ≡ None
    only_bad {v} h f = only_goes h ∙ fails (k v) f

    pub only_is : {v next : ℕ} → only_number_at s tag kind ≡ Some (v, next) → p v ≡ true → (number_of tag kind (tree_of s) >>= then) ≡ k v
    only_is {v} h f = only_goes h ∙ holds (k v) f

    more_stops : {v next : ℕ} → number_at s tag kind ≡ Some (v, next) → (next ≡ length s → ⊥) → (number_of tag kind (tree_of s) >>= then) ≡ None
    more_stops {v} {next} e n =
        let x : (ended (tree_of (tail s next)) >> k v) ≡ None = fails (k v) (ended_not s run (number_rest s run tag kind e) n) in
        number_goes e then ∙ on_bool (p v) (λ y. holds _ y ∙ x) (λ y. fails _ y)

    only_none : (f : Option (ℕ × ℕ)) → number_at s tag kind ≡ f → last_number (length s) f ≡ None → (number_of tag kind (tree_of s) >>= then) ≡ None
    unfolding last_number
    only_none (Some (v, next)) e h =
        on_bool (eqb next (length s))
        (λ y. let q = sym (ifb_true _ _ _ y) ∙ h in let z : ◌≡◌ {A = ℕ} 0 1 = cc in absurd (omega arith))
        (λ n. more_stops e (eqb-false next (length s) n))
    only_none None e h = number_stops then e

    pub only_stops : only_number_at s tag kind ≡ None → (number_of tag kind (tree_of s) >>= then) ≡ None
    unfolding only_number_at
    only_stops h = only_none (number_at s tag kind) refl h

-- ---- a structure

module _ (s : List ℕ) (run : is_run s ≡ true) (tag : ℕ) where
  -- what an answer says, where nothing may be behind the structure
  pub record Whole (next : ℕ) : Type 0 where
    pub found : body_at s tag ≡ Some next
    pub past : 8 ≤ next
    pub within : next ≤ length s
    pub end : next ≡ length s
    pub inner : is_run (part s 8 (next - 8)) ≡ true

  pub whole : {next : ℕ} → only_body_at s tag ≡ Some next → Whole next
  unfolding only_body_at
  whole {next} h =
      let i = last_body_lem (length s) (body_at s tag) h in
      let r = body_rest s run tag i.0 in
      record { found = i.0; past = r.past; within = r.within; end = i.1; inner = body_is_run s run tag i.0 }

  -- no such structure, or something behind it
  pub other_body : {P : Type 0} → only_body_at s tag ≡ None → (body_at s tag ≡ None → P) → ((next : ℕ) → body_at s tag ≡ Some next → (next ≡ length s → ⊥) → P) → P
  unfolding only_body_at last_body
  other_body {P} h f g = go (body_at s tag) refl h
    where
      go : (b : Option ℕ) → body_at s tag ≡ b → last_body (length s) b ≡ None → P
      go (Some next) e q =
          on_bool (eqb next (length s))
          (λ y. let w : Some next ≡ None = sym (ifb_true _ _ _ y) ∙ q in let z : ◌≡◌ {A = ℕ} 0 1 = cc in absurd (omega arith))
          (λ n. g next e (eqb-false next (length s) n))
      go None e q = f e

  module _ {B : Type 0} (k : Items → Option B) where
    abbrev inside : Items × Items → Option B
    inside = λ (b, r). ended r >> k b

    pub body_goes : {next : ℕ} → only_body_at s tag ≡ Some next → (body_of tag (tree_of s) >>= inside) ≡ k (tree_of (part s 8 (next - 8)))
    body_goes {next} h =
        let w = whole h in
        goes inside (body_some s run tag w.found) ∙ holds (k (tree_of (part s 8 (next - 8)))) (ended_yes s run (body_rest s run tag w.found) w.end)

    pub body_stops : only_body_at s tag ≡ None → (body_of tag (tree_of s) >>= inside) ≡ None
    body_stops h =
        other_body h
        (λ e. stops inside (body_none s run tag e))
        (λ next e n. goes inside (body_some s run tag e) ∙ fails (k (tree_of (part s 8 (next - 8)))) (ended_not s run (body_rest s run tag e) n))
