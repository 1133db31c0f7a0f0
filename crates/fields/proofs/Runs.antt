-- The fields at the front of a run of bytes: what its items say, where a reader found a field and where it found none.
-- Assumes nothing. The rest of a run is cut off as a slice is: `tail`.
use mathlib.Core.Path.{◌≡◌, sym, ap, ◌∙◌}
use Prim.Native.Nat.{ℕ, ◌-◌, ◌≤◌}
use native.Mathlib.Omega.{arith}
use mathlib.Core.Bool.{true, false}
use Rattle.std.specs.Prelude.{Option, None, Some}
use mathlib.Core.List.{List}
use lib.ListN.{length, take, drop, length-drop}
use borrow.Author.Tests.{eq-eqb, ne_eqb}
use Rattle.octets.specs.Maybe.{◌>>=◌}
use Rattle.octets.specs.Octets.{part}
use Rattle.octets.proofs.If.{ifb_true, ifb_false}
use Rattle.ttlv.specs.Items.{Items, ended}
use Rattle.ttlv.specs.Tree.{is_run, tree_of}
use Rattle.fields.specs.Fields.{bytes_of, body_of, number_of, optional}
use Rattle.fields.specs.Found.{starts_at, bytes_at, number_at, body_at}
use Rattle.ttlv.proofs.Step.{rest}
use Rattle.ttlv.proofs.Tree.{Rest}
use Rattle.fields.proofs.Lift.{bytes_read, number_read, body_read, is_number, starts_lifts, ended_lifts, bytes_lifts, number_lifts, body_lifts}

-- s from n on
abbrev pub tail : List ℕ → ℕ → List ℕ
tail s n = take (length s - n) (drop n s)

pub tail_none : (s : List ℕ) (n : ℕ) → n ≡ 0 → tail s n ≡ s
tail_none s n e = rest s n ∙ ap (λ (k : ℕ). drop k s) e

pub length_tail : (s : List ℕ) (n : ℕ) → length (tail s n) ≡ length s - n
length_tail s n = rw (rest s n, length-drop)

-- whether anything is behind what ends at next
module _ (s : List ℕ) (next : ℕ) (run : is_run (tail s next) ≡ true) where
  pub tail_ended : next ≡ length s → ended (tree_of (tail s next)) ≡ true
  tail_ended e = let l = length_tail s next in ended_lifts (tail s next) run ∙ eq-eqb (length (tail s next)) 0 (omega arith)

  pub tail_more : next ≤ length s → (next ≡ length s → ⊥) → ended (tree_of (tail s next)) ≡ false
  tail_more w e = let l = length_tail s next in ended_lifts (tail s next) run ∙ ne_eqb (length (tail s next)) 0 (λ z. e (omega arith))

module _ (s : List ℕ) (run : is_run s ≡ true) where
  module _ {next : ℕ} (r : Rest s next) where
    pub run_behind : is_run (tail s next) ≡ true
    run_behind = ap is_run (rest s next) ∙ r.run

    -- whether anything is behind a field
    pub ended_yes : next ≡ length s → ended (tree_of (tail s next)) ≡ true
    ended_yes e = tail_ended s next run_behind e

    pub ended_not : (next ≡ length s → ⊥) → ended (tree_of (tail s next)) ≡ false
    ended_not e = tail_more s next run_behind r.within e

  module _ (tag kind : ℕ) (k : is_number kind ≡ true) where
    pub number_some : {v next : ℕ} → number_at s tag kind ≡ Some (v, next) → number_of tag kind (tree_of s) ≡ Some (v, tree_of (tail s next))
    number_some {v} {next} e = number_lifts s run tag kind k ∙ ap (number_read s) e ∙ ap (λ (x : List ℕ). Some (v, tree_of x)) (sym (rest s next))

    pub number_none : number_at s tag kind ≡ None → number_of tag kind (tree_of s) ≡ None
    number_none e = number_lifts s run tag kind k ∙ ap (number_read s) e

  module _ (tag kind : ℕ) where
    pub bytes_some : {n next : ℕ} → bytes_at s tag kind ≡ Some (n, next) → bytes_of tag kind (tree_of s) ≡ Some (part s 8 n, tree_of (tail s next))
    bytes_some {n} {next} e = bytes_lifts s run tag kind ∙ ap (bytes_read s) e ∙ ap (λ (x : List ℕ). Some (part s 8 n, tree_of x)) (sym (rest s next))

    pub bytes_none : bytes_at s tag kind ≡ None → bytes_of tag kind (tree_of s) ≡ None
    bytes_none e = bytes_lifts s run tag kind ∙ ap (bytes_read s) e

  module _ (tag : ℕ) where
    pub body_some : {next : ℕ} → body_at s tag ≡ Some next → body_of tag (tree_of s) ≡ Some (tree_of (part s 8 (next - 8)), tree_of (tail s next))
    body_some {next} e = body_lifts s run tag ∙ ap (body_read s) e ∙ ap (λ (x : List ℕ). Some (tree_of (part s 8 (next - 8)), tree_of x)) (sym (rest s next))

    pub body_none : body_at s tag ≡ None → body_of tag (tree_of s) ≡ None
    body_none e = body_lifts s run tag ∙ ap (body_read s) e

    -- an optional field
    module _ {A : Type 0} (read : Items → Option (A × Items)) where
      pub optional_there : starts_at s tag ≡ true → optional tag read (tree_of s) ≡ (read (tree_of s) >>= λ (a, rest). Some (Some a, rest))
      unfolding optional
      optional_there e = ifb_true _ _ _ (starts_lifts s run tag ∙ e)

      pub optional_absent : starts_at s tag ≡ false → optional tag read (tree_of s) ≡ Some (None, tree_of s)
      unfolding optional
      optional_absent e = ifb_false _ _ _ (starts_lifts s run tag ∙ e)
