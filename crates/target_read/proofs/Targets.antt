-- The target that bytes stand for, by what the reader of targets answers.
-- Assumes nothing.
use mathlib.Core.Path.{◌≡◌, refl, sym, ap, ◌∙◌}
use Prim.Native.Nat.{ℕ, ◌≤◌}
use native.Mathlib.Omega.{arith}
use mathlib.Core.Bool.{true}
use Rattle.std.specs.Prelude.{Option, None, Some}
use mathlib.Core.List.{List}
use lib.ListN.{length}
use Rattle.octets.specs.Maybe.{◌>>=◌}
use Rattle.octets.specs.Octets.{part}
use Rattle.octets.proofs.If.{ifb_true, ifb_false, on_bool}
use Rattle.ttlv_types.specs.Types.{text_string}
use Rattle.ttlv.specs.Items.{Items}
use Rattle.ttlv.specs.Tree.{is_run, tree_of}
use Rattle.fields.specs.Fields.{bytes_of}
use Rattle.fields.specs.Found.{starts_at, bytes_at}
use Rattle.fields.proofs.Lift.{bytes_rest}
use Rattle.fields.proofs.Runs.{tail, tail_none, run_behind, bytes_some, bytes_none, optional_there, optional_absent}
use Rattle.runs.proofs.Steps.{stops, goes}
use Rattle.identifier.specs.Identifier.{serial_of}
use Rattle.tags.specs.Tags.{unique_identifier}
use Rattle.target_read.specs.Target.{target_of, target_in}
use Rattle.target_read.specs.Readers.{target_span, target_at}
use Rattle.target_read.specs.declared.Target.{Target}
use Rattle.target_read.specs.declared.Target.TheVariants.{Placeholder, Serial}

-- two pairs that are the same
pair : {A B : Type 0} {a c : A} {b d : B} → ◌≡◌ {A = Option (A × B)} (Some (a, b)) (Some (c, d)) → (a ≡ c) × (b ≡ d)
pair {A} {B} {a} {c} {b} {d} h = let p : ◌≡◌ {A = A × B} (a, b) (c, d) = cc in (ap (λ (x : A × B). x.0) p, ap (λ (x : A × B). x.1) p)

span_is : (s : List ℕ) (b : Option (ℕ × ℕ)) {target : Target} {next : ℕ} → target_span s b ≡ Some (target, next)
    → (n : ℕ) × (b ≡ Some (n, next)) × (Serial (serial_of (part s 8 n)) ≡ target)
unfolding target_span
span_is s (Some (n, nx)) h = let p = pair h in (n, ap (λ (x : ℕ). Some (n, x)) p.1, p.0)
span_is s None h = let z : ◌≡◌ {A = ℕ} 0 1 = cc in absurd (omega arith)

span_none : (s : List ℕ) (b : Option (ℕ × ℕ)) → target_span s b ≡ None → b ≡ None
unfolding target_span
span_none s (Some (n, nx)) h = let z : ◌≡◌ {A = ℕ} 0 1 = cc in absurd (omega arith)
span_none s None h = refl

module _ (s : List ℕ) (run : is_run s ≡ true) where
  pub record TargetIs (target : Target) (next : ℕ) : Type 0 where
    pub read : target_in (tree_of s) ≡ Some (target, tree_of (tail s next))
    pub behind : is_run (tail s next) ≡ true
    pub within : next ≤ length s

  given_is : {n next : ℕ} → starts_at s unique_identifier ≡ true → bytes_at s unique_identifier text_string ≡ Some (n, next) → TargetIs (Serial (serial_of (part s 8 n))) next
  unfolding target_in target_of
  given_is {n} {next} y e =
      let r = bytes_rest s run unique_identifier text_string e in
      let b : bytes_of unique_identifier text_string (tree_of s) ≡ Some (part s 8 n, tree_of (tail s next)) = bytes_some s run unique_identifier text_string e in
      record {
        read = goes _ (optional_there s run unique_identifier (bytes_of unique_identifier text_string) y ∙ goes _ b);
        behind = run_behind s run r;
        within = r.within;
      }

  pub target_is : {target : Target} {next : ℕ} → target_at s ≡ Some (target, next) → TargetIs target next
  unfolding target_at target_in target_of
  target_is {target} {next} h =
      on_bool (starts_at s unique_identifier)
      (λ y. let i = span_is s (bytes_at s unique_identifier text_string) (sym (ifb_true _ _ _ y) ∙ h) in
      let g = given_is y i.1 in
      record { read = g.read ∙ ap (λ (x : Target). Some (x, tree_of (tail s next))) i.2; behind = g.behind; within = g.within })
      (λ n. let q = pair {a = Placeholder} {c = target} {b = 0} {d = next} (sym (ifb_false _ _ _ n) ∙ h) in
      let p : Placeholder ≡ target = q.0 in
      let z : next ≡ 0 = sym q.1 in
      let t = tail_none s next z in
      record {
        read = goes _ (optional_absent s run unique_identifier (bytes_of unique_identifier text_string) n) ∙ ap (λ (x : Target). Some (x, tree_of s)) p ∙ ap (λ (x : List ℕ). Some (target, tree_of x)) (sym t);
        behind = ap is_run t ∙ run;
        within = omega arith;
      })

  pub target_none : target_at s ≡ None → target_in (tree_of s) ≡ None
  unfolding target_at target_in
  target_none h =
      on_bool (starts_at s unique_identifier)
      (λ y. let e : bytes_at s unique_identifier text_string ≡ None = span_none s (bytes_at s unique_identifier text_string) (sym (ifb_true _ _ _ y) ∙ h) in
      let b : bytes_of unique_identifier text_string (tree_of s) ≡ None = bytes_none s run unique_identifier text_string e in
      stops _ (optional_there s run unique_identifier (bytes_of unique_identifier text_string) y ∙ stops _ b))
      (λ n. let q : Some (Placeholder, 0) ≡ None = sym (ifb_false _ _ _ n) ∙ h in let z : ◌≡◌ {A = ℕ} 0 1 = cc in absurd (omega arith))

  -- the lift: a definition that begins with the target
  pub target_stops : {B : Type 0} (k : Target × Items → Option B) → target_at s ≡ None → (target_in (tree_of s) >>= k) ≡ None
  target_stops k e = stops k (target_none e)

  module _ {target : Target} {next : ℕ} (e : target_at s ≡ Some (target, next)) where
    pub target_goes : {B : Type 0} (k : Target × Items → Option B) → (target_in (tree_of s) >>= k) ≡ k (target, tree_of (tail s next))
    target_goes k = goes k (target_is e).read

    pub target_behind : is_run (tail s next) ≡ true
    target_behind = (target_is e).behind

    pub target_within : next ≤ length s
    target_within = (target_is e).within
