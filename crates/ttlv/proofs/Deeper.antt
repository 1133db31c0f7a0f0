-- A greater depth reads as much, and the same: so one constant depth serves at every level of a request.
-- Assumes nothing.
use mathlib.Core.Path.{◌≡◌, sym, ap, ap₂, ◌∙◌}
use Prim.Native.Nat.{ℕ, zero, suc, ◌+◌, ◌-◌}
use native.Mathlib.Nat.{suc-add, zero-add}
use native.Mathlib.Omega.{arith}
use Rattle.std.specs.Prelude.{Option, Some}
use mathlib.Core.List.{List, [], ◌∷◌}
use lib.ListN.{length, drop}
use Rattle.octets.specs.If.{ifb}
use Rattle.octets.specs.Octets.{part}
use Rattle.ttlv.specs.Items.{Items}
use Rattle.ttlv.specs.Parse.{first_of, put_value, put_group, more, walk, parse}
use Rattle.ttlv.specs.declared.First.{First}
use Rattle.ttlv.specs.declared.First.TheVariants.{End, Bad, Value, Group}
use Rattle.ttlv.proofs.Put.{inv_value, inv_group, no_some, same_some}

-- what b reads, e reads too, and the same
abbrev Below : (List ℕ → Option Items) → (List ℕ → Option Items) → Type 0
Below b e = (s : List ℕ) (t : Items) → b s ≡ Some t → e s ≡ Some t

more_below : (b b2 r r2 : List ℕ → Option Items) → Below b b2 → Below r r2 → (s : List ℕ) (f : First) (t : Items) → more b r s f ≡ Some t → more b2 r2 s f ≡ Some t
unfolding more put_value put_group
more_below b b2 r r2 hb hr s End t h = h
more_below b b2 r r2 hb hr s Bad t h = h
more_below b b2 r r2 hb hr s (Value tag kind n next) t h =
    let i = inv_value tag kind (part s 8 n) (r (drop next s)) t h in
    ap (put_value tag kind (part s 8 n)) (hr (drop next s) i.0 i.1) ∙ sym (ap Some i.2)
more_below b b2 r r2 hb hr s (Group tag next) t h =
    let i = inv_group tag (b (part s 8 (next - 8))) (r (drop next s)) t h in
    ap₂ (put_group tag) (hb (part s 8 (next - 8)) i.0 i.2) (hr (drop next s) i.1 i.3) ∙ sym (ap Some i.4)

walk_below : (b e : List ℕ → Option Items) → Below b e → (k : ℕ) → Below (walk b k) (walk e k)
unfolding walk
walk_below b e h zero s t g = absurd (no_some g)
walk_below b e h (suc k) s t g = more_below b e (walk b k) (walk e k) h (walk_below b e h k) s (first_of s) t g

pub parse_deeper : (d : ℕ) (s : List ℕ) (t : Items) → parse d s ≡ Some t → parse (suc d) s ≡ Some t
unfolding parse walk more first_of ifb
parse_deeper zero [] t h = h
parse_deeper zero (x ∷ s) t h = absurd (no_some h)
parse_deeper (suc d) s t h = walk_below (parse d) (parse (suc d)) (parse_deeper d) (suc (length s)) s t h

-- the same by k levels
pub parse_much_deeper : (k d : ℕ) (s : List ℕ) (t : Items) → parse d s ≡ Some t → parse (k + d) s ≡ Some t
parse_much_deeper zero d s t h = rw zero-add h
parse_much_deeper (suc k) d s t h = rw suc-add (parse_deeper (k + d) s t (parse_much_deeper k d s t h))

-- bytes have one reading, whatever the depth
pub one_reading : (d e : ℕ) (s : List ℕ) (t u : Items) → parse d s ≡ Some t → parse e s ≡ Some u → t ≡ u
one_reading d e s t u h g =
    same_some (sym (parse_much_deeper e d s t h) ∙ swap ∙ parse_much_deeper d e s u g)
  where
    swap : parse (e + d) s ≡ parse (d + e) s
    swap = let c : e + d ≡ d + e = omega arith in rw c
