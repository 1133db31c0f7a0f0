-- Laws of a table put together of its front and its bodies: what stands where, and how a loop puts one body behind the other.
-- Assumes nothing; over the number n of places and the width w of a body.
use mathlib.Core.Path.{◌≡◌, refl, sym, ap, ap₂, ◌∙◌}
use Prim.Native.Nat.{ℕ, zero, suc, ◌+◌, ◌*◌, ◌-◌, ◌≤◌, ◌<◌}
use native.Mathlib.Nat.{mul-zero, mul-suc, add-zero, zero-add}
use native.Mathlib.Numerals.{add-one}
use native.Mathlib.Omega.{arith}
use mathlib.Core.List.{List, ◌++◌, append_assoc, append-nil}
use lib.ListN.{length, take, drop, length-append, length-drop, take-append-drop}
use lib.Seq.{sets, take_all, take_at, take-add, drop-drop, length-take-le, take-append-le, drop-append-le, drop-append-add}
use Rattle.octets.specs.Octets.{part}
use Rattle.octets.proofs.Stores.{part_part, part_sets_same, part_sets_below}
use Rattle.convert.specs.Old.{front_size, joined_from, with_bodies}

-- ---- lists one behind the other

-- each of the first k is given w bytes
abbrev pub Wide : (ℕ → List ℕ) → ℕ → ℕ → Type 0
Wide given w k = (i : ℕ) → i < k → length (given i) ≡ w

pub joined_cong : (f g : ℕ → List ℕ) (i k : ℕ) → ((j : ℕ) → j < i + k → f j ≡ g j) → joined_from f i k ≡ joined_from g i k
unfolding joined_from
joined_cong f g i zero same = refl
joined_cong f g i (suc k) same = ap₂ (λ (a b : List ℕ). a ++ b) (same i (omega arith)) (joined_cong f g (suc i) k (λ j h. same j (omega arith)))

-- one more at the end
joined_snoc : (f : ℕ → List ℕ) (i k : ℕ) → joined_from f i (suc k) ≡ joined_from f i k ++ f (i + k)
unfolding joined_from
joined_snoc f i zero = rw add-zero (append-nil (f i))
joined_snoc f i (suc k) =
    let e : suc i + k ≡ i + suc k = omega arith in
    ap (λ (s : List ℕ). f i ++ s) (joined_snoc f (suc i) k)
    ∙ rw (e, append_assoc)

length_joined : (f : ℕ → List ℕ) (w i k : ℕ) → Wide f w (i + k) → length (joined_from f i k) ≡ w * k
unfolding joined_from
length_joined f w i zero wide = sym (mul-zero w)
length_joined f w i (suc k) wide =
    let here : length (f i) ≡ w = wide i (omega arith) in
    let rest : length (joined_from f (suc i) k) ≡ w * k = length_joined f w (suc i) k (λ j h. wide j (omega arith)) in
    let e : w * suc k ≡ w * k + w = mul-suc w k in
    rw (length-append, here, rest, e) (omega arith)

-- the j-th of them, where it stands
part_joined : (f : ℕ → List ℕ) (w i k j : ℕ) → Wide f w (i + k) → j < k → part (joined_from f i k) (w * j) w ≡ f (i + j)
unfolding joined_from
part_joined f w i zero j wide h = absurd (omega arith)
part_joined f w i (suc k) zero wide h = rw (mul-zero w, add-zero i) (take_at (f i) (joined_from f (suc i) k) w (wide i (omega arith)))
part_joined f w i (suc k) (suc j) wide h =
    let here : length (f i) ≡ w = wide i (omega arith) in
    let e : w * suc j ≡ w * j + w = mul-suc w j in
    let g : w * suc j ≡ length (f i) + w * j = omega arith in
    let s : i + suc j ≡ suc i + j = omega arith in
    rw (g, drop-append-add (f i) (joined_from f (suc i) k) (w * j), s) (part_joined f w (suc i) k j (λ m l. wide m (omega arith)) (omega arith))

-- parts of w bytes one behind the other are one part
joined_parts : (t : List ℕ) (at w i k : ℕ) → joined_from (λ j. part t (at + w * j) w) i k ≡ part t (at + w * i) (w * k)
unfolding joined_from
joined_parts t at w i zero = let e : w * 0 ≡ 0 = mul-zero w in rw e
joined_parts t at w i (suc k) =
    let e : w * suc k ≡ w * k + w = mul-suc w k in
    let s : w * suc i ≡ w * i + w = mul-suc w i in
    let p : at + w * suc i ≡ at + w * i + w = omega arith in
    let q : w * suc k ≡ w + w * k = omega arith in
    ap (λ (r : List ℕ). part t (at + w * i) w ++ r) (joined_parts t at w (suc i) k)
    ∙ rw (p, q, take-add w (w * k) (drop (at + w * i) t), drop-drop)

-- ---- a front and bodies

module _ (n : ℕ) (t : List ℕ) (bodies : ℕ → List ℕ) (long : front_size n ≤ length t) where
  length_front : length (take (front_size n) t) ≡ front_size n
  length_front = length-take-le (front_size n) t long

  -- what stands in the front is as it was
  pub part_front : (a k : ℕ) → a + k ≤ front_size n → part (with_bodies n t bodies) a k ≡ part t a k
  part_front a k h =
      let e : length (take (front_size n) t) ≡ front_size n = length_front in
      let d : length (drop a (take (front_size n) t)) ≡ front_size n - a = rw (length-drop, e) in
      rw (drop-append-le a (take (front_size n) t) (joined_from bodies 0 n) (omega arith))
      (take-append-le k (drop a (take (front_size n) t)) (joined_from bodies 0 n) (omega arith) ∙ part_part t 0 (front_size n) a k h ∙ rw zero-add)

  module _ (w : ℕ) (wide : Wide bodies w n) where
    -- and each body where it belongs
    pub part_body : (i : ℕ) → i < n → part (with_bodies n t bodies) (front_size n + w * i) w ≡ bodies i
    part_body i h =
        let e : front_size n + w * i ≡ length (take (front_size n) t) + w * i = ap (λ (k : ℕ). k + w * i) (sym length_front) in
        rw (e, drop-append-add (take (front_size n) t) (joined_from bodies 0 n) (w * i))
        (part_joined bodies w 0 n i (λ j l. wide j (omega arith)) h ∙ rw zero-add)

    pub length_bodies : length (with_bodies n t bodies) ≡ front_size n + w * n
    length_bodies = rw (length-append, length_front, length_joined bodies w 0 n (λ j l. wide j (omega arith)))

-- bodies taken from t itself give t again
pub bodies_back : (n w : ℕ) (t : List ℕ) → length t ≡ front_size n + w * n → with_bodies n t (λ i. part t (front_size n + w * i) w) ≡ t
bodies_back n w t big =
    let z : w * 0 ≡ 0 = mul-zero w in
    let e : front_size n + w * 0 ≡ front_size n = omega arith in
    rw (joined_parts t (front_size n) w 0 n, e)
    (ap (λ (r : List ℕ). take (front_size n) t ++ r) (take_all (w * n) (drop (front_size n) t) (rw length-drop (omega arith)))
    ∙ take-append-drop (front_size n) t)

-- ---- a loop that writes the front and then one body after the other

-- what is behind a run of stores that goes on where the first a bytes end
take_sets : (t bs : List ℕ) (a w : ℕ) → length bs ≡ w → a + w ≤ length t → take (a + w) (sets t a bs) ≡ take a t ++ bs
take_sets t bs a w e h =
    take-add a w (sets t a bs) ∙ ap₂ (λ (x y : List ℕ). x ++ y) (part_sets_below t a bs 0 a (omega arith)) (part_sets_same t a bs w e h)

-- the front of t and i bodies stand in u
abbrev pub Filled : ℕ → ℕ → List ℕ → (ℕ → List ℕ) → List ℕ → ℕ → Type 0
Filled n w t bodies u i = take (front_size n + w * i) u ≡ take (front_size n) t ++ joined_from bodies 0 i

module _ (n w : ℕ) (t : List ℕ) (bodies : ℕ → List ℕ) where
  pub filled_start : (u : List ℕ) {v : List ℕ} → front_size n ≤ length t → front_size n ≤ length u → v ≡ sets u 0 (take (front_size n) t) → Filled n w t bodies v 0
  unfolding joined_from
  filled_start u long room e =
      let z : w * 0 ≡ 0 = mul-zero w in
      let f : front_size n + w * 0 ≡ front_size n = omega arith in
      rw (f, e, append-nil) (part_sets_same u 0 (take (front_size n) t) (front_size n) (length-take-le (front_size n) t long) (omega arith))

  pub filled_more : (u : List ℕ) {v : List ℕ} (i : ℕ) → length (bodies i) ≡ w → front_size n + w * i + w ≤ length u → v ≡ sets u (front_size n + w * i) (bodies i)
      → Filled n w t bodies u i → Filled n w t bodies v (i + 1)
  filled_more u i wide room e filled =
      let s : w * suc i ≡ w * i + w = mul-suc w i in
      let f : front_size n + w * suc i ≡ front_size n + w * i + w = omega arith in
      rw (add-one, f, e, take_sets u (bodies i) (front_size n + w * i) w wide room, filled, joined_snoc bodies 0 i, zero-add, append_assoc)

  pub filled_end : (u : List ℕ) → length u ≡ front_size n + w * n → Filled n w t bodies u n → u ≡ with_bodies n t bodies
  filled_end u big filled = sym (take_all (front_size n + w * n) u (omega arith)) ∙ filled
