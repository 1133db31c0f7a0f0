-- Bytes that stand in one number: what is done to the number is done to each of them.
-- Assumes nothing.
use mathlib.Core.Path.{◌≡◌, refl, sym, ap, ◌∙◌}
use Prim.Native.Nat.{ℕ, zero, suc, ◌+◌, ◌*◌, ◌<◌}
use native.Mathlib.Nat.{add-mul, mul_assoc, mul_comm}
use native.Mathlib.Omega.{arith}
use mathlib.Core.List.{List, [], ◌∷◌}
use lib.ListN.{length}
use lib.Bits.{bit_and, and_block, and_mask}
use Rattle.octets.specs.Octets.{Bytes, from_be_after}

-- the number of the bytes of v, each changed by f, behind those that spell a
unfoldable pub each : (ℕ → ℕ) → ℕ → List ℕ → ℕ
each f a [] = a
each f a (x ∷ v) = each f (a * 256 + f x) v

-- f makes bytes of bytes
abbrev pub Keeps : (ℕ → ℕ) → Type 0
Keeps f = (x : ℕ) → x < 256 → f x < 256

pub each_as_is : (v : List ℕ) (a : ℕ) → from_be_after a v ≡ each (λ x. x) a v
unfolding each from_be_after
each_as_is [] a = refl
each_as_is (x ∷ v) a = each_as_is v (a * 256 + x)

each_same : (f g : ℕ → ℕ) → ((x : ℕ) → x < 256 → f x ≡ g x) → (v : List ℕ) → Bytes v → (a : ℕ) → each f a v ≡ each g a v
unfolding each
each_same f g h [] b a = refl
each_same f g h (x ∷ v) b a = rw (h x b.0) (each_same f g h v b.1 (a * 256 + g x))

pub each_add : (f g : ℕ → ℕ) (v : List ℕ) (a b : ℕ) → each f a v + each g b v ≡ each (λ x. f x + g x) (a + b) v
unfolding each
each_add f g [] a b = refl
each_add f g (x ∷ v) a b =
    let e : a * 256 + f x + (b * 256 + g x) ≡ (a + b) * 256 + (f x + g x) = omega arith in
    each_add f g v (a * 256 + f x) (b * 256 + g x) ∙ ap (λ (n : ℕ). each (λ x. f x + g x) n v) e

times : (n a b : ℕ) → a * n * 256 + b * n ≡ (a * 256 + b) * n
times n a b = sym (add-mul (a * 256) b n ∙ ap (λ (m : ℕ). m + b * n) (mul_assoc a 256 n ∙ ap (λ (m : ℕ). a * m) (mul_comm 256 n) ∙ sym (mul_assoc a n 256)))

pub each_times : (n : ℕ) (f : ℕ → ℕ) (v : List ℕ) (a : ℕ) → each (λ x. f x * n) (a * n) v ≡ each f a v * n
unfolding each
each_times n f [] a = refl
each_times n f (x ∷ v) a = rw (times n a (f x)) (each_times n f v (a * 256 + f x))

-- ---- masks

each_and : (f : ℕ → ℕ) (y : ℕ) → Keeps f → y < 256 → (v : List ℕ) → Bytes v → (a b : ℕ)
    → bit_and (each f a v) (each (λ x. y) b v) ≡ each (λ x. bit_and (f x) y) (bit_and a b) v
unfolding each
each_and f y h k [] by a b = refl
each_and f y h k (x ∷ v) by a b =
    each_and f y h k v by.1 (a * 256 + f x) (b * 256 + y)
    ∙ ap (λ (n : ℕ). each (λ x. bit_and (f x) y) n v) (and_block 8 a b (f x) y (h x by.0) k)

-- n times the byte y, behind those that spell a
unfoldable pub repeated : ℕ → ℕ → ℕ → ℕ
repeated y a zero = a
repeated y a (suc n) = repeated y (a * 256 + y) n

each_repeated : (y : ℕ) (v : List ℕ) (a : ℕ) → each (λ x. y) a v ≡ repeated y a (length v)
unfolding each repeated
each_repeated y [] a = refl
each_repeated y (x ∷ v) a = each_repeated y v (a * 256 + y)

-- of eight bytes
module _ (v : List ℕ) (by : Bytes v) (l : length v ≡ 8) where
  pub each_const : (y m : ℕ) → repeated y 0 8 ≡ m → each (λ x. y) 0 v ≡ m
  each_const y m e = each_repeated y v 0 ∙ ap (repeated y 0) l ∙ e

  pub masked : (f g : ℕ → ℕ) (y m : ℕ) → Keeps f → y < 256 → ((x : ℕ) → bit_and (f x) y ≡ g x) → repeated y 0 8 ≡ m → bit_and (each f 0 v) m ≡ each g 0 v
  masked f g y m h k s e =
      ap (bit_and (each f 0 v)) (sym (each_const y m e)) ∙ each_and f y h k v by 0 0 ∙ each_same (λ x. bit_and (f x) y) g (λ x b. s x) v by 0

-- a mask that is not the same for each byte
unfoldable pub ands : List ℕ → List ℕ → List ℕ
ands [] m = []
ands (x ∷ u) [] = []
ands (x ∷ u) (y ∷ m) = bit_and x y ∷ ands u m

pub and_bytes : (u m : List ℕ) → length u ≡ length m → Bytes u → Bytes m → (a b : ℕ) → bit_and (from_be_after a u) (from_be_after b m) ≡ from_be_after (bit_and a b) (ands u m)
unfolding from_be_after ands
and_bytes [] [] l p q a b = refl
and_bytes [] (y ∷ m) l p q a b = absurd (omega arith)
and_bytes (x ∷ u) [] l p q a b = absurd (omega arith)
and_bytes (x ∷ u) (y ∷ m) l p q a b =
    and_bytes u m (omega arith) p.1 q.1 (a * 256 + x) (b * 256 + y)
    ∙ ap (λ (n : ℕ). from_be_after n (ands u m)) (and_block 8 a b x y p.0 q.0)

pub kept : (x : ℕ) → x < 256 → bit_and x 255 ≡ x
kept x h = and_mask x 8 ∙ omega arith
