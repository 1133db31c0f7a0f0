-- Laws of faults: item by item, never past the end, and at the end just when the bytes are a run of items.
-- Assumes nothing.
use mathlib.Core.Path.{◌≡◌, refl, sym, ap, ap₂, ◌∙◌}
use Prim.Native.Nat.{ℕ, zero, suc, ◌+◌, ◌-◌, ◌≤◌, ◌<◌}
use native.Mathlib.Omega.{arith}
use mathlib.Core.Bool.{Bool, ◌&&◌}
use Rattle.std.specs.Prelude.{Option}
use mathlib.Core.List.{List, [], ◌∷◌}
use lib.ListN.{length, take, drop, length-drop}
use lib.Dec.{eqb}
use borrow.Author.Tests.{eq-eqb, ne_eqb, eqb-true, eqb-false}
use Rattle.octets.specs.If.{ifb}
use Rattle.octets.specs.Maybe.{is_some}
use Rattle.octets.specs.Octets.{part}
use Rattle.octets.proofs.If.{ifb_true, ifb_false, on_if, on_bool}
use Rattle.octets.proofs.Stores.{length_part}
use Rattle.ttlv.specs.Items.{Items}
use Rattle.ttlv.specs.Parse.{first_of, more, walk, parse}
use Rattle.ttlv.specs.declared.First.{First}
use Rattle.ttlv.specs.declared.First.TheVariants.{End, Bad, Value, Group}
use Rattle.ttlv.proofs.View.{View, end, view, first_end_lem}
use Rattle.ttlv.proofs.Put.{some_value, some_group}
use Rattle.ttlv.proofs.Step.{value_ends, group_ends, rest}
use Rattle.ttlv_fault.specs.Fault.{fault_in, fault_walk, fault_of}

-- ---- item by item

-- two ways to look into the rest that agree on what is shorter than s
same_in : (b r r2 : List ℕ → ℕ) (s : List ℕ) → ((t : List ℕ) → length t < length s → r t ≡ r2 t)
    → (f : First) → first_of s ≡ f → fault_in b r s f ≡ fault_in b r2 s f
unfolding fault_in
same_in b r r2 s h End e = refl
same_in b r r2 s h Bad e = refl
same_in b r r2 s h (Value tag kind n next) e =
    let w = value_ends s e in
    ap (λ (x : ℕ). next + x) (h (drop next s) (rw length-drop (omega arith)))
same_in b r r2 s h (Group tag next) e =
    let w = group_ends s e in
    ap (λ (x : ℕ). ifb (eqb (b (part s 8 (next - 8))) (next - 8)) (next + x) (8 + b (part s 8 (next - 8)))) (h (drop next s) (rw length-drop (omega arith)))

walk_turns : (b : List ℕ → ℕ) (k m : ℕ) (s : List ℕ) → length s < k → length s < m → fault_walk b k s ≡ fault_walk b m s
unfolding fault_walk
walk_turns b zero m s h g = absurd (omega arith)
walk_turns b (suc k) zero s h g = absurd (omega arith)
walk_turns b (suc k) (suc m) s h g = same_in b (fault_walk b k) (fault_walk b m) s (λ t l. walk_turns b k m t (omega arith) (omega arith)) (first_of s) refl

unfoldable pub faults : (List ℕ → ℕ) → List ℕ → ℕ
faults b s = fault_walk b (suc (length s)) s

pub faults_step : (b : List ℕ → ℕ) (s : List ℕ) → faults b s ≡ fault_in b (faults b) s (first_of s)
unfolding faults fault_walk
faults_step b s =
    same_in b (fault_walk b (length s)) (faults b) s (λ t l. walk_turns b (length s) (suc (length t)) t l (omega arith)) (first_of s) refl

pub fault_zero : (s : List ℕ) → fault_of 0 s ≡ 0
unfolding fault_of
fault_zero s = refl

pub fault_pos : (d : ℕ) (s : List ℕ) → (d ≡ 0 → ⊥) → fault_of d s ≡ faults (fault_of (d - 1)) s
fault_pos zero s h = absurd (h refl)
fault_pos (suc d) s h = unfold fault_of faults in let e : suc d - 1 ≡ d = omega arith in rw e

-- ---- never past the end

abbrev Bounded : (List ℕ → ℕ) → Type 0
Bounded f = (s : List ℕ) → f s ≤ length s

in_bounded : (b r : List ℕ → ℕ) → Bounded b → Bounded r → (s : List ℕ) (f : First) → first_of s ≡ f → fault_in b r s f ≤ length s
unfolding fault_in
in_bounded b r hb hr s End e = omega arith
in_bounded b r hb hr s Bad e = omega arith
in_bounded b r hb hr s (Value tag kind n next) e =
    let w = value_ends s e in
    omega (arith, hr (drop next s), length-drop next s)
in_bounded b r hb hr s (Group tag next) e =
    let w = group_ends s e in
    let l : length (part s 8 (next - 8)) ≡ next - 8 = length_part s 8 (next - 8) (omega arith) in
    on_if (λ (x : ℕ). x ≤ length s) (λ q. omega (arith, hr (drop next s), length-drop next s)) (λ q. omega (arith, hb (part s 8 (next - 8))))

walk_bounded : (b : List ℕ → ℕ) → Bounded b → (k : ℕ) → Bounded (fault_walk b k)
unfolding fault_walk
walk_bounded b h zero s = omega arith
walk_bounded b h (suc k) s = in_bounded b (fault_walk b k) h (walk_bounded b h k) s (first_of s) refl

pub fault_bounded : (d : ℕ) (s : List ℕ) → fault_of d s ≤ length s
unfolding fault_of
fault_bounded zero s = omega arith
fault_bounded (suc d) s = walk_bounded (fault_of d) (fault_bounded d) (suc (length s)) s

-- ---- at the end just when the bytes are a run of items

abbrev Means : (List ℕ → Option Items) → (List ℕ → ℕ) → List ℕ → Type 0
Means p f s = is_some (p s) ≡ eqb (f s) (length s)

-- equality n further on
further : (n a b c : ℕ) → n + b ≡ c → eqb a b ≡ eqb (n + a) c
further n a b c h =
    on_bool (eqb a b)
    (λ e. let q = eqb-true a b e in e ∙ sym (eq-eqb (n + a) c (omega arith)))
    (λ e. let q = eqb-false a b e in e ∙ sym (ne_eqb (n + a) c (λ z. q (omega arith))))

end_empty : (s : List ℕ) → View s End → s ≡ []
end_empty s (end e) = e

in_means : (p r : List ℕ → Option Items) (b q : List ℕ → ℕ) → ((t : List ℕ) → Means p b t) → Bounded b
    → (s : List ℕ) → ((t : List ℕ) → length t < length s → Means r q t) → (f : First) → first_of s ≡ f → is_some (more p r s f) ≡ eqb (fault_in b q s f) (length s)
unfolding fault_in more is_some
in_means p r b q hp hb s hr End e = let z = end_empty s (rw e at (view s)) in rw z
in_means p r b q hp hb s hr Bad e = sym (ne_eqb 0 (length s) (λ z. let x : End ≡ Bad = sym (first_end_lem s (sym z)) ∙ e in let y : ◌≡◌ {A = ℕ} 0 1 = cc in omega arith))
in_means p r b q hp hb s hr (Value tag kind n next) e =
    let w = value_ends s e in
    some_value tag kind (part s 8 n) (r (drop next s)) ∙ hr (drop next s) (rw length-drop (omega arith))
    ∙ further next (q (drop next s)) (length (drop next s)) (length s) (rw length-drop (omega arith))
in_means p r b q hp hb s hr (Group tag next) e =
    let w = group_ends s e in
    let i = part s 8 (next - 8) in
    let l : length i ≡ next - 8 = length_part s 8 (next - 8) (omega arith) in
    let hi : is_some (p i) ≡ eqb (b i) (next - 8) = hp i ∙ ap (eqb (b i)) l in
    some_group tag (p i) (r (drop next s)) ∙ ap₂ ◌&&◌ hi (hr (drop next s) (rw length-drop (omega arith)) ∙ further next (q (drop next s)) (length (drop next s)) (length s) (rw length-drop (omega arith)))
    ∙ on_bool (eqb (b i) (next - 8))
    (λ t. ap (λ (z : Bool). z && eqb (next + q (drop next s)) (length s)) t ∙ sym (ap (λ (x : ℕ). eqb x (length s)) (ifb_true _ _ _ t)))
    (λ t. let n = eqb-false (b i) (next - 8) t in
    ap (λ (z : Bool). z && eqb (next + q (drop next s)) (length s)) t ∙ sym (ap (λ (x : ℕ). eqb x (length s)) (ifb_false _ _ _ t) ∙ ne_eqb (8 + b i) (length s) (λ z. n (omega (arith, hb i)))))

walk_means : (p : List ℕ → Option Items) (b : List ℕ → ℕ) → ((t : List ℕ) → Means p b t) → Bounded b → (k : ℕ) (s : List ℕ) → length s < k → is_some (walk p k s) ≡ eqb (fault_walk b k s) (length s)
unfolding walk fault_walk
walk_means p b h g zero s l = absurd (omega arith)
walk_means p b h g (suc k) s l = in_means p (walk p k) b (fault_walk b k) h g s (λ t m. walk_means p b h g k t (omega arith)) (first_of s) refl

-- the fault is at the end just when there is none
pub fault_means : (d : ℕ) (s : List ℕ) → is_some (parse d s) ≡ eqb (fault_of d s) (length s)
unfolding parse fault_of is_some
fault_means zero [] = refl
fault_means zero (x ∷ s) = sym (ne_eqb 0 (length (x ∷ s)) (λ z. omega arith))
fault_means (suc d) s = walk_means (parse d) (fault_of d) (fault_means d) (fault_bounded d) (suc (length s)) s (omega arith)

-- ---- one step of the search, with the rest as code cuts it

module _ (b : List ℕ → ℕ) (t : List ℕ) where
  pub step_end : first_of t ≡ End → faults b t ≡ 0
  unfolding fault_in
  step_end e = rw (faults_step b t, e)

  pub step_bad : first_of t ≡ Bad → faults b t ≡ 0
  unfolding fault_in
  step_bad e = rw (faults_step b t, e)

  pub step_value : {tag kind n next : ℕ} → first_of t ≡ Value tag kind n next → faults b t ≡ next + faults b (take (length t - next) (drop next t))
  unfolding fault_in
  step_value {next = next} e = rw (faults_step b t, e, rest t next)

  module _ {tag next : ℕ} (e : first_of t ≡ Group tag next) where
    pub step_inside : (b (part t 8 (next - 8)) ≡ next - 8 → ⊥) → faults b t ≡ 8 + b (part t 8 (next - 8))
    unfolding fault_in
    step_inside h = faults_step b t ∙ ap (fault_in b (faults b) t) e ∙ ifb_false _ _ _ (ne_eqb (b (part t 8 (next - 8))) (next - 8) h)

    pub step_group : b (part t 8 (next - 8)) ≡ next - 8 → faults b t ≡ next + faults b (take (length t - next) (drop next t))
    unfolding fault_in
    step_group h =
        faults_step b t ∙ ap (fault_in b (faults b) t) e ∙ ifb_true _ _ _ (eq-eqb (b (part t 8 (next - 8))) (next - 8) h)
        ∙ ap (λ (x : List ℕ). next + faults b x) (sym (rest t next))
