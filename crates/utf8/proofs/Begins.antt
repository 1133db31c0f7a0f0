-- What each first byte leaves to come, as the code tells first bytes apart.
-- Assumes nothing.
use mathlib.Core.Path.{◌≡◌, sym, ap, ◌∙◌}
use Prim.Native.Nat.{ℕ, ◌-◌, ◌≤◌, ◌<◌}
use native.Mathlib.Omega.{arith}
use native.Mathlib.Decide.{dec_le}
use mathlib.Core.List.{List, [], ◌∷◌}
use lib.ListN.{drop, replicate}
use mathlib.Core.Logic.{inl, inr}
use Rattle.utf8.specs.Text.{Range, ◌to◌, forms, begun, later, tail, wrong}
use Rattle.utf8.specs.Ranges.{to_come, ranges, ranges_of}
use Rattle.utf8.specs.declared.ToCome.{ToCome}
use Rattle.utf8.proofs.Texts.{begins, above, below, begins_none, later_in, later_out, ranges_none, ranges_more, ranges_tails}

module _ (b : ℕ) where
  -- behind the forms of one and two bytes; behind those of three, too
  from_three : {z : List Range} → 0xDF < b → begun b (drop 2 forms) ≡ z → begun b forms ≡ z
  from_three h e = above _ _ _ b (omega arith) (above _ _ _ b h e)

  from_four : {z : List Range} → 0xEF < b → begun b (drop 6 forms) ≡ z → begun b forms ≡ z
  from_four h e = from_three (omega arith) (above _ _ _ b (omega arith) (above _ _ _ b (omega arith) (above _ _ _ b (omega arith) (above _ _ _ b h e))))

  -- below the forms of two bytes no form begins
  none_below : 0x7F < b → b < 0xC2 → begun b forms ≡ wrong
  none_below l h =
      above _ _ _ b l
      (below _ _ _ b h
      (below _ _ _ b (omega arith)
      (below _ _ _ b (omega arith)
      (below _ _ _ b (omega arith)
      (below _ _ _ b (omega arith)
      (below _ _ _ b (omega arith)
      (below _ _ _ b (omega arith)
      (below _ _ _ b (omega arith) (begins_none b)))))))))

  none_above : 0xF4 < b → begun b forms ≡ wrong
  none_above h = from_four (omega arith) (above _ _ _ b (omega arith) (above _ _ _ b (omega arith) (above _ _ _ b h (begins_none b))))

  tails_two : 0xE0 < b → b ≤ 0xEF → (b ≡ 0xED → ⊥) → begun b forms ≡ (tail ∷ tail ∷ [])
  tails_two l h n =
      from_three (omega arith)
      (above _ _ _ b l
      (elim (dec_le b 0xEC) [ yes low ↦ begins _ _ _ b l low | no high ↦ above _ _ _ b (omega arith) (above _ _ _ b (omega arith) (begins _ _ _ b (omega arith) h)) ]))

  module _ {r : ToCome} where
    pub one_byte : r ≡ to_come 0 0x80 0xBF → b ≤ 0x7F → ranges_of r ≡ begun b forms
    unfolding ranges_of ranges
    one_byte e h = rw e (sym (begins _ _ _ b (omega arith) h))

    pub tail_first : r ≡ to_come 1 1 0 → 0x7F < b → b < 0xC2 → ranges_of r ≡ begun b forms
    unfolding ranges_of ranges
    tail_first e l h = rw e (sym (none_below l h))

    pub two_bytes : r ≡ to_come 1 0x80 0xBF → 0xC2 ≤ b → b ≤ 0xDF → ranges_of r ≡ begun b forms
    unfolding ranges_of ranges
    two_bytes e l h = rw e (sym (above _ _ _ b (omega arith) (begins _ _ _ b l h)))

    pub three_e0 : r ≡ to_come 2 0xA0 0xBF → b ≡ 0xE0 → ranges_of r ≡ begun b forms
    unfolding ranges_of ranges
    three_e0 e h = rw e (sym (from_three (omega arith) (begins _ _ _ b (omega arith) (omega arith))))

    pub three_ed : r ≡ to_come 2 0x80 0x9F → b ≡ 0xED → ranges_of r ≡ begun b forms
    unfolding ranges_of ranges
    three_ed e h = rw e (sym (from_three (omega arith) (above _ _ _ b (omega arith) (above _ _ _ b (omega arith) (begins _ _ _ b (omega arith) (omega arith))))))

    pub three_bytes : r ≡ to_come 2 0x80 0xBF → 0xDF < b → (b ≡ 0xE0 → ⊥) → (b ≡ 0xED → ⊥) → b ≤ 0xEF → ranges_of r ≡ begun b forms
    unfolding ranges_of ranges
    three_bytes e l m n h = rw e (sym (tails_two (omega arith) h n))

    pub four_f0 : r ≡ to_come 3 0x90 0xBF → b ≡ 0xF0 → ranges_of r ≡ begun b forms
    unfolding ranges_of ranges
    four_f0 e h = rw e (sym (from_four (omega arith) (begins _ _ _ b (omega arith) (omega arith))))

    pub four_f4 : r ≡ to_come 3 0x80 0x8F → b ≡ 0xF4 → ranges_of r ≡ begun b forms
    unfolding ranges_of ranges
    four_f4 e h = rw e (sym (from_four (omega arith) (above _ _ _ b (omega arith) (above _ _ _ b (omega arith) (begins _ _ _ b (omega arith) (omega arith))))))

    pub four_bytes : r ≡ to_come 3 0x80 0xBF → 0xEF < b → (b ≡ 0xF0 → ⊥) → b ≤ 0xF3 → ranges_of r ≡ begun b forms
    unfolding ranges_of ranges
    four_bytes e l n h = rw e (sym (from_four l (above _ _ _ b (omega arith) (begins _ _ _ b (omega arith) h))))

    pub none_left : r ≡ to_come 1 1 0 → 0xF3 < b → (b ≡ 0xF4 → ⊥) → ranges_of r ≡ begun b forms
    unfolding ranges_of ranges
    none_left e l n = rw e (sym (none_above (omega arith)))

-- ---- a byte more, as the code goes on

module _ (p : ToCome) (b : ℕ) where
  pub between_characters : (r : ToCome) → ranges_of r ≡ begun b forms → p.more ≡ 0 → ranges_of r ≡ later (ranges_of p) b
  unfolding ranges_of later
  between_characters r e z = e ∙ sym (ap (λ (to_come : List Range). later to_come b) (ranges_none p.low p.high z))

  module _ (m : p.more ≡ 0 → ⊥) where
    standing : ranges_of p ≡ (p.low to p.high ∷ replicate (p.more - 1) tail)
    unfolding ranges_of
    standing = ranges_more p.low p.high p.more (omega arith)

    pub too_low : {r : ToCome} → r ≡ to_come 1 1 0 → b < p.low → ranges_of r ≡ later (ranges_of p) b
    unfolding ranges_of ranges
    too_low e h = rw (e, standing) (sym (later_out _ _ b (inl h)))

    pub too_high : {r : ToCome} → r ≡ to_come 1 1 0 → p.high < b → ranges_of r ≡ later (ranges_of p) b
    unfolding ranges_of ranges
    too_high e h = rw (e, standing) (sym (later_out _ _ b (inr h)))

    pub one_fewer : {r : ToCome} → r ≡ to_come (p.more - 1) 0x80 0xBF → p.low ≤ b → b ≤ p.high → ranges_of r ≡ later (ranges_of p) b
    unfolding ranges_of
    one_fewer e l h = rw (e, standing) (ranges_tails (p.more - 1) ∙ sym (later_in _ _ b l h))
