-- An old table and the new one are sound alike: `old_sound`; so a sound old table becomes a sound new one with the same records: `converts_sound`.
-- Assumes nothing but what each says; over the number n of places, and over both kinds of old tables.
use mathlib.Core.Path.{◌≡◌, refl, sym, ap, ap₂, ◌∙◌}
use Prim.Native.Nat.{ℕ, suc, ◌+◌, ◌-◌, ◌≤◌, ◌<◌}
use native.Mathlib.Omega.{arith}
use mathlib.Core.Bool.{Bool, true, false, not, ◌&&◌, false≢true}
use Rattle.std.specs.Prelude.{Option}
use mathlib.Core.List.{List, [], ◌∷◌}
use lib.ListN.{length}
use lib.Dec.{eqb, leb, lit≤}
use borrow.Author.Tests.{eq-eqb, eqb-true, le-leb}
use Rattle.octets.specs.Maybe.{is_some}
use Rattle.octets.specs.Octets.{all, is_zero, all_zero}
use Rattle.octets.proofs.Numbers.{zero_spelled}
use Rattle.octets.proofs.Bools.{and_r, and_cong, or_r, yes_unless, no_unless, not_both}
use Rattle.octets.proofs.If.{ifb_true, ifb_false, on_bool}
use Rattle.octets.proofs.Zeros.{zeros_pass}
use Rattle.utf8.specs.Text.{text}
use Rattle.names.specs.declared.Name.{Name}
use Rattle.names.specs.Names.{no_name, is_named, name_text, shape_right}
use Rattle.names.proofs.Texts.{none_shape, none_text}
use Rattle.table.specs.declared.Record.{Record}
use Rattle.table.specs.Layout.{size_of, body_size, zeros_in, activation_in, name_in}
use Rattle.table.specs.Records.{place_at, is_free, last_serial, latest_clock, record_of}
use Rattle.table.proofs.Places.{name_is}
use Rattle.values.specs.Values.{not_negative, in_order}
use Rattle.search.specs.Search.{first, find}
use Rattle.search.proofs.First.{on_found_lem, fails_none, first_cong}
use Rattle.search.proofs.Finds.{find_below, find_cong}
use Rattle.record_rules.specs.Rules.{state_right, bits_right, mask_right, limit_right, tail_right, wiped_right, replaced_right, replacement_right, dates_right, order_right, started_right, name_right, name_text_right}
use Rattle.twin_rules.proofs.Serials.{distinct_cong}
use Rattle.twin_rules.proofs.NameTwins.{unnamed_differs}
use Rattle.soundness.specs.Sound.{Rule, of_table, of_places, of_standing, of_record, rules, Fault, or_later, fault_from, first_fault, sound, size_right, count_right, latest_right, free_right, breaks_free, breaks_standing, zeros_right, distinct_right, issued_right, names_differ, if_stands, links_right}
use Rattle.convert.specs.Old.{Age, plain, dated, width, old_size_of, OldTable, lengthened, old_place_at, widened}
use Rattle.convert.specs.OldSound.{old_size_right, lead_zeros, lead_right, old_free_right, breaks_old_free, old_zeros_right, place_rules, date_rules, old_rules, sound_old}
use Rattle.convert.specs.Convert.{Unset, clock_seen, Becomes}
use Rattle.convert.proofs.Records.{length_widened, last_widened, said_widened, latest_widened, line_widened, serial_widened, body_widened, within_widened, same_records, name_unset, activation_unset, deactivation_unset, nothing_lost}

-- ---- two tables that two lists of rules see alike

-- the rules rs of the table u say of it what the rules rs' of t say of t: they agree one by one, but for rules that are kept
module _ (n : ℕ) (u t : List ℕ) where
  data Alike : List Rule → List Rule → Type 0 where
    end : Alike [] []
    whole : {rule rule' : ℕ → List ℕ → Bool} {rs rs' : List Rule} → rule n u ≡ rule' n t → Alike rs rs' → Alike (of_table rule ∷ rs) (of_table rule' ∷ rs')
    places : {broken broken' : ℕ → List ℕ → ℕ → Bool} {rs rs' : List Rule} → ((i : ℕ) → i < n → broken n u i ≡ broken' n t i) → Alike rs rs'
        → Alike (of_places broken ∷ rs) (of_places broken' ∷ rs')
    gone : {rule : ℕ → List ℕ → Bool} {rs rs' : List Rule} → rule n t ≡ true → Alike rs rs' → Alike rs (of_table rule ∷ rs')
    new_whole : {rule : ℕ → List ℕ → Bool} {rs rs' : List Rule} → rule n u ≡ true → Alike rs rs' → Alike (of_table rule ∷ rs) rs'
    new_places : {broken : ℕ → List ℕ → ℕ → Bool} {rs rs' : List Rule} → ((i : ℕ) → i < n → broken n u i ≡ false) → Alike rs rs' → Alike (of_places broken ∷ rs) rs'

  alike : (k k' : ℕ) (rs rs' : List Rule) → Alike rs rs' → is_some (fault_from k rs n u) ≡ is_some (fault_from k' rs' n t)
  unfolding fault_from or_later is_some
  alike k k' [] [] end = refl
  alike k k' (of_table rule ∷ rs) (of_table rule' ∷ rs') (whole e rest) =
      on_bool (rule' n t)
      (λ h. ap is_some (ifb_true _ _ _ (e ∙ h)) ∙ alike (suc k) (suc k') rs rs' rest ∙ ap is_some (sym (ifb_true _ _ _ h)))
      (λ h. ap is_some (ifb_false _ _ _ (e ∙ h)) ∙ ap is_some (sym (ifb_false _ _ _ h)))
  alike k k' (of_places broken ∷ rs) (of_places broken' ∷ rs') (places e rest) =
      let same : first n (broken n u) ≡ first n (broken' n t) = first_cong n (broken n u) (broken' n t) e in
      on_found_lem (first n (broken' n t))
      (λ i f. ap is_some (ap (or_later k _) (same ∙ f)) ∙ ap is_some (ap (or_later k' _) (sym f)))
      (λ f. ap is_some (ap (or_later k _) (same ∙ f)) ∙ alike (suc k) (suc k') rs rs' rest ∙ ap is_some (ap (or_later k' _) (sym f)))
  alike k k' rs (of_table rule ∷ rs') (gone h rest) = alike k (suc k') rs rs' rest ∙ ap is_some (sym (ifb_true _ _ _ h))
  alike k k' (of_table rule ∷ rs) rs' (new_whole h rest) = ap is_some (ifb_true _ _ _ h) ∙ alike (suc k) k' rs rs' rest
  alike k k' (of_places broken ∷ rs) rs' (new_places h rest) = ap is_some (ap (or_later k _) (fails_none n (broken n u) h)) ∙ alike (suc k) k' rs rs' rest

-- ---- the rules of the old table and of the new one, one by one

-- zeros behind a body change nothing of whether it is zero
lengthened_zeros : (w : ℕ) (b : List ℕ) → all_zero (lengthened w b) ≡ all_zero b
unfolding all
lengthened_zeros w [] = zeros_pass (body_size - w)
lengthened_zeros w (x ∷ b) = ap (λ (rest : Bool). is_zero x && rest) (lengthened_zeros w b)

-- a rule that a record keeps is not broken where it stands
unbroken : (rule : ℕ → List ℕ → ℕ → Bool) (n : ℕ) (t : List ℕ) (i : ℕ) → rule n t i ≡ true → breaks_standing rule n t i ≡ false
unfolding breaks_standing
unbroken rule n t i e = rw e (no_unless _ (λ h. false≢true (and_r (not (is_free t i)) false h)))

module _ (w n : ℕ) (t : List ℕ) (fits : w ≤ body_size) (big : OldTable w n t) where
  abbrev u : List ℕ
  u = widened w n t

  free_same : (i : ℕ) → i < n → is_free u i ≡ is_free t i
  free_same i l = ap (λ (serial : ℕ). eqb serial 0) (serial_widened w n t fits big i l)

  -- a rule that holds of a record in both tables or in neither
  standing_same : (rule rule' : ℕ → List ℕ → ℕ → Bool) → ((i : ℕ) → i < n → rule n u i ≡ rule' n t i) → (i : ℕ) → i < n → breaks_standing rule n u i ≡ breaks_standing rule' n t i
  unfolding breaks_standing
  standing_same rule rule' e i l = ap₂ (λ (a b : Bool). not a && not b) (free_same i l) (e i l)

  size_same : size_right n u ≡ old_size_right w n t
  unfolding size_right old_size_right
  size_same = eq-eqb (length u) (size_of n) (length_widened w n t fits big) ∙ sym (eq-eqb (length t) (old_size_of w n) big)

  count_same : count_right n u ≡ count_right n t
  unfolding count_right
  count_same = ap (λ (said : ℕ). eqb said n) (said_widened w n t fits big)

  latest_same : latest_right n u ≡ latest_right n t
  unfolding latest_right
  latest_same = ap not_negative (latest_widened w n t fits big)

  breaks_free_lem : (i : ℕ) → i < n → breaks_free n u i ≡ breaks_old_free w n t i
  unfolding breaks_free free_right breaks_old_free old_free_right
  breaks_free_lem i l =
      ap₂ (λ (a b : Bool). a && not b) (free_same i l)
      (and_cong (ap all_zero (line_widened w n t fits big i l)) (ap all_zero (body_widened w n t fits big i l) ∙ lengthened_zeros w _))

  zeros_same : zeros_in + 4 ≤ w → (i : ℕ) → i < n → zeros_right n u i ≡ old_zeros_right w n t i
  unfolding zeros_right old_zeros_right
  zeros_same h i l = ap all_zero (within_widened w n t fits big i l zeros_in 4 h)

  issued_same : (i : ℕ) → i < n → issued_right n u i ≡ issued_right n t i
  unfolding issued_right
  issued_same i l = ap₂ leb (serial_widened w n t fits big i l) (last_widened w n t fits big)

  record_same : (rule : Record → Bool) (i : ℕ) → i < n → rule (place_at n u i) ≡ rule (old_place_at w n t i)
  record_same rule i l = ap rule (same_records w n t fits big i l)

  -- ---- links

  find_same : (serial : ℕ) → find n u serial ≡ find n t serial
  find_same serial = find_cong n u t serial (λ ne j l. ap (λ (s : ℕ). eqb s serial) (serial_widened w n t fits big j l))

  -- a search that finds a place asks the same of it
  stands_same : (f g : ℕ → Bool) (serial : ℕ) → ((j : ℕ) → j < n → f j ≡ g j) → if_stands f (find n u serial) ≡ if_stands g (find n t serial)
  unfolding if_stands
  stands_same f g serial e =
      ap (if_stands f) (find_same serial)
      ∙ on_found_lem (find n t serial)
      (λ j h. ap (if_stands f) h ∙ e j (find_below n t serial j h) ∙ ap (if_stands g) (sym h))
      (λ h. ap (if_stands f) h ∙ ap (if_stands g) (sym h))

  -- a link is read from the line
  replaced_same : (j : ℕ) → j < n → (place_at n u j).replaced ≡ (place_at n t j).replaced
  unfolding place_at old_place_at record_of
  replaced_same j l = ap (λ (r : Record). r.replaced) (same_records w n t fits big j l)

  replacement_same : (j : ℕ) → j < n → (place_at n u j).replacement ≡ (place_at n t j).replacement
  unfolding place_at old_place_at record_of
  replacement_same j l = ap (λ (r : Record). r.replacement) (same_records w n t fits big j l)

  links_same : (i : ℕ) → i < n → links_right n u (place_at n u i) ≡ links_right n t (old_place_at w n t i)
  unfolding links_right
  links_same i l =
      let serial = (old_place_at w n t i).serial in
      ap (links_right n u) (same_records w n t fits big i l)
      ∙ and_cong
      (stands_same _ _ _ (λ j h. ap (λ (s : ℕ). eqb s serial) (replacement_same j h)))
      (stands_same _ _ _ (λ j h. ap (λ (s : ℕ). eqb s serial) (replaced_same j h)))

  -- ---- the rules of dates, which a record without dates keeps

  module _ (short : w ≤ activation_in) (i : ℕ) (l : i < n) where
    activation : (place_at n u i).activation ≡ 0
    activation = ap (λ (r : Record). r.activation) (same_records w n t fits big i l) ∙ activation_unset w n t fits big i l short

    deactivation : (place_at n u i).deactivation ≡ 0
    deactivation = ap (λ (r : Record). r.deactivation) (same_records w n t fits big i l) ∙ deactivation_unset w n t fits big i l short

    dates_kept : dates_right (place_at n u i) ≡ true
    unfolding dates_right
    dates_kept = ap₂ (λ (a d : ℕ). not_negative a && not_negative d) activation deactivation

    order_kept : order_right (place_at n u i) ≡ true
    unfolding order_right
    order_kept = ap₂ in_order activation deactivation

    started_kept : started_right (latest_clock u) (place_at n u i) ≡ true
    unfolding started_right
    started_kept =
        let early : (place_at n u i).activation ≤ latest_clock u = rw activation (omega arith) in
        or_r (not (eqb (place_at n u i).state 2)) _ (le-leb (place_at n u i).activation (latest_clock u) early)

  -- ---- the rules of names, which a record without a name keeps

  module _ (short : w ≤ name_in) (i : ℕ) (l : i < n) where
    unnamed : (place_at n u i).name ≡ no_name
    unnamed = ap (λ (r : Record). r.name) (same_records w n t fits big i l) ∙ name_unset w n t fits big i l short

    name_kept : name_right (place_at n u i) ≡ true
    unfolding name_right
    name_kept = ap shape_right unnamed ∙ none_shape

    text_kept : name_text_right (place_at n u i) ≡ true
    unfolding name_text_right
    text_kept = ap (λ (name : Name). text (name_text name)) unnamed ∙ none_text

    differs : names_differ n u i ≡ true
    differs = unnamed_differs n u i (ap (λ (name : Name). is_named name) (name_is n u i ∙ unnamed))

  -- ---- the whole

  -- today's rules from the free places to the links, and rules behind them
  abbrev now_rules : List Rule → List Rule
  now_rules later =
      of_places breaks_free
      ∷ of_standing zeros_right
      ∷ of_standing distinct_right
      ∷ of_standing issued_right
      ∷ of_record state_right
      ∷ of_record bits_right
      ∷ of_record mask_right
      ∷ of_record limit_right
      ∷ of_record tail_right
      ∷ of_record wiped_right
      ∷ of_record replaced_right
      ∷ of_standing (λ n t i. replacement_right (last_serial t) (place_at n t i))
      ∷ of_standing (λ n t i. links_right n t (place_at n t i))
      ∷ later

  places_alike : {later later' : List Rule} → zeros_in + 4 ≤ w → Alike n u t later later' → Alike n u t (now_rules later) (place_rules w later')
  places_alike wide rest =
      places breaks_free_lem
      (places (standing_same zeros_right (old_zeros_right w) (zeros_same wide))
      (places (standing_same distinct_right distinct_right (distinct_cong n u t (serial_widened w n t fits big)))
      (places (standing_same issued_right issued_right issued_same)
      (places (standing_same _ _ (record_same state_right))
      (places (standing_same _ _ (record_same bits_right))
      (places (standing_same _ _ (record_same mask_right))
      (places (standing_same _ _ (record_same limit_right))
      (places (standing_same _ _ (record_same tail_right))
      (places (standing_same _ _ (record_same wiped_right))
      (places (standing_same _ _ (record_same replaced_right))
      (places (standing_same _ _ (λ i l. ap₂ replacement_right (last_widened w n t fits big) (same_records w n t fits big i l)))
      (places (standing_same _ _ links_same)
      rest))))))))))))

  -- the rules behind them: of names, of dates and names
  names_new : w ≤ name_in → Alike n u t (of_record name_right ∷ of_record name_text_right ∷ of_standing names_differ ∷ []) []
  names_new short =
      new_places (λ i l. unbroken _ n u i (name_kept short i l))
      (new_places (λ i l. unbroken _ n u i (text_kept short i l))
      (new_places (λ i l. unbroken names_differ n u i (differs short i l)) end))

  abbrev now_later : List Rule
  now_later =
      of_record dates_right
      ∷ of_table latest_right
      ∷ of_record order_right
      ∷ of_standing (λ n t i. started_right (latest_clock t) (place_at n t i))
      ∷ of_record name_right
      ∷ of_record name_text_right
      ∷ of_standing names_differ
      ∷ []

  -- an old table without dates has none of these rules, one with dates those of dates
  dates_new : w ≤ activation_in → latest_clock t ≡ 0 → Alike n u t now_later []
  unfolding latest_right
  dates_new short clock =
      new_places (λ i l. unbroken _ n u i (dates_kept short i l))
      (new_whole (ap not_negative (latest_widened w n t fits big ∙ clock))
      (new_places (λ i l. unbroken _ n u i (order_kept short i l))
      (new_places (λ i l. unbroken _ n u i (started_kept short i l))
      (names_new (omega arith)))))

  dates_alike : w ≤ name_in → Alike n u t now_later (date_rules w)
  dates_alike short =
      places (standing_same _ _ (record_same dates_right))
      (whole latest_same
      (places (standing_same _ _ (record_same order_right))
      (places (standing_same _ _ (λ i l. ap₂ started_right (latest_widened w n t fits big) (same_records w n t fits big i l)))
      (names_new short))))

pub width_fits : (age : Age) → width age ≤ body_size
width_fits plain = lit≤ tt
width_fits dated = lit≤ tt

pub dated_not_plain : {P : Type 0} → dated ≡ plain → P
dated_not_plain e = absurd (let z : ◌≡◌ {A = ℕ} 0 1 = cc in omega arith)

-- the eight zeros of a lead of 01 are a latest clock of 0
clock_zero : (t : List ℕ) → all_zero (lead_zeros t) ≡ true → latest_clock t ≡ 0
unfolding latest_clock
clock_zero t z = eqb-true _ 0 (zero_spelled (lead_zeros t) ∙ z)

module _ (n : ℕ) (t : List ℕ) where
  rules_alike : (age : Age) → OldTable (width age) n t → (age ≡ plain → all_zero (lead_zeros t) ≡ true) → Alike n (widened (width age) n t) t rules (old_rules age)
  unfolding lead_right
  rules_alike plain big zeros =
      let w = width plain in
      whole (size_same w n t (width_fits plain) big)
      (whole (count_same w n t (width_fits plain) big)
      (gone (zeros refl)
      (places_alike w n t (width_fits plain) big (lit≤ tt)
      (dates_new w n t (width_fits plain) big (lit≤ tt) (clock_zero t (zeros refl))))))
  rules_alike dated big zeros =
      let w = width dated in
      whole (size_same w n t (width_fits dated) big)
      (whole (count_same w n t (width_fits dated) big)
      (places_alike w n t (width_fits dated) big (lit≤ tt)
      (dates_alike w n t (width_fits dated) big (lit≤ tt))))

  -- checking the new table is checking the old one
  pub old_sound : (age : Age) → OldTable (width age) n t → (age ≡ plain → all_zero (lead_zeros t) ≡ true) → sound n (widened (width age) n t) ≡ sound_old age n t
  unfolding sound first_fault sound_old
  old_sound age big zeros = ap not (alike n (widened (width age) n t) t 1 1 rules (old_rules age) (rules_alike age big zeros))

  -- ---- what the converter goes by

  -- a table of another size is not sound, and neither is one of 01 whose lead's zeros are not zero
  pub unsized : (age : Age) → old_size_right (width age) n t ≡ false → sound_old age n t ≡ false
  unfolding sound_old fault_from is_some
  unsized plain e = ap (λ (f : Option Fault). not (is_some f)) (ifb_false _ _ _ e)
  unsized dated e = ap (λ (f : Option Fault). not (is_some f)) (ifb_false _ _ _ e)

  pub unzeroed : all_zero (lead_zeros t) ≡ false → sound_old plain n t ≡ false
  unfolding sound_old fault_from is_some lead_right
  unzeroed e =
      on_bool (old_size_right (width plain) n t)
      (λ size. on_bool (count_right n t)
      (λ count. ap (λ (f : Option Fault). not (is_some f)) (ifb_true _ _ _ size ∙ ifb_true _ _ _ count ∙ ifb_false _ _ _ e))
      (λ count. ap (λ (f : Option Fault). not (is_some f)) (ifb_true _ _ _ size ∙ ifb_false _ _ _ count)))
      (unsized plain)

  pub sized : (age : Age) → sound_old age n t ≡ true → OldTable (width age) n t
  unfolding old_size_right
  sized age right = eqb-true (length t) (old_size_of (width age) n) (yes_unless _ (λ e. not_both _ right (unsized age e)))

  pub zeroed : (age : Age) → sound_old age n t ≡ true → age ≡ plain → all_zero (lead_zeros t) ≡ true
  zeroed plain right e = yes_unless _ (λ h. not_both _ right (unzeroed h))
  zeroed dated right e = dated_not_plain e

  -- ---- what an old table becomes

  old_unset : (age : Age) → OldTable (width age) n t → (i : ℕ) → i < n → Unset age (place_at n (widened (width age) n t) i)
  old_unset plain big i l = (
    activation (width plain) n t (width_fits plain) big (lit≤ tt) i l,
    (deactivation (width plain) n t (width_fits plain) big (lit≤ tt) i l, unnamed (width plain) n t (width_fits plain) big (lit≤ tt) i l),
  )
  old_unset dated big i l = unnamed (width dated) n t (width_fits dated) big (lit≤ tt) i l

  old_clock : (age : Age) → sound_old age n t ≡ true → latest_clock (widened (width age) n t) ≡ clock_seen age t
  old_clock plain right = latest_widened (width plain) n t (width_fits plain) (sized plain right) ∙ clock_zero t (zeroed plain right refl)
  old_clock dated right = latest_widened (width dated) n t (width_fits dated) (sized dated right)

  -- a sound old table becomes a sound new one with the same records
  pub converts_sound : (age : Age) → sound_old age n t ≡ true → Becomes age n t (widened (width age) n t)
  converts_sound age right =
      let w = width age in
      let fits = width_fits age in
      let big = sized age right in
      record {
        sound = old_sound age big (zeroed age right) ∙ right;
        records = same_records w n t fits big;
        unset = old_unset age big;
        last = last_widened w n t fits big;
        said = said_widened w n t fits big;
        latest = old_clock age right;
        back = nothing_lost w n t fits big;
      }
