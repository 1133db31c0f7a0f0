-- Runs of calls: each call goes a path along its events, and the invariant holds at every point.
-- Assumes nothing.
use Prim.Native.Nat.{ℕ, suc, ◌+◌, ◌*◌, ◌≤◌}
use native.Mathlib.Omega.{arith}
use mathlib.Core.Path.{◌≡◌, refl, sym, ap, subst, ◌∙◌}
use Rattle.std.specs.Prelude.{Option, None, Some}
use mathlib.Core.Bool.{true}
use mathlib.Core.List.{List, []}
use lib.ListN.{length, take}
use Rattle.octets.specs.If.{ifb}
use Rattle.octets.specs.Maybe.{◌>>=◌, ◌>>◌}
use Rattle.octets.specs.Octets.{over}
use Rattle.octets.proofs.If.{on_if}
use Rattle.ttlv.specs.Items.{Items}
use Rattle.ttlv.specs.Parse.{first_of, more, walk, parse, is_one, message}
use Rattle.table.specs.Layout.{size_of, places_ok, material_size}
use Rattle.table.specs.Records.{places_said, blank}
use Rattle.table.proofs.Places.{serial_is}
use Rattle.table.proofs.Blank.{serial_blank}
use Rattle.place_counts.specs.Counts.{table_right}
use Rattle.place_counts.proofs.Counts.{count_fits, right_of}
use Rattle.keeps.proofs.Keeps.{facts, held_blank}
use Rattle.batch_item.specs.Item.{Asked}
use Rattle.frame.specs.Frame.{frame_in, option_of}
use Rattle.answer.specs.Respond.{Answer, Response}
use Rattle.answer.specs.Read.{answers_in}
use Rattle.answer.proofs.One.{response_back}
use Rattle.batch.specs.Batch.{Ran, running}
use Rattle.settle.specs.Undo.{settled}
use Rattle.calls.specs.Effects.{Effect}
use Rattle.engine.specs.Serving.{response_to, answered}
use Rattle.demands.specs.Box.{Call, Box, Lent, places_of}
use Rattle.demands.specs.Log.{Event, or_no_items, or_no_answers, items_asked, answers_given, paired, events_of, onto, logged, issued, granted, limit}
use Rattle.demands.specs.Demand3.{Run, begins, calls, DueOnly, Opens, accepted as opens, refused, Goes}
use Rattle.demands_met.proofs.Ladder.{served, Accepted, counting, start_of, left_of, turned, answered_by, Told, away, accepted, told}
use Rattle.demands_met.proofs.Meets.{counting_is, held_lent, counting_later, counting_fits, count_facts, left_leaves, left_allowed, spelling, front_is}
use Rattle.demands_met.proofs.Logged.{Inv}
use Rattle.demands_met.proofs.Dead.{none_dead}
use Rattle.demands_met.proofs.Ordered.{inv_order}
use Rattle.demands_met.proofs.Opened.{due_only, books_began}
use Rattle.demands_met.proofs.Paired.{paired_end, Books, Travelled, stood, batch_travels}
use Rattle.demands_met.proofs.Unmade.{unmade_travels, batch_unmade}

-- ---- the events of one call

-- no bytes are no item
no_message : message [] ≡ None
unfolding message parse walk more first_of is_one ifb ◌>>=◌ ◌>>◌
no_message = refl

-- a refused call has none
no_answers : (c : Call) (k : ℕ) → answers_given (turned c k) ≡ []
unfolding or_no_answers ◌>>=◌
no_answers c k = ap (λ (m : Option Items). or_no_answers (m >>= answers_in)) no_message

pub events_away : (c : Call) (k : ℕ) → events_of c (turned c k) ≡ []
unfolding events_of
events_away c k = ap (λ (answers : List Answer). paired 0 (items_asked c) answers) (no_answers c k) ∙ paired_end 0 (items_asked c)

pub asked_away : (c : Call) (k : ℕ) → length (answers_given (turned c k)) ≤ length (items_asked c)
asked_away c k = subst (λ (answers : List Answer). length answers ≤ length (items_asked c)) (sym (no_answers c k)) (omega arith)

module _ (c : Call) (lent : Lent c) (a : Accepted c) where
  -- an accepted one has its items with their answers
  items_are : items_asked c ≡ a.frame.items
  unfolding or_no_items ◌>>=◌
  items_are = ap (λ (m : Option Items). or_no_items (m >>= frame_in)) a.reads ∙ ap or_no_items a.framed

  answers_are : answers_given (answered_by c a) ≡ (left_of c a).answers
  unfolding answered or_no_answers ◌>>=◌
  answers_are =
      let r : Response = response_to (counting c) (left_of c a) in
      let g : (message (take (length (spelling c lent a)) (over (spelling c lent a) c.output)) >>= answers_in) ≡ Some r = ap (λ (s : List ℕ). message s >>= answers_in) (front_is c lent a) ∙ response_back r (left_allowed c lent a) in
      ap or_no_answers g

  pub events_accepted : events_of c (answered_by c a) ≡ paired 0 a.frame.items (left_of c a).answers
  unfolding events_of
  events_accepted = ap (paired 0 (items_asked c)) answers_are ∙ ap (λ (is : List Asked). paired 0 is (left_of c a).answers) items_are

  -- no more answers than items
  asked_accepted : length (answers_given (answered_by c a)) ≤ length (items_asked c)
  asked_accepted = omega (arith, ap (λ (is : List Asked). length is) items_are, ap (λ (answers : List Answer). length answers) answers_are, (left_leaves c lent a).few)

  -- the strip has its part for every item
  pub strip_fits : material_size * (0 + length a.frame.items) ≤ length c.strip
  strip_fits = omega (arith, (count_facts c lent a).1, a.strip)

  -- so the call goes along them, from the table in which what is due is done; what is undone counts as never made
  accepted_travels : (log : List Event) → Books (places_of c) log (start_of c) → Travelled (places_of c) log (start_of c) (events_of c (answered_by c a)) (left_of c a).table
  unfolding running settled
  accepted_travels log books =
      subst (λ (events : List Event). Travelled (places_of c) log (start_of c) events (left_of c a).table) (sym events_accepted)
      (on_if (λ (left : Ran). Travelled (places_of c) log (start_of c) (paired 0 a.frame.items left.answers) left.table)
      (λ undone. unmade_travels (batch_unmade (places_of c) c.strip option a.frame.items 0 0 0 (start_of c)) log books)
      (λ kept. batch_travels (places_of c) c.strip option lent.strip a.frame.items 0 0 (start_of c) log strip_fits books))
    where
      option : ℕ
      option = option_of a.frame.header.option

-- ---- the blank table

pub blank_inv : (n : ℕ) → places_ok n ≡ true → Inv n [] (blank n)
unfolding granted limit issued
blank_inv n ok = record {
  held = held_blank n (count_fits n ok);
  balanced = λ i l s. absurd (s (sym (serial_is n (blank n) i) ∙ serial_blank n i l));
  within = λ x z. omega arith;
  once = λ x z. omega arith;
  later = λ x l. (refl, refl);
}

pub blank_books : (n : ℕ) → places_ok n ≡ true → Books n [] (blank n)
blank_books n ok = record { inv = blank_inv n ok; dead = none_dead n (blank n) }

-- ---- runs of a box whose outcome is that of the definitions

-- a call that goes, and the books behind it
pub record Went (n : ℕ) (log : List Event) (c : Call) (e : Effect) : Type 0 where
  pub goes : Goes n log c e
  pub books : Books n (onto (events_of c e) log) e.table

-- it opens, and travels along its events
goes_further : {n : ℕ} (c : Call) (e : Effect) (start : List ℕ) (log : List Event) → Opens n c e.number start → Books n log start → Travelled n log start (events_of c e) e.table → Went n log c e
goes_further c e start log begun books travelled = record {
  goes = record { start = start; opens = begun; order = inv_order log start books.inv books.dead; path = travelled.path };
  books = travelled.books;
}

-- a call on the places that its table says
told_goes : (c : Call) (e : Effect) → Lent c → Told c e → (log : List Event) → Books (places_of c) log c.table → Went (places_of c) log c e
unfolding answered
told_goes c e lent (away k) log books =
    goes_further c e c.table log (refused (λ z. omega arith)) books
    (subst (λ (events : List Event). Travelled (places_of c) log c.table events c.table) (sym (events_away c (suc k))) (stood books))
told_goes c e lent (accepted a) log books =
    let later = counting_later c lent a in
    let fits = counting_fits c lent a in
    let due = due_only c.table (held_lent c lent a) (counting c) later fits in
    let opened = books_began c.table (held_lent c lent a) (counting c) later fits log books in
    goes_further c e (start_of c) log (opens (subst (λ (k : ℕ). DueOnly (places_of c) k c.table (start_of c)) (counting_is c) due)) opened (accepted_travels c lent a log opened)

told_asked : (c : Call) (e : Effect) → Lent c → Told c e → length (answers_given e) ≤ length (items_asked c)
told_asked c e lent (away k) = asked_away c (suc k)
told_asked c e lent (accepted a) = asked_accepted c lent a

module _ (B : Box) (is : (c : Call) (e : Effect) → Lent c → B c e → e ≡ served c) where
  -- every answer has its item
  pub call_asked : (c : Call) (e : Effect) → Lent c → B c e → length (answers_given e) ≤ length (items_asked c)
  call_asked c e lent b = subst (λ (x : Effect). length (answers_given x) ≤ length (items_asked c)) (sym (is c e lent b)) (told_asked c (served c) lent (told c))

  module _ (n : ℕ) where
    -- each call goes along its events, on the places of the books, which are those that its table says
    pub call_goes : (c : Call) (e : Effect) → Lent c → B c e → (log : List Event) (t : List ℕ) → c.table ≡ t → Books n log t → Went n log c e
    call_goes c e lent b log t same books =
        let met : Books n log c.table = subst (Books n log) (sym same) books in
        let count : places_of c ≡ n = (facts n c.table met.inv.held).count in
        subst (λ (k : ℕ). Went k log c e) count
        (subst (Went (places_of c) log c) (sym (is c e lent b)) (told_goes c (served c) lent (told c) log (subst (λ (k : ℕ). Books k log c.table) (sym count) met)))

    module _ (ok : places_ok n ≡ true) where
      -- the books are right at every point of a run
      pub run_books : {log : List Event} {t : List ℕ} → Run n B log t → Books n log t
      unfolding logged
      run_books begins = blank_books n ok
      run_books (calls {log} {t} c e r same lent b) = (call_goes c e lent b log t same (run_books r)).books

      -- "a run never changes its count": the table says the count that it began with and has its size, and is never refused with 3
      pub run_count : {log : List Event} {t : List ℕ} → Run n B log t → (places_said t ≡ n) × (length t ≡ size_of n) × (table_right t ≡ true)
      run_count {log} {t} r = let held = (run_books r).inv.held in ((facts n t held).count, (facts n t held).size, right_of t n ok held.right)
