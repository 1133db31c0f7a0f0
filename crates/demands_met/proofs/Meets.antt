-- A box whose outcome is that of the definitions meets demands 1 and 2.
-- Assumes nothing.
use Prim.Native.Nat.{ℕ, ◌+◌, ◌^◌, ◌≤◌, ◌<◌}
use native.Mathlib.Omega.{arith}
use native.Mathlib.Nat.{max-eq_left, max-eq_right}
use mathlib.Core.Path.{◌≡◌, refl, sym, ap, ap₂, subst, ◌∙◌}
use mathlib.Core.Bool.{true, ◌&&◌}
use Rattle.std.specs.Prelude.{Some}
use mathlib.Core.List.{List}
use lib.ListN.{length, take, drop}
use lib.Seq.{take_at, drop_at}
use lib.Dec.{leb, ltb, eqb}
use borrow.Author.Tests.{leb-true, ltb-true, ltb-false, eqb-true, le-leb, lt-ltb}
use Rattle.octets.specs.Octets.{over, all}
use Rattle.octets.proofs.Over.{length_over}
use Rattle.ttlv.specs.Items.{encode}
use Rattle.ttlv.specs.Parse.{message}
use Rattle.ttlv.proofs.Message.{message_spells}
use Rattle.table.specs.Records.{place_at, latest_clock}
use Rattle.values.specs.Values.{above_zero}
use Rattle.changes.specs.Dates.{ripened, counted_clock}
use Rattle.keeps.proofs.Keeps.{Held, facts}
use Rattle.keeps.proofs.Dates.{keeps_began, began_last, began_latest, began_places}
use Rattle.place_counts.proofs.Counts.{right_sound}
use Rattle.octets.proofs.If.{on_if}
use Rattle.octets.proofs.Bools.{and_l, and_r, and_i}
use Rattle.frame.specs.Frame.{framing, framed, option_of, batch_most}
use Rattle.batch_item.proofs.Bounds.{AllBounded}
use Rattle.frame.proofs.Bounds.{request_bounded}
use Rattle.answer.specs.Respond.{Answer, Response, respond}
use Rattle.answer.specs.Read.{answer_ok, allowed}
use Rattle.answer.proofs.Front.{response_size}
use Rattle.answer.proofs.Answers.{answers_back}
use Rattle.answer.proofs.One.{response_message_lem, response_spells, bytes_one}
use Rattle.batch.specs.Batch.{Ran, running}
use Rattle.settle.specs.Undo.{settled as settled_ran, kept_in}
use Rattle.calls.specs.Effects.{Effect, room_least}
use Rattle.engine.specs.Serving.{response_to, answered}
use Rattle.batch_keeps.proofs.Batches.{Leaves, batch_leaves}
use Rattle.batch_keeps.proofs.Settled.{settled_leaves}
use Rattle.demands.specs.Box.{Call, Box, Lent, places_of, counted}
use Rattle.demands.specs.Demand1.{Demand1, Untouched, Within}
use Rattle.demands.specs.Demand2.{Demand2, Answered, Begins, settled, answers_for, kept_for, meant, refusal_conditions, lowest}
use Rattle.demands_met.proofs.Chains.{batch_chain, settled_same}
use Rattle.demands_met.proofs.Ladder.{served, served_number, lowest_most, Accepted, request_of, counting, start_of, ran_by, left_of, answered_by, Told, away, accepted, told}

-- the clock that counts is the later one
pub counting_is : (c : Call) → counting c ≡ counted c
unfolding counted_clock
counting_is c =
    on_if (λ (k : ℕ). k ≡ counted c)
    (λ e. sym (max-eq_right (let h : c.clock < latest_clock c.table = ltb-true c.clock (latest_clock c.table) e in omega arith)))
    (λ e. sym (max-eq_left (ltb-false c.clock (latest_clock c.table) e)))

module _ (c : Call) (lent : Lent c) (a : Accepted c) where
  -- the table that it meets
  pub held_lent : Held (places_of c) c.table
  held_lent = record { right = right_sound c.table a.right; bytes = lent.table }

  clock_least : 1 ≤ c.clock
  clock_least = leb-true 1 c.clock (and_l (leb 1 c.clock) (ltb c.clock (2 ^ 63)) a.clock)

  clock_most : c.clock < 2 ^ 63
  clock_most = ltb-true c.clock (2 ^ 63) (and_r (leb 1 c.clock) (ltb c.clock (2 ^ 63)) a.clock)

  -- the clock that counts is no earlier than the latest, from 1 up, and fits
  pub counting_later : latest_clock c.table ≤ counting c
  unfolding counted_clock
  counting_later = on_if (λ (k : ℕ). latest_clock c.table ≤ k) (λ e. omega arith) (λ e. ltb-false c.clock (latest_clock c.table) e)

  pub counting_fits : counting c < 2 ^ 63
  unfolding counted_clock
  counting_fits = on_if (λ (k : ℕ). k < 2 ^ 63) (λ e. (facts (places_of c) c.table held_lent).latest) (λ e. clock_most)

  counting_least : 1 ≤ counting c
  unfolding counted_clock
  counting_least =
      on_if (λ (k : ℕ). 1 ≤ k) (λ e. let h : c.clock < latest_clock c.table = ltb-true c.clock (latest_clock c.table) e in omega (arith, clock_least)) (λ e. clock_least)

  pub counting_above : above_zero (counting c) ≡ true
  counting_above = and_i (leb 1 (counting c)) (ltb (counting c) (2 ^ 63)) (le-leb 1 (counting c) counting_least) (lt-ltb (counting c) (2 ^ 63) counting_fits)

  -- the table that its first item meets
  pub held_start : Held (places_of c) (start_of c)
  held_start = keeps_began (places_of c) c.table held_lent (counting c) counting_later counting_fits

  pub start_begins : Begins c (start_of c)
  start_begins = record {
    right = held_start.right;
    bytes = held_start.bytes;
    issued = began_last (places_of c) c.table held_lent (counting c) counting_later counting_fits;
    latest = began_latest (places_of c) c.table held_lent (counting c) counting_later counting_fits ∙ counting_is c;
    places = λ i low. began_places (places_of c) c.table held_lent (counting c) counting_later counting_fits i low ∙ ap (λ (k : ℕ). ripened k (place_at (places_of c) c.table i)) (counting_is c);
  }

  -- its items are bounded as the frame bounds them
  pub bounded : AllBounded a.frame.items
  unfolding framed
  bounded = request_bounded c.request a.items (request_of a.frame) lent.request a.reads (ap framing a.framed ∙ a.asks)

  -- 1 to 16 items
  pub count_facts : (1 ≤ length a.frame.items) × (length a.frame.items ≤ batch_most)
  count_facts =
      let n = a.frame.header.count in
      let m = length a.frame.items in
      let two : (leb 1 n && leb n batch_most) ≡ true = and_l (leb 1 n && leb n batch_most) (eqb n m) a.counted in
      let same : n ≡ m = eqb-true n m (and_r (leb 1 n && leb n batch_most) (eqb n m) a.counted) in
      let low : 1 ≤ n = leb-true 1 n (and_l (leb 1 n) (leb n batch_most) two) in
      let high : n ≤ batch_most = leb-true n batch_most (and_r (leb 1 n) (leb n batch_most) two) in
      (omega arith, omega arith)

  -- what the batch of an accepted call leaves
  pub ran_leaves : Leaves (places_of c) c.strip (option_of a.frame.header.option) lent.strip (start_of c) a.frame.items (ran_by c a)
  unfolding running
  ran_leaves =
      batch_leaves (places_of c) c.strip (option_of a.frame.header.option) lent.strip a.frame.items 0 0 (start_of c)
      held_start bounded (omega (arith, count_facts.1, a.strip))

  -- and what is left of it under its option
  pub left_leaves : Leaves (places_of c) c.strip (option_of a.frame.header.option) lent.strip (start_of c) a.frame.items (left_of c a)
  left_leaves =
      settled_leaves (places_of c) c.strip (option_of a.frame.header.option) lent.strip (start_of c) a.frame.items (ran_by c a) held_start ran_leaves

  -- its response is one that there is
  pub left_allowed : allowed (response_to (counting c) (left_of c a)) ≡ true
  unfolding allowed
  left_allowed =
      let n = length (left_of c a).answers in
      and_i _ (all answer_ok (left_of c a).answers)
      (and_i _ (leb n batch_most)
      (and_i (above_zero (counting c)) (leb 1 n) counting_above (le-leb 1 n (left_leaves.some count_facts.0)))
      (le-leb n batch_most (omega (arith, left_leaves.few, count_facts.1))))
      left_leaves.ok

  -- the bytes of its response
  abbrev pub spelling : List ℕ
  spelling = encode (respond (response_to (counting c) (left_of c a)))

  pub spelling_short : length spelling ≤ room_least
  spelling_short = response_size (response_to (counting c) (left_of c a)) left_allowed

  pub front_is : take (length spelling) (over spelling c.output) ≡ spelling
  front_is = take_at spelling (drop (length spelling) c.output) (length spelling) refl

  within : Within c (answered_by c a)
  unfolding answered
  within = record {
    short = spelling_short;
    room = omega (arith, spelling_short, a.room);
    same_room = length_over spelling c.output (omega (arith, spelling_short, a.room));
    past = drop_at spelling (drop (length spelling) c.output) (length spelling) refl;
  }

  given : Answered c (answered_by c a)
  unfolding answered running kept_in kept_for
  given =
      let option = option_of a.frame.header.option in
      let chained = batch_chain c option a.frame.items 0 0 (start_of c) in
      let r : Response = response_to (counting c) (left_of c a) in
      let left : left_of c a ≡ record { answers = answers_for option chained.links; table = settled option (start_of c) chained.links (ran_by c a).table } =
      ap (λ (rs : List Answer). settled_ran option (start_of c) (record { answers = rs; table = (ran_by c a).table })) (sym chained.answers) ∙ settled_same option (start_of c) chained.links (ran_by c a).table in
      let same : r ≡ meant c option chained.links = ap₂ (λ (k : ℕ) (ran : Ran). response_to k ran) (counting_is c) left in
      let bytes : take (length spelling) (over spelling c.output) ≡ encode (respond (meant c option chained.links)) = front_is ∙ ap (λ (q : Response). encode (respond q)) same in
      record {
        items = a.items;
        frame = a.frame;
        reads = a.reads;
        spelled = message_spells c.request a.items lent.request a.reads;
        framed = a.framed;
        start = start_of c;
        reached = (ran_by c a).table;
        links = chained.links;
        begins = start_begins;
        chain = chained.chain;
        left = ap (λ (ran : Ran). ran.table) left;
        kept = refl;
        stored = left_leaves.latest ∙ start_begins.latest;
        spelling = bytes;
        response = respond r;
        readable = ap message front_is ∙ response_message_lem r left_allowed;
        read_back = answers_back r left_allowed ∙ ap Some same;
        one_response = λ q ok e. bytes_one q r ok left_allowed (e ∙ front_is) ∙ same;
        one_spelling = λ s b h. (response_spells s (meant c option chained.links) b h).0 ∙ sym bytes;
      }

-- ---- the demands

module _ (B : Box) (is : (c : Call) (e : Effect) → Lent c → B c e → e ≡ served c) (has : (c : Call) → Lent c → (e : Effect) × B c e) where
  -- what holds of every outcome that the definitions give holds of the box
  by_told : (P : (c : Call) → Effect → Type 0) → ((c : Call) (e : Effect) → Lent c → Told c e → P c e) → (c : Call) (e : Effect) → Lent c → B c e → P c e
  by_told P f c e lent b = subst (P c) (sym (is c e lent b)) (f c (served c) lent (told c))

  told_refused : (c : Call) (e : Effect) → Lent c → Told c e → (e.number ≡ 0 → ⊥) → Untouched c e
  unfolding answered
  told_refused c e lent (away k) h = record { length = refl; table = refl; output = refl; undo = refl }
  told_refused c e lent (accepted a) h = absurd (h refl)

  told_within : (c : Call) (e : Effect) → Lent c → Told c e → e.number ≡ 0 → Within c e
  told_within c e lent (away k) h = absurd (omega arith)
  told_within c e lent (accepted a) h = within c lent a

  told_given : (c : Call) (e : Effect) → Lent c → Told c e → e.number ≡ 0 → Answered c e
  told_given c e lent (away k) h = absurd (omega arith)
  told_given c e lent (accepted a) h = given c lent a

  pub meets_1 : Demand1 B
  unfolding refusal_conditions
  meets_1 = record {
    ends = has;
    numbered = λ c e lent b.
        let n : e.number ≡ lowest 1 (refusal_conditions c) = ap (λ (x : Effect). x.number) (is c e lent b) ∙ served_number c in
        let m : lowest 1 (refusal_conditions c) < 1 + 11 = lowest_most 1 (refusal_conditions c) (omega arith) in
        omega arith;
    refused = by_told (λ c e. (e.number ≡ 0 → ⊥) → Untouched c e) told_refused;
    answered = by_told (λ c e. e.number ≡ 0 → Within c e) told_within;
  }

  pub meets_2 : Demand2 B
  meets_2 = record {
    number = λ c e lent b. ap (λ (x : Effect). x.number) (is c e lent b) ∙ served_number c;
    answered = by_told (λ c e. e.number ≡ 0 → Answered c e) told_given;
  }
