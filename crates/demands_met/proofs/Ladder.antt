-- The refusal ladder: the number of a call is the lowest whose condition holds, and a refusal touches nothing.
-- Assumes nothing.
use Prim.Native.Nat.{ℕ, zero, suc, ◌+◌, ◌^◌, ◌≤◌, ◌<◌}
use mathlib.Core.Path.{◌≡◌, refl, sym, ap, subst, ◌∙◌}
use mathlib.Core.Bool.{Bool, true, false, not, ◌||◌}
use Rattle.std.specs.Prelude.{Option, None, Some}
use mathlib.Core.List.{List, [], ◌∷◌}
use lib.ListN.{length}
use lib.Dec.{leb, ltb, eqb}
use native.Mathlib.Omega.{arith}
use native.Mathlib.Decide.{dec_le}
use borrow.Author.Tests.{eqb-true, eq-eqb, ne_eqb, le-leb, lt-leb, le-ltb, lt-ltb, not-false}
use Rattle.octets.specs.If.{ifb}
use Rattle.octets.proofs.If.{ifb_true, ifb_false, on_if, on_bool}
use Rattle.octets.proofs.Bools.{and_no, and_second, or_l, or_r}
use Rattle.octets.specs.Maybe.{◌>>=◌, is_some}
use Rattle.ttlv.specs.Items.{Items}
use Rattle.ttlv.specs.Parse.{message}
use Rattle.values.specs.Values.{above_zero}
use Rattle.place_counts.specs.Counts.{table_right}
use Rattle.changes.specs.Dates.{counted_clock, began}
use Rattle.frame.specs.Frame.{Frame, Framed, Request, refused, asked, frame_in, framing, version_ok, count_ok, option_of, option_ok}
use Rattle.batch.specs.Batch.{Ran, running}
use Rattle.settle.specs.Undo.{settled, kept_in}
use Rattle.calls.specs.Effects.{Effect, room_least, request_most, strip_size}
use Rattle.engine.specs.Serving.{turned_away, answered, carry_out, serving}
use Rattle.refusals.specs.Refusals.{early_refusal, late_refusal}
use Rattle.refusals.proofs.Early.{Passed, passed}
use Rattle.refusals.proofs.Late.{timely}
use Rattle.engine.proofs.Serves.{refused_early, frame_decides}
use Rattle.demands.specs.Box.{Call, places_of}
use Rattle.demands.specs.Demand2.{frame_of, of_frame, refusal_conditions, lowest}

-- the outcome that the definitions give to a call
abbrev pub served : Call → Effect
served c = serving c.request c.table c.strip c.clock c.output c.undo

-- what a call leaves that is turned away with a number
abbrev pub turned : Call → ℕ → Effect
turned c number = turned_away c.table c.output c.undo number

-- two outcomes with the same number, length, table, output and second buffer
pub same_effect : (e f : Effect) → e.number ≡ f.number → e.length ≡ f.length → e.table ≡ f.table → e.output ≡ f.output → e.undo ≡ f.undo → e ≡ f
same_effect e f n l t o u =
    ap (λ (k : ℕ). record { number = k; length = e.length; table = e.table; output = e.output; undo = e.undo }) n
    ∙ ap (λ (k : ℕ). record { number = f.number; length = k; table = e.table; output = e.output; undo = e.undo }) l
    ∙ ap (λ (k : List ℕ). record { number = f.number; length = f.length; table = k; output = e.output; undo = e.undo }) t
    ∙ ap (λ (k : List ℕ). record { number = f.number; length = f.length; table = f.table; output = k; undo = e.undo }) o
    ∙ ap (λ (k : List ℕ). record { number = f.number; length = f.length; table = f.table; output = f.output; undo = k }) u

-- a function of an `if` is an `if` of its values
pub if_ap : {A B : Type 0} (f : A → B) (b : Bool) (x y : A) → f (ifb b x y) ≡ ifb b (f x) (f y)
unfolding ifb
if_ap f true x y = refl
if_ap f false x y = refl

-- ---- the number

-- a clock below 1
below_one : (clock : ℕ) → (eqb clock 0 || leb (2 ^ 63) clock) ≡ not (above_zero clock)
below_one clock = elim (dec_le 1 clock) [
  | yes h ↦ elim (dec_le (2 ^ 63) clock) [
    | yes k ↦ or_r (eqb clock 0) _ (le-leb (2 ^ 63) clock k) ∙ sym (ap not (and_second (leb 1 clock) (ltb clock (2 ^ 63)) (le-leb 1 clock h) ∙ le-ltb clock (2 ^ 63) k))
    | no k ↦ rw (ne_eqb clock 0 (λ z. omega arith), lt-leb (2 ^ 63) clock (omega arith), le-leb 1 clock h, lt-ltb clock (2 ^ 63) (omega arith))
  ]
  | no h ↦ or_l (eqb clock 0) _ (eq-eqb clock 0 (omega arith)) ∙ sym (ap not (and_no (leb 1 clock) (ltb clock (2 ^ 63)) (lt-leb 1 clock (omega arith))))
]

-- the conditions of refusals 10 and 11, which are tested last
abbrev late : ℕ → List ℕ → List ℕ → List Bool
late clock t buffer = (eqb clock 0 || leb (2 ^ 63) clock) ∷ not (eqb (length buffer) (length t)) ∷ []

late_lowest : (clock : ℕ) (t buffer : List ℕ) → late_refusal clock (length t) (length buffer) ≡ lowest 10 (late clock t buffer)
unfolding late_refusal lowest
late_lowest clock t buffer = ap (λ (b : Bool). ifb b 10 (ifb (not (eqb (length buffer) (length t))) 11 0)) (sym (below_one clock))

-- the number of what is answered where there is no refusal, and turned away where there is one
or_answered : (x : Effect) (t out buffer : List ℕ) (k : ℕ) → x.number ≡ 0 → (ifb (eqb k 0) x (turned_away t out buffer k)).number ≡ k
or_answered x t out buffer k p = on_bool (eqb k 0) (λ e. ap (λ (y : Effect). y.number) (ifb_true _ x _ e) ∙ p ∙ sym (eqb-true k 0 e)) (λ e. ap (λ (y : Effect). y.number) (ifb_false _ x _ e))

-- the conditions of refusals 7 to 11 where there is a frame
framing_number : (clock : ℕ) (t strip out buffer : List ℕ) (f : Frame)
    → (carry_out clock t strip out buffer (framing (Some f))).number
    ≡ ifb (not (version_ok f.header)) 7 (ifb (not (count_ok f)) 8 (ifb (not (option_ok (option_of f.header.option))) 9 (lowest 10 (late clock t buffer))))
unfolding framing carry_out answered
framing_number clock t strip out buffer f =
    if_ap number (not (version_ok f.header)) (refused 7) _
    ∙ ap (ifb (not (version_ok f.header)) 7)
    (if_ap number (not (count_ok f)) (refused 8) _
    ∙ ap (ifb (not (count_ok f)) 8) (if_ap number (not (option_ok (option_of f.header.option))) (refused 9) _
    ∙ ap (ifb (not (option_ok (option_of f.header.option))) 9) (or_answered _ t out buffer _ refl ∙ late_lowest clock t buffer)))
  where
    number : Framed → ℕ
    number x = (carry_out clock t strip out buffer x).number

-- refusals 6 to 11, by what the message reads as
frame_number : (clock : ℕ) (t strip out buffer : List ℕ) (o : Option Frame)
    → (carry_out clock t strip out buffer (framing o)).number
    ≡ lowest 6
    (not (is_some o)
    ∷ of_frame (λ f. not (version_ok f.header)) o
    ∷ of_frame (λ f. not (count_ok f)) o
    ∷ of_frame (λ f. not (option_ok (option_of f.header.option))) o
    ∷ late clock t buffer)
unfolding carry_out framing lowest is_some of_frame ifb
frame_number clock t strip out buffer None = refl
frame_number clock t strip out buffer (Some f) = framing_number clock t strip out buffer f

-- the number of a call, by its early refusal
abbrev numbered : Call → ℕ → ℕ
numbered c early =
    (ifb (eqb early 0) (carry_out c.clock c.table c.strip c.output c.undo (framing (message c.request >>= frame_in))) (turned c early)).number

rung : (c : Call) (k : ℕ) (b : Bool) (later : ℕ) {rest : ℕ} → numbered c later ≡ rest → numbered c (ifb b (suc k) later) ≡ ifb b (suc k) rest
unfolding ifb
rung c k true later e = ap (λ (x : Effect). x.number) (ifb_false (eqb (suc k) 0) _ _ (ne_eqb (suc k) 0 (λ z. omega arith)))
rung c k false later e = e

none_early : (c : Call) → numbered c 0 ≡ lowest 6
    (not (is_some (frame_of c))
    ∷ of_frame (λ f. not (version_ok f.header)) (frame_of c)
    ∷ of_frame (λ f. not (count_ok f)) (frame_of c)
    ∷ of_frame (λ f. not (option_ok (option_of f.header.option))) (frame_of c)
    ∷ late c.clock c.table c.undo)
unfolding ifb frame_of
none_early c = frame_number c.clock c.table c.strip c.output c.undo (frame_of c)

pub served_number : (c : Call) → (served c).number ≡ lowest 1 (refusal_conditions c)
unfolding serving early_refusal lowest refusal_conditions
served_number c =
    rung c 0 (ltb (length c.output) room_least) _
    (rung c 1 (not (eqb (length c.strip) strip_size)) _
    (rung c 2 (not (table_right c.table)) _
    (rung c 3 (eqb (length c.request) 0 || ltb request_most (length c.request)) _
    (rung c 4 (not (is_some (message c.request))) _
    (none_early c)))))

-- the lowest of some conditions is one of their numbers, or 0
pub lowest_most : (k : ℕ) (bs : List Bool) → 1 ≤ k → lowest k bs < k + length bs
unfolding lowest
lowest_most k [] h = omega arith
lowest_most k (b ∷ bs) h = on_if (λ (n : ℕ). n < k + suc (length bs)) (λ e. omega arith) (λ e. let g : lowest (suc k) bs < suc k + length bs = lowest_most (suc k) bs (omega arith) in omega arith)

-- ---- a refusal

-- the request that an accepted call makes
abbrev pub request_of : Frame → Request
request_of frame = record { option = option_of frame.header.option; items = frame.items }

-- what an accepted call has
pub record Accepted (c : Call) : Type 0 where
  pub room : room_least ≤ length c.output
  pub strip : length c.strip ≡ strip_size
  pub right : table_right c.table ≡ true
  pub items : Items
  pub frame : Frame
  pub reads : message c.request ≡ Some items
  pub framed : frame_in items ≡ Some frame
  pub counted : count_ok frame ≡ true
  pub asks : framing (Some frame) ≡ asked (request_of frame)
  pub clock : above_zero c.clock ≡ true
  pub sized : length c.undo ≡ length c.table

-- the clock that counts, as the definitions of the engine have it
abbrev pub counting : Call → ℕ
counting c = counted_clock c.clock c.table

-- the table that the first item meets
abbrev pub start_of : Call → List ℕ
start_of c = began (places_of c) (counting c) c.table

-- what an accepted call runs
abbrev pub ran_by : (c : Call) → Accepted c → Ran
ran_by c a = running (places_of c) c.strip (start_of c) (request_of a.frame)

-- what is left of it under its option, and what the second buffer holds then
abbrev pub left_of : (c : Call) → Accepted c → Ran
left_of c a = settled (request_of a.frame).option (start_of c) (ran_by c a)

abbrev pub kept_by : (c : Call) → Accepted c → List ℕ
kept_by c a = kept_in (request_of a.frame).option (start_of c) c.undo

-- what an accepted call leaves
abbrev pub answered_by : (c : Call) → Accepted c → Effect
answered_by c a = answered (counting c) c.output (kept_by c a) (left_of c a)

-- a call is turned away with a number that is not 0, or it is accepted and answered
pub data Told (c : Call) : Effect → Type 0 where
  away : (k : ℕ) → Told c (turned c (suc k))
  accepted : (a : Accepted c) → Told c (answered_by c a)

module _ (c : Call) where
  -- what a call leaves by its frame, where no early refusal applies
  abbrev decided : Framed → Effect
  decided x = carry_out c.clock c.table c.strip c.output c.undo x

  -- a late refusal, or none
  by_late : (x : Effect) (k : ℕ) → (k ≡ 0 → Told c x) → Told c (ifb (eqb k 0) x (turned c k))
  unfolding ifb
  by_late x zero h = h refl
  by_late x (suc k) h = subst (Told c) (sym (ifb_false _ x _ (ne_eqb (suc k) 0 (λ z. omega arith)))) (away k)

  -- where the sizes and the table are right, the frame that the request was read as decides
  by_frame : room_least ≤ length c.output → length c.strip ≡ strip_size → table_right c.table ≡ true
      → (items : Items) → message c.request ≡ Some items → (o : Option Frame) → frame_in items ≡ o
      → Told c (decided (framing o))
  unfolding framing carry_out
  by_frame room strip right items m None e = away 5
  by_frame room strip right items m (Some f) e =
      on_if (λ (x : Framed). Told c (decided x))
      (λ n. away 6)
      (λ version. on_if (λ (x : Framed). Told c (decided x))
      (λ n. away 7)
      (λ counted. on_if (λ (x : Framed). Told c (decided x))
      (λ n. away 8)
      (λ option. by_late _ (late_refusal c.clock (length c.table) (length c.undo))
      (λ z.
      let in_time = timely c.clock (length c.table) (length c.undo) z in
      accepted (record {
        room = room;
        strip = strip;
        right = right;
        items = items;
        frame = f;
        reads = m;
        framed = e;
        counted = not-false (count_ok f) counted;
        asks = ifb_false _ _ _ version ∙ ifb_false _ _ _ counted ∙ ifb_false _ _ _ option;
        clock = in_time.high;
        sized = in_time.sized;
      })))))

  -- every call is turned away or answered
  pub told : Told c (served c)
  unfolding framing carry_out ◌>>=◌
  told = by_early (early_refusal c.request c.table c.strip (length c.output)) refl
    where
      by_reading : Passed c.request c.table c.strip c.output → (m : Option Items) → message c.request ≡ m
          → Told c (decided (framing (m >>= frame_in)))
      by_reading p None m = away 5
      by_reading p (Some items) m = by_frame p.room p.strip_size p.right items m (frame_in items) refl

      by_early : (k : ℕ) → early_refusal c.request c.table c.strip (length c.output) ≡ k → Told c (served c)
      by_early zero e = let p = passed c.request c.table c.strip c.output e in subst (Told c) (sym (frame_decides p c.clock c.undo)) (by_reading p (message c.request) refl)
      by_early (suc k) e =
          subst (Told c) (sym (refused_early c.request c.table c.strip c.clock c.output c.undo (suc k) (sym e) (λ z. omega arith))) (away k)
