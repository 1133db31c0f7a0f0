-- Demands 1 and 2 leave one box: what a call leaves follows from what is lent to it.
-- Assumes nothing.
use Prim.Native.Nat.{ℕ, suc, ◌+◌, ◌≤◌}
use native.Mathlib.Omega.{arith}
use mathlib.Core.Path.{◌≡◌, refl, sym, ap, ap₂, subst, ◌∙◌}
use mathlib.Core.Bool.{not}
use mathlib.Core.List.{List, [], ◌∷◌, ◌++◌}
use lib.ListN.{length, take, drop, take-append-drop}
use lib.Seq.{length-take-le}
use Rattle.octets.specs.If.{ifb}
use Rattle.octets.specs.Octets.{over}
use Rattle.octets.proofs.If.{ifb_true, ifb_false}
use Rattle.octets.proofs.Maybe.{some_is}
use Rattle.ttlv.specs.Items.{encode}
use Rattle.table.proofs.Same.{lead_same}
use Rattle.soundness.proofs.SoundIs.{sound_is}
use Rattle.soundness.proofs.Same.{sound_same}
use Rattle.batch_item.specs.Item.{Asked}
use Rattle.frame.specs.Frame.{Frame, frame_in, option_of}
use Rattle.plans.specs.Plans.{Did}
use Rattle.answer.specs.Respond.{Response, respond}
use Rattle.batch.specs.Batch.{Ran, answer_to, lastly, firstly, ends_batch, batch, running}
use Rattle.settle.specs.Undo.{settled as settled_ran, kept_in}
use Rattle.calls.specs.Effects.{Effect}
use Rattle.engine.specs.Serving.{response_to, answered}
use Rattle.demands.specs.Box.{Call, Box, Lent, places_of}
use Rattle.demands.specs.Demand1.{Demand1, Within}
use Rattle.demands.specs.Demand2.{Demand2, Answered, Begins, Link, answer_for, link_at, Chain, none_left, stops, goes_further, option_in, settled, answers_for, kept_for}
use Rattle.demands.specs.Demand3.{Demand3}
use Rattle.demands_met.proofs.Chains.{ends_not, due_step, ran_from, ran_of, settled_same}
use Rattle.demands_met.proofs.Ladder.{served, same_effect, served_number, Accepted, counting, start_of, ran_by, left_of, kept_by, turned, answered_by, Told, away, accepted, told}
use Rattle.demands_met.proofs.Meets.{counting_is, start_begins, front_is}
use Rattle.demands_met.proofs.Meets3.{meets_3}
use Rattle.demands_met.proofs.Serve.{Serve, serve_right}

-- ---- a chain is the batch

module _ (c : Call) (option : ℕ) where
  abbrev turn_of : ℕ → Asked → List Asked → Did → Ran
  turn_of i asked later x = ifb (ends_batch option x) (lastly (answer_to asked x) x.table) (firstly (answer_to asked x) (ran_from c option (i + 1) x.holder x.table later))

  pub chain_one : {i holder : ℕ} {t u : List ℕ} {items : List Asked} {links : List Link} → Chain c option i holder t items links u → ran_of links u ≡ ran_from c option i holder t items
  unfolding batch answer_for
  chain_one none_left = refl
  chain_one (stops {i} {holder} {t} {later} asked did d g) =
      subst (λ (x : Did). ran_of (link_at c i holder t asked did ∷ []) did.table ≡ turn_of i asked later x) (due_step (link_at c i holder t asked did) d)
      (sym (ifb_true (ends_batch option did) _ _ (ends_not option did ∙ ap not g)))
  chain_one (goes_further {i} {holder} {t} {u} {later} {links} asked did d g rest) =
      subst (λ (x : Did). ran_of (link_at c i holder t asked did ∷ links) u ≡ turn_of i asked later x) (due_step (link_at c i holder t asked did) d)
      (ap (λ (r : Ran). firstly (answer_to asked did) r) (chain_one rest) ∙ sym (ifb_false (ends_batch option did) _ _ (ends_not option did ∙ ap not g)))

-- ---- one effect

-- the table that the first item meets is the one that the definitions give
start_same : (c : Call) → Lent c → Accepted c → (start : List ℕ) → Begins c start → start ≡ start_of c
start_same c lent a start b =
    let ours = start_begins c lent a in
    let facts = sound_is (places_of c) start b.right in
    let also = sound_is (places_of c) (start_of c) ours.right in
    sound_same (places_of c) start (start_of c) b.right ours.right b.bytes ours.bytes
    (lead_same (places_of c) start (start_of c) facts.size also.size b.bytes ours.bytes
    (b.issued ∙ sym ours.issued) (facts.count ∙ sym also.count) (b.latest ∙ sym ours.latest))
    (λ i low. b.places i low ∙ sym (ours.places i low))

module _ (c : Call) (lent : Lent c) (e : Effect) (a : Accepted c) (g : Answered c e) where
  pub same_frame : g.frame ≡ a.frame
  same_frame = some_is (sym g.framed ∙ ap frame_in (some_is (sym g.reads ∙ a.reads)) ∙ a.framed)

  ran_is : ran_of g.links g.reached ≡ ran_by c a
  unfolding running
  ran_is =
      chain_one c (option_of a.frame.header.option)
      (subst (λ (f : Frame). Chain c (option_of f.header.option) 0 0 (start_of c) f.items g.links g.reached) same_frame
      (subst (λ (t : List ℕ). Chain c (option_of g.frame.header.option) 0 0 t g.frame.items g.links g.reached) (start_same c lent a g.start g.begins) g.chain))

  -- the answers and the table that the demand leaves under the option
  left_is : ◌≡◌ {A = Ran} (record { answers = answers_for (option_in g.frame) g.links; table = settled (option_in g.frame) g.start g.links g.reached }) (left_of c a)
  left_is =
      sym (settled_same (option_in g.frame) g.start g.links g.reached)
      ∙ ap (λ (f : Frame). settled_ran (option_in f) g.start (ran_of g.links g.reached)) same_frame
      ∙ ap (λ (t : List ℕ). settled_ran (option_in a.frame) t (ran_of g.links g.reached)) (start_same c lent a g.start g.begins)
      ∙ ap (settled_ran (option_in a.frame) (start_of c)) ran_is

  -- and what the second buffer holds
  kept_is : e.undo ≡ kept_by c a
  unfolding kept_in kept_for
  kept_is =
      g.kept
      ∙ ap (λ (f : Frame). kept_for (option_in f) g.start c.undo) same_frame
      ∙ ap (λ (t : List ℕ). kept_for (option_in a.frame) t c.undo) (start_same c lent a g.start g.begins)

  abbrev due : Response
  due = response_to (counting c) (left_of c a)

  front : take e.length e.output ≡ encode (respond due)
  front = g.spelling ∙ ap₂ (λ (k : ℕ) (x : Ran). encode (respond (response_to k x))) (sym (counting_is c)) left_is

  module _ (w : Within c e) where
    long : e.length ≡ length (encode (respond due))
    long = sym (length-take-le e.length e.output (subst (λ (k : ℕ). e.length ≤ k) (sym w.same_room) w.room)) ∙ ap length front

    out : e.output ≡ over (encode (respond due)) c.output
    out =
        sym (take-append-drop e.length e.output)
        ∙ ap (λ (s : List ℕ). s ++ drop e.length e.output) front
        ∙ ap (λ (s : List ℕ). encode (respond due) ++ s) w.past
        ∙ ap (λ (k : ℕ). encode (respond due) ++ drop k c.output) long

    pub only_accepted : e.number ≡ 0 → e ≡ answered_by c a
    unfolding answered
    only_accepted n = same_effect e (answered_by c a) n long (g.left ∙ ap (λ (x : Ran). x.table) left_is) out kept_is

-- ---- what demand 2 leaves of an accepted call

-- the table, the response and the second buffer are those that the definitions give
pub record AsDue (c : Call) (e : Effect) : Type 0 where
  pub table : e.table ≡ (served c).table
  pub bytes : take e.length e.output ≡ take (served c).length (served c).output
  pub undo : e.undo ≡ (served c).undo

pub answered_due : (c : Call) (e : Effect) → Lent c → Answered c e → (served c).number ≡ 0 → AsDue c e
unfolding answered
answered_due c e lent g n = let p = by_told (served c) (told c) n in record { table = p.0; bytes = p.1; undo = p.2 }
  where
    by_told : (f : Effect) → Told c f → f.number ≡ 0 → (e.table ≡ f.table) × (take e.length e.output ≡ take f.length f.output) × (e.undo ≡ f.undo)
    by_told f (away k) z = absurd (let q : suc k ≡ 0 = z in omega arith)
    by_told f (accepted a) z = (g.left ∙ ap (λ (x : Ran). x.table) (left_is c lent e a g), front c lent e a g ∙ sym (front_is c lent a), kept_is c lent e a g)

-- ---- one box

module _ (B : Box) (d1 : Demand1 B) (d2 : Demand2 B) where
  by_told : (c : Call) (e e' : Effect) → Lent c → B c e → Told c e' → e.number ≡ e'.number → e ≡ e'
  unfolding answered
  by_told c e e' lent b (away k) n =
      let u = d1.refused c e lent b (λ z. (let q : suc k ≡ 0 = sym n ∙ z in omega arith)) in
      same_effect e (turned c (suc k)) n u.length u.table u.output u.undo
  by_told c e e' lent b (accepted a) n = only_accepted c lent e a (d2.answered c e lent b n) (d1.answered c e lent b n) n

  -- "Number, length, output and table after a call follow from the inputs alone", and the second buffer: a box that meets demands 1 and 2 leaves what the definitions say
  pub only_box : (c : Call) (e : Effect) → Lent c → B c e → e ≡ served c
  only_box c e lent b = by_told c e (served c) lent b (told c) (d2.number c e lent b ∙ sym (served_number c))

  -- so what it leaves of a call, the box that ships leaves of it
  pub only_ours : (c : Call) (e : Effect) → Lent c → B c e → Serve c e
  only_ours c e lent b = subst (Serve c) (sym (only_box c e lent b)) (serve_right c)

  -- and the third demand follows from the first two
  pub third_follows : Demand3 B
  third_follows = meets_3 B only_box
