-- What is left of a batch under its option: a sound table too, and answers that are those of a response.
-- Assumes nothing.
use Prim.Native.Nat.{ℕ, ◌^◌}
use mathlib.Core.Path.{◌≡◌, refl}
use mathlib.Core.Bool.{Bool, true, ◌&&◌, ◌||◌}
use mathlib.Core.List.{List, [], ◌∷◌, map}
use lib.ListN.{length, length-map}
use lib.Dec.{leb, ltb, eqb}
use native.Mathlib.Omega.{arith}
use Rattle.octets.specs.If.{ifb}
use Rattle.octets.specs.Octets.{all}
use Rattle.octets.proofs.Bools.{and_i, both, or_l, or_r}
use Rattle.keeps.proofs.Keeps.{Held}
use Rattle.rules.specs.Numbers.{create, locate, get, get_attributes}
use Rattle.batch_item.specs.Item.{Asked, id_most}
use Rattle.plans.specs.declared.Outcome.{Outcome}
use Rattle.plans.specs.declared.Outcome.TheVariants.{Failed, Created, Done, Showed, Got, Located, Undone}
use Rattle.plans.specs.Plans.{is_failed}
use Rattle.answer.specs.Respond.{Answer}
use Rattle.answer.specs.Read.{serial_ok, link_ok, shown_ok, key_ok, answers_done, outcome_ok, answer_ok}
use Rattle.batch.specs.Batch.{Ran}
use Rattle.settle.specs.Undo.{settled}
use Rattle.undone_answers.specs.Undone.{or_undone, undone_to}
use Rattle.octets.proofs.If.{on_if}
use Rattle.octets.specs.Octets.{Bytes}
use Rattle.batch_keeps.proofs.Batches.{Leaves}

-- ---- what succeeded may be undone

undone_ok : (operation : ℕ) (o : Outcome) → outcome_ok operation o ≡ true → outcome_ok operation (or_undone o) ≡ true
unfolding outcome_ok or_undone is_failed ifb
undone_ok operation (Failed reason) h = refl
undone_ok operation (Created serial) h = or_l _ _ (or_l _ _ (or_l _ _ (or_l (eqb operation create) (answers_done operation) (both (eqb operation create) (serial_ok serial) h).0)))
undone_ok operation (Done serial) h = or_l _ _ (or_l _ _ (or_l _ _ (or_r (eqb operation create) (answers_done operation) (both (answers_done operation) (serial_ok serial) h).0)))
undone_ok operation (Showed shown) h = or_l _ _ (or_l _ _ (or_r (eqb operation create || answers_done operation) (eqb operation get_attributes) (both (eqb operation get_attributes) (shown_ok shown) h).0))
undone_ok operation (Got key) h = or_l _ _ (or_r (eqb operation create || answers_done operation || eqb operation get_attributes) (eqb operation get) (both (eqb operation get) (key_ok key) h).0)
undone_ok operation (Located serial) h = or_r (eqb operation create || answers_done operation || eqb operation get_attributes || eqb operation get) (eqb operation locate) (both (eqb operation locate) (link_ok serial) h).0
undone_ok operation Undone h = h

pub undone_answer_ok : (a : Answer) → answer_ok a ≡ true → answer_ok (undone_to a) ≡ true
unfolding answer_ok
undone_answer_ok a h =
    let front : Bool = ltb a.operation (2 ^ 32) && leb (length a.id) id_most in
    let p = both front (outcome_ok a.operation a.outcome) h in
    and_i front (outcome_ok a.operation (or_undone a.outcome)) p.0 (undone_ok a.operation a.outcome p.1)

undone_all_ok : (answers : List Answer) → all answer_ok answers ≡ true → all answer_ok (map undone_to answers) ≡ true
unfolding all
undone_all_ok [] h = refl
undone_all_ok (a ∷ answers) h =
    let p = both (answer_ok a) (all answer_ok answers) h in
    and_i (answer_ok (undone_to a)) (all answer_ok (map undone_to answers)) (undone_answer_ok a p.0) (undone_all_ok answers p.1)

-- ---- the whole

module _ (places : ℕ) (strip : List ℕ) (option : ℕ) (strip_bytes : Bytes strip) where
  pub settled_leaves : (t : List ℕ) (items : List Asked) (ran : Ran) → Held places t → Leaves places strip option strip_bytes t items ran
      → Leaves places strip option strip_bytes t items (settled option t ran)
  unfolding settled
  settled_leaves t items ran held is =
      on_if (Leaves places strip option strip_bytes t items)
      (λ e. record {
        held = held;
        latest = refl;
        ok = undone_all_ok ran.answers is.ok;
        few = omega (arith, length-map ran.answers undone_to, is.few);
        some = λ q. let l = is.some q in omega (arith, length-map ran.answers undone_to);
      })
      (λ e. is)
