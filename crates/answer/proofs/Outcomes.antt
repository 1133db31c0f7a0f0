-- Outcomes read back: the payload of a success, the reason of a failure.
-- Assumes nothing.
use mathlib.Core.Path.{◌≡◌, refl, sym, ap, ◌∙◌}
use Prim.Native.Nat.{ℕ, ◌^◌, ◌<◌}
use native.Mathlib.Omega.{arith}
use mathlib.Core.Bool.{true, false, false≢true}
use Rattle.std.specs.Prelude.{Option, None, Some}
use mathlib.Core.List.{List, [], ◌∷◌}
use lib.Dec.{eqb}
use borrow.Author.Tests.{eqb-true}
use Rattle.octets.specs.If.{ifb}
use Rattle.octets.specs.Maybe.{◌>>=◌, ◌>>◌}
use Rattle.octets.proofs.If.{ifb_true, ifb_false, on_if, on_bool}
use Rattle.ttlv_types.specs.Types.{enumeration}
use Rattle.ttlv.specs.Items.{Items, nil, ended}
use Rattle.fields.specs.Fields.{body_of}
use Rattle.octets.proofs.Bools.{both}
use Rattle.tags.specs.Tags.{response_payload, result_reason, result_status}
use Rattle.rules.specs.declared.Reason.{Reason}
use Rattle.rules.specs.declared.Reason.TheVariants.{OperationNotSupported, InvalidField, ObjectNotFound, ObjectDestroyed, PermissionDenied, WrongKeyLifecycleState, UsageLimitExceeded, ServerLimitExceeded, NonUniqueName}
use Rattle.rules.specs.Numbers.{reason_number, create, locate, get, get_attributes, success, operation_failed, operation_undone}
use Rattle.plans.specs.declared.Outcome.{Outcome}
use Rattle.plans.specs.declared.Outcome.TheVariants.{Failed, Created, Done, Showed, Got, Located, Undone}
use Rattle.answer.specs.Respond.{word, succeeded, outcome_items}
use Rattle.answer.specs.Read.{done_in, showed_in, got_in, located_in, answers_done, payload_in, reasons, reason_among, failure_in, success_in, undone_in, status_in, outcome_in, serial_ok, link_ok, shown_ok, key_ok, outcome_ok}
use Rattle.octets.proofs.Maybe.{not_some, some_is, on_bind, on_test}
use Rattle.answer.proofs.Fields.{ended_is, body_spells, spelled_back, spelled_spells}
use Rattle.answer.proofs.Payloads.{created_back, created_spells, done_back, done_spells, showed_back, showed_spells, located_back, located_spells}
use Rattle.answer.proofs.Keys.{got_back, got_spells}

-- ---- reasons

pub reason_short : (r : Reason) → reason_number r < 256 ^ 4
reason_short OperationNotSupported = omega arith
reason_short InvalidField = omega arith
reason_short ObjectNotFound = omega arith
reason_short ObjectDestroyed = omega arith
reason_short PermissionDenied = omega arith
reason_short WrongKeyLifecycleState = omega arith
reason_short UsageLimitExceeded = omega arith
reason_short ServerLimitExceeded = omega arith
reason_short NonUniqueName = omega arith

-- each reason is the one that has its number
pub reason_back : (r : Reason) → reason_among (reason_number r) reasons ≡ Some r
unfolding reason_among ifb
reason_back OperationNotSupported = refl
reason_back InvalidField = refl
reason_back ObjectNotFound = refl
reason_back ObjectDestroyed = refl
reason_back PermissionDenied = refl
reason_back WrongKeyLifecycleState = refl
reason_back UsageLimitExceeded = refl
reason_back ServerLimitExceeded = refl
reason_back NonUniqueName = refl

pub reason_spells : (n : ℕ) (rs : List Reason) {r : Reason} → reason_among n rs ≡ Some r → n ≡ reason_number r
unfolding reason_among
reason_spells n [] h = absurd (not_some h)
reason_spells n (q ∷ rs) {r} h =
    on_if (λ (o : Option Reason). o ≡ Some r → n ≡ reason_number r) {b = eqb n (reason_number q)}
    (λ e g. eqb-true n (reason_number q) e ∙ ap reason_number (some_is g))
    (λ e g. reason_spells n rs g)
    h

-- ---- outcomes

failed_back : (operation : ℕ) (reason : Reason) → outcome_in operation (outcome_items (Failed reason)) ≡ Some (Failed reason)
unfolding outcome_in status_in outcome_items failure_in ifb ended ◌>>=◌ ◌>>◌
failed_back operation reason =
    rw (
      spelled_back 4 result_status enumeration operation_failed _ (omega arith),
      spelled_back 4 result_reason enumeration (reason_number reason) nil (reason_short reason),
      reason_back reason,
    )

succeeded_back : (operation : ℕ) (payload : Items) → outcome_in operation (succeeded payload) ≡ payload_in operation payload
unfolding outcome_in status_in success_in body_of ifb ended ◌>>=◌ ◌>>◌
succeeded_back operation payload = rw (spelled_back 4 result_status enumeration success _ (omega arith))

undone_back : (operation : ℕ) → outcome_in operation (outcome_items Undone) ≡ Some Undone
unfolding outcome_in status_in outcome_items undone_in ifb ended ◌>>=◌ ◌>>◌
undone_back operation = rw (spelled_back 4 result_status enumeration operation_undone _ (omega arith))

-- the operations that answer an identifier alone do not create
not_create : (operation : ℕ) → answers_done operation ≡ true → eqb operation create ≡ false
not_create operation h =
    on_bool (eqb operation create) (λ e. absurd (false≢true (ap answers_done (sym (eqb-true operation create e)) ∙ h))) (λ e. e)

pub outcome_back : (operation : ℕ) (o : Outcome) → outcome_ok operation o ≡ true → outcome_in operation (outcome_items o) ≡ Some o
unfolding outcome_ok outcome_items payload_in
outcome_back operation (Failed reason) h = failed_back operation reason
outcome_back operation (Created serial) h =
    let p = both (eqb operation create) (serial_ok serial) h in
    succeeded_back operation _ ∙ ifb_true _ _ _ p.0 ∙ created_back serial p.1
outcome_back operation (Done serial) h =
    let p = both (answers_done operation) (serial_ok serial) h in
    succeeded_back operation _ ∙ ifb_false _ _ _ (not_create operation p.0) ∙ ifb_true _ _ _ p.0 ∙ done_back serial p.1
outcome_back operation (Showed shown) h =
    let p = both (eqb operation get_attributes) (shown_ok shown) h in
    let e = eqb-true operation get_attributes p.0 in
    succeeded_back operation _ ∙ rw e (unfold ifb in showed_back shown p.1)
outcome_back operation (Got key) h =
    let p = both (eqb operation get) (key_ok key) h in
    let e = eqb-true operation get p.0 in
    succeeded_back operation _ ∙ rw e (unfold ifb in got_back key p.1)
outcome_back operation (Located serial) h =
    let p = both (eqb operation locate) (link_ok serial) h in
    let e = eqb-true operation locate p.0 in
    succeeded_back operation _ ∙ rw e (unfold ifb in located_back serial p.1)
outcome_back operation Undone h = undone_back operation

-- what is read as a success's payload was written as one
payload_spells : (operation : ℕ) (t : Items) {o : Outcome} → payload_in operation t ≡ Some o → succeeded t ≡ outcome_items o
unfolding payload_in outcome_items
payload_spells operation t {o} h = create_first h
  where
    Spelled : Option Outcome → Type 0
    Spelled q = q ≡ Some o → succeeded t ≡ outcome_items o

    last : Spelled (ifb (eqb operation locate) (located_in t) None)
    last = on_if Spelled (λ e g. let p = located_spells t g in ap succeeded p.2 ∙ sym (ap outcome_items p.1)) (λ e g. absurd (not_some g))

    got_next : Spelled (ifb (eqb operation get) (got_in t) (ifb (eqb operation locate) (located_in t) None))
    got_next = on_if Spelled (λ e g. let p = got_spells t g in ap succeeded p.2 ∙ sym (ap outcome_items p.1)) (λ e. last)

    showed_next : Spelled (ifb (eqb operation get_attributes) (showed_in t) (ifb (eqb operation get) (got_in t) (ifb (eqb operation locate) (located_in t) None)))
    showed_next = on_if Spelled (λ e g. let p = showed_spells t g in ap succeeded p.2 ∙ sym (ap outcome_items p.1)) (λ e. got_next)

    done_next : Spelled (ifb (answers_done operation) (done_in t) (ifb (eqb operation get_attributes) (showed_in t) (ifb (eqb operation get) (got_in t) (ifb (eqb operation locate) (located_in t) None))))
    done_next = on_if Spelled (λ e g. let p = done_spells t g in ap succeeded p.2 ∙ sym (ap outcome_items p.1)) (λ e. showed_next)

    create_first : Spelled (payload_in operation t)
    create_first = on_if Spelled (λ e g. let p = created_spells t g in ap succeeded p.2 ∙ sym (ap outcome_items p.1)) (λ e. done_next)

failure_spells : (t : Items) {o : Outcome} → failure_in t ≡ Some o → word result_status enumeration operation_failed t ≡ outcome_items o
unfolding failure_in outcome_items
failure_spells t h =
    on_bind h (λ n e1 h1. on_test h1 (λ u h2. on_bind h2 (λ r e3 w.
    let t1 = spelled_spells 4 result_reason enumeration t e1 in
    let t2 = ended_is n.1 u in
    let t3 = reason_spells n.0 reasons e3 in
    rw (← (some_is w), t1, t2, t3))))

success_spells : (operation : ℕ) (t : Items) {o : Outcome} → success_in operation t ≡ Some o → word result_status enumeration success t ≡ outcome_items o
unfolding success_in
success_spells operation t h =
    on_bind h (λ p e1 h1. on_test h1 (λ u w.
    let t1 = body_spells response_payload t e1 in
    let t2 = ended_is p.1 u in
    rw (t1, t2) (payload_spells operation p.0 w)))

undone_spells : (t : Items) {o : Outcome} → undone_in t ≡ Some o → word result_status enumeration operation_undone t ≡ outcome_items o
unfolding undone_in outcome_items
undone_spells t h = on_test h (λ u w. let t1 = ended_is t u in rw (← (some_is w), t1))

pub outcome_spells : (operation : ℕ) (t : Items) {o : Outcome} → outcome_in operation t ≡ Some o → t ≡ outcome_items o
unfolding outcome_in status_in
outcome_spells operation t {o} h =
    on_bind h (λ s e g. spelled_spells 4 result_status enumeration t e ∙ by_status s.0 s.1 g)
  where
    Spelled : ℕ → Items → Option Outcome → Type 0
    Spelled status rest q = q ≡ Some o → word result_status enumeration status rest ≡ outcome_items o

    undone_last : (status : ℕ) (rest : Items) → Spelled status rest (ifb (eqb status operation_undone) (undone_in rest) None)
    undone_last status rest =
        on_if (Spelled status rest) (λ e g. rw (eqb-true status operation_undone e) (undone_spells rest g)) (λ e g. absurd (not_some g))

    failed_next : (status : ℕ) (rest : Items) → Spelled status rest (ifb (eqb status operation_failed) (failure_in rest) (ifb (eqb status operation_undone) (undone_in rest) None))
    failed_next status rest =
        on_if (Spelled status rest) (λ e g. rw (eqb-true status operation_failed e) (failure_spells rest g)) (λ e. undone_last status rest)

    by_status : (status : ℕ) (rest : Items) → Spelled status rest (status_in operation status rest)
    by_status status rest =
        on_if (Spelled status rest) (λ e g. rw (eqb-true status success e) (success_spells operation rest g)) (λ e. failed_next status rest)
