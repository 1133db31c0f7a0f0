-- The hope of dates that stand firm, for every box that meets demands 1 and 2, and for ours.
-- Assumes nothing.
use Prim.Native.Nat.{ℕ, suc, ◌+◌, ◌*◌, ◌≤◌, max}
use native.Mathlib.Nat.{le-max_right, le_trans}
use native.Mathlib.Omega.{arith}
use native.Mathlib.Decide.{ℕ_discrete}
use mathlib.Core.Path.{◌≡◌, refl, sym, ap, subst, ◌∙◌}
use mathlib.Core.Bool.{true}
use mathlib.Core.List.{List, [], ◌∷◌}
use lib.ListN.{length}
use borrow.Author.Tests.{eq-eqb, ne_eqb}
use Rattle.octets.specs.Octets.{Bytes}
use Rattle.octets.proofs.If.{ifb_true, ifb_false, on_if}
use Rattle.table.specs.declared.Record.{Record}
use Rattle.table.specs.Layout.{places_ok, material_size}
use Rattle.table.specs.Records.{place_at, last_serial, latest_clock, blank}
use Rattle.table.proofs.Blank.{latest_blank, place_blank}
use Rattle.rules.specs.Numbers.{pre_active, active, deactivated}
use Rattle.date_rules.specs.Dates.{has_come}
use Rattle.place_counts.proofs.Counts.{count_fits}
use Rattle.keeps.proofs.Keeps.{Held, facts, held_blank}
use Rattle.keeps.proofs.Dates.{began_latest}
use Rattle.batch_item.specs.Item.{Asked}
use Rattle.frame.specs.Frame.{Frame, option_of}
use Rattle.plans.specs.Plans.{Did, env_at}
use Rattle.act.specs.Act.{step}
use Rattle.calls.specs.Effects.{Effect}
use Rattle.batch.specs.Batch.{Ran, running}
use Rattle.settle.specs.Undo.{settled as settled_ran}
use Rattle.engine.specs.Serving.{answered}
use Rattle.batch_keeps.proofs.Steps.{step_held, step_latest}
use Rattle.batch_keeps.proofs.Batches.{own_bytes, own_long}
use Rattle.demands.specs.Box.{Call, Box, Lent, places_of, counted}
use Rattle.demands.specs.Log.{Event, paired, events_of, onto, granted, logged}
use Rattle.demands.specs.Demand1.{Demand1}
use Rattle.demands.specs.Demand2.{Demand2, Answered, Link, Due, link_at, Chain, none_left, stops, goes_further, settled}
use Rattle.demands.specs.Demand3.{Later, here, further, Run, begins, calls, Stands}
use Rattle.hopes.specs.Hope.{heard, largest, InTime, Spends, Stopped, Firm, Every, none, more, Hope}
use Rattle.demands_met.proofs.Chains.{due_step}
use Rattle.demands_met.proofs.Ladder.{served, served_number, Accepted, counting, start_of, Told, away, accepted, told}
use Rattle.demands_met.proofs.Meets.{counting_is, held_lent, counting_later, counting_fits, held_start, count_facts}
use Rattle.demands_met.proofs.Only.{same_frame, only_box}
use Rattle.demands_met.proofs.Unmade.{unmade_granted, batch_unmade}
use Rattle.demands_met.proofs.Runs.{events_away, events_accepted, strip_fits as run_fits}
use Rattle.demands_met.proofs.Follows.{later_run}
use Rattle.hopes.proofs.Idle.{IdleIn, batch_nothing, began_idle}
use Rattle.demands_met.proofs.Serve.{Serve, demand_1, demand_2}
use Rattle.hopes.proofs.Firm.{step_in_time, step_spends, step_stopped, begins_in_time, begins_stopped}

-- ---- the items of a call

-- what holds between two items
pub record Point (n : ℕ) (clock : ℕ) (t : List ℕ) : Type 0 where
  pub held : Held n t
  latest : latest_clock t ≡ clock
  in_time : InTime n clock t

-- the items from one point on: each is firm, and so is what they lead to
record Reaches (n : ℕ) (clock : ℕ) (t : List ℕ) (links : List Link) (u : List ℕ) : Type 0 where
  firm : Every (Firm n clock) links
  point : Point n clock u
  stopped : (x : ℕ) → Stopped n x t → Stopped n x u

module _ (c : Call) (strip_bytes : Bytes c.strip) (option clock : ℕ) where
  module _ (i holder : ℕ) (t : List ℕ) (asked : Asked) (fits : material_size * i + material_size ≤ length c.strip) (p : Point (places_of c) clock t) where
    abbrev fresh : Bytes (env_at (places_of c) c.strip i).fresh
    fresh = own_bytes (places_of c) c.strip option strip_bytes i fits

    abbrev long : material_size ≤ length (env_at (places_of c) c.strip i).fresh
    long = own_long (places_of c) c.strip option strip_bytes i fits

    abbrev stepped : Did
    stepped = step (env_at (places_of c) c.strip i) holder t asked

    before : InTime (places_of c) (latest_clock t) t
    before = subst (λ (k : ℕ). InTime (places_of c) k t) (sym p.latest) p.in_time

    step_point : Point (places_of c) clock stepped.table
    step_point = record {
      held = step_held (env_at (places_of c) c.strip i) holder t p.held fresh long asked;
      latest = step_latest (env_at (places_of c) c.strip i) holder t p.held fresh long asked ∙ p.latest;
      in_time = subst (λ (k : ℕ). InTime (places_of c) k stepped.table) p.latest (step_in_time c.strip i holder t asked p.held fresh long before);
    }

    step_firm : Firm (places_of c) clock (link_at c i holder t asked stepped)
    step_firm = record {
      meets = p.in_time;
      leaves = step_point.in_time;
      spends = λ x h. subst (λ (k : ℕ). Spends (places_of c) k x t) p.latest (step_spends c.strip i holder t asked p.held fresh long before x h);
      stopped = λ x z s. step_stopped c.strip i holder t asked p.held fresh long x s;
    }

    -- a link that is due is the one that is carried out
    due_point : (did : Did) → Due (link_at c i holder t asked did) → Firm (places_of c) clock (link_at c i holder t asked did) × Point (places_of c) clock did.table × ((x : ℕ) → Stopped (places_of c) x t → Stopped (places_of c) x did.table)
    due_point did d =
        subst (λ (q : Did). Firm (places_of c) clock (link_at c i holder t asked q) × Point (places_of c) clock q.table × ((x : ℕ) → Stopped (places_of c) x t → Stopped (places_of c) x q.table)) (sym (due_step (link_at c i holder t asked did) d))
        (step_firm, step_point, λ x s. step_stopped c.strip i holder t asked p.held fresh long x s)

  chain_firm : {i holder : ℕ} {t u : List ℕ} {items : List Asked} {links : List Link} → Chain c option i holder t items links u
      → material_size * (i + length items) ≤ length c.strip → Point (places_of c) clock t → Reaches (places_of c) clock t links u
  chain_firm none_left fits p = record { firm = none; point = p; stopped = λ x s. s }
  chain_firm (stops {i} {holder} {t} asked did d g) fits p =
      let q = due_point i holder t asked (omega arith) p did d in
      record { firm = more q.0 none; point = q.1; stopped = q.2 }
  chain_firm (goes_further {i} {holder} {t} asked did d g rest) fits p =
      let q = due_point i holder t asked (omega arith) p did d in
      let later = chain_firm rest (omega arith) q.1 in
      record { firm = more q.0 later.firm; point = later.point; stopped = λ x s. later.stopped x (q.2 x s) }

-- ---- a call

-- a call whose number is 0 is accepted
accepted_call : (c : Call) → (served c).number ≡ 0 → Accepted c
unfolding answered
accepted_call c n = by_told (served c) (told c) n
  where
    by_told : (f : Effect) → Told c f → f.number ≡ 0 → Accepted c
    by_told f (away k) z = absurd (let q : suc k ≡ 0 = z in omega arith)
    by_told f (accepted a) z = a

module _ (c : Call) (e : Effect) (lent : Lent c) (a : Accepted c) (g : Answered c e) where
  pub start_point : Point (places_of c) (counted c) g.start
  start_point = record { held = record { right = g.begins.right; bytes = g.begins.bytes }; latest = g.begins.latest; in_time = begins_in_time c g.start g.begins }

  pub strip_fits : material_size * (0 + length g.frame.items) ≤ length c.strip
  strip_fits = subst (λ (f : Frame). material_size * (0 + length f.items) ≤ length c.strip) (sym (same_frame c lent e a g)) (omega (arith, (count_facts c lent a).1, a.strip))

  reaches : Reaches (places_of c) (counted c) g.start g.links g.reached
  reaches = chain_firm c lent.strip (option_of g.frame.header.option) (counted c) g.chain strip_fits start_point

  -- what it leaves
  left_point : Point (places_of c) (counted c) e.table
  unfolding settled
  left_point = subst (Point (places_of c) (counted c)) (sym g.left) (on_if (Point (places_of c) (counted c)) (λ undone. start_point) (λ kept. reaches.point))

  left_stopped : (x : ℕ) → Stopped (places_of c) x c.table → Stopped (places_of c) x e.table
  unfolding settled
  left_stopped x s =
      let begun = begins_stopped c g.start g.begins x s in
      subst (Stopped (places_of c) x) (sym g.left) (on_if (Stopped (places_of c) x) (λ undone. begun) (λ kept. reaches.stopped x begun))

-- ---- a key past its date

module _ (c : Call) (lent : Lent c) (x i : ℕ) (z : x ≡ 0 → ⊥) (s : Stands (places_of c) x c.table i) (come : has_come (counted c) (place_at (places_of c) c.table i).deactivation ≡ true) (log : List Event) where
  told_nothing : (e : Effect) → Told c e → granted x (onto (events_of c e) log) ≡ granted x log
  unfolding onto running settled_ran answered
  told_nothing e (away k) = ap (λ (events : List Event). granted x (onto events log)) (events_away c (suc k))
  told_nothing e (accepted a) =
      let held = held_lent c lent a in
      let later = counting_later c lent a in
      let fits = counting_fits c lent a in
      let come_now = subst (λ (k : ℕ). has_come k (place_at (places_of c) c.table i).deactivation ≡ true) (sym (counting_is c)) come in
      ap (λ (events : List Event). granted x (onto events log)) (events_accepted c lent a)
      ∙ on_if (λ (left : Ran). granted x (onto (paired 0 a.frame.items left.answers) log) ≡ granted x log)
      (λ undone. unmade_granted x (batch_unmade (places_of c) c.strip (option_of a.frame.header.option) a.frame.items 0 0 0 (start_of c)) log)
      (λ kept. batch_nothing (places_of c) c.strip (option_of a.frame.header.option) lent.strip x a.frame.items 0 0 0 (start_of c) log (run_fits c lent a) (held_start c lent a)
      (subst (λ (k : ℕ). IdleIn (places_of c) k x (start_of c)) (sym (began_latest (places_of c) c.table held (counting c) later fits))
      (began_idle c.table held (counting c) later fits x i z s.below s.serial come_now)))

-- ---- a run

-- what holds at every point of a run
pub record Reached (n : ℕ) (clocks : List ℕ) (t : List ℕ) : Type 0 where
  pub point : Point n (latest_clock t) t
  largest_is : latest_clock t ≡ largest clocks

blank_reached : (n : ℕ) → places_ok n ≡ true → Reached n [] (blank n)
unfolding largest
blank_reached n ok = record {
  point = record {
    held = held_blank n (count_fits n ok);
    latest = refl;
    in_time = λ i low e. absurd (let z : (place_at n (blank n) i).state ≡ 0 = ap (λ (r : Record). r.state) (place_blank n i low) in omega arith);
  };
  largest_is = latest_blank n;
}

-- the places of a table that is held are those that it says
pub said_places : {n : ℕ} (c : Call) → Held n c.table → places_of c ≡ n
said_places {n} c held = (facts n c.table held).count

module _ (B : Box) (d1 : Demand1 B) (d2 : Demand2 B) where
  pub number_is : (c : Call) (e : Effect) → Lent c → B c e → e.number ≡ 0 → Accepted c
  number_is c e lent b n = accepted_call c (served_number c ∙ sym (d2.number c e lent b) ∙ n)

  -- ---- from one point of a run to a later one

  call_forward : (c : Call) (e : Effect) → Lent c → B c e → latest_clock c.table ≤ latest_clock e.table
  call_forward c e lent b = elim (ℕ_discrete e.number 0) [
    | yes n ↦ rw (d2.answered c e lent b n).stored (le-max_right c.clock (latest_clock c.table))
    | no n ↦ rw (d1.refused c e lent b n).table (omega arith)
  ]

  call_stopped : (c : Call) (e : Effect) → Lent c → B c e → (x : ℕ) → Stopped (places_of c) x c.table → Stopped (places_of c) x e.table
  call_stopped c e lent b x s = elim (ℕ_discrete e.number 0) [
    | yes n ↦ left_stopped c e lent (number_is c e lent b n) (d2.answered c e lent b n) x s
    | no n ↦ subst (Stopped (places_of c) x) (sym (d1.refused c e lent b n).table) s
  ]

  call_nothing : (c : Call) (e : Effect) → Lent c → B c e → (x i : ℕ) → (x ≡ 0 → ⊥) → Stands (places_of c) x c.table i
      → has_come (counted c) (place_at (places_of c) c.table i).deactivation ≡ true → (log : List Event) → granted x (logged c e log) ≡ granted x log
  unfolding logged
  call_nothing c e lent b x i z s come log =
      ap (λ (f : Effect). granted x (onto (events_of c f) log)) (only_box B d1 d2 c e lent b) ∙ told_nothing c lent x i z s come log (served c) (told c)

  -- a call that is refused leaves the table, and one that is accepted leaves a point at the clock that counts
  call_reached : {n : ℕ} (c : Call) (e : Effect) → Lent c → B c e → (clocks : List ℕ) → Reached n clocks c.table
      → (e.number ≡ 0 → Reached n (c.clock ∷ clocks) e.table) × ((e.number ≡ 0 → ⊥) → e.table ≡ c.table)
  unfolding largest
  call_reached {n} c e lent b clocks r = (
    λ zero.
        let g = d2.answered c e lent b zero in
        let p = subst (λ (k : ℕ). Point k (counted c) e.table) (said_places c r.point.held) (left_point c e lent (number_is c e lent b zero) g) in
        record {
          point = subst (λ (k : ℕ). Point n k e.table) (sym p.latest) p;
          largest_is = p.latest ∙ ap (max c.clock) r.largest_is;
        },
    λ other. (d1.refused c e lent b other).table,
  )

  module _ (n : ℕ) (ok : places_ok n ≡ true) where
    pub run_reached : {log : List Event} {t : List ℕ} (run : Run n B log t) → Reached n (heard n run) t
    unfolding heard
    run_reached begins = blank_reached n ok
    run_reached (calls {log} {t} c e run same lent b) =
        let r : Reached n (heard n run) c.table = subst (Reached n (heard n run)) (sym same) (run_reached run) in
        let w = call_reached c e lent b (heard n run) r in
        elim (ℕ_discrete e.number 0) [
          | yes z ↦ subst (λ (clocks : List ℕ). Reached n clocks e.table) (sym (ifb_true _ (c.clock ∷ heard n run) (heard n run) (eq-eqb e.number 0 z))) (w.0 z)
          | no z ↦ subst (λ (clocks : List ℕ). Reached n clocks e.table) (sym (ifb_false _ (c.clock ∷ heard n run) (heard n run) (ne_eqb e.number 0 z)))
              (subst (Reached n (heard n run)) (sym (w.1 z)) r)
        ]

    -- a call of a run is on n places
    pub run_places : {log : List Event} {t : List ℕ} → Run n B log t → (c : Call) → c.table ≡ t → places_of c ≡ n
    run_places run c same = said_places c (subst (Held n) (sym same) (run_reached run).point.held)

    later_forward : {log : List Event} {t : List ℕ} {log' : List Event} {t' : List ℕ} → Later n B log t log' t' → latest_clock t ≤ latest_clock t'
    later_forward here = omega arith
    later_forward (further {log'} {t'} c e l same lent b) =
        let before = later_forward l in
        let on : latest_clock t' ≤ latest_clock e.table = subst (λ (u : List ℕ). latest_clock u ≤ latest_clock e.table) same (call_forward c e lent b) in
        le_trans before on

    later_stopped : {log : List Event} {t : List ℕ} {log' : List Event} {t' : List ℕ} → Run n B log t → (x : ℕ) → Stopped n x t → Later n B log t log' t' → Stopped n x t'
    later_stopped run x s here = s
    later_stopped run x s (further c e l same lent b) =
        subst (λ (k : ℕ). Stopped k x c.table → Stopped k x e.table) (run_places (later_run run l) c same) (call_stopped c e lent b x)
        (subst (Stopped n x) (sym same) (later_stopped run x s l))

    -- a Deactivated key that stands is stopped
    deactivated_stopped : (t : List ℕ) → Held n t → (x i : ℕ) → (x ≡ 0 → ⊥) → Stands n x t i → (place_at n t i).state ≡ deactivated → Stopped n x t
    deactivated_stopped t held x i z s e = record {
      issued = subst (λ (k : ℕ). k ≤ last_serial t) s.serial ((facts n t held).issued i s.below);
      past = λ j u.
          let q : i ≡ j = (facts n t held).distinct i j s.below u.below (λ k. z (sym s.serial ∙ k)) (s.serial ∙ sym u.serial) in
          subst (λ (k : ℕ). ((place_at n t k).state ≡ pre_active → ⊥) × ((place_at n t k).state ≡ active → ⊥)) q (λ a. omega arith, λ a. omega arith);
    }

  pub hope_follows : Hope B
  hope_follows n ok = record {
    largest_clock = λ run. (run_reached n ok run).largest_is;
    never_falls = λ run l. later_forward n ok l;
    in_time = λ run. (run_reached n ok run).point.in_time;
    spends_nothing = λ {log} {t} run c e same lent b x i z.
        subst (λ (u : List ℕ). Stands n x u i → has_come (counted c) (place_at n u i).deactivation ≡ true → granted x (logged c e log) ≡ granted x log) same
        (subst (λ (k : ℕ). Stands k x c.table i → has_come (counted c) (place_at k c.table i).deactivation ≡ true → granted x (logged c e log) ≡ granted x log) (run_places n ok run c same)
        (λ s come. call_nothing c e lent b x i z s come log));
    firm = λ run c e same lent b z g. subst (λ (k : ℕ). Every (Firm k (counted c)) g.links) (run_places n ok run c same) (reaches c e lent (number_is c e lent b z) g).firm;
    stopped_begins = λ run c e same lent b z g x y s.
        subst (λ (k : ℕ). Stopped k x c.table → Stopped k x g.start) (run_places n ok run c same) (begins_stopped c g.start g.begins x) (subst (Stopped n x) (sym same) s);
    never_again = λ {log} {log'} {t} {t'} run x i z s e l j u. (later_stopped n ok run x (deactivated_stopped n ok t (run_reached n ok run).point.held x i z s e) l).past j u;
  }

-- the box that ships has it
pub hope : Hope Serve
hope = hope_follows Serve demand_1 demand_2
