-- Names differ at every point of a run, and Locate answers the one record that has the name, for every box that meets demands 1 and 2, and for ours.
-- Assumes nothing.
use Prim.Native.Nat.{ℕ, ◌+◌, ◌*◌, ◌≤◌}
use native.Mathlib.Omega.{arith}
use mathlib.Core.Path.{◌≡◌, sym, ap, subst, ◌∙◌}
use mathlib.Core.Bool.{true}
use mathlib.Core.List.{List}
use lib.ListN.{length}
use Rattle.octets.specs.Octets.{Bytes}
use Rattle.names.specs.declared.Name.{Name}
use Rattle.names.specs.Names.{is_named}
use Rattle.table.specs.Layout.{material_size}
use Rattle.keeps.proofs.Keeps.{Held}
use Rattle.batch_item.specs.Item.{Asked}
use Rattle.frame.specs.Frame.{option_of}
use Rattle.plans.specs.Plans.{Did, env_at}
use Rattle.act.specs.Act.{step}
use Rattle.batch_keeps.proofs.Steps.{step_held}
use Rattle.batch_keeps.proofs.Batches.{own_bytes, own_long}
use Rattle.demands.specs.Box.{Call, Box, places_of}
use Rattle.demands.specs.Demand1.{Demand1}
use Rattle.demands.specs.Demand2.{Demand2, Link, Due, link_at, Chain, none_left, stops, goes_further}
use Rattle.demands.specs.Demand3.{Finds}
use Rattle.hopes.specs.Hope.{Every, none, more}
use Rattle.hopes.specs.Names.{LocatedAs, Named, Naming}
use Rattle.demands_met.proofs.Chains.{due_step}
use Rattle.demands_met.proofs.Locates.{names_apart, asked_named, step_finds}
use Rattle.hopes.proofs.Hoped.{start_point, strip_fits, number_is, run_reached, run_places}
use Rattle.demands_met.proofs.Serve.{Serve, demand_1, demand_2}

-- ---- a table

-- what a search for a name finds has it alone
module _ {n : ℕ} (t : List ℕ) (held : Held n t) where
  only_located : (name : Name) → is_named name ≡ true → (serial : ℕ) → Finds n name t serial → LocatedAs n name t serial
  only_located name is serial f = record {
    nothing = f.nothing;
    there = λ z. (let h = f.there z in (
      h.0,
      h.1,
      record {
        here = h.2;
        only = λ j l q. names_apart t held j h.0 l h.1.below (ap is_named q ∙ is) (q ∙ sym h.2);
      },
    ));
  }

-- ---- the items of a call

module _ (c : Call) (strip_bytes : Bytes c.strip) (option : ℕ) where
  -- a link that is due is the one that is carried out
  due_named : (i holder : ℕ) (t : List ℕ) (asked : Asked) → material_size * i + material_size ≤ length c.strip → Held (places_of c) t
      → (did : Did) → Due (link_at c i holder t asked did) → Named (places_of c) (link_at c i holder t asked did) × Held (places_of c) did.table
  due_named i holder t asked fits held did d =
      let own = env_at (places_of c) c.strip i in
      let after : Held (places_of c) (step own holder t asked).table =
      step_held own holder t held (own_bytes (places_of c) c.strip option strip_bytes i fits) (own_long (places_of c) c.strip option strip_bytes i fits) asked in
      subst (λ (q : Did). Named (places_of c) (link_at c i holder t asked q) × Held (places_of c) q.table) (sym (due_step (link_at c i holder t asked did) d))
      (record { meets = names_apart t held; leaves = names_apart (step own holder t asked).table after; locates = λ name e. only_located t held name (asked_named asked.operation asked.payload e) _ (step_finds c.strip i holder t asked held name e) }, after)

  chain_named : {i holder : ℕ} {t u : List ℕ} {items : List Asked} {links : List Link} → Chain c option i holder t items links u
      → material_size * (i + length items) ≤ length c.strip → Held (places_of c) t → Every (Named (places_of c)) links
  chain_named none_left fits held = none
  chain_named (stops {i} {holder} {t} asked did d g) fits held = more (due_named i holder t asked (omega arith) held did d).0 none
  chain_named (goes_further {i} {holder} {t} asked did d g rest) fits held =
      let q = due_named i holder t asked (omega arith) held did d in
      more q.0 (chain_named rest (omega arith) q.1)

-- ---- a run

module _ (B : Box) (d1 : Demand1 B) (d2 : Demand2 B) where
  pub naming_follows : Naming B
  naming_follows n ok = record {
    apart = λ {log} {t} run. names_apart t (run_reached B d1 d2 n ok run).point.held;
    between = λ run c e same lent b z g.
        let a = number_is B d1 d2 c e lent b z in
        subst (λ (k : ℕ). Every (Named k) g.links) (run_places B d1 d2 n ok run c same)
        (chain_named c lent.strip (option_of g.frame.header.option) g.chain (strip_fits c e lent a g) (start_point c e lent a g).held);
  }

-- the box that ships has it
pub naming : Naming Serve
naming = naming_follows Serve demand_1 demand_2
