-- What ships, as a box: the postcondition of `junctionmoth_serve`, as the checker reads it. No other file writes a parameter's position.
-- Assumes nothing.
use mathlib.Core.Path.{◌≡◌, refl}
use contract.Lifetimes.{Lfts}
use borrow.Fn.Kinds.{Dens, res_t, ended_of}
use denote.Triple.Clauses.{AtExit}
use mir.Syntax.{w64}
use mir.Val.{of_z}
use Rattle.calls.specs.Effects.{Effect}
use Rattle.junctionmoth.specs.Boundary.{CallIs}
use Rattle.junctionmoth.proofs.junctionmoth_serve.Reads as reads
use Rattle.junctionmoth.proofs.junctionmoth_serve.Kinds as kinds
use Rattle.demands.specs.Box.{Call, Box, Lent}
use Rattle.demands.specs.Demand1.{Demand1}
use Rattle.demands.specs.Demand2.{Demand2}
use Rattle.demands.specs.Demand3.{Demand3}
use Rattle.demands_met.proofs.Ladder.{served, same_effect}
use Rattle.demands_met.proofs.Meets.{meets_1, meets_2}
use Rattle.demands_met.proofs.Meets3.{meets_3}

-- the contract of `junctionmoth_serve`, as a relation between what is lent and what is left
abbrev pub Serve : Box
Serve c e = CallIs c.request c.table c.strip c.clock c.output c.undo e.number e.length e.table e.output e.undo

-- ---- every real call is in it

module _ (κs : Lfts 6) (a : Dens κs kinds.ps) where
  -- what was lent to a call
  abbrev pub lent_to : Call
  lent_to = record {
    request = a.0.now;
    table = a.1.0.now;
    strip = a.1.1.0.now;
    clock = of_z w64 a.1.1.1.0;
    output = a.1.1.1.1.0.now;
    undo = a.1.1.1.1.1.1.0.now;
  }

  module _ (r : (res_t kinds.r κs).Denot) (s : AtExit (ended_of 6 kinds.ps kinds.r) κs) where
    -- what it left
    abbrev pub left_by : Effect
    left_by = record { number = r; length = s.1.1.1.1.1.0.now; table = s.1.0.now; output = s.1.1.1.1.0.now; undo = s.1.1.1.1.1.1.0.now }

    -- a call that meets its contract, as the checker reads the contract, is one of the box
    pub post_serves : reads.Post κs a r s → Serve lent_to left_by
    post_serves p = p

-- ---- the three demands

serve_is : (c : Call) (e : Effect) → Lent c → Serve c e → e ≡ served c
serve_is c e lent p = same_effect e (served c) p.number_is p.length_is p.table_is p.output_is p.undo_is

-- what the definitions give is in it
pub serve_right : (c : Call) → Serve c (served c)
serve_right c = record { number_is = refl; length_is = refl; table_is = refl; output_is = refl; undo_is = refl }

serve_has : (c : Call) → Lent c → (e : Effect) × Serve c e
serve_has c lent = (served c, serve_right c)

-- it always ends with an answer
pub demand_1 : Demand1 Serve
demand_1 = meets_1 Serve serve_is serve_has

-- it answers as KMIP 2.1 TTLV says, in the cut of document 01, and with one spelling
pub demand_2 : Demand2 Serve
demand_2 = meets_2 Serve serve_is serve_has

-- keys are counted and stay dead
pub demand_3 : Demand3 Serve
demand_3 = meets_3 Serve serve_is
