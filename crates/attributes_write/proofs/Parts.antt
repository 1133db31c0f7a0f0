-- The parts of a key's attributes that may be absent, with what stands behind them.
-- Assumes nothing.
use mathlib.Core.Path.{◌≡◌, sym, ap, ◌∙◌}
use Prim.Native.Nat.{ℕ}
use lib.Dec.{eqb}
use Rattle.ttlv_types.specs.Types.{long_integer, enumeration, date_time}
use Rattle.ttlv.specs.Items.{Items, nil, group}
use Rattle.ttlv_put.specs.Write.{join}
use Rattle.tags.specs.Tags.{activation_date, deactivation_date, usage_limits, usage_limits_count, usage_limits_total, usage_limits_unit, link, link_type, linked_object_identifier}
use Rattle.plans.specs.declared.Shown.{Shown}
use Rattle.answer.specs.Respond.{word, long, named, date_items, limit_items, link_items}
use Rattle.ttlv_put.proofs.Sizes.{join_assoc}
use Rattle.named_write.proofs.Compose.{join_if}

pub date_join : (tag date : ℕ) (u : Items) → join (date_items tag date nil) u ≡ date_items tag date u
unfolding date_items join
date_join tag date u = join_if (eqb date 0) (long tag date_time date nil) u

pub link_join : (kind serial : ℕ) (u : Items) → join (link_items kind serial nil) u ≡ link_items kind serial u
unfolding link_items join
link_join kind serial u = join_if (eqb serial 0) (group link (word link_type enumeration kind (named linked_object_identifier serial nil)) nil) u

pub limit_join : (s : Shown) (u : Items) → join (limit_items s nil) u ≡ limit_items s u
unfolding limit_items join
limit_join s u =
    join_if (eqb s.unit 0)
    (group usage_limits (long usage_limits_total long_integer s.total (long usage_limits_count long_integer s.count (word usage_limits_unit enumeration s.unit nil))) nil)
    u

-- both dates and the limit
pub dated_join : (s : Shown) (u : Items)
    → join (join (date_items activation_date s.activation (date_items deactivation_date s.deactivation nil)) (limit_items s nil)) u
    ≡ date_items activation_date s.activation (date_items deactivation_date s.deactivation (limit_items s u))
dated_join s u =
    let limit = limit_items s nil in
    let start = date_items activation_date s.activation nil in
    let stop = date_items deactivation_date s.deactivation nil in
    let tail : join (join stop limit) u ≡ date_items deactivation_date s.deactivation (limit_items s u) = join_assoc stop limit u ∙ date_join deactivation_date s.deactivation (join limit u) ∙ ap (date_items deactivation_date s.deactivation) (limit_join s u) in
    let front : join (date_items activation_date s.activation stop) limit ≡ join start (join stop limit) = ap (λ (x : Items). join x limit) (sym (date_join activation_date s.activation stop)) ∙ join_assoc start stop limit in
    ap (λ (x : Items). join x u) front ∙ join_assoc start (join stop limit) u ∙ ap (join start) tail ∙ date_join activation_date s.activation _

-- both links, and what stands behind them
pub links_join : (a b : ℕ) (s t : ℕ) (u : Items) → join (link_items a s (link_items b t nil)) u ≡ link_items a s (link_items b t u)
links_join a b s t u =
    ap (λ (x : Items). join x u) (sym (link_join a s (link_items b t nil)))
    ∙ join_assoc (link_items a s nil) (link_items b t nil) u
    ∙ ap (join (link_items a s nil)) (link_join b t u)
    ∙ link_join a s (link_items b t u)
