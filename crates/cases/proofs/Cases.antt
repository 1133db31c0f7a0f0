-- 01's P cases, as one claim, by computation.
-- Assumes nothing.
use Prim.Native.Nat.{ℕ, zero, suc}
use mathlib.Core.Path.{◌≡◌, refl}
use mathlib.Core.Bool.{Bool, true, false}
use mathlib.Core.List.{List, [], ◌∷◌}
use lib.ListN.{take, drop}
use Rattle.octets.specs.If.{ifb}
use Rattle.octets.specs.Maybe.{◌>>=◌, ◌>>◌, is_some}
use Rattle.octets.specs.Octets.{be, from_be_after, from_be, all, same, counted_from}
use Rattle.fields.specs.Fields.{starts_with, bytes_of, body_of, number_of, optional}
use Rattle.ttlv.specs.Items.{encode, item_ok, well_formed, ended}
use Rattle.ttlv.specs.Parse.{headed, first_of, put_value, put_group, more, walk, parse, is_one, message}
use Rattle.utf8.specs.Text.{text}
use Rattle.ttlv_types.specs.Types.{length_ok, value_ok}
use Rattle.identifier.specs.Identifier.{digits, identifier, from_digits_after, serial_of}
use Rattle.names.specs.Names.{name_field, stored_name, name_text, name_of, name_ok, same_name, shape_right}
use Rattle.name_search.specs.Names.{find_name, is_taken}
use Rattle.name_read.specs.Name.{name_body, name_first, only_name_in, or_no_name, last_name_in}
use Rattle.twin_rules.specs.Twins.{names_differ}
use Rattle.table.specs.Records.{line, body, record_of, place_at, with_place, serial_at, state_at, name_at, last_serial, with_last, places_said, latest_clock, with_clock, blank}
use Rattle.search.specs.Search.{first_from, is_nothing, or_else, find, free_place, destroyed_place, new_place}
use Rattle.record_rules.specs.Rules.{state_right, bits_right, mask_right, limit_right, tail_right, wiped_right, replaced_right, replacement_right, dates_right, order_right, started_right, name_right, name_text_right}
use Rattle.soundness.specs.Sound.{size_right, count_right, latest_right, free_right, zeros_right, distinct_right, issued_right, if_stands, links_right, breaks_free, breaks_standing, or_later, fault_from, first_fault, sound}
use Rattle.changes.specs.Changes.{is_full, born_at, with_born, with_heir}
use Rattle.changes.specs.Records.{in_state, with_dates, moved_to, with_count}
use Rattle.heirs.specs.Heirs.{heir_activation, heir_deactivation, offset_wrong, heir_dated, heir_of, linked_to}
use Rattle.new_records.specs.New.{material_from, new_record}
use Rattle.changes.specs.Dates.{ripened, is_ripe, ripe_at, ripe_from, counted_clock, began}
use Rattle.date_rules.specs.Dates.{started_state, stopped_state, dated_state}
use Rattle.rules.specs.States.{can_revoke, can_destroy, activate_tests, revoke_tests, destroy_tests, move_tests, revoked_state, destroyed_state, moved_state, next_unless, next_state, grant_tests, left_unless, granting}
use Rattle.place_counts.specs.Counts.{table_right}
use Rattle.rules.specs.Tests.{due}
use Rattle.batch_item.specs.Item.{id_ok, id_bytes, item_in, items_in}
use Rattle.frame.specs.Frame.{version_in, header_in, frame_in, option_of, framing, framed}
use Rattle.attributes_read.specs.Attributes.{limit_in, limit_first, date_first, or_unset, dated_in, wanted_of, limited_in, masked_in, attributes_in}
use Rattle.payload.specs.Payload.{create_in, rekey_in, alone_in, allocation_in, revoke_in, locate_in, or_invalid, command}
use Rattle.target_read.specs.Target.{target_of, target_in}
use Rattle.words.specs.Words.{words_of, word_bytes, words_ok, filled}
use Rattle.act.specs.Act.{sought, on_found, plan, step}
use Rattle.plans.specs.Plans.{carried, shown_of, create_plan, rekey_plan, allocation_plan, activate_plan, revoke_plan, destroy_plan, show_plan, is_failed, key_of, get_plan, serial_found, locate_plan}
use Rattle.answer.specs.Read.{spelled, set_date, fixed, serial_in, limits_first, or_no_limits, link_first, or_no_link, link_in, shown_in, created_in, done_in, showed_in, payload_in, reason_among, failure_in, success_in, undone_in, status_in, outcome_in, answer_in, answers_of, head_in, shown_ok, outcome_ok, answer_ok, allowed, if_allowed, answers_in, key_read, key_block_in, key_in, got_in, key_ok, name_shown, located_in, name_shown_ok}
use Rattle.answer.specs.Respond.{date_items, limit_items, link_items, attribute_items, outcome_items, id_items, answer_items, batch_items, version_items, header_items, respond, material_of, key_items, name_items, located_items}
use Rattle.batch.specs.Batch.{ends_batch, batch, running}
use Rattle.settle.specs.Undo.{any_failed, settled, kept_in}
use Rattle.undone_answers.specs.Undone.{or_undone}
use Rattle.engine.specs.Serving.{answered, carry_out, serving}
use Rattle.refusals.specs.Refusals.{early_refusal, late_refusal}
use Rattle.cases.specs.Cards.{same_items, is_read, integer_read, integer_malformed, boolean_malformed, text_of_eight, text_of_nine, nested, call_with, table_from, answers, refuses, state_left, count_left, depth_eight, depth_nine, depth_read, depth_refused, grant_request, grant_response, grants_counted, over_request, over_response, grant_too_large, life_request, life_response, compromise_request, compromise_response, destroyed_in_turn, rekey_request, rekey_response, rekeyed_twice, stop_request, stop_response, stops_there, continue_request, continue_response, goes_on, last_request, last_response, last_serial_issued, p_cases, all_hold}

-- the definitions that the cases compute with: who opens this opens them all
unfoldable pub opened : Unit {0}
unfolding words_of word_bytes words_ok filled ifb ◌>>=◌ ◌>>◌ is_some be from_be_after from_be all same starts_with ended bytes_of body_of number_of optional encode item_ok well_formed headed first_of put_value put_group more walk parse is_one message length_ok text value_ok digits identifier from_digits_after serial_of line body record_of place_at with_place serial_at state_at name_at name_field stored_name name_text name_of name_ok same_name shape_right find_name is_taken name_body name_first only_name_in or_no_name last_name_in last_serial with_last places_said latest_clock with_clock blank first_from is_nothing or_else find free_place destroyed_place new_place size_right count_right latest_right free_right zeros_right distinct_right issued_right state_right bits_right mask_right limit_right tail_right wiped_right replaced_right replacement_right dates_right order_right started_right name_right name_text_right names_differ if_stands links_right breaks_free breaks_standing or_later fault_from first_fault sound table_right is_full born_at with_born with_heir material_from new_record heir_activation heir_deactivation offset_wrong heir_dated heir_of linked_to in_state with_dates moved_to with_count ripened is_ripe ripe_at ripe_from counted_clock began started_state stopped_state dated_state can_revoke can_destroy activate_tests revoke_tests destroy_tests move_tests revoked_state destroyed_state moved_state next_unless next_state grant_tests left_unless granting due version_in header_in id_ok id_bytes item_in items_in frame_in option_of framing framed limit_in limit_first date_first or_unset dated_in wanted_of limited_in masked_in attributes_in create_in target_of target_in rekey_in alone_in allocation_in revoke_in locate_in or_invalid command sought carried shown_of create_plan rekey_plan allocation_plan activate_plan revoke_plan destroy_plan show_plan key_of get_plan serial_found locate_plan on_found plan step is_failed spelled set_date fixed serial_in limits_first or_no_limits link_first or_no_link link_in name_shown located_in name_shown_ok shown_in created_in done_in showed_in key_read key_block_in key_in got_in payload_in reason_among failure_in success_in undone_in status_in outcome_in answer_in answers_of head_in shown_ok key_ok outcome_ok answer_ok allowed if_allowed answers_in date_items limit_items link_items name_items located_items attribute_items material_of key_items outcome_items id_items answer_items batch_items version_items header_items respond ends_batch batch running any_failed or_undone settled kept_in answered early_refusal late_refusal carry_out serving same_items is_read integer_read integer_malformed boolean_malformed text_of_eight text_of_nine nested counted_from call_with table_from answers refuses state_left count_left depth_eight depth_nine depth_read depth_refused grant_request grant_response grants_counted over_request over_response grant_too_large life_request life_response compromise_request compromise_response destroyed_in_turn rekey_request rekey_response rekeyed_twice stop_request stop_response stops_there continue_request continue_response goes_on last_request last_response last_serial_issued p_cases all_hold
opened = tt

-- a list holds if its first n do, and those behind them
parts_hold : (n : ℕ) (bs : List Bool) → all_hold (take n bs) ≡ true → all_hold (drop n bs) ≡ true → all_hold bs ≡ true
unfolding all_hold
parts_hold zero bs first behind = behind
parts_hold (suc n) [] first behind = refl
parts_hold (suc n) (true ∷ bs) first behind = parts_hold n bs first behind
parts_hold (suc n) (false ∷ bs) first behind = first

-- the list in two parts, so that a check holds the calls of one of them at a time
first_ten : all_hold (take 10 p_cases) ≡ true
unfolding opened
first_ten = refl

behind_ten : all_hold (drop 10 p_cases) ≡ true
unfolding opened
behind_ten = refl

-- every case of the list holds
pub p_cases_lem : all_hold p_cases ≡ true
p_cases_lem = parts_hold 10 p_cases first_ten behind_ten
