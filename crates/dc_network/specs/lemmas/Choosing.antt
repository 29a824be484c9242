-- What a label copies is a word of one of its sources.
use Rattle.std.proofs.Common.{◌≡◌, ℕ, ◌<◌, Some, List, length, get_or, sym, ap, ◌∙◌}
use Rattle.std.specs.List.{flat_map}
use Rattle.std.proofs.lemmas.Bool.{eqb-true}
use Rattle.dc_bound.specs.Moves.{item, latest_number, taken}
use Rattle.dc_word.specs.Format.{is_usable}
use Rattle.dc_tables.specs.TableRows.{TableRows, stream_row, label_row}
use Rattle.dc_event.specs.Buses.{moves, room}
use Rattle.dc_event.specs.Choice.{fresh, chosen_source}
use Rattle.dc_event.specs.Latest.{is_of_stream}
use Rattle.dc_event.specs.declared.event.Event.{Event}
use Rattle.dc_check.proofs.Ages.{fresh-number}
use Rattle.dc_check.proofs.Choices.{choice-in, flat_map-in}
use Rattle.dc_check.proofs.Lasts.{last_below-passes}

pub chosen-among : (t : TableRows) (x : ℕ) (now : List Event) (c : ℕ × ℕ) → chosen_source t x now ≡ Some c → (k : ℕ) × (k < length (label_row t x).sources) × (get_or (label_row t x).sources k 0 ≡ c.0)
unfolding chosen_source latest_number
chosen-among t x now c is =
    let among = choice-in (λ d. is_usable (label_row t x).format d.1) (flat_map (fresh t x now) (label_row t x).sources) c is in
    let r = flat_map-in (fresh t x now) (label_row t x).sources c among in
    let s : ℕ = get_or (label_row t x).sources r.0 0 in
    let f = fresh-number t x s now c r.2 in
    let passes = last_below-passes (λ n. is_of_stream s (item (room t (stream_row t s).bus) (moves t (stream_row t s).bus now) n)) (taken (room t (stream_row t s).bus) (moves t (stream_row t s).bus now)) f.0 f.1.last in
    (r.0, r.1, sym (ap (λ (z : ℕ × ℕ). z.0) f.1.value ∙ eqb-true _ _ passes.1))
