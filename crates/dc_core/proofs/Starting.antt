-- The empty run.
use Rattle.std.proofs.Common.{◌≡◌, ℕ, ◌+◌, min, Bool, false, ltb, Option, None, option_map, List, [], length, get_or, refl, sym, ap, ◌∙◌, subst, arith}
use Rattle.std.proofs.lemmas.Bool.{le-ltb}
use Rattle.std.proofs.Math.Nat.{zero-mod}
use Rattle.std.proofs.lemmas.List.Elements.{All-nil}
use Rattle.dc_bound.specs.Window.{count_in}
use Rattle.dc_bound.specs.Run.{ticks, picks, stamped}
use Rattle.dc_bound.specs.Places.{served_in, first_place, each_place}
use Rattle.dc_bound.specs.Moves.{ins, passed, is_overfull, latch, entered, taken, latest_number, latest_by}
use Rattle.dc_queue.specs.QueueData.{QueueData}
use Rattle.dc_route.specs.Routing.{no_queue}
use Rattle.dc_core.proofs.Holds.{holds-new}
use Rattle.dc_tables.specs.TableRows.{TableRows, AreValid, stream_row, router_row, output_row}
use Rattle.dc_event.specs.Time.{tick_after}
use Rattle.dc_event.specs.Buses.{moves, room}
use Rattle.dc_event.specs.Latest.{latest}
use Rattle.dc_event.specs.Outputs.{sent, due_by}
use Rattle.dc_event.specs.Admissible.{IsNumbered, KeepsBudgets}
use Rattle.dc_core.specs.declared.states.RouterState.{RouterState}
use Rattle.dc_core.specs.declared.states.OutputState.{OutputState}
use Rattle.dc_core.specs.States.{bus_at, no_router, no_output}
use Rattle.dc_core.specs.Fresh.{fresh_queue, fresh_router, fresh_output, AllMade}
use Rattle.std.specs.Prelude.{replicate}
use Rattle.std.proofs.lemmas.List.{get_or-replicate}
use Rattle.dc_core.specs.Standing.{HoldsQueue, word_and_tick, HoldsRouter, HoldsOutput, Standing}

keeps-new : (t : TableRows) → AreValid t → KeepsBudgets t []
unfolding ticks stamped count_in
keeps-new t v = record {
  routers_work = λ r l u h. absurd (omega (arith, h, v.routers_paced r l));
  routers_rest = λ r l u. omega arith;
  outputs_work = λ o l u h. absurd (omega (arith, h, v.outputs_paced o l));
  outputs_rest = λ o l u. omega arith;
}

queue-new : (t : TableRows) (b : ℕ) → HoldsQueue (room t b) (record { queue = fresh_queue t b; latched = false }) (moves t b [])
unfolding moves each_place latch first_place is_overfull ins passed served_in entered taken picks
queue-new t b =
    let calm : ltb (room t b + 0) 0 ≡ false = le-ltb _ _ (omega arith) in
    record { limit = refl; flag = rw calm refl; words = rw calm refl }

taken-new : (room : ℕ) → taken room [] ≡ 0
unfolding latch first_place is_overfull ins passed served_in entered taken picks
taken-new room = let calm : ltb (room + 0) 0 ≡ false = le-ltb _ _ (omega arith) in rw calm refl

latest-new : (t : TableRows) (s : ℕ) → latest t s [] ≡ None
unfolding latest latest_by latest_number moves each_place
latest-new t s = rw (taken-new (room t (stream_row t s).bus)) refl

router-new : (t : TableRows) (r : ℕ) → HoldsRouter t r (fresh_router t r) []
unfolding ticks picks stamped
router-new t r = record { cursor = sym (zero-mod (length (router_row t r).visits)); window = holds-new (router_row t r).within (router_row t r).most (fresh_router t r).window refl }

output-new : (t : TableRows) (o : ℕ) → HoldsOutput t o (fresh_output t o) []
unfolding ticks picks stamped sent served_in count_in
output-new t o = record { count = sym (let u : min 0 (due_by t o 0 + 0) ≡ 0 = omega arith in u); last = refl; window = holds-new (output_row t o).within 1 (fresh_output t o).window refl }

zero_ticks : tick_after [] ≡ 0
unfolding ticks
zero_ticks = refl

pub standing-new : (t : TableRows) (queues : List QueueData) (latches : List Bool) (lasts : List (Option (ℕ × ℕ))) (routers : List RouterState) (outputs : List OutputState)
    → AreValid t → AllMade (fresh_queue t) no_queue (length t.buses) queues → AllMade (λ _. false) false (length t.buses) latches → lasts ≡ replicate (length t.streams) None
    → AllMade (fresh_router t) no_router (length t.routers) routers → AllMade (fresh_output t) no_output (length t.outputs) outputs
    → Standing t 0 (bus_at queues latches) lasts routers outputs []
standing-new t queues latches lasts routers outputs v qs fs ls rs os = record {
  numbers = All-nil (IsNumbered t);
  kept = keeps-new t v;
  clock = sym zero_ticks;
  queues = λ b l. (let P : QueueData → Type 0 = λ q. HoldsQueue (room t b) (record { queue = q; latched = get_or latches b false }) (moves t b []) in
      let Q : Bool → Type 0 = λ f. HoldsQueue (room t b) (record { queue = fresh_queue t b; latched = f }) (moves t b []) in
      subst P (sym (qs.1 b l)) (subst Q (sym (fs.1 b l)) (queue-new t b)));
  words = λ s l. ap (λ (xs : List (Option (ℕ × ℕ))). get_or xs s None) ls ∙ get_or-replicate (length t.streams) s None None l ∙ ap (option_map word_and_tick) (sym (latest-new t s));
  turns = λ r l. (let P : RouterState → Type 0 = λ s. HoldsRouter t r s [] in subst P (sym (rs.1 r l)) (router-new t r));
  sendings = λ o l. (let P : OutputState → Type 0 = λ s. HoldsOutput t o s [] in subst P (sym (os.1 o l)) (output-new t o));
}
