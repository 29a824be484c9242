-- The last taken word of a stream, in a queue that keeps up; a stream that keeps sending has one that came lately.
use Rattle.std.proofs.Common.{◌≡◌, ℕ, ◌+◌, ◌≤◌, ◌<◌, true, eqb, Some, List, length, get_or, sym, ap, ◌∙◌, arith}
use Rattle.dc_bound.specs.lemmas.KeepsUp.{KeepsUp}
use Rattle.dc_bound.specs.Moves.{Move, entries, ticks_in, ins, taken, item, routed_tick, arrived_tick, latest_number}
use Rattle.dc_bound.specs.lemmas.QueueTimes.{entered-le, taken-le, arrived-rises, arrived-le-routed, stamped-arrived}
use Rattle.dc_bound.specs.Tags.{with_tag}
use Rattle.dc_bound.specs.Window.{count_in, ticks_of}
use Rattle.dc_check.proofs.Arrived.{word_at, entries-count, entry-is, arrived-by_now, found_in}
use Rattle.dc_check.proofs.Lasts.{last_below-passes, last_below-from}
use Rattle.dc_event.specs.Latest.{is_of_stream}

-- word number n is the last one of the stream that was taken
pub record IsLast (room delay s : ℕ) (ms : List Move) (n : ℕ) : Type 0 where
  pub there : n < length (ins ms)
  pub arrival : word_at n ms ≡ (arrived_tick n ms, item room ms n)
  pub tagged : is_of_stream s (item room ms n) ≡ true
  pub came_by_now : arrived_tick n ms ≤ ticks_in ms
  pub after : arrived_tick n ms ≤ routed_tick room n ms
  pub in_time : routed_tick room n ms ≤ arrived_tick n ms + delay

pub last_is : (room delay s : ℕ) (ms : List Move) → KeepsUp room delay ms → (n : ℕ) → latest_number room (is_of_stream s) ms ≡ Some n → IsLast room delay s ms n
unfolding latest_number
last_is room delay s ms q n h =
    let p = last_below-passes (λ n. is_of_stream s (item room ms n)) (taken room ms) n h in
    let there : n < length (ins ms) = omega (arith, p.0, taken-le room ms, entered-le room ms) in
    record {
      there = there;
      arrival = stamped-arrived ms n there ∙ ap (λ l. (arrived_tick n ms, get_or l n (0, 0))) (sym q.all_entered);
      tagged = p.1;
      came_by_now = arrived-by_now ms n there;
      after = arrived-le-routed room n ms p.0;
      in_time = q.routed n p.0;
    }

-- an arrival of the stream in the `most` ticks from `start` on, long enough ago: the last taken word of the stream came in `start` or later
pub recent : (room delay s most start : ℕ) (ms : List Move) → KeepsUp room delay ms → start + most + delay ≤ ticks_in ms
    → 1 ≤ count_in start most (ticks_of (with_tag s (entries ms)))
    → (n : ℕ) × (latest_number room (is_of_stream s) ms ≡ Some n) × (start ≤ arrived_tick n ms)
unfolding latest_number
recent room delay s most start ms q long sent =
    let a = found_in (λ e. eqb e.1 s) start most (entries ms) (0, 0) sent in
    let had : a.0 < length (ins ms) = omega (arith, a.1, entries-count ms) in
    let e = entry-is ms a.0 had in
    let when : (get_or (entries ms) a.0 (0, 0)).0 ≡ arrived_tick a.0 ms = ap (λ x. x.0) e in
    let tag : is_of_stream s (item room ms a.0) ≡ true = ap (λ l. is_of_stream s (get_or l a.0 (0, 0))) q.all_entered ∙ ap (λ x. eqb x.1 s) (sym e) ∙ a.2 in
    let gone : a.0 < taken room ms = q.in_time a.0 had (omega (arith, a.4)) in
    let l = last_below-from (λ n. is_of_stream s (item room ms n)) (taken room ms) a.0 gone tag in
    let t = last_is room delay s ms q l.0 l.1 in
    (l.0, l.1, omega (arith, a.3, arrived-rises a.0 l.0 ms l.2 t.there))
