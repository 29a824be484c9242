-- What a label copies: an arrival that is young enough, and an arrival of a live source.
use Rattle.std.proofs.Common.{◌≡◌, ℕ, zero, suc, ◌+◌, ◌-◌, ◌≤◌, ◌<◌, ◌⊎◌, Bool, true, false, cond, leb, Some, None, is_some, option_map, List, [], ◌∷◌, ◌++◌, length, get_or, refl, sym, ap, inl, inr, ◌∙◌, subst, arith}
use Rattle.std.specs.List.{flat_map, Contains}
use Rattle.std.proofs.lemmas.Bool.{eqb-true, leb-true, le-leb}
use Rattle.dc_bound.specs.lemmas.KeepsUp.{KeepsUp}
use Rattle.dc_bound.specs.Moves.{Move, ins, item, routed_tick, arrived_tick, latest_number, latest_by}
use Rattle.dc_bound.specs.lemmas.QueueTimes.{stamped-items}
use Rattle.dc_cert.specs.Bounds.{CertificateRows, input_bound}
use Rattle.dc_check.proofs.Arrived.{word_at}
use Rattle.dc_check.proofs.Choices.{choice-in, choice-first, choice-usable, flat_map-in, in-flat_map}
use Rattle.dc_check.proofs.Copies.{usable-copied}
use Rattle.dc_event.specs.lemmas.RunPush.{ticks_in-moves}
use Rattle.dc_check.proofs.Recent.{IsLast, last_is, recent}
use Rattle.dc_event.specs.Alive.{IsAlive, AreUsable}
use Rattle.dc_event.specs.Buses.{moves, room, is_latched}
use Rattle.dc_event.specs.Choice.{fresh_word, fresh, choice, chosen_source, chosen, word_for, fallback_for}
use Rattle.dc_event.specs.Claims.{IsYoung, CopiesWithin}
use Rattle.dc_event.specs.Latest.{latest_arrived, is_of_stream, latest}
use Rattle.dc_event.specs.Time.{tick_after}
use Rattle.dc_event.specs.declared.event.Event.{Event}
use Rattle.dc_tables.specs.TableRows.{TableRows, stream_row, label_row}
use Rattle.dc_word.specs.Format.{is_usable}

-- what the bus part gives for the run at hand
abbrev pub BusesHold : TableRows → CertificateRows → List Event → Type 0
BusesHold t c now = (b : ℕ) → b < length t.buses → KeepsUp (room t b) (input_bound c b).delay (moves t b now)

-- the bus of a stream: its delay, its room, and the run as it sees it
abbrev pub delay_of : TableRows → CertificateRows → ℕ → ℕ
delay_of t c s = (input_bound c (stream_row t s).bus).delay

abbrev pub stream_room : TableRows → ℕ → ℕ
stream_room t s = room t (stream_row t s).bus

abbrev pub stream_moves : TableRows → ℕ → List Event → List Move
stream_moves t s now = moves t (stream_row t s).bus now

-- each source of the label is on a bus of the tables
abbrev pub SourcesOnBuses : TableRows → ℕ → Type 0
SourcesOnBuses t x = (k : ℕ) → k < length (label_row t x).sources → (stream_row t (get_or (label_row t x).sources k 0)).bus < length t.buses

-- ---- a fresh source

-- the word that stands for a fresh source is word number `number` of those that came to its bus
pub record IsFresh (t : TableRows) (x s : ℕ) (now : List Event) (a : ℕ × ℕ) (number : ℕ) : Type 0 where
  pub last : latest_number (stream_room t s) (is_of_stream s) (stream_moves t s now) ≡ Some number
  pub value : a ≡ item (stream_room t s) (stream_moves t s now) number
  pub fresh_enough : tick_after now ≤ routed_tick (stream_room t s) number (stream_moves t s now) + (label_row t x).stale

-- a list of at most one
only_in : {A : Type 0} (b : Bool) (y c : A) → Contains (cond b (y ∷ []) []) c → (b ≡ true) × (c ≡ y)
only_in true y c (zero, h, e) = (refl, sym e)
only_in true y c (suc k, h, e) = absurd (omega arith)
only_in false y c (k, h, e) = absurd (omega arith)

pub fresh-number : (t : TableRows) (x s : ℕ) (now : List Event) (a : ℕ × ℕ) → Contains (fresh t x now s) a → (n : ℕ) × IsFresh t x s now a n
unfolding fresh latest latest_by
fresh-number t x s now a h =
    let all : ℕ → (ℕ × ℕ) × ℕ = λ n. (item (stream_room t s) (stream_moves t s now) n, routed_tick (stream_room t s) n (stream_moves t s now)) in
    elim (is_latched t (stream_row t s).bus now) as (λ v. Contains (cond v [] (fresh_word (label_row t x).stale (tick_after now) (latest t s now))) a → (n : ℕ) × IsFresh t x s now a n) [
      | true ↦ λ h. absurd (omega (arith, h.1))
      | false ↦ λ h.
          elim (latest_number (stream_room t s) (is_of_stream s) (stream_moves t s now)) as (λ o. latest_number (stream_room t s) (is_of_stream s) (stream_moves t s now) ≡ o
          → Contains (fresh_word (label_row t x).stale (tick_after now) (option_map all o)) a → (n : ℕ) × IsFresh t x s now a n) [
            | None ↦ λ is h. absurd (omega (arith, h.1))
            | Some n ↦ λ is h.
                let r = only_in (leb (tick_after now - (all n).1) (label_row t x).stale) (all n).0 a h in
                (n, record { last = is; value = r.1; fresh_enough = omega (arith, leb-true _ _ r.0) })
          ] refl h
    ] h

-- ---- ages

-- the label copies word number `number` that came to the bus of its source of this rank; how old it is
pub record IsCopied (t : TableRows) (c : CertificateRows) (x : ℕ) (now : List Event) (a : ℕ × ℕ) (rank number : ℕ) : Type 0 where
  pub ranked : rank < length (label_row t x).sources
  pub source : a.0 ≡ get_or (label_row t x).sources rank 0
  pub last : latest_number (stream_room t a.0) (is_of_stream a.0) (stream_moves t a.0 now) ≡ Some number
  pub there : number < length (ins (stream_moves t a.0 now))
  pub arrival : word_at number (stream_moves t a.0 now) ≡ (arrived_tick number (stream_moves t a.0 now), a)
  pub by_now : arrived_tick number (stream_moves t a.0 now) ≤ tick_after now
  pub young : tick_after now ≤ arrived_tick number (stream_moves t a.0 now) + (label_row t x).stale + delay_of t c a.0

copied_from : (t : TableRows) (c : CertificateRows) (x s rank : ℕ) (now : List Event) (a : ℕ × ℕ) (n : ℕ) → BusesHold t c now → (stream_row t s).bus < length t.buses
    → rank < length (label_row t x).sources → s ≡ get_or (label_row t x).sources rank 0 → IsFresh t x s now a n → IsCopied t c x now a rank n
copied_from t c x s rank now a n holds there ranked is f =
    let ms = stream_moves t s now in
    let l : IsLast (stream_room t s) (delay_of t c s) s (stream_moves t s now) n = last_is (stream_room t s) (delay_of t c s) s (stream_moves t s now) (holds (stream_row t s).bus there) n f.last in
    let tag : a.0 ≡ s = ap (λ z. z.0) f.value ∙ eqb-true _ _ l.tagged in
    let time = ticks_in-moves t (stream_row t s).bus now in
    let whole : word_at n (stream_moves t s now) ≡ (arrived_tick n (stream_moves t s now), a) = l.arrival ∙ ap (λ z. (arrived_tick n (stream_moves t s now), z)) (sym f.value) in
    let P : ℕ → Type 0 = λ s. (latest_number (stream_room t s) (is_of_stream s) (stream_moves t s now) ≡ Some n) × (n < length (ins (stream_moves t s now))) × (word_at n (stream_moves t s now) ≡ (arrived_tick n (stream_moves t s now), a))
    × (arrived_tick n (stream_moves t s now) ≤ tick_after now) × (tick_after now ≤ arrived_tick n (stream_moves t s now) + (label_row t x).stale + delay_of t c s) in
    let p = subst P (sym tag) (f.last, l.there, whole, omega (arith, l.came_by_now), omega (arith, f.fresh_enough, l.in_time)) in
    record { ranked = ranked; source = tag ∙ is; last = p.0; there = p.1; arrival = p.2; by_now = p.3; young = p.4 }

-- what a label copies is an arrival of one of its sources, at most the stale limit and the delay of its bus old
pub copies : (t : TableRows) (c : CertificateRows) (x : ℕ) (now : List Event) (a : ℕ × ℕ) → BusesHold t c now → SourcesOnBuses t x
    → chosen_source t x now ≡ Some a → (rank : ℕ) × (number : ℕ) × IsCopied t c x now a rank number
unfolding chosen_source
copies t c x now a holds there is =
    let among : Contains (flat_map (fresh t x now) (label_row t x).sources) a = choice-in (λ d. is_usable (label_row t x).format d.1) (flat_map (fresh t x now) (label_row t x).sources) a is in
    let r = flat_map-in (fresh t x now) (label_row t x).sources a among in
    let f = fresh-number t x (get_or (label_row t x).sources r.0 0) now a r.2 in
    (r.0, f.0, copied_from t c x (get_or (label_row t x).sources r.0 0) r.0 now a f.0 holds (there r.0 r.1) r.1 refl f.1)

-- the claim on ages
pub young : (t : TableRows) (c : CertificateRows) (x age : ℕ) (now : List Event) → BusesHold t c now → SourcesOnBuses t x
    → ((k : ℕ) → k < length (label_row t x).sources → (label_row t x).stale + delay_of t c (get_or (label_row t x).sources k 0) ≤ age)
    → IsYoung t x age now
unfolding latest_arrived
young t c x age now holds there aged =
    elim (chosen_source t x now) as (λ o. chosen_source t x now ≡ o → (word_for t x o ≡ fallback_for t x) ⊎ ((d : ℕ × ℕ) × (came : ℕ) × CopiesWithin t x age now d came)) [
      | None ↦ λ is. inl refl
      | Some a ↦ λ is.
          let r = copies t c x now a holds there is in
          let k = r.2 in
          let old = aged r.0 k.ranked in
          let same = ap (delay_of t c) k.source in
          let at : latest_arrived t a.0 now ≡ Some (arrived_tick r.1 (stream_moves t a.0 now)) = ap (λ o. elim o [ None ↦ None | Some n ↦ Some (arrived_tick n (stream_moves t a.0 now)) ]) k.last in
          inr (a, arrived_tick r.1 (stream_moves t a.0 now), record { copied = is; arrived = at; aged = omega (arith, k.young) })
    ] refl

-- ---- live sources

-- a live source is fresh, by a usable word that came within the stale limit
pub record IsLive (t : TableRows) (x s : ℕ) (now : List Event) (w number : ℕ) : Type 0 where
  pub fresh_by : fresh t x now s ≡ (s, w) ∷ []
  pub useful : is_usable (label_row t x).format w ≡ true
  pub last : latest_number (stream_room t s) (is_of_stream s) (stream_moves t s now) ≡ Some number
  pub arrival : word_at number (stream_moves t s now) ≡ (arrived_tick number (stream_moves t s now), (s, w))
  pub lately : tick_after now - (label_row t x).stale ≤ arrived_tick number (stream_moves t s now)

pub live : (t : TableRows) (c : CertificateRows) (x s : ℕ) (now : List Event) → BusesHold t c now → (stream_row t s).bus < length t.buses
    → delay_of t c s + (stream_row t s).maximum ≤ (label_row t x).stale → IsAlive t x s now → AreUsable t x s now
    → (w : ℕ) × (n : ℕ) × IsLive t x s now w n
unfolding fresh latest latest_by
live t c x s now holds there kept alive good =
    let q : KeepsUp (stream_room t s) (delay_of t c s) (stream_moves t s now) = holds (stream_row t s).bus there in
    let time = ticks_in-moves t (stream_row t s).bus now in
    let old = alive.old_enough in
    let sent = alive.sends (tick_after now - (label_row t x).stale) (omega arith) (omega arith) in
    let r = recent (stream_room t s) (delay_of t c s) s (stream_row t s).maximum (tick_after now - (label_row t x).stale) (stream_moves t s now) q (omega arith) sent in
    let n : ℕ = r.0 in
    let l : IsLast (stream_room t s) (delay_of t c s) s (stream_moves t s now) r.0 = last_is (stream_room t s) (delay_of t c s) s (stream_moves t s now) q r.0 r.1 in
    let tag : (item (stream_room t s) (stream_moves t s now) r.0).0 ≡ s = eqb-true _ _ l.tagged in
    let item_is : item (stream_room t s) (stream_moves t s now) r.0 ≡ (s, (item (stream_room t s) (stream_moves t s now) r.0).1) = ap (λ z. (z, (item (stream_room t s) (stream_moves t s now) r.0).1)) tag in
    let arrival : word_at r.0 (stream_moves t s now) ≡ (arrived_tick r.0 (stream_moves t s now), (s, (item (stream_room t s) (stream_moves t s now) r.0).1)) = l.arrival ∙ ap (λ z. (arrived_tick r.0 (stream_moves t s now), z)) item_is in
    let came_at = ap (λ z. z.0) arrival in
    let word_is : (word_at r.0 (stream_moves t s now)).1.1 ≡ (item (stream_room t s) (stream_moves t s now) r.0).1 = ap (λ z. z.1.1) arrival in
    let lately = r.2 in
    let good_word = good r.0 (0, (0, 0)) (omega (arith, l.there, stamped-items (stream_moves t s now) 0)) (omega (arith, came_at, lately)) (ap (λ z. z.1.0) arrival) in
    let young : leb (tick_after now - routed_tick (stream_room t s) r.0 (stream_moves t s now)) (label_row t x).stale ≡ true = le-leb _ _ (omega (arith, lately, l.after)) in
    let latest_is : latest t s now ≡ Some (item (stream_room t s) (stream_moves t s now) r.0, routed_tick (stream_room t s) r.0 (stream_moves t s now)) = ap (option_map (λ n. (item (stream_room t s) (stream_moves t s now) n, routed_tick (stream_room t s) n (stream_moves t s now)))) r.1 in
    let fresh_is : fresh t x now s ≡ item (stream_room t s) (stream_moves t s now) r.0 ∷ [] =
    ap (λ o. cond (is_some o) [] (fresh_word (label_row t x).stale (tick_after now) (latest t s now))) q.unlatched
    ∙ ap (fresh_word (label_row t x).stale (tick_after now)) latest_is
    ∙ ap (λ b. cond b (item (stream_room t s) (stream_moves t s now) r.0 ∷ []) []) young in (
      (item (stream_room t s) (stream_moves t s now) r.0).1,
      r.0,
      record {
        fresh_by = fresh_is ∙ ap (λ z. z ∷ []) item_is;
        useful = ap (is_usable (label_row t x).format) (sym word_is) ∙ good_word;
        last = r.1;
        arrival = arrival;
        lately = lately;
      },
    )

-- the claim on a live first source
first_of_list : (t : TableRows) (x : ℕ) (now : List Event) (s w : ℕ) (ss : List ℕ) → 1 ≤ length ss → get_or ss 0 0 ≡ s → fresh t x now s ≡ (s, w) ∷ [] → is_usable (label_row t x).format w ≡ true
    → choice t x (flat_map (fresh t x now) ss) ≡ Some (s, w)
first_of_list t x now s w [] some is f u = absurd (omega arith)
first_of_list t x now s w (r ∷ rest) some is f u =
    let e : fresh t x now r ≡ (s, w) ∷ [] = ap (fresh t x now) is ∙ f in
    ap (λ z. choice t x (z ++ flat_map (fresh t x now) rest)) e ∙ choice-first (λ d. is_usable (label_row t x).format d.1) (s, w) (flat_map (fresh t x now) rest) u

pub first_live : (t : TableRows) (x : ℕ) (now : List Event) (w n : ℕ) → 1 ≤ length (label_row t x).sources → IsLive t x (get_or (label_row t x).sources 0 0) now w n
    → chosen_source t x now ≡ Some (get_or (label_row t x).sources 0 0, w)
unfolding chosen_source
first_live t x now w n some l = first_of_list t x now (get_or (label_row t x).sources 0 0) w (label_row t x).sources some refl l.fresh_by l.useful

-- the claim on any live source
pub any_live : (t : TableRows) (x k : ℕ) (now : List Event) (w n : ℕ) → k < length (label_row t x).sources → (label_row t x).sdi < 4
    → IsLive t x (get_or (label_row t x).sources k 0) now w n → is_usable (label_row t x).format (chosen t x now) ≡ true
unfolding chosen_source
any_live t x k now w n h small_sdi l =
    let s = get_or (label_row t x).sources k 0 in
    let here : Contains (fresh t x now (get_or (label_row t x).sources k 0)) (get_or (label_row t x).sources k 0, w) = (let P : List (ℕ × ℕ) → Type 0 = λ z. Contains z (get_or (label_row t x).sources k 0, w) in subst P (sym l.fresh_by) (0, omega arith, refl)) in
    let among = in-flat_map (fresh t x now) (label_row t x).sources k (get_or (label_row t x).sources k 0, w) h here in
    let r = choice-usable (λ d. is_usable (label_row t x).format d.1) (flat_map (fresh t x now) (label_row t x).sources) (flat_map (fresh t x now) (label_row t x).sources) (get_or (label_row t x).sources k 0, w) among l.useful in
    ap (λ o. is_usable (label_row t x).format (word_for t x o)) r.1 ∙ usable-copied (label_row t x).format (label_row t x).label (label_row t x).sdi r.0.1 small_sdi r.2
