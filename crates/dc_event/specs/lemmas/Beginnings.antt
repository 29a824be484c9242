-- A beginning of a run: its moves, its steps and its arrivals are a beginning of the run's, so what the run keeps, it keeps.
use Rattle.std.proofs.Common.{◌≡◌, ℕ, ◌+◌, ◌≤◌, eqb, inl, inr, Option, Some, None, List, [], ◌∷◌, ◌++◌, length, take, refl, subst, length-append, sym, ap, ◌∙◌, arith, append_assoc, zero-add}
use Rattle.std.specs.List.{All}
use Rattle.std.proofs.lemmas.List.{append-nil, take-append-le, take_all, get_or_append_left}
use Rattle.std.proofs.lemmas.List.Elements.{filter-append}
use Rattle.dc_bound.specs.Window.{HoldAtLeast, HoldAtMost, count_in, ticks_of}
use Rattle.dc_bound.specs.Run.{ticks, stamp, stamped}
use Rattle.dc_bound.specs.Places.{each_from, each_place}
use Rattle.dc_bound.specs.Moves.{move_ends, tag_of, entries}
use Rattle.dc_bound.specs.lemmas.Segments.{ticks-append}
use Rattle.dc_bound.specs.lemmas.Counts.{one_in_cases}
use Rattle.dc_bound.specs.lemmas.Steps.{stamped-append, ticks_of-append, count-append}
use Rattle.dc_bound.specs.Tags.{with_tag}
use Rattle.dc_tables.specs.TableRows.{TableRows, stream_row}
use Rattle.dc_event.specs.Time.{ends, tick_after, route_of, send_of}
use Rattle.dc_event.specs.Offers.{cap_of}
use Rattle.dc_event.specs.Buses.{moves, bus_arrivals, arrivals}
use Rattle.dc_event.specs.Replies.{reply, outputs_of}
use Rattle.dc_event.specs.Admissible.{IsNumbered, IsRun, KeepsSources, KeepsBudgets, IsAdmissible}
use Rattle.dc_event.specs.lemmas.RunMoves.{moves-beginning}
use Rattle.dc_event.specs.declared.event.Event.{Event}

-- ---- replies

each_from-append : {X A : Type 0} (f : List X → X → A) (past xs ys : List X) → each_from f past (xs ++ ys) ≡ each_from f past xs ++ each_from f (past ++ xs) ys
each_from-append f past [] ys = ap (λ p. each_from f p ys) (sym (append-nil past))
each_from-append f past (x ∷ xs) ys =
    ap (λ l. f past x ∷ l) (each_from-append f (past ++ x ∷ []) xs ys ∙ ap (λ p. each_from f (past ++ x ∷ []) xs ++ each_from f p ys) (append_assoc past (x ∷ []) xs))

each_from-length : {X A : Type 0} (f : List X → X → A) (past xs : List X) → length (each_from f past xs) ≡ length xs
each_from-length f past [] = omega arith
each_from-length f past (x ∷ xs) = omega (arith, each_from-length f (past ++ x ∷ []) xs)

-- the replies after a place do not change those before it
pub outputs_of-append : (t : TableRows) (past rest : List Event) → outputs_of t (past ++ rest) ≡ outputs_of t past ++ each_from (reply t) past rest
unfolding outputs_of each_place
outputs_of-append t past rest = each_from-append (reply t) [] past rest

pub length-outputs_of : (t : TableRows) (run : List Event) → length (outputs_of t run) ≡ length run
unfolding outputs_of each_place
length-outputs_of t run = each_from-length (reply t) [] run

pub outputs_of-beginning : (t : TableRows) (past rest : List Event) → take (length past) (outputs_of t (past ++ rest)) ≡ outputs_of t past
outputs_of-beginning t past rest =
    ap (take (length past)) (outputs_of-append t past rest)
    ∙ take-append-le (length past) (outputs_of t past) (each_from (reply t) past rest) (omega (arith, length-outputs_of t past))
    ∙ take_all (length past) (outputs_of t past) (omega (arith, length-outputs_of t past))

-- ---- numbers

All-beginning : {X : Type 0} (P : X → Type 0) (xs ys : List X) → All P (xs ++ ys) → All P xs
All-beginning P xs ys h = λ k d l. subst P (get_or_append_left xs ys d k l) (h k d (omega (arith, length-append xs ys)))

pub IsRun-beginning : (t : TableRows) (past rest : List Event) → IsRun t (past ++ rest) → IsRun t past
IsRun-beginning t past rest h = All-beginning (IsNumbered t) past rest h

-- ---- sources

HoldAtMost-beginning : (n d : ℕ) (xs ys whole : List ℕ) → whole ≡ xs ++ ys → HoldAtMost n d whole → HoldAtMost n d xs
HoldAtMost-beginning n d xs ys whole e h = λ u. omega (arith, h u, ap (count_in u d) e, count-append u d xs ys)

-- the arrivals of a bus in a beginning are a beginning of its arrivals
pub bus_arrivals-beginning : (t : TableRows) (b : ℕ) (past rest : List Event) → (more : List (ℕ × ℕ)) × (bus_arrivals t b (past ++ rest) ≡ bus_arrivals t b past ++ more)
bus_arrivals-beginning t b past rest =
    let r = moves-beginning t b past rest in
    (stamped move_ends tag_of (0 + ticks move_ends (moves t b past)) r.0, ap entries r.1 ∙ stamped-append move_ends tag_of 0 (moves t b past) r.0)

pub KeepsSources-beginning : (t : TableRows) (past rest : List Event) → KeepsSources t (past ++ rest) → KeepsSources t past
KeepsSources-beginning t past rest k = record {
  streams_rest = λ s there unpoliced d.
      let b : ℕ = (stream_row t s).bus in
      let r = bus_arrivals-beginning t (stream_row t s).bus past rest in
      HoldAtMost-beginning (cap_of t s d) d (ticks_of (arrivals t s past)) (ticks_of (with_tag s r.0)) (ticks_of (arrivals t s (past ++ rest)))
      (ap (λ xs. ticks_of (with_tag s xs)) r.1 ∙ ap (λ xs. ticks_of xs) (filter-append (λ e. eqb e.1 s) (bus_arrivals t (stream_row t s).bus past) r.0) ∙ ticks_of-append (arrivals t s past) (with_tag s r.0))
      (k.streams_rest s there unpoliced d);
  wires_rest = λ b there unpoliced d some.
      let r = bus_arrivals-beginning t b past rest in
      HoldAtMost-beginning _ d (ticks_of (bus_arrivals t b past)) (ticks_of r.0) (ticks_of (bus_arrivals t b (past ++ rest)))
      (ap (λ xs. ticks_of xs) r.1 ∙ ticks_of-append (bus_arrivals t b past) r.0)
      (k.wires_rest b there unpoliced d some);
}

-- ---- budgets

stamp-later : (u d t : ℕ) (o : Option ℕ) (rest : List (ℕ × ℕ)) → u + d ≤ t → count_in u d (ticks_of (stamp t o rest)) ≡ count_in u d (ticks_of rest)
unfolding count_in
stamp-later u d t None rest h = refl
stamp-later u d t (Some x) rest h = elim (one_in_cases u d t) [ inl w ↦ absurd (omega arith) | inr v ↦ elim v [ inl w ↦ omega arith | inr w ↦ omega arith ] ]

-- steps from a tick on are in no window before it
later-none : (pick : Event → Option ℕ) (u d t : ℕ) (es : List Event) → u + d ≤ t → count_in u d (ticks_of (stamped ends pick t es)) ≡ 0
unfolding stamped count_in
later-none pick u d t [] h = refl
later-none pick u d t (e ∷ es) h = stamp-later u d t (pick e) (stamped ends pick (t + ends e) es) h ∙ later-none pick u d (t + ends e) es (omega arith)

module _ (pick : Event → Option ℕ) (past rest : List Event) where
  -- the ticks of a beginning's steps, and those of the steps after it
  steps-beginning : ticks_of (stamped ends pick 0 (past ++ rest)) ≡ ticks_of (stamped ends pick 0 past) ++ ticks_of (stamped ends pick (tick_after past) rest)
  steps-beginning =
      ap (λ xs. ticks_of xs) (stamped-append ends pick 0 past rest) ∙ ticks_of-append (stamped ends pick 0 past) (stamped ends pick (0 + ticks ends past) rest)
      ∙ ap (λ k. ticks_of (stamped ends pick 0 past) ++ ticks_of (stamped ends pick k rest)) (zero-add (ticks ends past))

  works-beginning : (n d : ℕ) → HoldAtLeast n d (tick_after (past ++ rest)) (ticks_of (stamped ends pick 0 (past ++ rest))) → HoldAtLeast n d (tick_after past) (ticks_of (stamped ends pick 0 past))
  works-beginning n d h = λ u whole.
      omega (
        arith,
        h u (omega (arith, ticks-append ends pick past rest)),
        ap (count_in u d) steps-beginning,
        count-append u d (ticks_of (stamped ends pick 0 past)) (ticks_of (stamped ends pick (tick_after past) rest)),
        later-none pick u d (tick_after past) rest whole,
      )

  rests-beginning : (n d : ℕ) → HoldAtMost n d (ticks_of (stamped ends pick 0 (past ++ rest))) → HoldAtMost n d (ticks_of (stamped ends pick 0 past))
  rests-beginning n d h = HoldAtMost-beginning n d (ticks_of (stamped ends pick 0 past)) (ticks_of (stamped ends pick (tick_after past) rest)) _ steps-beginning h

pub KeepsBudgets-beginning : (t : TableRows) (past rest : List Event) → KeepsBudgets t (past ++ rest) → KeepsBudgets t past
KeepsBudgets-beginning t past rest k = record {
  routers_work = λ r there. works-beginning (route_of r) past rest _ _ (k.routers_work r there);
  routers_rest = λ r there. rests-beginning (route_of r) past rest _ _ (k.routers_rest r there);
  outputs_work = λ o there. works-beginning (send_of o) past rest _ _ (k.outputs_work o there);
  outputs_rest = λ o there. rests-beginning (send_of o) past rest _ _ (k.outputs_rest o there);
}

pub IsAdmissible-beginning : (t : TableRows) (past rest : List Event) → IsAdmissible t (past ++ rest) → IsAdmissible t past
IsAdmissible-beginning t past rest k = record {
  numbers = IsRun-beginning t past rest k.numbers;
  sources = KeepsSources-beginning t past rest k.sources;
  budgets = KeepsBudgets-beginning t past rest k.budgets;
}
