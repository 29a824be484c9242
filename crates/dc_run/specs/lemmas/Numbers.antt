-- The events of a trace have numbers of the tables.
use Rattle.std.proofs.Common.{◌≡◌, ℕ, suc, zero, ◌<◌, ◌+◌, ◌-◌, Bool, true, false, if◌then◌else◌, List, [], ◌∷◌, ◌++◌, length, codes, refl, subst, arith, Option, Some, None, option_map, option_and_then, Result, Ok, Err}
use Rattle.std.proofs.lemmas.List.Quantifiers.{position-Some}
use Rattle.std.specs.Str.{bytes_eq}
use Rattle.dc_device.specs.Lines.{lines_of}
use Rattle.dc_document.specs.Names.{name_of, number_of}
use Rattle.dc_tables.specs.Named.{HaveNames}
use Rattle.dc_tables.specs.TableRows.{TableRows}
use Rattle.dc_event.specs.Admissible.{IsNumbered, IsRun}
use Rattle.dc_event.specs.TraceText.{Trace, arrival, arrive_fields, ended_by, faulty, fields_event, fields_of, in_front, line_event, number_named, or_fault, route_fields, send_fields, tick_fields, too_long, trace_lines, trace_of}
use Rattle.dc_event.specs.WordText.{word_of}
use Rattle.dc_event.specs.declared.event.Event.{Event}
use Rattle.dc_event.specs.declared.event.Event.TheVariants.{Tick, Arrive, Route, Send}
use Rattle.dc_event.specs.declared.trace.LineRule.{LineRule}
use Rattle.dc_event.specs.declared.trace.LineRule.TheVariants.{LineTooLong, NameUnknown}

-- the number of a name is one of the names
named_below : (names : List (List ℕ)) (name : Option (List ℕ)) (n : ℕ) → option_and_then (λ name. number_of names name) name ≡ Some n → n < length names
named_below names None n is = cc
named_below names (Some name) n is = (position-Some (bytes_eq name) names n [] is).0

module _ (t : TableRows) (has_names : HaveNames t) where
  -- ---- a line

  arrival_numbered : (bus word : Option ℕ) (e : Event) → ((n : ℕ) → bus ≡ Some n → n < length t.buses) → arrival bus word ≡ Ok e → IsNumbered t e
  arrival_numbered None word e below is = absurd (cc)
  arrival_numbered (Some b) None e below is = absurd (cc)
  arrival_numbered (Some b) (Some w) e below is = let same : Arrive w b ≡ e = cc in subst (IsNumbered t) same (below b refl)

  arrive_numbered : (fields : List (List ℕ)) (e : Event) → arrive_fields t fields ≡ Ok e → IsNumbered t e
  arrive_numbered [] e is = absurd (cc)
  arrive_numbered (bus ∷ []) e is = absurd (cc)
  arrive_numbered (bus ∷ word ∷ []) e is =
      arrival_numbered (number_named t.names.buses bus) (word_of word) e (λ n at. subst (λ m. n < m) has_names.buses (named_below t.names.buses (name_of bus) n at)) is
  arrive_numbered (bus ∷ word ∷ more ∷ rest) e is = absurd (cc)

  route_numbered : (router : Option ℕ) (e : Event) → ((n : ℕ) → router ≡ Some n → n < length t.routers) → or_fault NameUnknown (option_map (λ r. Route r) router) ≡ Ok e → IsNumbered t e
  route_numbered None e below is = absurd (cc)
  route_numbered (Some r) e below is = let same : Route r ≡ e = cc in subst (IsNumbered t) same (below r refl)

  routes_numbered : (fields : List (List ℕ)) (e : Event) → route_fields t fields ≡ Ok e → IsNumbered t e
  routes_numbered [] e is = absurd (cc)
  routes_numbered (router ∷ []) e is =
      route_numbered (number_named t.names.routers router) e (λ n at. subst (λ m. n < m) has_names.routers (named_below t.names.routers (name_of router) n at)) is
  routes_numbered (router ∷ more ∷ rest) e is = absurd (cc)

  send_numbered : (output : Option ℕ) (e : Event) → ((n : ℕ) → output ≡ Some n → n < length t.outputs) → or_fault NameUnknown (option_map (λ o. Send o) output) ≡ Ok e → IsNumbered t e
  send_numbered None e below is = absurd (cc)
  send_numbered (Some o) e below is = let same : Send o ≡ e = cc in subst (IsNumbered t) same (below o refl)

  sends_numbered : (fields : List (List ℕ)) (e : Event) → send_fields t fields ≡ Ok e → IsNumbered t e
  sends_numbered [] e is = absurd (cc)
  sends_numbered (output ∷ []) e is =
      send_numbered (number_named t.names.outputs output) e (λ n at. subst (λ m. n < m) has_names.outputs (named_below t.names.outputs (name_of output) n at)) is
  sends_numbered (output ∷ more ∷ rest) e is = absurd (cc)

  ticks_numbered : (fields : List (List ℕ)) (e : Event) → tick_fields fields ≡ Ok e → IsNumbered t e
  ticks_numbered [] e is = let same : Tick ≡ e = cc in subst (IsNumbered t) same tt
  ticks_numbered (more ∷ rest) e is = absurd (cc)

  either : (b : Bool) (x y : Result Event LineRule) (e : Event) → (x ≡ Ok e → IsNumbered t e) → (y ≡ Ok e → IsNumbered t e) → (if b then x else y) ≡ Ok e → IsNumbered t e
  either true x y e f g is = f is
  either false x y e f g is = g is

  none_numbered : (rule : LineRule) (e : Event) → (let r : Result Event LineRule = Err rule in r) ≡ Ok e → IsNumbered t e
  none_numbered rule e is = absurd (cc)

  fields_numbered : (fields : List (List ℕ)) (e : Event) → fields_event t fields ≡ Ok e → IsNumbered t e
  fields_numbered [] e is = absurd (cc)
  fields_numbered (kind ∷ rest) e is =
      either (bytes_eq kind (codes "A")) _ _ e (arrive_numbered rest e)
      (either (bytes_eq kind (codes "R")) _ _ e (routes_numbered rest e)
      (either (bytes_eq kind (codes "S")) _ _ e (sends_numbered rest e)
      (either (bytes_eq kind (codes "T")) _ _ e (ticks_numbered rest e) (none_numbered _ e)))) is

  line_numbered : (line : List ℕ) (e : Event) → line_event t line ≡ Ok e → IsNumbered t e
  unfolding line_event
  line_numbered line e is = fields_numbered (fields_of line) e is

  -- ---- a text

  no_events : IsRun t []
  no_events k d l = absurd (omega arith)

  one_more : (e : Event) (es : List Event) → IsNumbered t e → IsRun t es → IsRun t (e ∷ es)
  one_more e es first rest zero d l = first
  one_more e es first rest (suc k) d l = rest k d (omega arith)

  end_numbered : (b : Bool) (number : ℕ) (rest : List ℕ) → IsRun t (if b then faulty LineTooLong number else ended_by number rest).events
  end_numbered true number rest = no_events
  end_numbered false number [] = no_events
  end_numbered false number (c ∷ cs) = no_events

  front_numbered : (b : Bool) (number : ℕ) (read : Result Event LineRule) (rest : Trace) → ((e : Event) → read ≡ Ok e → IsNumbered t e) → IsRun t rest.events
      → IsRun t (if b then faulty LineTooLong number else in_front number read rest).events
  front_numbered true number read rest first more = no_events
  front_numbered false number (Err rule) rest first more = no_events
  front_numbered false number (Ok e) rest first more = one_more e rest.events (first e refl) more

  lines_numbered : (room number : ℕ) (ls : List (List ℕ)) (rest : List ℕ) → IsRun t (trace_lines t room number ls rest).events
  lines_numbered room number [] rest = end_numbered (too_long room (length rest) (length rest)) number rest
  lines_numbered room number (l ∷ ls) rest =
      front_numbered (too_long room (length l) (length l + 1)) number (line_event t l) (trace_lines t (room - (length l + 1)) (number + 1) ls rest) (line_numbered l)
      (lines_numbered (room - (length l + 1)) (number + 1) ls rest)

  -- the events of a trace are those of the tables
  pub trace_numbered : (limit : ℕ) (text : List ℕ) → IsRun t (trace_of t limit text).events
  unfolding trace_of
  trace_numbered limit text = lines_numbered limit 1 (lines_of text).0 (lines_of text).1

-- an event within a run of the tables
pub numbered_within : (t : TableRows) (past : List Event) (e : Event) (rest : List Event) → IsRun t (past ++ e ∷ rest) → IsNumbered t e
numbered_within t [] e rest all = all 0 e (omega arith)
numbered_within t (x ∷ xs) e rest all = numbered_within t xs e rest (λ k d l. all (suc k) d (omega (arith, l)))
