-- No receive queue overruns.
use Rattle.std.proofs.Common.{◌≡◌, ℕ, ◌<◌, ◌-◌, Bool, true, false, not, if◌then◌else◌, None, is_some, List, [], ◌∷◌, ◌++◌, length, drop, refl, sym, append_assoc, subst, ◌+◌}
use Rattle.std.proofs.lemmas.List.{drop_at}
use Rattle.std.proofs.lemmas.List.Elements.{All-head, All-same, All-drop}
use Rattle.dc_bound.specs.Moves.{latch}
use Rattle.dc_cert.specs.Bounds.{CertificateRows}
use Rattle.dc_check.proofs.Bus.{bus_keeps_up}
use Rattle.dc_check.specs.Accepts.{AcceptsNumbers}
use Rattle.dc_event.specs.Admissible.{IsNumbered, IsRun, IsAdmissible}
use Rattle.dc_event.specs.Offers.{refuses_early}
use Rattle.dc_event.specs.Buses.{moves, room, is_latched, bus_entered, bus_taken}
use Rattle.dc_event.specs.Claims.{NoOverrun}
use Rattle.dc_event.specs.Replies.{reply}
use Rattle.dc_event.specs.Time.{tick_after}
use Rattle.dc_event.specs.declared.event.Event.{Event}
use Rattle.dc_event.specs.declared.event.Event.TheVariants.{Tick, Arrive, Route, Send}
use Rattle.dc_event.specs.declared.event.Reply.TheVariants.{Queued, BadParity, Undeclared, TooEarly, Overrun, Latched, Took, Empty, Sent, Idle, Now}
use Rattle.dc_tables.specs.Declares.{stream_of}
use Rattle.dc_tables.specs.TableRows.{TableRows, AreValid}
use Rattle.dc_word.specs.Word.{is_odd}

not_overrun : (odd known early before now : Bool) (n : ℕ) → now ≡ false
    → (if not odd then BadParity else if not known then Undeclared else if early then TooEarly else if before then Latched else if now then Overrun else Queued n) ≡ Overrun → ⊥
not_overrun true true true before now n h e = cc
not_overrun true true false true now n h e = cc
not_overrun true true false false true n h e = cc
not_overrun true true false false false n h e = cc
not_overrun true false early before now n h e = cc
not_overrun false known early before now n h e = cc

pub arrive-no_overrun : (t : TableRows) (past : List Event) (b w : ℕ) → is_latched t b (past ++ Arrive w b ∷ []) ≡ false → NoOverrun t past (Arrive w b)
unfolding reply
arrive-no_overrun t past b w calm e =
    not_overrun (is_odd w) (is_some (stream_of t b w)) (refuses_early t b past (stream_of t b w)) (is_latched t b past) (is_latched t b (past ++ Arrive w b ∷ [])) (length (bus_entered t b (past ++ Arrive w b ∷ [])) - bus_taken t b (past ++ Arrive w b ∷ [])) calm e

route-no_overrun : (risen : Bool) (b w : ℕ) → (if risen then Took w b else Empty b) ≡ Overrun → ⊥
route-no_overrun true b w e = cc
route-no_overrun false b w e = cc

send-no_overrun : (risen : Bool) (x w : ℕ) → (if risen then Sent x w else Idle) ≡ Overrun → ⊥
send-no_overrun true x w e = cc
send-no_overrun false x w e = cc

-- the event at a place of a run has a number of the tables
pub numbered-at : (t : TableRows) (past rest : List Event) (e : Event) → IsRun t (past ++ (e ∷ rest)) → IsNumbered t e
numbered-at t past rest e h =
    All-head (IsNumbered t) e rest (All-same (IsNumbered t) (e ∷ rest) (drop (length past) (past ++ (e ∷ rest))) (sym (drop_at past (e ∷ rest) (length past) refl)) (All-drop (IsNumbered t) (length past) (past ++ (e ∷ rest)) h))

unlatched-not : (t : TableRows) (b : ℕ) (now : List Event) → latch (room t b) (moves t b now) ≡ None → is_latched t b now ≡ false
unlatched-not t b now h = rw h refl

-- the first claim, at each event of an admissible run of accepted tables
pub no_overrun : (t : TableRows) (c : CertificateRows) → AreValid t → AcceptsNumbers t c → (past rest : List Event) (e : Event) → IsAdmissible t (past ++ (e ∷ rest)) → NoOverrun t past e
unfolding reply
no_overrun t c valid ok past rest Tick keeps = λ h. (let x : Now (tick_after past + 1) ≡ Overrun = h in cc)
no_overrun t c valid ok past rest (Route r) keeps = λ h. route-no_overrun _ _ _ h
no_overrun t c valid ok past rest (Send o) keeps = λ h. send-no_overrun _ _ _ h
no_overrun t c valid ok past rest (Arrive w b) keeps =
    let there : b < length t.buses = numbered-at t past rest (Arrive w b) keeps.numbers in
    let P : List Event → Type 0 = λ run. IsAdmissible t run in
    let whole : IsAdmissible t ((past ++ Arrive w b ∷ []) ++ rest) = subst P (sym (append_assoc past (Arrive w b ∷ []) rest)) keeps in
    let up = bus_keeps_up t c valid ok (past ++ Arrive w b ∷ []) rest whole b there in
    arrive-no_overrun t past b w (unlatched-not t b (past ++ Arrive w b ∷ []) up.unlatched)
