-- Two lists that are walked together: what is left of them is equal just where they are.
use Rattle.std.proofs.Common.{◌≡◌, ◌≢◌, ℕ, ◌+◌, ◌<◌, ◌≤◌, List, [], ◌∷◌, length, sym, ◌∙◌}
use Rattle.std.specs.Prelude.{Option, Some, None, drop, get_or}
use Rattle.std.proofs.lemmas.List.{at_drop_all, at_drop_more}
use Rattle.dc_drive.specs.Played.{arrivals, events}
use Rattle.dc_event.specs.declared.event.Event.{Event}
use Rattle.dc_event.specs.declared.event.Event.TheVariants.{Tick, Arrive}
use Rattle.dc_event.specs.declared.event.Reply.TheVariants.{Idle}
use Rattle.dc_hub.specs.declared.entry.Receipt.{Receipt}
use Rattle.dc_script.specs.declared.script.Timed.{Timed}

-- the rests are equal just where the wholes are
abbrev pub Walk : {X : Type 0} → (whole wanted rest left : List X) → Type 0
Walk whole wanted rest left = (rest ≡ left → whole ≡ wanted) × (whole ≡ wanted → rest ≡ left)

abbrev first_of : {X : Type 0} → List X → Option X
first_of [] = None
first_of (x ∷ xs) = Some x

pub walk-short : {X : Type 0} (D W xs ys ys' : List X) (y : X) → Walk D W xs ys → xs ≡ [] → ys ≡ y ∷ ys' → D ≢ W
walk-short D W xs ys ys' y w xs_is ys_is = λ h. let no : [] ≡ y ∷ ys' = sym xs_is ∙ w.1 h ∙ ys_is in absurd (cc)

pub walk-long : {X : Type 0} (D W xs ys xs' : List X) (x : X) → Walk D W xs ys → xs ≡ x ∷ xs' → ys ≡ [] → D ≢ W
walk-long D W xs ys xs' x w xs_is ys_is = λ h. let no : x ∷ xs' ≡ [] = sym xs_is ∙ w.1 h ∙ ys_is in absurd (cc)

abbrev no_receipt : Receipt
no_receipt = record { index = 0; event = Tick; reply = Idle }

abbrev no_word : Timed
no_word = record { tick = 0; word = 0 }

-- receipts are left, and nothing is wanted
pub rest-long : (rs : List Receipt) (next : ℕ) (D W left : List Event) → Walk D W (events (drop next rs)) left → next < length rs → left ≡ [] → D ≢ W
rest-long rs next D W left w inside none =
    walk-long D W (events (drop next rs)) left (events (drop (next + 1) rs)) (get_or rs next no_receipt).event w (at_drop_more events rs next no_receipt inside) none

-- no receipt is left, and an arrival is wanted
pub arrivals-short : (rs : List Receipt) (bus next i : ℕ) (ws : List Timed) (D W : List Event) → Walk D W (events (drop next rs)) (arrivals bus (drop i ws)) → length rs ≤ next → i < length ws → D ≢ W
arrivals-short rs bus next i ws D W w past inside =
    walk-short D W (events (drop next rs)) (arrivals bus (drop i ws)) (arrivals bus (drop (i + 1) ws)) (Arrive (get_or ws i no_word).word bus) w (at_drop_all events rs next past) (at_drop_more (arrivals bus) ws i no_word inside)
