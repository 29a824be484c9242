-- The stream of a bus that declares a word stands at the place of the word's label and SDI.
use Rattle.std.proofs.Common.{◌≡◌, ℕ, zero, suc, ◌+◌, ◌*◌, ◌<◌, ◌≤◌, Bool, true, false, cond, Option, Some, None, List, [], ◌∷◌, length, get_or, drop, position, refl, sym, ap, ◌∙◌, subst, arith, inl, inr, ◌⊎◌}
use Rattle.std.specs.Bool.{then_some}
use Rattle.std.specs.List.{All, position_from}
use Rattle.std.proofs.lemmas.Bool.{cases_Bool, false≢true}
use Rattle.std.proofs.lemmas.Bool.Decides.{eqb_tells}
use Rattle.std.proofs.lemmas.Iterator.Adapters.{position_from-zero}
use Rattle.std.proofs.lemmas.List.{get_or-drop, get_or-take, get_or_read, length-take}
use Rattle.std.proofs.lemmas.List.Quantifiers.{position-Some}
use Rattle.std.proofs.lemmas.Option.{none-some}
use Rattle.dc_word.specs.Word.{label_of, sdi_of}
use Rattle.dc_word.specs.declared.format.Format.TheVariants.{Bnr}
use Rattle.dc_tables.specs.Declares.{declares}
use Rattle.dc_tables.specs.KeptOfBuses.{AreBusesKept, IsBusKept}
use Rattle.dc_tables.specs.Places.{AreFirst, stream_at, takes}
use Rattle.dc_tables.specs.TableRows.{TableRows, AreValid, bus_row, stream_row, bus_streams}
use Rattle.dc_tables.specs.declared.alike.BusKept.{BusKept}
use Rattle.dc_tables.specs.declared.rows.Bus.{Bus}
use Rattle.dc_tables.specs.declared.rows.Stream.{Stream}
use Rattle.dc_tables.proofs.BoundsMade.{kept_read, same_read}

abbrev no_row : Stream
no_row = record { bus = 0; label = 0; sdi = None; format = Bnr; minimum = 0; maximum = 0; jitter = 0 }

-- a stream of the bus declares the words of the labels and SDIs that it takes
declares_takes : (b w : ℕ) (s : Stream) → s.bus ≡ b → declares b w s ≡ takes (label_of w) (sdi_of w) s
declares_takes b w s e = elim (eqb_tells s.bus b) [ inl q ↦ rw (q.0) refl | inr q ↦ absurd (q.1 e) ]

tells : (found : Option ℕ) → (found ≡ None) ⊎ ((k : ℕ) × (found ≡ Some k))
tells None = inl refl
tells (Some k) = inr (k, refl)

-- where no item was found, none passes
none_passes : {A : Type 0} (p : A → Bool) (z : A) (i : ℕ) (xs : List A) → position_from p i xs ≡ None → (j : ℕ) → j < length xs → p (get_or xs j z) ≡ false
none_passes p z i [] e j h = absurd (omega arith)
none_passes p z i (x ∷ xs) e zero h =
    elim (cases_Bool (p x)) [
      | inl yes' ↦ absurd (none-some i (sym e ∙ ap (λ v. cond v (Some i) (position_from p (i + 1) xs)) yes'))
      | inr no' ↦ no'
    ]
none_passes p z i (x ∷ xs) e (suc j) h =
    elim (cases_Bool (p x)) [
      | inl yes' ↦ absurd (none-some i (sym e ∙ ap (λ v. cond v (Some i) (position_from p (i + 1) xs)) yes'))
      | inr no' ↦ none_passes p z (i + 1) xs (sym (ap (λ v. cond v (Some i) (position_from p (i + 1) xs)) no') ∙ e) j (omega arith)
    ]

module _ (places : List ℕ) (streams : List Stream) (b w at : ℕ) (first : AreFirst places streams 0) (own : All (λ (s : Stream). s.bus ≡ b) streams) (label : label_of w < 256)
    (is : at ≡ get_or places (label_of w * 4 + sdi_of w) 0) where
  same : (k : ℕ) → k < length streams → declares b w (stream_at streams k) ≡ takes (label_of w) (sdi_of w) (stream_at streams k)
  same k h = declares_takes b w (stream_at streams k) (own k no_row h)

  -- the place is that of the first stream that declares the word
  place_is : (k : ℕ) → position (declares b w) streams ≡ Some k → at ≡ k
  place_is k found =
      let there = position-Some (declares b w) streams k no_row found in
      is
      ∙ first (label_of w) (sdi_of w) k label (omega arith) (omega arith) (there.0) (sym (same k (there.0)) ∙ there.1)
      (λ j s l. sym (same j (omega (arith, there.0))) ∙ there.2 j l)

  pub found_there : (s : Stream) → at < length streams → s ≡ get_or streams at s → declares b w s ≡ true → Some at ≡ position (declares b w) streams
  found_there s there read is_declared =
      elim (tells (position (declares b w) streams)) [
        | inl n ↦ absurd (false≢true (sym (none_passes (declares b w) no_row 0 streams (sym (position_from-zero (declares b w) streams) ∙ n) at there) ∙ sym (ap (declares b w) (get_or_read streams at s there read no_row)) ∙ is_declared))
        | inr some ↦ ap Some (place_is some.0 some.1) ∙ sym some.1
      ]

  pub none_past : length streams ≤ at → None ≡ position (declares b w) streams
  none_past past =
      elim (tells (position (declares b w) streams)) [
        | inl n ↦ sym n
        | inr some ↦ absurd (omega (arith, place_is some.0 some.1, (position-Some (declares b w) streams some.0 no_row some.1).0))
      ]

  pub none_there : (s : Stream) → at < length streams → s ≡ get_or streams at s → declares b w s ≡ false → None ≡ position (declares b w) streams
  none_there s there read is_not =
      elim (tells (position (declares b w) streams)) [
        | inl n ↦ sym n
        | inr some ↦ absurd (false≢true (sym is_not ∙ ap (declares b w) (get_or_read streams at s there read no_row) ∙ ap (λ k. declares b w (get_or streams k no_row)) (place_is some.0 some.1) ∙ (position-Some (declares b w) streams some.0 no_row some.1).1))
      ]

-- of one item alone the position is told by it
pub only_position : {A : Type 0} (p : A → Bool) (x : A) (xs : List A) → length xs ≡ 1 → x ≡ get_or xs 0 x → then_some (p x) 0 ≡ position p xs
only_position {A} p x [] one read = absurd (omega (arith, one))
only_position {A} p x (y ∷ []) one read =
    let told : A → Option ℕ = λ z. then_some (p z) 0 in
    ap told read
    ∙ elim (cases_Bool (p y)) [
      | inl yes' ↦ ap (λ b. then_some b 0) yes' ∙ sym (ap (λ b. cond b (Some 0) None) yes')
      | inr no' ↦ ap (λ b. then_some b 0) no' ∙ sym (ap (λ b. cond b (Some 0) None) no')
    ]
    ∙ sym (position_from-zero p (y ∷ []))
only_position {A} p x (y ∷ z ∷ ys) one read = absurd (omega (arith, one))

-- the streams of a bus are of it
own_bus : (t : TableRows) (b : ℕ) → AreValid t → b < length t.buses → All (λ (s : Stream). s.bus ≡ b) (bus_streams t b)
own_bus t b valid there = λ k z h.
    let first = (bus_row t b).first in
    let n = (bus_row t b).streams in
    let few : k < n = omega (arith, length-take n (drop first t.streams), h) in
    let inside : first + k < length t.streams = omega (arith, valid.streams_there b there, few) in
    let at : get_or (bus_streams t b) k z ≡ stream_row t (first + k) =
    get_or-take n (drop first t.streams) k z few
    ∙ get_or-drop first t.streams k z
    ∙ get_or_read t.streams (first + k) (get_or t.streams (first + k) z) inside (same_read t.streams (first + k) z inside) no_row in
    ap (λ (s : Stream). s.bus) at ∙ valid.bus_of_streams b (first + k) there (omega arith) (omega (arith, few))

pub own_streams : (t : TableRows) (b : ℕ) (streams : List Stream) → AreValid t → b < length t.buses → streams ≡ bus_streams t b → All (λ (s : Stream). s.bus ≡ b) streams
own_streams t b streams valid there same =
    let P : List Stream → Type 0 = λ l. All (λ (s : Stream). s.bus ≡ b) l in
    subst P (sym same) (own_bus t b valid there)

-- the places that are kept of a bus are of its streams
pub own_places : (all : List BusKept) (t u : TableRows) (b : ℕ) (own : BusKept) (streams : List Stream) → AreBusesKept all t.buses t.streams → t ≡ u → b < length t.buses → own ≡ get_or all b own → streams ≡ bus_streams u b → AreFirst own.places.places streams 0
own_places all t u b own streams kept view there mine same =
    let none : Bus = record { queue = 0; police = false; spacing = 0; first = 0; streams = 0; router = 0 } in
    let P : List Stream → Type 0 = λ l. AreFirst own.places.places l 0 in
    let here : IsBusKept own (bus_streams t b) = kept_read all t.buses t.streams b own (get_or t.buses b none) kept there mine (same_read t.buses b none there) in
    subst P (ap (λ (t : TableRows). bus_streams t b) view ∙ sym same) here.places
