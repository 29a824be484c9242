-- The first item of a list that passes a test, where all that pass lie in one piece of it.
use Rattle.std.proofs.Common.{◌≡◌, ℕ, zero, suc, ◌+◌, ◌<◌, ◌≤◌, Bool, true, false, cond, Option, Some, None, List, [], ◌∷◌, length, get_or, take, drop, refl, sym, ap, ◌∙◌, arith, inl, inr, ◌⊎◌, add-zero}
use Rattle.std.specs.List.{position, position_from}
use Rattle.std.specs.Prelude.{option_map}
use Rattle.std.proofs.lemmas.List.{length-drop, get_or-drop}
use Rattle.std.proofs.lemmas.Iterator.Adapters.{position_from-zero}
use Rattle.std.proofs.lemmas.Bool.Decides.{eqb_tells}
use Rattle.dc_word.specs.declared.format.Format.TheVariants.{Bnr}
use Rattle.dc_tables.specs.Declares.{declares, stream_of}
use Rattle.dc_tables.specs.TableRows.{TableRows, AreValid, bus_row, stream_row, bus_streams}
use Rattle.dc_tables.specs.declared.rows.Stream.{Stream}

cond_shift : (b : Bool) (k i : ℕ) (r s : Option ℕ) → r ≡ option_map (λ n. k + n) s → cond b (Some (i + k)) r ≡ option_map (λ n. k + n) (cond b (Some i) s)
cond_shift true k i r s h = ap Some (omega arith)
cond_shift false k i r s h = h

shifted : {A : Type 0} (p : A → Bool) (k i : ℕ) (xs : List A) → position_from p (i + k) xs ≡ option_map (λ n. k + n) (position_from p i xs)
shifted p k i [] = refl
shifted p k i (x ∷ xs) =
    let e : i + k + 1 ≡ i + 1 + k = omega arith in
    cond_shift (p x) k i (position_from p (i + k + 1) xs) (position_from p (i + 1) xs) (ap (λ m. position_from p m xs) e ∙ shifted p k (i + 1) xs)

-- the front is passed over
skipped : {A : Type 0} (p : A → Bool) (z : A) (i n : ℕ) (xs : List A) → n ≤ length xs → ((j : ℕ) → j < n → p (get_or xs j z) ≡ false) → position_from p i xs ≡ position_from p (i + n) (drop n xs)
skipped p z i zero xs h fails = ap (λ m. position_from p m xs) (sym (add-zero i))
skipped p z i (suc n) [] h fails = absurd (omega arith)
skipped p z i (suc n) (x ∷ xs) h fails =
    let e : i + 1 + n ≡ i + suc n = omega arith in
    rw (fails 0 (omega arith)) (skipped p z (i + 1) n xs (omega arith) (λ j l. fails (suc j) (omega arith)) ∙ ap (λ m. position_from p m (drop n xs)) e)

none : {A : Type 0} (p : A → Bool) (z : A) (i : ℕ) (xs : List A) → ((j : ℕ) → j < length xs → p (get_or xs j z) ≡ false) → position_from p i xs ≡ None
none p z i [] fails = refl
none p z i (x ∷ xs) fails = rw (fails 0 (omega arith)) (none p z (i + 1) xs (λ j l. fails (suc j) (omega arith)))

-- the back is not needed
fronted : {A : Type 0} (p : A → Bool) (z : A) (i n : ℕ) (xs : List A) → ((j : ℕ) → n ≤ j → j < length xs → p (get_or xs j z) ≡ false) → position_from p i xs ≡ position_from p i (take n xs)
fronted p z i zero xs fails = none p z i xs (λ j l. fails j (omega arith) l)
fronted p z i (suc n) [] fails = refl
fronted p z i (suc n) (x ∷ xs) fails = ap (λ r. cond (p x) (Some i) r) (fronted p z (i + 1) n xs (λ j l m. fails (suc j) (omega arith) (omega arith)))

pub position_part : {A : Type 0} (p : A → Bool) (z : A) (first n : ℕ) (xs : List A) → first + n ≤ length xs → ((j : ℕ) → j < length xs → (j < first) ⊎ (first + n ≤ j) → p (get_or xs j z) ≡ false)
    → option_map (λ k. first + k) (position p (take n (drop first xs))) ≡ position p xs
position_part p z first n xs h fails =
    let own = take n (drop first xs) in
    ap (λ r. option_map (λ k. first + k) r) (position_from-zero p own)
    ∙ sym (shifted p first 0 own)
    ∙ sym (fronted p z (0 + first) n (drop first xs) (λ j l m. ap p (get_or-drop first xs j z) ∙ fails (first + j) (omega (arith, length-drop first xs)) (inr (omega arith))))
    ∙ sym (skipped p z 0 first xs (omega arith) (λ j l. fails j (omega arith) (inl l)))
    ∙ sym (position_from-zero p xs)

not_of_bus : (b w : ℕ) (s : Stream) → (s.bus ≡ b → ⊥) → declares b w s ≡ false
not_of_bus b w s h = elim (eqb_tells s.bus b) [ inl q ↦ absurd (h q.1) | inr q ↦ rw (q.0) refl ]

abbrev no_row : Stream
no_row = record { bus = 0; label = 0; sdi = None; format = Bnr; minimum = 0; maximum = 0; jitter = 0 }

-- the streams that declare a word on a bus are those of the bus
own_stream : (t : TableRows) (b w : ℕ) → AreValid t → b < length t.buses → option_map (λ k. (bus_row t b).first + k) (position (declares b w) (bus_streams t b)) ≡ stream_of t b w
unfolding stream_of
own_stream t b w valid there =
    position_part (declares b w) no_row (bus_row t b).first (bus_row t b).streams t.streams (valid.streams_there b there)
    (λ j l out. not_of_bus b w (stream_row t j) (λ e.
    let here = valid.streams_of_bus b j there l e in
    elim out [ inl o ↦ omega (arith, here.0) | inr o ↦ omega (arith, here.1) ]))

-- what was found among the streams of a bus
pub own_found : (t : TableRows) (b w : ℕ) (own : List Stream) (found : Option ℕ) → AreValid t → b < length t.buses → own ≡ bus_streams t b → found ≡ position (declares b w) own → option_map (λ k. (bus_row t b).first + k) found ≡ stream_of t b w
own_found t b w own found valid there same at =
    ap (λ r. option_map (λ k. (bus_row t b).first + k) r) (at ∙ ap (λ l. position (declares b w) l) same) ∙ own_stream t b w valid there

-- a bus that is not there has none
pub no_stream : (t : TableRows) (b w : ℕ) → AreValid t → length t.buses ≤ b → stream_of t b w ≡ None
unfolding stream_of
no_stream t b w valid past =
    position_from-zero (declares b w) t.streams
    ∙ none (declares b w) no_row 0 t.streams (λ j l. not_of_bus b w (stream_row t j) (λ e. omega (arith, e, valid.streams_on_buses j l)))
