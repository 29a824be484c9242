-- When the latest word of a queue came, and the words that came, one more move at a time.
use Rattle.std.proofs.Common.{◌≡◌, ℕ, zero, suc, ◌+◌, ◌-◌, ◌≤◌, ◌<◌, Bool, true, false, cond, Option, Some, None, option_map, List, [], ◌∷◌, ◌++◌, length, get_or, refl, sym, ap, ◌∙◌, subst, arith}
use Rattle.std.specs.List.{All}
use Rattle.std.proofs.lemmas.List.{get_or_append_left}
use Rattle.dc_bound.specs.Window.{ticks_of}
use Rattle.dc_bound.specs.Run.{ticks, stamp, stamped}
use Rattle.dc_bound.specs.Places.{last_below}
use Rattle.dc_bound.specs.Moves.{Move, entries, ins, entered, taken, item, arrived_tick, latest_number}
use Rattle.dc_bound.specs.lemmas.PlacesPush.{last_below-same}
use Rattle.dc_bound.specs.lemmas.QueueTimes.{arrived-earlier, entered-le, taken-le}
use Rattle.dc_bound.specs.lemmas.Items.{entry-arrived}

-- the tick in which the last taken item that passes the test came in
abbrev pub latest_came : ℕ → (ℕ × ℕ → Bool) → List Move → Option ℕ
latest_came room p ms = option_map (λ n. arrived_tick n ms) (latest_number room p ms)

module _ (room : ℕ) (p : ℕ × ℕ → Bool) (ms more : List Move) (ws : List (ℕ × ℕ)) (behind : entered room (ms ++ more) ≡ entered room ms ++ ws) where
  items-same : (k : ℕ) → k < taken room ms → item room (ms ++ more) k ≡ item room ms k
  items-same k h = ap (λ l. get_or l k (0, 0)) behind ∙ get_or_append_left (entered room ms) ws (0, 0) k (omega (arith, taken-le room ms))

  ticks-same : (k : ℕ) → k < taken room ms → arrived_tick k (ms ++ more) ≡ arrived_tick k ms
  ticks-same k h = arrived-earlier k ms more (omega (arith, taken-le room ms, entered-le room ms))

  below-same : option_map (λ n. arrived_tick n (ms ++ more)) (last_below (λ n. p (item room (ms ++ more) n)) (taken room ms)) ≡ latest_came room p ms
  unfolding latest_number
  below-same = last_below-same (λ n. p (item room (ms ++ more) n)) (λ n. p (item room ms n)) (λ n. arrived_tick n (ms ++ more)) (λ n. arrived_tick n ms) (taken room ms) (λ k h. ap p (items-same k h)) (λ k h. ticks-same k h)

  -- nothing more was taken
  pub came-same : taken room (ms ++ more) ≡ taken room ms → latest_came room p (ms ++ more) ≡ latest_came room p ms
  unfolding latest_number
  came-same same = rw same below-same

  -- one more was
  pub came-next : taken room (ms ++ more) ≡ suc (taken room ms)
      → latest_came room p (ms ++ more) ≡ cond (p (item room (ms ++ more) (taken room ms))) (Some (arrived_tick (taken room ms) (ms ++ more))) (latest_came room p ms)
  unfolding latest_number
  came-next next =
      let n = taken room ms in
      let q : ℕ → Bool = λ n. p (item room (ms ++ more) n) in
      let f : ℕ → ℕ = λ n. arrived_tick n (ms ++ more) in
      ap (λ k. option_map f (last_below q k)) next
      ∙ elim (p (item room (ms ++ more) (taken room ms))) as (λ b. option_map (λ n. arrived_tick n (ms ++ more)) (cond b (Some (taken room ms)) (last_below (λ n. p (item room (ms ++ more) n)) (taken room ms)))
      ≡ cond b (Some (arrived_tick (taken room ms) (ms ++ more))) (latest_came room p ms))
      [ true ↦ refl | false ↦ below-same ]

-- ---- the ticks of what came

ticks-get : (xs : List (ℕ × ℕ)) (n : ℕ) → get_or (ticks_of xs) n 0 ≡ (get_or xs n (0, 0)).0
ticks-get [] n = refl
ticks-get (x ∷ xs) zero = refl
ticks-get (x ∷ xs) (suc n) = ticks-get xs n

pub entry-tick : (ms : List Move) (n : ℕ) → n < length (ins ms) → get_or (ticks_of (entries ms)) n 0 ≡ arrived_tick n ms
entry-tick ms n h = ticks-get (entries ms) n ∙ ap (λ (x : ℕ × ℕ). x.0) (entry-arrived ms n h)

-- ---- what a list of stamps has is not later than its last tick

all-cons : {X : Type 0} (P : X → Type 0) (x : X) (xs : List X) → P x → All P xs → All P (x ∷ xs)
all-cons P x xs h t zero d l = h
all-cons P x xs h t (suc k) d l = t k d (omega arith)

all-stamp : {X : Type 0} (k n : ℕ) (o : Option X) (rest : List (ℕ × X)) → k ≤ n → All (λ a. a.0 ≤ n) rest → All (λ a. a.0 ≤ n) (stamp k o rest)
all-stamp k n None rest le h = h
all-stamp k n (Some x) rest le h = all-cons (λ a. a.0 ≤ n) (k, x) rest le h

pub stamped-by : {E X : Type 0} (f : E → ℕ) (pick : E → Option X) (k n : ℕ) (es : List E) → k + ticks f es ≤ n → All (λ a. a.0 ≤ n) (stamped f pick k es)
unfolding ticks stamped
stamped-by f pick k n [] h = λ j d l. absurd (omega arith)
stamped-by f pick k n (e ∷ es) h = all-stamp k n (pick e) (stamped f pick (k + f e) es) (omega arith) (stamped-by f pick (k + f e) n es (omega arith))

-- ---- the last number that passes a test passes it

pub last_below-passes : (p : ℕ → Bool) (m n : ℕ) → last_below p m ≡ Some n → (n < m) × (p n ≡ true)
last_below-passes p zero n h = absurd cc
last_below-passes p (suc m) n h =
    elim (p m) as (λ b. p m ≡ b → cond b (Some m) (last_below p m) ≡ Some n → (n < suc m) × (p n ≡ true)) [
      | true ↦ λ e h. (let same : m ≡ n = cc in let P : ℕ → Type 0 = λ n. (n < suc m) × (p n ≡ true) in subst P same (omega arith, e))
      | false ↦ λ e h. (let r = last_below-passes p m n h in (omega (arith, r.0), r.1))
    ] refl h
