-- The routers of tables that break no rule, and what they visit.
use Rattle.std.proofs.Common.{◌≡◌, ℕ, zero, suc, ◌+◌, ◌*◌, ◌%◌, ◌<◌, ◌≤◌, Bool, true, false, ◌||◌, not, nat_lt, ◌==◌, inl, inr, Option, Some, None, is_none, List, [], ◌∷◌, length, get_or, map, refl, sym, ap, ◌∙◌, arith, subst}
use Rattle.std.specs.List.{count_by, position, list_any}
use Rattle.std.specs.Prelude.{unwrap_or}
use Rattle.std.specs.Str.{bytes_eq}
use Rattle.std.proofs.Math.Nat.{mod-lt}
use Rattle.std.proofs.Math.ListN.{get_or-eq_default}
use Rattle.std.proofs.lemmas.List.{length-map, get_or-map}
use Rattle.std.proofs.lemmas.Bool.{cases_lt}
use Rattle.std.proofs.lemmas.Bool.Decides.{nat_tests}
use Rattle.std.proofs.lemmas.Slice.Eq.{bytes_eq-Decides}
use Rattle.dc_document.specs.Document.{Document}
use Rattle.dc_rules.specs.Rules.{outside, router_out, visits_bus, has_unknown, bus_names}
use Rattle.dc_document.specs.Names.{number_of}
use Rattle.dc_build.specs.RowsOf.{number_in, router_row_of, AreRows}
use Rattle.dc_tables.specs.TableRows.{TableRows, bus_row, router_row, visited}
use Rattle.dc_tables.specs.declared.rows.Router.{Router}
use Rattle.dc_document.specs.declared.parts.BusPart.{BusPart}
use Rattle.dc_document.specs.declared.parts.RouterPart.{RouterPart}
use Rattle.dc_rules.specs.lemmas.Picks.{map_each, rows_each, each_fails, any_fails, not_outside, or_none, not_below, not_false, first_passes, number_there}
use Rattle.dc_rules.specs.lemmas.Owners.{counted_there, only_one}
use Rattle.dc_build.proofs.ValidBuses.{bus_count, each_bus}
use Rattle.dc_rules.specs.Obeys.{ShapeObeys, ReferencesObey, SchedulesObey}

-- ---- numbers of names

pub numbers_below : (names wanted : List (List ℕ)) → has_unknown names wanted ≡ false → (n : ℕ) → n < length wanted → get_or (map (number_in names) wanted) n 0 < length names
numbers_below names wanted h n l =
    map_each (λ v. v < length names) (number_in names) wanted 0 (λ k d m. number_there (bytes_eq (get_or wanted k d)) names (any_fails (λ w. is_none (number_of names w)) wanted h k d m)) n (omega (arith, length-map wanted (number_in names)))

pub numbers_always : (names wanted : List (List ℕ)) → has_unknown names wanted ≡ false → 1 ≤ length wanted → (n : ℕ) → get_or (map (number_in names) wanted) n 0 < length names
numbers_always names wanted h some n =
    elim (cases_lt n (length wanted)) [
      | inl l ↦ numbers_below names wanted h n l
      | inr g ↦
          let e : get_or (map (number_in names) wanted) n 0 ≡ 0 = get_or-eq_default (map (number_in names) wanted) 0 {n = n} (omega (arith, length-map wanted (number_in names))) in
          omega (arith, e, numbers_below names wanted h 0 some)
    ]

pub named_as : (names : List (List ℕ)) (w : List ℕ) (r : Option ℕ) (b : ℕ) → number_of names w ≡ r → is_none r ≡ false → unwrap_or r 0 ≡ b → bytes_eq w (get_or names b []) ≡ true
named_as names w None b h s e = absurd (cc s)
named_as names w (Some j) b h s e =
    let P : ℕ → Type 0 = λ k. bytes_eq w (get_or names k []) ≡ true in
    subst P e ((first_passes (bytes_eq w) names j h).1 [])

or_left : (a b : Bool) → a ≡ true → (a || b) ≡ true
or_left true b h = refl
or_left false b h = absurd (cc h)

or_right : (a b : Bool) → b ≡ true → (a || b) ≡ true
or_right true b h = refl
or_right false b h = h

-- a name that has number b is the b-th, so it is among those that have
named : (names wanted : List (List ℕ)) (b : ℕ) (name : List ℕ) → has_unknown names wanted ≡ false → get_or names b [] ≡ name → (m : ℕ) → m < length wanted → get_or (map (number_in names) wanted) m 0 ≡ b → list_any (bytes_eq name) wanted ≡ true
named names [] b name h at m l e = absurd (omega arith)
named names (w ∷ ws) b name h at zero l e =
    let known = (or_none (is_none (number_of names w)) (list_any (λ v. is_none (number_of names v)) ws) h).0 in
    let same : w ≡ get_or names b [] = (bytes_eq-Decides w (get_or names b [])).0 (named_as names w (number_of names w) b refl known e) in
    or_left (bytes_eq name w) (list_any (bytes_eq name) ws) ((bytes_eq-Decides name w).1 (sym (same ∙ at)))
named names (w ∷ ws) b name h at (suc m) l e =
    let rest = (or_none (is_none (number_of names w)) (list_any (λ v. is_none (number_of names v)) ws) h).1 in
    or_right (bytes_eq name w) (list_any (bytes_eq name) ws) (named names ws b name rest at m (omega arith) e)

-- ---- rows with their numbers

pub map_from : {X Y : Type 0} (P : ℕ → Y → Type 0) (f : X → Y) (i : ℕ) (xs : List X) (e : Y) → ((k : ℕ) (d : X) → k < length xs → P (i + k) (f (get_or xs k d))) → (k : ℕ) → k < length xs → P (i + k) (get_or (map f xs) k e)
map_from P f i [] e each k h = absurd (omega arith)
map_from P f i (x ∷ xs) e each zero h = each 0 x (omega arith)
map_from P f i (x ∷ xs) e each (suc k) h =
    let s : suc i + k ≡ i + suc k = omega arith in
    let Q : ℕ → Type 0 = λ n. P n (get_or (map f xs) k e) in
    subst Q s (map_from P f (suc i) xs e (λ j d l.
    let t : i + suc j ≡ suc i + j = omega arith in
    let R : ℕ → Type 0 = λ n. P n (f (get_or xs j d)) in
    subst R t (each (suc j) d (omega arith))) k (omega arith))

is_one : (n : ℕ) → (n == 1) ≡ true → n ≡ 1
is_one n h = grind (arith, nat_tests)

module _ (d : Document) (t : TableRows) (rows : AreRows d t) where
  pub router_count : length t.routers ≡ length d.routers
  router_count = ap (λ (l : List Router). length l) rows.routers ∙ length-map d.routers (router_row_of (bus_names d))

  pub each_router : (P : Router → Type 0) → ((k : ℕ) (x : RouterPart) → k < length d.routers → P (router_row_of (bus_names d) (get_or d.routers k x))) → (r : ℕ) → r < length t.routers → P (router_row t r)
  each_router P each = rows_each P (router_row_of (bus_names d)) d.routers t.routers (record { steps = 0; within = 0; most = 0; visits = [] }) rows.routers each

  names_length : length (bus_names d) ≡ length t.buses
  names_length = length-map d.buses (λ (b : BusPart). b.name) ∙ sym (bus_count d t rows)

module _ (d : Document) (t : TableRows) (rows : AreRows d t) (shape : ShapeObeys d) where
  visits_in : (k : ℕ) (x : RouterPart) → k < length d.routers → (1 ≤ length (get_or d.routers k x).visits.items) × (length (get_or d.routers k x).visits.items ≤ 256)
  visits_in k x l = not_outside 1 256 (length (get_or d.routers k x).visits.items) (each_fails (λ r. outside 1 256 (length r.visits.items)) d.routers shape.visits k x l)

  visits_made : (k : ℕ) (x : RouterPart) → length (router_row_of (bus_names d) (get_or d.routers k x)).visits ≡ length (get_or d.routers k x).visits.items
  visits_made k x = length-map (get_or d.routers k x).visits.items (number_in (bus_names d))

  pub visits_there : (r : ℕ) → r < length t.routers → 0 < length (router_row t r).visits
  visits_there = each_router d t rows (λ r. 0 < length r.visits) (λ k x l. omega (arith, visits_made k x, (visits_in k x l).0))

  pub few_visits : (r : ℕ) → r < length t.routers → length (router_row t r).visits ≤ 256
  few_visits = each_router d t rows (λ r. length r.visits ≤ 256) (λ k x l. omega (arith, visits_made k x, (visits_in k x l).1))

  numbers_in : (k : ℕ) (x : RouterPart) → k < length d.routers → ((1 ≤ (get_or d.routers k x).steps) × ((get_or d.routers k x).steps ≤ 1000)) × (((1 ≤ (get_or d.routers k x).within) × ((get_or d.routers k x).within ≤ 1000)) × ((1 ≤ (get_or d.routers k x).most) × ((get_or d.routers k x).most ≤ 1000)))
  numbers_in k x l =
      let r = get_or d.routers k x in
      let a = or_none (outside 1 1000 r.steps || outside 1 1000 r.within) (outside 1 1000 r.most) (each_fails router_out d.routers shape.routers k x l) in
      let b = or_none (outside 1 1000 r.steps) (outside 1 1000 r.within) a.0 in
      (not_outside 1 1000 r.steps b.0, (not_outside 1 1000 r.within b.1, not_outside 1 1000 r.most a.1))

  pub routers_step : (r : ℕ) → r < length t.routers → (1 ≤ (router_row t r).steps) × (1 ≤ (router_row t r).most)
  routers_step = each_router d t rows (λ r. (1 ≤ r.steps) × (1 ≤ r.most)) (λ k x l. let n = numbers_in k x l in (n.0.0, n.1.1.0))

  pub routers_paced : (r : ℕ) → r < length t.routers → 1 ≤ (router_row t r).within
  routers_paced = each_router d t rows (λ r. 1 ≤ r.within) (λ k x l. (numbers_in k x l).1.0.0)

  pub routers_small : (r : ℕ) → r < length t.routers → ((router_row t r).within ≤ 1000) × ((router_row t r).most ≤ 1000)
  routers_small = each_router d t rows (λ r. (r.within ≤ 1000) × (r.most ≤ 1000)) (λ k x l. let n = numbers_in k x l in (n.1.0.1, n.1.1.1))

  pub routers_steps_small : (r : ℕ) → r < length t.routers → (router_row t r).steps ≤ 1000
  routers_steps_small = each_router d t rows (λ r. r.steps ≤ 1000) (λ k x l. (numbers_in k x l).0.1)

  pub routers_able : SchedulesObey d → (r : ℕ) → r < length t.routers → (router_row t r).steps ≤ (router_row t r).most * (router_row t r).within
  routers_able schedules = each_router d t rows (λ r. r.steps ≤ r.most * r.within) (λ k x l. not_below ((get_or d.routers k x).most * (get_or d.routers k x).within) (get_or d.routers k x).steps (each_fails (λ r. nat_lt (r.most * r.within) r.steps) d.routers schedules.routers k x l))

module _ (d : Document) (t : TableRows) (rows : AreRows d t) (shape : ShapeObeys d) (refs : ReferencesObey d) where
  known : (k : ℕ) (x : RouterPart) → k < length d.routers → has_unknown (bus_names d) (get_or d.routers k x).visits.items ≡ false
  known k x l = each_fails (λ r. has_unknown (bus_names d) r.visits.items) d.routers refs.visits k x l

  pub visits_on_buses : (r n : ℕ) → r < length t.routers → get_or (router_row t r).visits n 0 < length t.buses
  visits_on_buses r n h = each_router d t rows (λ w. get_or w.visits n 0 < length t.buses) (λ k x l. omega (arith, numbers_always (bus_names d) (get_or d.routers k x).visits.items (known k x l) (visits_in d t rows shape k x l).0 n, names_length d t rows)) r h

  pub served : (k : ℕ) (x : BusPart) → k < length d.buses → count_by (visits_bus (get_or d.buses k x).name) d.routers ≡ 1
  served k x l = is_one (count_by (visits_bus (get_or d.buses k x).name) d.routers) (not_false (count_by (visits_bus (get_or d.buses k x).name) d.routers == 1) (each_fails (λ b. not (count_by (visits_bus b.name) d.routers == 1)) d.buses refs.served k x l))

  pub routers_of_buses : (b : ℕ) → b < length t.buses → (bus_row t b).router < length t.routers
  routers_of_buses = each_bus d t rows (λ k r. r.router < length t.routers) (λ k x l.
      let p = visits_bus (get_or d.buses k x).name in
      omega (arith, number_there p d.routers (counted_there p d.routers (omega (arith, served k x l))), router_count d t rows))

  name_at : (k : ℕ) (x : BusPart) → k < length d.buses → get_or (bus_names d) k [] ≡ (get_or d.buses k x).name
  name_at k x l = get_or-map (λ (b : BusPart). b.name) d.buses k x [] l

  visitor : (k : ℕ) (x : BusPart) → k < length d.buses → (r n : ℕ) → r < length t.routers → visited t r n ≡ k → position (visits_bus (get_or d.buses k x).name) d.routers ≡ Some r
  visitor k x l r n h =
      let z : 0 + r ≡ r = omega arith in
      let e : Router = record { steps = 0; within = 0; most = 0; visits = [] } in
      let name = (get_or d.buses k x).name in
      let P : ℕ → Router → Type 0 = λ j w. get_or w.visits (n % length w.visits) 0 ≡ k → position (visits_bus name) d.routers ≡ Some j in
      let Q : List Router → Type 0 = λ ws. P r (get_or ws r e) in
      let R : ℕ → Type 0 = λ j. P j (get_or (map (router_row_of (bus_names d)) d.routers) r e) in
      subst Q (sym rows.routers) (subst R z (map_from P (router_row_of (bus_names d)) 0 d.routers e (λ j y m at.
      let wanted = (get_or d.routers j y).visits.items in
      let len : length (map (number_in (bus_names d)) wanted) ≡ length wanted = length-map wanted (number_in (bus_names d)) in
      let some : 0 < length (map (number_in (bus_names d)) wanted) = omega (arith, len, (visits_in d t rows shape j y m).0) in
      let below : n % length (map (number_in (bus_names d)) wanted) < length wanted = omega (arith, len, mod-lt n some) in
      let zz : 0 + j ≡ j = omega arith in
      only_one (visits_bus name) d.routers j y (served k x l) m (named (bus_names d) wanted k name (known j y m) (name_at k x l) (n % length (map (number_in (bus_names d)) wanted)) below at)
      ∙ ap (λ i. Some i) (sym zz)) r (omega (arith, router_count d t rows))))

  pub visited_by_one : (b r n : ℕ) → b < length t.buses → r < length t.routers → visited t r n ≡ b → r ≡ (bus_row t b).router
  visited_by_one b r n hb hr e =
      each_bus d t rows (λ k row. visited t r n ≡ k → r ≡ row.router) (λ k x l at. sym (ap (λ o. unwrap_or o 0) (visitor k x l r n hr at))) b hb e
