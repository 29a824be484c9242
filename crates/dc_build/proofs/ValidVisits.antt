-- Each bus of tables that break no rule is visited by its router.
use Rattle.std.proofs.Common.{◌≡◌, ℕ, suc, ◌%◌, ◌<◌, inl, inr, Bool, true, false, ◌||◌, Option, Some, None, is_none, List, [], ◌∷◌, length, get_or, map, refl, sym, ap, ◌∙◌, arith}
use Rattle.std.specs.Prelude.{unwrap_or}
use Rattle.std.specs.List.{position, list_any}
use Rattle.std.specs.Str.{bytes_eq}
use Rattle.std.proofs.Math.Nat.{mod-eq_of_lt}
use Rattle.std.proofs.lemmas.List.{length-map, get_or-map}
use Rattle.std.proofs.lemmas.Slice.Eq.{bytes_eq-Decides}
use Rattle.dc_document.specs.Document.{Document}
use Rattle.dc_rules.specs.Obeys.{NamesObey, ShapeObeys, ReferencesObey}
use Rattle.dc_rules.specs.Rules.{visits_bus, has_unknown, bus_names}
use Rattle.dc_document.specs.declared.parts.BusPart.{BusPart}
use Rattle.dc_document.specs.declared.parts.RouterPart.{RouterPart}
use Rattle.dc_rules.specs.lemmas.Owners.{bool_cases, counted_there}
use Rattle.dc_rules.specs.lemmas.Picks.{each_fails, first_passes}
use Rattle.dc_build.specs.RowsOf.{number_in, router_row_of, AreRows}
use Rattle.dc_tables.specs.TableRows.{TableRows, bus_row, router_row, visited}
use Rattle.dc_tables.specs.declared.rows.Router.{Router}
use Rattle.dc_build.proofs.ValidApart.{item, names_once, name_is, number_below}
use Rattle.dc_build.proofs.ValidBuses.{each_bus}
use Rattle.dc_build.proofs.ValidRouters.{served}

or_some : (a b : Bool) → (a || b) ≡ true → a ≡ false → b ≡ true
or_some true b h f = absurd (cc f)
or_some false b h f = h

-- where one of a list passes, there is its place
pub any_there : {A : Type 0} (p : A → Bool) (xs : List A) (d : A) → list_any p xs ≡ true → (n : ℕ) × (n < length xs) × (p (get_or xs n d) ≡ true)
any_there p [] d h = absurd (cc h)
any_there p (x ∷ xs) d h =
    elim (bool_cases (p x)) [
      | inl t ↦ (0, omega arith, t)
      | inr f ↦
          let r = any_there p xs d (or_some (p x) (list_any p xs) h f) in
          (suc r.0, omega (arith, r.1), r.2)
    ]

pub some_is : (r : Option ℕ) → is_none r ≡ false → r ≡ Some (unwrap_or r 0)
some_is None h = absurd (cc h)
some_is (Some i) h = refl

module _ (d : Document) (t : TableRows) (rows : AreRows d t) (shape : ShapeObeys d) (names : NamesObey d) (refs : ReferencesObey d) where
  router_at : (r : ℕ) (p : RouterPart) → r < length d.routers → router_row t r ≡ router_row_of (bus_names d) (get_or d.routers r p)
  router_at r p l =
      let e : Router = record { steps = 0; within = 0; most = 0; visits = [] } in
      ap (λ (ws : List Router). get_or ws r e) rows.routers ∙ get_or-map (router_row_of (bus_names d)) d.routers r p e l

  -- a router that has the bus's name in its visits visits the bus
  visits_it : (k r n : ℕ) (p : RouterPart) → k < length d.buses → r < length d.routers → n < length (get_or d.routers r p).visits.items → get_or (get_or d.routers r p).visits.items n [] ≡ get_or (bus_names d) k [] → visited t r n ≡ k
  visits_it k r n p hk hr hn same =
      let all = bus_names d in
      let wanted = (get_or d.routers r p).visits.items in
      let made = map (number_in all) wanted in
      let known = each_fails (λ (w : RouterPart). has_unknown all w.visits.items) d.routers refs.visits r p hr in
      let count : length made ≡ length wanted = length-map wanted (number_in all) in
      let small : n % length made ≡ n = mod-eq_of_lt (omega (arith, hn, count)) in
      let there : length all ≡ length d.buses = length-map d.buses (λ (b : BusPart). b.name) in
      ap (λ (w : Router). get_or w.visits (n % length w.visits) 0) (router_at r p hr)
      ∙ ap (λ m. get_or made m 0) small
      ∙ get_or-map (number_in all) wanted n [] 0 hn
      ∙ names_once all names.buses (number_in all (get_or wanted n [])) k (number_below all wanted known n hn) (omega (arith, there, hk)) (sym (name_is all wanted known n hn) ∙ same)

  pub buses_visited : (b : ℕ) → b < length t.buses → (n : ℕ) × (visited t (bus_row t b).router n ≡ b)
  buses_visited = each_bus d t rows (λ k row. (n : ℕ) × (visited t row.router n ≡ k)) (λ k x l.
      let name = (get_or d.buses k x).name in
      let r = unwrap_or (position (visits_bus name) d.routers) 0 in
      let first = first_passes (visits_bus name) d.routers r (some_is (position (visits_bus name) d.routers) (counted_there (visits_bus name) d.routers (omega (arith, served d t rows shape refs k x l)))) in
      let p = item d.routers r first.0 in
      let wanted = (get_or d.routers r p).visits.items in
      let w = any_there (bytes_eq name) wanted [] (first.1 p) in
      let same : name ≡ get_or wanted w.0 [] = (bytes_eq-Decides name (get_or wanted w.0 [])).0 w.2 in
      (w.0, visits_it k r w.0 p l first.0 w.1 (sym same ∙ sym (get_or-map (λ (b : BusPart). b.name) d.buses k x [] l))))
