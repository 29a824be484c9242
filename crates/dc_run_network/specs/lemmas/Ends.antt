-- The concentrators between which the links of a system lead are there.
use Rattle.std.proofs.Common.{◌≡◌, ℕ, suc, ◌+◌, ◌<◌, ◌≤◌, ◌||◌, Bool, true, false, cond, not, ltb, Option, Some, None, List, [], ◌∷◌, length, map, get_or, refl, sym, ap, ◌∙◌, subst, arith}
use Rattle.std.specs.Prelude.{position, unwrap_or}
use Rattle.std.specs.List.{list_any, position_or_len}
use Rattle.std.specs.Str.{bytes_eq}
use Rattle.std.proofs.lemmas.Bool.{lt-ltb, ltb-false, or_parts}
use Rattle.std.proofs.lemmas.List.{get_or_default}
use Rattle.std.proofs.lemmas.List.Sums.{fails_before_first}
use Rattle.std.proofs.Math.ListN.{get_or-map, length-map}
use Rattle.dc_order.specs.Rings.{AreNumbered, hop_at}
use Rattle.dc_order.specs.declared.hop.Hop.{Hop}
use Rattle.dc_order.specs.declared.limits.TheConstants.{LONGEST_LATENCY}
use Rattle.dc_system_text.specs.System.{ConcentratorRow, KeepsRules, SystemRows, broken, is_absent, names_of, or_then}
use Rattle.dc_system_text.specs.declared.fault.SystemFault.{SystemFault}
use Rattle.dc_system_text.specs.declared.fault.SystemPart.{SystemPart}
use Rattle.dc_system_text.specs.declared.fault.SystemRule.{SystemRule}
use Rattle.dc_system_text.specs.declared.parts.LinkText.{LinkText}
use Rattle.dc_ways.specs.Members.{MemberRows, AreConnections, connection_at}
use Rattle.dc_ways.specs.declared.connection.Connection.{Connection}
use Rattle.dc_run_network.specs.Links.{connection_of, connections_in, hop_of, hops_in, is_named, number_in}

-- ---- names

-- a name that is among them is found
found-below : (n : List ℕ) (cs : List ConcentratorRow) → list_any (bytes_eq n) (map (λ c. c.name) cs) ≡ true → position_or_len (is_named n) cs < length cs
found-below n [] h = absurd cc
found-below n (c ∷ cs) h =
    elim (bytes_eq n c.name) as (λ b. bytes_eq n c.name ≡ b → (b || list_any (bytes_eq n) (map (λ c. c.name) cs)) ≡ true → cond (not b) (1 + position_or_len (is_named n) cs) 0 < suc (length cs)) [
      | true ↦ λ is t. omega arith
      | false ↦ λ is t. omega (arith, found-below n cs t)
    ] refl h

number-below : (n : List ℕ) (cs : List ConcentratorRow) → list_any (bytes_eq n) (map (λ c. c.name) cs) ≡ true → number_in cs n < length cs
number-below n cs h =
    subst (λ b. unwrap_or (cond b (Some (position_or_len (is_named n) cs)) None) (length cs) < length cs) (sym (lt-ltb (position_or_len (is_named n) cs) (length cs) (found-below n cs h))) (found-below n cs h)

-- ---- rules

-- where no item passes, each fails
none-pass : {X : Type 0} (p : X → Bool) (xs : List X) (k : ℕ) (d : X) → position p xs ≡ None → k < length xs → p (get_or xs k d) ≡ false
none-pass p xs k d h there =
    elim (ltb (position_or_len p xs) (length xs)) as (λ b. ltb (position_or_len p xs) (length xs) ≡ b → cond b (Some (position_or_len p xs)) None ≡ None → p (get_or xs k d) ≡ false) [
      | true ↦ λ t h. absurd cc
      | false ↦ λ t h. fails_before_first p xs k d (omega (arith, there, ltb-false (position_or_len p xs) (length xs) t))
    ] refl h

or-none : (a b : Option SystemFault) → or_then a b ≡ None → (a ≡ None) × (b ≡ None)
or-none None b h = (refl, h)
or-none (Some a) b h = absurd cc

broken-none : (rule : SystemRule) (part : SystemPart) (o : Option ℕ) → broken rule part o ≡ None → o ≡ None
broken-none rule part None h = refl
broken-none rule part (Some i) h = absurd cc

not-false : (b : Bool) → not b ≡ false → b ≡ true
not-false true h = refl
not-false false h = absurd cc

-- ---- links

-- no link
abbrev pub no_link : LinkText
no_link = record { from = record { concentrator = []; port = [] }; to = record { concentrator = []; port = [] }; least_us = 0; most_us = 0 }

-- link k leads from and to concentrators that are there
pub ends-there : (s : SystemRows) → KeepsRules s → (k : ℕ) → k < length s.links
    → (number_in s.concentrators (get_or s.links k no_link).from.concentrator < length s.concentrators) × (number_in s.concentrators (get_or s.links k no_link).to.concentrator < length s.concentrators)
ends-there s keeps k there =
    let rest = (or-none _ _ (or-none _ _ keeps.unbroken).1).0 in
    let parts = or_parts _ _ (none-pass (is_absent (names_of s)) s.links k no_link (broken-none _ _ _ rest) there) in
    (number-below _ s.concentrators (not-false _ parts.0), number-below _ s.concentrators (not-false _ parts.1))

hop-is : (s : SystemRows) (k : ℕ) → k < length s.links → hop_at (hops_in s) k ≡ hop_of s.concentrators (get_or s.links k no_link)
hop-is s k there =
    let f : LinkText → Hop = hop_of s.concentrators in
    get_or_default (map f s.links) k _ (f no_link) (omega (arith, there, length-map s.links f)) ∙ get_or-map f s.links k no_link

-- what was made of the lists of a system are its hops
pub hops-is : (s : SystemRows) (cs : List ConcentratorRow) (links : List LinkText) (made given : List Hop) → cs ≡ s.concentrators → links ≡ s.links → made ≡ given → given ≡ map (hop_of cs) links → made ≡ hops_in s
hops-is s cs links made given same alike is from = is ∙ from ∙ ap (λ z. map (hop_of z) links) same ∙ ap (λ z. map (hop_of s.concentrators) z) alike

-- each hop leads from and to one of them
pub hops-numbered : (s : SystemRows) → KeepsRules s → AreNumbered (length s.concentrators) (hops_in s)
hops-numbered s keeps k h =
    let f : LinkText → Hop = hop_of s.concentrators in
    let there : k < length s.links = omega (arith, h, length-map s.links f) in
    let P : Hop → Type 0 = λ x. (x.from < length s.concentrators) × (x.to < length s.concentrators) in
    subst P (sym (hop-is s k there)) (ends-there s keeps k there)

connection-is : (s : SystemRows) (members : List MemberRows) (k : ℕ) → k < length s.links → connection_at (connections_in s members) k ≡ connection_of s.concentrators members (get_or s.links k no_link)
connection-is s members k there =
    let f : LinkText → Connection = connection_of s.concentrators members in
    get_or_default (map f s.links) k _ (f no_link) (omega (arith, there, length-map s.links f)) ∙ get_or-map f s.links k no_link

-- each connection leads from and to one of so many, and none takes longer than a link may
pub connections-are : (s : SystemRows) (members : List MemberRows) → KeepsRules s → length members ≡ length s.concentrators → AreConnections (length members) (connections_in s members)
connections-are s members keeps each =
    let f : LinkText → Connection = connection_of s.concentrators members in
    let inside : (k : ℕ) → k < length (connections_in s members) → k < length s.links = λ k h. omega (arith, h, length-map s.links f) in
    record {
      from = λ k h. (let P : Connection → Type 0 = λ c. c.from < length members in subst P (sym (connection-is s members k (inside k h))) (omega (arith, each, (ends-there s keeps k (inside k h)).0)));
      to = λ k h. (let P : Connection → Type 0 = λ c. c.to < length members in subst P (sym (connection-is s members k (inside k h))) (omega (arith, each, (ends-there s keeps k (inside k h)).1)));
      short = λ k h. (let P : Connection → Type 0 = λ c. c.most_us ≤ LONGEST_LATENCY in subst P (sym (connection-is s members k (inside k h))) (keeps.short k no_link (inside k h)));
    }
