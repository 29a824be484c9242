-- What a system's text says, or its first fault: the shape of the text, table by table and key by key, and then its rules.
use Rattle.std.specs.Prelude.{◌≡◌, ℕ, suc, ◌+◌, ◌≤◌, ◌<◌, ◌==◌, ◌&&◌, ◌||◌, Bool, nat_lt, Option, Some, None, option_and_then, not, Ok, Err, List, [], ◌∷◌, length, map, take, drop, codes, position, slice_index_or}
use Rattle.std.specs.List.{list_any}
use Rattle.std.specs.Str.{bytes_eq}
use Rattle.toml.specs.Data.{Data, Items, no_items, item, Members}
use Rattle.dc_document.specs.Names.{name_of}
use Rattle.dc_document.specs.declared.fault.Section.TheVariants.{Top as TableTop}
use Rattle.dc_document.specs.declared.fault.TableRule.TheVariants.{WrongSpelling as TableWrongSpelling}
use Rattle.dc_rules.specs.Rules.{doubled}
use Rattle.dc_toml.specs.Faults.{Reading, place, ◌>>=◌, found}
use Rattle.dc_toml.specs.Keys.{table_of, known, present, keyed, number_at, name_at, text_at, tables_at, optional_at}
use Rattle.dc_toml.specs.Reading.{document_of}
use Rattle.dc_toml.specs.declared.place.TablePlace.{TablePlace}
use Rattle.dc_order.specs.declared.limits.TheConstants.{LONGEST_LATENCY, MOST_CONCENTRATORS, MOST_LINKS}
use Rattle.dc_system_text.specs.Faults.{Said, fault_of, and_then, of_part}
use Rattle.dc_system_text.specs.declared.fault.SystemFault.{SystemFault}
use Rattle.dc_system_text.specs.declared.fault.SystemPart.{SystemPart}
use Rattle.dc_system_text.specs.declared.fault.SystemPart.TheVariants.{Top, Concentrator, Link}
use Rattle.dc_system_text.specs.declared.fault.SystemRule.{SystemRule}
use Rattle.dc_system_text.specs.declared.fault.SystemRule.TheVariants.{VersionUnknown, NameDoubled, ConcentratorAbsent, FedTwice, LatencyReversed}
use Rattle.dc_system_text.specs.declared.parts.End.{End}
use Rattle.dc_system_text.specs.declared.parts.LinkText.{LinkText}

-- a concentrator: its name, and the names of its files
pub record ConcentratorRow : Type 0 where
  pub name : List ℕ
  pub tables : List ℕ
  pub certificate : List ℕ

-- the concentrators and the links, in the order of the text
pub record SystemRows : Type 0 where
  pub concentrators : List ConcentratorRow
  pub links : List LinkText

-- ---- one table

-- the keys of a concentrator
abbrev pub concentrator_keys : List (List ℕ)
concentrator_keys = codes "name" ∷ codes "tables" ∷ codes "certificate" ∷ []

-- a concentrator
unfoldable pub read_concentrator : TablePlace → Data → Reading ConcentratorRow
read_concentrator p v = do
  ms ← table_of p v
  k ← keyed p concentrator_keys ms
  name ← name_at p (codes "name") ms
  tables ← text_at p (codes "tables") ms
  certificate ← text_at p (codes "certificate") ms
  Ok (record { name = name; tables = tables; certificate = certificate })

-- the end of two names, where both are there
abbrev pub end_named : Option (List ℕ) → Option (List ℕ) → Option End
end_named None port = None
end_named (Some c) None = None
end_named (Some c) (Some port) = Some (record { concentrator = c; port = port })

-- two names with a dot between them, the first that there is
abbrev pub end_of : List ℕ → Option End
end_of s = option_and_then (λ i. end_named (name_of (take i s)) (name_of (drop (i + 1) s))) (position (λ b. b == 46) s)

-- the end at a key, else N07
abbrev pub end_at : TablePlace → List ℕ → Members → Reading End
end_at p key ms = text_at p key ms >>= (λ s. found p TableWrongSpelling (end_of s))

-- the keys of a link
abbrev pub link_keys : List (List ℕ)
link_keys = codes "from" ∷ codes "to" ∷ codes "least_us" ∷ codes "most_us" ∷ []

-- a link
unfoldable pub read_link : TablePlace → Data → Reading LinkText
read_link p v = do
  ms ← table_of p v
  k ← keyed p link_keys ms
  from ← end_at p (codes "from") ms
  to ← end_at p (codes "to") ms
  least ← number_at p (codes "least_us") 0 LONGEST_LATENCY ms
  most ← number_at p (codes "most_us") 0 LONGEST_LATENCY ms
  Ok (record { from = from; to = to; least_us = least; most_us = most })

-- ---- the whole

-- the tables of a list in order, each at its number
abbrev pub each_at : {A : Type 0} → (ℕ → Data → Said A) → ℕ → Items → Said (List A)
each_at one i no_items = Ok []
each_at one i (item d ds) = and_then (one i d) (λ x. and_then (each_at one (suc i) ds) (λ xs. Ok (x ∷ xs)))

-- the concentrator and the link of this number
abbrev pub concentrator_at : ℕ → Data → Said ConcentratorRow
concentrator_at i d = of_part Concentrator (read_concentrator (place TableTop i) d)

abbrev pub link_at : ℕ → Data → Said LinkText
link_at i d = of_part Link (read_link (place TableTop i) d)

-- the version is 1, else N02
abbrev pub version_of : Members → Said (Unit {0})
version_of ms = (elim (number_at (place TableTop 0) (codes "version") 1 1 ms) [ Ok n ↦ Ok tt | Err f ↦ Err (fault_of VersionUnknown Top 0) ])

-- the two lists at the top
unfoldable pub lists_of : TablePlace → Members → Reading (Items × Items)
lists_of p ms = do
  k ← known p (codes "version" ∷ codes "concentrator" ∷ codes "link" ∷ []) ms
  there ← present p (codes "version" ∷ codes "concentrator" ∷ []) ms
  concentrators ← tables_at p (codes "concentrator") 1 MOST_CONCENTRATORS ms
  links ← optional_at p (codes "link") MOST_LINKS ms
  Ok (concentrators, links)

-- the members of the two lists
abbrev pub members_of : Items × Items → Said SystemRows
members_of l = and_then (each_at concentrator_at 0 l.0) (λ cs. and_then (each_at link_at 0 l.1) (λ ls. Ok (record { concentrators = cs; links = ls })))

-- ---- rules

-- the names of the concentrators
abbrev pub names_of : SystemRows → List (List ℕ)
names_of s = map (λ c. c.name) s.concentrators

-- whether the link leads from or to a concentrator that is not there
abbrev pub is_absent : List (List ℕ) → LinkText → Bool
is_absent names l = not (list_any (bytes_eq l.from.concentrator) names) || not (list_any (bytes_eq l.to.concentrator) names)

-- whether two links lead to one bus
abbrev pub feed_one : LinkText → LinkText → Bool
feed_one a b = bytes_eq a.to.concentrator b.to.concentrator && bytes_eq a.to.port b.to.port

-- whether the least latency is over the greatest
abbrev pub is_reversed : LinkText → Bool
is_reversed l = nat_lt l.most_us l.least_us

-- a rule that is broken first at this number, if at any
abbrev pub broken : SystemRule → SystemPart → Option ℕ → Option SystemFault
broken rule part None = None
broken rule part (Some i) = Some (fault_of rule part i)

-- the first of two
abbrev pub or_then : Option SystemFault → Option SystemFault → Option SystemFault
or_then None b = b
or_then (Some a) b = Some a

-- the first rule that is broken: N09 to N12
abbrev pub verdict_of : SystemRows → Option SystemFault
verdict_of s =
    or_then (broken NameDoubled Concentrator (doubled bytes_eq (names_of s)))
    (or_then (broken ConcentratorAbsent Link (position (is_absent (names_of s)) s.links))
    (or_then (broken FedTwice Link (doubled feed_one s.links))
    (broken LatencyReversed Link (position is_reversed s.links))))

-- where no rule is broken
abbrev pub unbroken : SystemRows → Option SystemFault → Said SystemRows
unbroken s None = Ok s
unbroken s (Some fault) = Err fault

-- what was read, where no rule on it is broken
abbrev pub ruled : Said SystemRows → Said SystemRows
ruled said = and_then said (λ s. unbroken s (verdict_of s))

-- what a document says, or its first fault, N02 to N12
abbrev pub system_in : Members → Said SystemRows
system_in ms = and_then (version_of ms) (λ v. and_then (of_part Top (lists_of (place TableTop 0) ms)) (λ l. ruled (members_of l)))

-- what a text says, or its first fault, N01 to N12
abbrev pub system_of : List ℕ → Said SystemRows
system_of text = and_then (of_part Top (document_of text)) system_in

-- no link takes longer than one may
abbrev pub AreShort : List LinkText → Type 0
AreShort links = (k : ℕ) (d : LinkText) → k < length links → (slice_index_or links k d).most_us ≤ LONGEST_LATENCY

-- what each system keeps
pub record KeepsRules (s : SystemRows) : Type 0 where
  pub unbroken : verdict_of s ≡ None
  pub few : length s.concentrators ≤ MOST_CONCENTRATORS
  pub few_links : length s.links ≤ MOST_LINKS
  pub short : AreShort s.links
