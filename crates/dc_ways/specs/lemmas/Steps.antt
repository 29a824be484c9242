-- Steps of the computation of ways.
use Rattle.std.proofs.Common.{◌≡◌, ℕ, ◌+◌, ◌*◌, ◌<◌, ◌≤◌, ◌==◌, true, false, cond, eqb, List, [], ◌∷◌, ◌++◌, length, map, get_or, set, refl, sym, ap, ◌∙◌, subst, arith, inl, inr}
use Rattle.std.proofs.Math.Nat.{mul-le-mul_right}
use Rattle.std.proofs.lemmas.Bool.{eqb-true, cases_eq, cases_lt}
use Rattle.std.proofs.lemmas.List.{length-set, length_push, get_or_append_left, get_or_push, get_or-set_same, get_or-set_other, get_or_past}
use Rattle.std.proofs.Math.ListN.{length-map}
use Rattle.dc_cert.specs.NamedRows.{NamedLabel}
use Rattle.dc_tables.specs.TableRows.{TableRows, stream_row, label_row}
use Rattle.dc_chain.specs.Concentrators.{Link}
use Rattle.dc_network.specs.Networks.{Member as NetworkMember, feeds, stay, way_over, way_to, way_of, AreWays}
use Rattle.dc_network.specs.lemmas.Ways.{greatest-bound, greatest-same, way-same, AreSameBefore}
use Rattle.dc_ways.specs.Members.{connection_at, link_of, rows_of, network_of, AreConnections, ArePlaces, ways_in, AreSmall, AreBounded, AreWaysOf, longest_step, AreSoFar, MemberRows, IsMember, ages_in, member_of, member_at, way_from}
use Rattle.dc_ways.specs.lemmas.Finding.{unfed}
use Rattle.dc_ways.specs.declared.connection.Connection.{Connection}

-- ---- bounds

pub over-bound : (from to : TableRows) (link : Link) (u : ℕ → ℕ) (s b : ℕ) → ((y : ℕ) → u y ≤ b) → way_over from to link u s ≤ link.most + b
over-bound from to link u s b h =
    greatest-bound (λ y. cond (feeds from to link y s) (link.most + u y) 0) (length from.labels) (link.most + b) (λ y there.
    elim (feeds from to link y s) as (λ v. cond v (link.most + u y) 0 ≤ link.most + b) [ true ↦ omega (arith, h y) | false ↦ omega arith ])

pub to-bound : (members : List MemberRows) (connections : List Connection) (w : ℕ → ℕ → ℕ) (i s b : ℕ) → AreConnections (length members) connections
    → ((k : ℕ) → k < length connections → (connection_at connections k).to ≡ i → (y : ℕ) → w (connection_at connections k).from y ≤ b) → way_to (network_of members connections) w i s ≤ 1000000 + b
to-bound members connections w i s b are h =
    let over : ℕ → ℕ = λ k. way_over (rows_of members (connection_at connections k).from) (rows_of members i) (link_of (connection_at connections k)) (w (connection_at connections k).from) s in
    greatest-bound (λ k. cond ((connection_at connections k).to == i) (over k) 0) (length connections) (1000000 + b) (λ k there.
    elim (eqb (connection_at connections k).to i) as (λ v. eqb (connection_at connections k).to i ≡ v → cond v (over k) 0 ≤ 1000000 + b) [
      | true ↦ λ is. omega (arith, are.short k there, over-bound (rows_of members (connection_at connections k).from) (rows_of members i) (link_of (connection_at connections k)) (w (connection_at connections k).from) s b (h k there (eqb-true (connection_at connections k).to i is)))
      | false ↦ λ is. omega arith
    ] refl)

-- ages past the labels are 0
pub age-bound : (m : MemberRows) (x : ℕ) → IsMember m → get_or (ages_in m) x 0 ≤ 2000000
age-bound m x is = elim (cases_lt x (length m.written.tables.labels)) [
  | inl there ↦ omega (arith, (is.accepted.numbers.labels x there).age.limited, (is.valid.limits x there).1)
  | inr past ↦
      let sized : length (map (λ (l : NamedLabel). l.label) m.claims.labels) ≡ length m.written.tables.labels = is.accepted.named.labels.sized in
      let each = length-map m.claims.labels (λ (l : NamedLabel). l.label) in
      let ages = length-map m.claims.labels (λ (l : NamedLabel). l.age) in
      omega (arith, get_or_past (ages_in m) x 0 (omega (arith, past, sized, each, ages)))
]

pub stay-bound : (m : MemberRows) (x : ℕ) → IsMember m → stay (member_of m) x ≤ 20000010000
stay-bound m x is =
    let a : get_or (ages_in m) x 0 + 1 ≤ 2000001 = omega (arith, age-bound m x is) in
    let one : (get_or (ages_in m) x 0 + 1) * m.written.tables.tick_us ≤ 2000001 * m.written.tables.tick_us = mul-le-mul_right m.written.tables.tick_us a in
    omega (arith, one, is.valid.ticks_short)

pub of-bound : (members : List MemberRows) (connections : List Connection) (w : ℕ → ℕ → ℕ) (i x b : ℕ) → stay (member_at members i) x ≤ 20000010000 → AreConnections (length members) connections
    → ((k : ℕ) → k < length connections → (connection_at connections k).to ≡ i → (y : ℕ) → w (connection_at connections k).from y ≤ b) → way_of (network_of members connections) w i x ≤ longest_step + b
of-bound members connections w i x b short links h =
    greatest-bound
    (λ k. stay (member_at members i) x + way_to (network_of members connections) w i (get_or (label_row (rows_of members i) x).sources k 0))
    (length (label_row (rows_of members i) x).sources)
    (longest_step + b)
    (λ k there. omega (arith, short, to-bound members connections w i (get_or (label_row (rows_of members i) x).sources k 0) b links h))

pub small-to : (members : List MemberRows) (connections : List Connection) (rows : List (List ℕ)) (i s b : ℕ) → AreConnections (length members) connections → AreSmall rows b
    → way_to (network_of members connections) (ways_in rows) i s ≤ 1000000 + b
small-to members connections rows i s b are small = to-bound members connections (ways_in rows) i s b are (λ k there to y. small (connection_at connections k).from y)

-- ---- one stream

-- no label feeds a stream of another bus
pub over-elsewhere : (from to : TableRows) (link : Link) (u : ℕ → ℕ) (s : ℕ) → ((stream_row to s).bus ≡ link.bus → ⊥) → way_over from to link u s ≡ 0
over-elsewhere from to link u s other =
    let none = greatest-bound (λ y. cond (feeds from to link y s) (link.most + u y) 0) (length from.labels) 0 (λ y there. rw (unfed from to link y s other) (omega arith)) in
    omega (arith, none)

-- ---- one label

-- the way from what comes before, where this is the way to each stream
pub from-to : (members : List MemberRows) (connections : List Connection) (w : ℕ → ℕ → ℕ) (i x : ℕ) (m : MemberRows) (before : ℕ → ℕ) → member_of m ≡ member_at members i → IsMember m → x < length m.written.tables.labels
    → ((s : ℕ) → s < length m.written.tables.streams → before s ≡ way_to (network_of members connections) w i s) → way_from (member_of m) before x ≡ way_of (network_of members connections) w i x
from-to members connections w i x m before same is there h =
    let own : way_from (member_of m) before x ≡ way_from (member_of m) (way_to (network_of members connections) w i) x =
    greatest-same
    (λ k. stay (member_of m) x + before (get_or (label_row m.written.tables x).sources k 0))
    (λ k. stay (member_of m) x + way_to (network_of members connections) w i (get_or (label_row m.written.tables x).sources k 0))
    (length (label_row m.written.tables x).sources)
    (λ k l. ap (λ z. stay (member_of m) x + z) (h (get_or (label_row m.written.tables x).sources k 0) (is.valid.sources_there x k there l))) in
    own ∙ ap (λ (z : NetworkMember). way_from z (way_to (network_of members connections) w i) x) same

-- one way more
pub row-more : (row : List ℕ) (m way : ℕ) (w : ℕ → ℕ) → length row ≡ m → ((x : ℕ) → x < m → get_or row x 0 ≡ w x) → way ≡ w m → (length (row ++ way ∷ []) ≡ m + 1) × ((x : ℕ) → x < m + 1 → get_or (row ++ way ∷ []) x 0 ≡ w x)
row-more row m way w size h last = (
  length_push row way ∙ ap (λ z. z + 1) size,
  λ x l. elim (cases_lt x m) [
    | inl before ↦ get_or_append_left row (way ∷ []) 0 x (omega (arith, before, size)) ∙ h x before
    | inr not ↦ (let same : x ≡ m = omega (arith, l, not) in get_or_push row way 0 x (omega (arith, same, size)) ∙ last ∙ ap w (sym same))
  ],
)

-- no way is longer by more than a step than those before
pub are-bounded : (members : List MemberRows) (connections : List Connection) (rows : List (List ℕ)) (i : ℕ) (row : List ℕ) (m : MemberRows) → member_of m ≡ member_at members i → IsMember m → AreConnections (length members) connections
    → length row ≡ length (rows_of members i).labels → AreWaysOf members connections rows i row → AreBounded members connections rows i row
are-bounded members connections rows i row m same is links size are b h x = elim (cases_lt x (length row)) [
  | inl inside ↦ (let P : NetworkMember → Type 0 = λ z. stay z x ≤ 20000010000 in
      omega (arith, are x (omega (arith, inside, size)), of-bound members connections (ways_in rows) i x b (subst P same (stay-bound m x is)) links h))
  | inr past ↦ omega (arith, get_or_past row x 0 past)
]

-- ---- one concentrator more

pub step-skip : (members : List MemberRows) (connections : List Connection) (places : List ℕ) (level i : ℕ) (rows : List (List ℕ)) → AreSoFar members connections places level i rows → (get_or places i 0 ≡ level → ⊥)
    → AreSoFar members connections places level (i + 1) rows
step-skip members connections places level i rows so other = record {
  each = so.each;
  done = λ j there h. elim h [
    | inl before ↦ so.done j there (inl before)
    | inr here ↦ elim (cases_eq j i) [ inl same ↦ absurd (other (ap (λ k. get_or places k 0) (sym same) ∙ here.0)) | inr less ↦ so.done j there (inr (here.0, omega (arith, here.1, less))) ]
  ];
  bounded = so.bounded;
}

module _ (members : List MemberRows) (connections : List Connection) (places : List ℕ) (level i : ℕ) (rows : List (List ℕ)) (row : List ℕ) (links : AreConnections (length members) connections) (p : ArePlaces members connections places)
    (there : i < length members) (so : AreSoFar members connections places level i rows) (here : get_or places i 0 ≡ level) (is : AreWaysOf members connections rows i row) (bounded : AreBounded members connections rows i row) where
  abbrev next : List (List ℕ)
  next = set rows i row

  own : get_or next i [] ≡ row
  own = get_or-set_same rows i row [] (omega (arith, there, so.each))

  others : (j : ℕ) → (j ≡ i → ⊥) → get_or next j [] ≡ get_or rows j []
  others j ne = get_or-set_other rows i j row [] ne

  -- what is before one of this level, or of a lesser, is as it was
  before-same : (j : ℕ) → get_or places j 0 ≤ level → AreSameBefore (network_of members connections) (ways_in rows) (ways_in next) j
  before-same j low k l to y inside =
      let less = p.order k l in
      let f : ℕ = (connection_at connections k).from in
      let ne : (connection_at connections k).from ≡ i → ⊥ = λ same. omega (arith, less, low, here, ap (λ k. get_or places k 0) same, ap (λ k. get_or places k 0) to) in
      ap (λ (z : List ℕ). get_or z y 0) (sym (others (connection_at connections k).from ne))

  -- the row that is new
  new-ways : AreWaysOf members connections next i (get_or next i [])
  new-ways x inside =
      ap (λ (z : List ℕ). get_or z x 0) own ∙ is x inside
      ∙ way-same (network_of members connections) (ways_in rows) (ways_in next) i x (before-same i (omega (arith, here)))

  old-ways : (j : ℕ) → (j ≡ i → ⊥) → get_or places j 0 ≤ level → AreWaysOf members connections rows j (get_or rows j []) → AreWaysOf members connections next j (get_or next j [])
  old-ways j ne low h x inside =
      ap (λ (z : List ℕ). get_or z x 0) (others j ne) ∙ h x inside
      ∙ way-same (network_of members connections) (ways_in rows) (ways_in next) j x (before-same j low)

  new-bound : (x : ℕ) → get_or row x 0 ≤ (get_or places i 0 + 1) * longest_step
  new-bound x =
      let from : (k : ℕ) → k < length connections → (connection_at connections k).to ≡ i → (y : ℕ) → ways_in rows (connection_at connections k).from y ≤ get_or places i 0 * longest_step =
      λ k l to y. (let less : get_or places (connection_at connections k).from 0 + 1 ≤ get_or places i 0 = omega (arith, p.order k l, ap (λ k. get_or places k 0) to) in
      let wide : (get_or places (connection_at connections k).from 0 + 1) * longest_step ≤ get_or places i 0 * longest_step = mul-le-mul_right longest_step less in
      omega (arith, so.bounded (connection_at connections k).from y, wide)) in
      omega (arith, bounded (get_or places i 0 * longest_step) from x)

  pub step-put : AreSoFar members connections places level (i + 1) (set rows i row)
  step-put = record {
    each = length-set rows i row ∙ so.each;
    done = λ j inside h. elim (cases_eq j i) [
      | inl same ↦ (let P : ℕ → Type 0 = λ j. AreWaysOf members connections next j (get_or next j []) in subst P (sym same) new-ways)
      | inr ne ↦ elim h [
        | inl less ↦ old-ways j ne (omega (arith, less)) (so.done j inside (inl less))
        | inr at ↦ old-ways j ne (omega (arith, at.0)) (so.done j inside (inr (at.0, omega (arith, at.1, ne))))
      ]
    ];
    bounded = λ j x. elim (cases_eq j i) [
      | inl same ↦ (let P : ℕ → Type 0 = λ j. ways_in next j x ≤ (get_or places j 0 + 1) * longest_step in
          subst P (sym same) (let e : ways_in next i x ≡ get_or row x 0 = ap (λ (z : List ℕ). get_or z x 0) own in omega (arith, e, new-bound x)))
      | inr ne ↦ (let e : ways_in next j x ≡ ways_in rows j x = ap (λ (z : List ℕ). get_or z x 0) (others j ne) in omega (arith, e, so.bounded j x))
    ];
  }

-- ---- one level more

pub level-up : (members : List MemberRows) (connections : List Connection) (places : List ℕ) (level : ℕ) (rows : List (List ℕ)) → AreSoFar members connections places level (length members) rows → AreSoFar members connections places (level + 1) 0 rows
level-up members connections places level rows so = record {
  each = so.each;
  done = λ j there h. elim h [
    | inl less ↦ elim (cases_lt (get_or places j 0) level) [ inl before ↦ so.done j there (inl before) | inr not ↦ so.done j there (inr (omega (arith, less, not), there)) ]
    | inr none ↦ absurd (omega (arith, none.1))
  ];
  bounded = so.bounded;
}

-- nothing yet
pub none-yet : (members : List MemberRows) (connections : List Connection) (places : List ℕ) (rows : List (List ℕ)) → length rows ≡ length members → ((i x : ℕ) → ways_in rows i x ≡ 0) → AreSoFar members connections places 0 0 rows
none-yet members connections places rows each empty = record {
  each = each;
  done = λ j there h. elim h [ inl less ↦ absurd (omega (arith, less)) | inr none ↦ absurd (omega (arith, none.1)) ];
  bounded = λ j x. omega (arith, empty j x);
}

-- all are there
pub all-done : (members : List MemberRows) (connections : List Connection) (places : List ℕ) (level : ℕ) (rows : List (List ℕ)) → ArePlaces members connections places → 65 ≤ level → AreSoFar members connections places level 0 rows
    → AreWays (network_of members connections) (ways_in rows)
all-done members connections places level rows p far so = λ i x there label. so.done i there (inl (omega (arith, p.few i, far))) x label

-- ways of places up to 64 are small
pub so-small : (members : List MemberRows) (connections : List Connection) (places : List ℕ) (level i : ℕ) (rows : List (List ℕ)) → ArePlaces members connections places → AreSoFar members connections places level i rows → AreSmall rows 2000000000000
so-small members connections places level i rows p so = λ j x.
    let few : get_or places j 0 + 1 ≤ 65 = omega (arith, p.few j) in
    let wide : (get_or places j 0 + 1) * longest_step ≤ 65 * longest_step = mul-le-mul_right longest_step few in
    omega (arith, so.bounded j x, wide)
