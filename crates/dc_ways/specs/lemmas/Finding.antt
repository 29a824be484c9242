-- Labels that feed a stream, and links that fit.
use Rattle.std.proofs.Common.{◌≡◌, ◌≢◌, ℕ, ◌+◌, ◌<◌, ◌==◌, ◌&&◌, true, false, length, refl, sym, ◌∙◌, subst, arith, inl, inr}
use Rattle.std.proofs.lemmas.Bool.{cases_eq, ne_eqb}
use Rattle.dc_tables.specs.Declares.{fits}
use Rattle.dc_tables.specs.TableRows.{TableRows, stream_row, label_row}
use Rattle.dc_chain.specs.Concentrators.{Link}
use Rattle.dc_network.specs.Networks.{Member as NetworkMember, IsFeeder, Fits, feeds}
use Rattle.dc_ways.specs.Fitting.{IsFound, KeepsStream}
use Rattle.dc_ways.specs.declared.fitting.Feeder.TheVariants.{One}

-- a label feeds streams of the link's bus alone
pub unfed : (from to : TableRows) (link : Link) (x s : ℕ) → ((stream_row to s).bus ≡ link.bus → ⊥) → feeds from to link x s ≡ false
unfed from to link x s other =
    elim ((label_row from x).output == link.output) as (λ a. (a && (((stream_row to s).bus == link.bus) && ((stream_row to s).label == (label_row from x).label) && fits (stream_row to s).sdi (label_row from x).sdi)) ≡ false) [
      | true ↦ rw (ne_eqb (stream_row to s).bus link.bus other) refl
      | false ↦ refl
    ]

-- a stream of another bus keeps the rules
pub elsewhere-keeps : (from to : NetworkMember) (link : Link) (s : ℕ) → ((stream_row to.rows s).bus ≡ link.bus → ⊥) → KeepsStream from to link s
elsewhere-keeps from to link s other = record {
  alone = λ x y f g. (let e : true ≡ false = sym f.feeds ∙ unfed from.rows to.rows link x s other in absurd cc);
  each = λ x f. (let e : true ≡ false = sym f.feeds ∙ unfed from.rows to.rows link x s other in absurd cc);
}

-- a second label that feeds it
pub found-second : (from to : TableRows) (link : Link) (s m y : ℕ) → IsFound from to link s m (One y) → IsFeeder from to link m s → (x : ℕ) × (z : ℕ) × IsFeeder from to link x s × IsFeeder from to link z s × (x ≢ z)
found-second from to link s m y f g = (y, m, f.1, g, λ same. omega (arith, same, f.0))

-- one stream more
pub streams-more : (from to : NetworkMember) (link : Link) (m : ℕ) → ((r : ℕ) → r < m → KeepsStream from to link r) → KeepsStream from to link m → (r : ℕ) → r < m + 1 → KeepsStream from to link r
streams-more from to link m h last r less = elim (cases_eq r m) [
  | inl same ↦ (let P : ℕ → Type 0 = λ r. KeepsStream from to link r in subst P (sym same) last)
  | inr ne ↦ h r (omega (arith, less, ne))
]

-- where all streams keep the rules, the link fits
pub all-fit : (from to : NetworkMember) (link : Link) → link.output < length from.rows.outputs → link.bus < length to.rows.buses → ((r : ℕ) → r < length to.rows.streams → KeepsStream from to link r) → Fits from to link
all-fit from to link output bus h = record {
  output_there = output;
  bus_there = bus;
  alone = λ x y s f g. (h s f.stream).alone x y f g;
  alike = λ x s f. ((h s f.stream).each x f).alike;
  spaced = λ x s f. ((h s f.stream).each x f).spaced;
  lasting = λ x s f. ((h s f.stream).each x f).lasting;
}
