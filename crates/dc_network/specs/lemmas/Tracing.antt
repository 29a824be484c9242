-- Claims and words traced back through a network, by the places of its concentrators.
use Rattle.std.proofs.Common.{◌≡◌, ℕ, zero, suc, ◌+◌, ◌*◌, ◌<◌, ◌≤◌, ◌⊎◌, ◌==◌, ◌&&◌, eqb, true, false, Option, Some, List, [], ◌∷◌, ◌++◌, length, get_or, refl, sym, ap, ◌∙◌, subst, arith, inl, inr}
use Rattle.std.specs.List.{Contains}
use Rattle.std.proofs.Math.Nat.{mul-le-mul_left}
use Rattle.std.proofs.lemmas.List.Elements.{Contains-append_left}
use Rattle.std.proofs.lemmas.List.Quantifiers.{position-Some}
use Rattle.std.proofs.lemmas.Bool.{eq-eqb, cases_eq}
use Rattle.dc_word.specs.Word.{data_of, ssm_of, label_of, sdi_of}
use Rattle.dc_word.specs.declared.format.Format.TheVariants.{Bnr}
use Rattle.dc_tables.specs.Declares.{fits, declares, stream_of}
use Rattle.dc_tables.specs.TableRows.{TableRows, stream_row, label_row}
use Rattle.dc_cert.specs.Bounds.{numbers_of}
use Rattle.dc_check.proofs.Whole.{claims_hold}
use Rattle.dc_event.specs.Choice.{word_for, fallback_for}
use Rattle.dc_event.specs.Claims.{ClaimsHold}
use Rattle.dc_event.specs.Emissions.{emission}
use Rattle.dc_event.specs.declared.event.Event.{Event}
use Rattle.dc_chain.specs.lemmas.Carried.{carried-from}
use Rattle.dc_time.specs.Timed.{events, timed}
use Rattle.dc_time.specs.Sources.{KeepsSourcesInTime, brought}
use Rattle.dc_time.specs.Claims.{IsYoungInTime, ClaimsHoldInTime}
use Rattle.dc_time.specs.lemmas.TimedRuns.{timed-place}
use Rattle.dc_network.specs.lemmas.Choosing.{chosen-among}
use Rattle.dc_time.specs.lemmas.Arriving.{sources-keep_ticks}
use Rattle.dc_time.specs.lemmas.Claiming.{from_some, claims-keep_time}
use Rattle.dc_chain.specs.Concentrators.{Concentrator, Link, RunsInTime, KeepsClaims, IsLinked, Feeds, LinkFits, sent_word, sends_of, arrivals_at}
use Rattle.dc_chain.specs.Chains.{Copies}
use Rattle.dc_chain.specs.lemmas.Feeding.{sent-is, sent-by, came-by, kept}
use Rattle.dc_chain.specs.lemmas.Tracing.{timed-beginning, fallback-none, copied-same}
use Rattle.dc_network.specs.Networks.{Network, IsFed, IsFeeder, Fits, stay, way_to, way_of, AreWays}
use Rattle.dc_network.specs.JointRuns.{IsSound, Running, HaveClocks, IsJointRun, running, IsRecent, SendsRecent}
use Rattle.dc_network.specs.lemmas.Greatest.{way-over, way-to, way-of}

-- ---- links

-- whether a link feeds the bus
fed_below : (n : Network) (i b m : ℕ) → m ≤ n.links → IsFed n i b ⊎ ((k : ℕ) → k < m → (n.connection k).to ≡ i → (n.connection k).link.bus ≡ b → ⊥)
fed_below n i b zero h = inr (λ k l. absurd (omega arith))
fed_below n i b (suc m) h =
    elim (cases_eq (n.connection m).to i) [
      | inl to ↦ elim (cases_eq (n.connection m).link.bus b) [
        | inl bus ↦ inl (record { number = m; there = omega arith; to = to; bus = bus })
        | inr other ↦ elim (fed_below n i b m (omega arith)) [
          | inl fed ↦ inl fed
          | inr none ↦ inr (λ k l to bus. elim (cases_eq k m) [ inl same ↦ other (ap (λ k. (n.connection k).link.bus) (sym same) ∙ bus) | inr before ↦ none k (omega arith) to bus ])
        ]
      ]
      | inr other ↦ elim (fed_below n i b m (omega arith)) [
        | inl fed ↦ inl fed
        | inr none ↦ inr (λ k l to bus. elim (cases_eq k m) [ inl same ↦ other (ap (λ k. (n.connection k).to) (sym same) ∙ to) | inr before ↦ none k (omega arith) to bus ])
      ]
    ]

pub fed_or : (n : Network) (i b : ℕ) → IsFed n i b ⊎ (IsFed n i b → ⊥)
fed_or n i b = elim (fed_below n i b n.links (omega arith)) [ inl fed ↦ inl fed | inr none ↦ inr (λ fed. none fed.number fed.there fed.to fed.bus) ]

-- what a word shows to be fed is fed
pub feeder : (from to : TableRows) (link : Link) (x s w : ℕ) → Feeds from to link x s w → IsFeeder from to link x s
unfolding stream_of
feeder from to link x s w f =
    let r = position-Some (declares link.bus w) to.streams s (record { bus = 0; label = 0; sdi = Rattle.std.proofs.Common.None; format = Bnr; minimum = 0; maximum = 0; jitter = 0 }) f.declared in
    let P : ℕ → Type 0 = λ l. (((stream_row to s).bus == link.bus) && ((stream_row to s).label == l) && fits (stream_row to s).sdi (sdi_of w)) ≡ true in
    let one = subst P f.labelled r.1 in
    let Q : ℕ → Type 0 = λ d. (((stream_row to s).bus == link.bus) && ((stream_row to s).label == (label_row from x).label) && fits (stream_row to s).sdi d) ≡ true in
    let two = subst Q f.by_sdi one in
    let on : eqb (label_row from x).output link.output ≡ true = eq-eqb (label_row from x).output link.output f.on_output in
    record { label = f.there; stream = r.0; feeds = rw on two }

module _ (n : Network) (runs : ℕ → Running) where
  -- a link that fits fits in each joint run
  link-fits : (i j : ℕ) (link : Link) → Fits (n.member i) (n.member j) link → LinkFits (running n runs i) link (running n runs j)
  link-fits i j link fits = record {
    alone = λ x y s w v f g. fits.alone x y s (feeder (n.member i).rows (n.member j).rows link x s w f) (feeder (n.member i).rows (n.member j).rows link y s v g);
    spaced = λ x s w f. fits.spaced x s (feeder (n.member i).rows (n.member j).rows link x s w f);
  }

-- ---- one concentrator

-- the word is copied from a source of the label
record CopiesSource (c : Concentrator) (time x word s v came : ℕ) : Type 0 where
  copies : Copies c time x word s v came
  number : ℕ
  there : number < length (label_row c.rows x).sources
  source : get_or (label_row c.rows x).sources number 0 ≡ s

origin : (c : Concentrator) → KeepsClaims c → (o time x word : ℕ) → Contains (sends_of c o) (time, (x, word))
    → (word ≡ fallback_for c.rows x) ⊎ ((s : ℕ) × (v : ℕ) × (came : ℕ) × CopiesSource c time x word s v came)
origin c claims o time x word there =
    let place = timed-place (sent_word c.rows o) c.run (time, (x, word)) there in
    let is = sent-is c.rows o (events place.0) place.2.1 (x, word) place.3.picked in
    let now : List Event = events place.0 ++ place.2.1 ∷ [] in
    let young : IsYoungInTime c.rows x ((get_or c.ages x 0 + 1) * c.clock.longest) place.0 place.2 =
    from_some (λ x. IsYoungInTime c.rows x ((get_or c.ages x 0 + 1) * c.clock.longest) place.0 place.2) (emission c.rows (events place.0) place.2.1) x is.label (claims place.0 place.1 place.2 place.3.cut).young in
    elim young [
      | inl fallback ↦ inl (is.word ∙ fallback)
      | inr (d, came, copies) ↦
          let more = timed-beginning (brought c.rows (stream_row c.rows d.0).bus) place.0 (place.2 ∷ place.1) in
          let whole : timed (brought c.rows (stream_row c.rows d.0).bus) place.0 ++ more.0 ≡ arrivals_at c (stream_row c.rows d.0).bus = sym (ap (timed (brought c.rows (stream_row c.rows d.0).bus)) place.3.cut ∙ more.1) in
          let P : List (ℕ × (ℕ × ℕ)) → Type 0 = λ z. Contains z (came, d) in
          let source = chosen-among c.rows x (events place.0 ++ place.2.1 ∷ []) d copies.copied in
          inr (
            d.0,
            d.1,
            came,
            record {
              copies = record {
                arrived = subst P whole (Contains-append_left (timed (brought c.rows (stream_row c.rows d.0).bus) place.0) more.0 (came, d) copies.arrived);
                copied = is.word ∙ ap (word_for c.rows x) copies.copied;
                before = omega (arith, copies.before, place.3.time);
                aged = omega (arith, copies.aged, place.3.time);
              };
              number = source.0;
              there = source.1;
              source = source.2;
            },
          )
    ]

-- ---- the network

-- one concentrator and one link further
further : (n : Network) (runs : ℕ → Running) (time word limit sent v before : ℕ) → data_of word ≡ data_of v → ssm_of word ≡ ssm_of v → sent ≤ time → time + before ≤ sent + limit
    → IsRecent n runs sent v before → IsRecent n runs time word limit
further n runs time word limit sent v before alike ssm later soon (inl none) = inl (alike ∙ none.0, ssm ∙ none.1)
further n runs time word limit sent v before alike ssm later soon (inr (came, origin, h)) = inr (
  came,
  origin,
  record {
    enters = h.enters;
    same_data = alike ∙ h.same_data;
    same_ssm = ssm ∙ h.same_ssm;
    before = omega (arith, h.before);
    young = omega (arith, h.young);
  },
)

module _ (n : Network) (sound : IsSound n) (ways : ℕ → ℕ → ℕ) (are : AreWays n ways) (runs : ℕ → Running) (clocks : HaveClocks n runs) (joint : IsJointRun n runs) where
  in_time : (i : ℕ) → i < n.size → RunsInTime (running n runs i)
  in_time i h = let t = joint.timely i h in record { valid = (sound.certified i h).valid; paced = (clocks i h).paced; fits = (clocks i h).fits; timing = t.timing; numbers = t.numbers }

  -- where its sources keep their intervals, it keeps its claims
  claims : (i : ℕ) → i < n.size → KeepsSourcesInTime (n.member i).rows (n.member i).us (runs i).run → KeepsClaims (running n runs i)
  claims i h sources =
      let is = sound.certified i h in
      let t = joint.timely i h in
      let ticks = sources-keep_ticks (n.member i).rows is.valid (n.member i).us (runs i).clock (clocks i h).paced (clocks i h).fits (runs i).run t.timing.placed sources in
      let held : ClaimsHold (n.member i).rows (numbers_of is.claims).ages (events (runs i).run) =
      claims_hold (n.member i).rows is.valid is.claims is.accepted (events (runs i).run) (record { numbers = t.numbers; sources = ticks; budgets = t.budgets }) in
      let P = λ (ages : List ℕ). ClaimsHoldInTime (n.member i).rows (n.member i).us ages (runs i).clock (runs i).run in
      subst P (sym is.ages) (claims-keep_time (n.member i).rows is.valid (n.member i).us (runs i).clock (clocks i h).paced (clocks i h).fits (numbers_of is.claims).ages (runs i).run t.timing t.numbers held)

  -- the link that feeds a bus
  link_to : (i b : ℕ) → (fed : IsFed n i b) → IsLinked (running n runs (n.connection fed.number).from) (n.connection fed.number).link (running n runs i)
  link_to i b fed =
      let P : ℕ → Type 0 = λ j. IsLinked (running n runs (n.connection fed.number).from) (n.connection fed.number).link (running n runs j) in
      subst P fed.to (joint.carried fed.number fed.there)

  fit_to : (i b : ℕ) → (fed : IsFed n i b) → LinkFits (running n runs (n.connection fed.number).from) (n.connection fed.number).link (running n runs i)
  fit_to i b fed =
      let P : ℕ → Type 0 = λ j. Fits (n.member (n.connection fed.number).from) (n.member j) (n.connection fed.number).link in
      link-fits n runs (n.connection fed.number).from i (n.connection fed.number).link (subst P fed.to (sound.fit fed.number fed.there))

  sources : (i : ℕ) → i < n.size → ((k : ℕ) → k < n.links → (n.connection k).to ≡ i → KeepsClaims (running n runs (n.connection k).from)) → KeepsSourcesInTime (n.member i).rows (n.member i).us (runs i).run
  sources i h before = record {
    streams_rest = λ s there free.
        elim (fed_or n i (stream_row (n.member i).rows s).bus) [
          | inl fed ↦
              kept
              (running n runs (n.connection fed.number).from)
              (running n runs i)
              (n.connection fed.number).link
              (in_time (n.connection fed.number).from (sound.ends fed.number fed.there).0)
              (before fed.number fed.there fed.to)
              (in_time i h)
              (link_to i (stream_row (n.member i).rows s).bus fed)
              (fit_to i (stream_row (n.member i).rows s).bus fed)
              s
              there
              (sym fed.bus)
          | inr none ↦ joint.streams_rest i s h there free none
        ];
    wires_rest = λ b there free. joint.wires_rest i b h there free;
  }

  -- a word of the concentrator's, where what leaves those before it is recent
  recent : (i : ℕ) → i < n.size → KeepsClaims (running n runs i) → ((k : ℕ) → k < n.links → (n.connection k).to ≡ i → SendsRecent n runs ways (n.connection k).from) → SendsRecent n runs ways i
  recent i h claims before o time x word there =
      let by = sent-by (running n runs i) (in_time i h) o (time, (x, word)) there in
      elim (origin (running n runs i) claims o time x word there) [
        | inl fallback ↦ inl (fallback-none (running n runs i) (in_time i h) o time x word there fallback)
        | inr (s, v, came, k) ↦
            let same = copied-same (running n runs i) (in_time i h) o time x word v there k.copies.copied in
            let long : (get_or (n.member i).ages x 0 + 1) * (runs i).clock.longest ≤ stay (n.member i) x = mul-le-mul_left (get_or (n.member i).ages x 0 + 1) (clocks i h).longest in
            let P : ℕ → Type 0 = λ s. stay (n.member i) x + way_to n ways i s ≤ way_of n ways i x in
            let way : stay (n.member i) x + way_to n ways i s ≤ way_of n ways i x = subst P k.source (way-of n ways i x k.number k.there) in
            let is : ways i x ≡ way_of n ways i x = are i x h by.there in
            elim (fed_or n i (stream_row (n.member i).rows s).bus) [
              | inr free ↦ inr (
                came,
                v,
                record {
                  enters = record { concentrator = i; there = h; stream = s; free = free; came = k.copies.arrived };
                  same_data = same.0;
                  same_ssm = same.1;
                  before = k.copies.before;
                  young = omega (arith, k.copies.aged, long, way, is);
                },
              )
              | inl fed ↦
                  let from : ℕ = (n.connection fed.number).from in
                  let link : Link = (n.connection fed.number).link in
                  let carried = link_to i (stream_row (n.member i).rows s).bus fed in
                  let Q : ℕ → Type 0 = λ b. Contains (arrivals_at (running n runs i) b) (came, (s, v)) in
                  let arrived = subst Q (sym fed.bus) k.copies.arrived in
                  let e = carried-from (n.connection fed.number).link.least (n.connection fed.number).link.most (sends_of (running n runs (n.connection fed.number).from) (n.connection fed.number).link.output) (arrivals_at (running n runs i) (n.connection fed.number).link.bus) carried (came, (s, v)) arrived in
                  let sender = sent-by (running n runs (n.connection fed.number).from) (in_time (n.connection fed.number).from (sound.ends fed.number fed.there).0) (n.connection fed.number).link.output e.0 e.1 in
                  let is_fed = feeder (n.member (n.connection fed.number).from).rows (n.member i).rows (n.connection fed.number).link e.0.1.0 s v (record {
                    there = sender.there;
                    on_output = sender.on_output;
                    labelled = sym (ap label_of e.2.same) ∙ sender.labelled;
                    by_sdi = sym (ap sdi_of e.2.same) ∙ sender.by_sdi;
                    declared = came-by (running n runs i) (n.connection fed.number).link.bus (came, (s, v)) arrived;
                  }) in
                  let over = way-over (n.member (n.connection fed.number).from).rows (n.member i).rows (n.connection fed.number).link (ways (n.connection fed.number).from) s e.0.1.0 is_fed.label is_fed.feeds in
                  let to = way-to n ways i s fed.number fed.there fed.to in
                  further n runs time word (ways i x) e.0.0 e.0.1.1 (ways (n.connection fed.number).from e.0.1.0) (same.0 ∙ sym (ap data_of e.2.same)) (same.1 ∙ sym (ap ssm_of e.2.same))
                  (omega (arith, e.2.no_sooner, k.copies.before))
                  (omega (arith, e.2.no_later, k.copies.aged, long, way, is, over, to))
                  (before fed.number fed.there fed.to (n.connection fed.number).link.output e.0.0 e.0.1.0 e.0.1.1 e.1)
            ]
      ]

  -- all concentrators of lesser places than m
  below : (m i : ℕ) → i < n.size → sound.place i < m → KeepsClaims (running n runs i) × SendsRecent n runs ways i
  below zero i h l = absurd (omega arith)
  below (suc m) i h l =
      let earlier : (k : ℕ) → k < n.links → (n.connection k).to ≡ i → KeepsClaims (running n runs (n.connection k).from) × SendsRecent n runs ways (n.connection k).from =
      λ k there to. below m (n.connection k).from (sound.ends k there).0 (omega (arith, sound.order k there, ap sound.place to)) in
      let held = claims i h (sources i h (λ k there to. (earlier k there to).0)) in
      (held, recent i h held (λ k there to. (earlier k there to).1))

  pub network-keeps : (i : ℕ) → i < n.size → KeepsClaims (running n runs i) × SendsRecent n runs ways i
  network-keeps i h = below (suc (sound.place i)) i h (omega arith)

pub networks-keep_claims : (n : Network) → IsSound n → (ways : ℕ → ℕ → ℕ) → AreWays n ways → (runs : ℕ → Running) → HaveClocks n runs → IsJointRun n runs → (i : ℕ) → i < n.size
    → KeepsClaims (running n runs i) × SendsRecent n runs ways i
networks-keep_claims n sound ways are runs clocks joint i h = network-keeps n sound ways are runs clocks joint i h
