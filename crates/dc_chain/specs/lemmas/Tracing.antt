-- Words traced back through a chain.
use Rattle.std.proofs.Common.{◌≡◌, ℕ, zero, suc, ◌+◌, ◌*◌, ◌<◌, ◌≤◌, ◌⊎◌, Option, List, [], ◌∷◌, ◌++◌, get_or, sym, ap, ◌∙◌, subst, arith, inl, inr, append_assoc}
use Rattle.std.specs.List.{Contains}
use Rattle.std.proofs.Math.Nat.{mul-le-mul_right}
use Rattle.std.proofs.lemmas.List.{append-nil}
use Rattle.std.proofs.lemmas.List.Elements.{Contains-append_left}
use Rattle.std.proofs.lemmas.Bool.{cases_eq}
use Rattle.dc_bound.specs.Run.{stamp}
use Rattle.dc_word.specs.Word.{data_of, ssm_of, copied_word}
use Rattle.dc_chain.specs.lemmas.Carried.{carried-from}
use Rattle.dc_tables.specs.TableRows.{stream_row, label_row}
use Rattle.dc_event.specs.Choice.{word_for, fallback_for}
use Rattle.dc_event.specs.Emissions.{emission}
use Rattle.dc_event.specs.declared.event.Event.{Event}
use Rattle.dc_time.specs.Timed.{events, timed}
use Rattle.dc_time.specs.Sources.{brought}
use Rattle.dc_time.specs.Claims.{IsYoungInTime}
use Rattle.dc_time.specs.lemmas.TimedRuns.{timed-push, timed-place}
use Rattle.dc_time.specs.lemmas.Claiming.{from_some}
use Rattle.dc_chain.specs.Concentrators.{Concentrator, Link, RunsInTime, KeepsClaims, IsLinked, sent_word, sends_of, arrivals_at}
use Rattle.dc_chain.specs.Chains.{stay_of, Copies, IsCopyOr, CameThrough, Stage, IsChain, greatest, longest_stay, longest_way, IsNoData, IsFresh}
use Rattle.dc_chain.specs.lemmas.Fields.{copied-fields, fallback-fields}
use Rattle.dc_chain.specs.lemmas.Feeding.{sent-is, sent-by}

-- what is picked of a beginning is picked
pub timed-beginning : {X : Type 0} (f : List Event → Event → Option X) (past rest : List (ℕ × Event)) → (more : List (ℕ × X)) × (timed f (past ++ rest) ≡ timed f past ++ more)
timed-beginning {X} f past [] = ([], ap (timed f) (append-nil past) ∙ sym (append-nil (timed f past)))
timed-beginning {X} f past (e ∷ rest) =
    let r = timed-beginning f (past ++ e ∷ []) rest in
    (stamp e.0 (f (events past) e.1) [] ++ r.0, ap (timed f) (sym (append_assoc past (e ∷ []) rest)) ∙ r.1 ∙ ap (λ z. z ++ r.0) (timed-push f past e) ∙ append_assoc (timed f past) (stamp e.0 (f (events past) e.1) []) r.0)

-- ---- one concentrator

pub origin : (c : Concentrator) → KeepsClaims c → (o time x word : ℕ) → Contains (sends_of c o) (time, (x, word))
    → (word ≡ fallback_for c.rows x) ⊎ ((s : ℕ) × (v : ℕ) × (came : ℕ) × Copies c time x word s v came)
origin c claims o time x word there =
    let place = timed-place (sent_word c.rows o) c.run (time, (x, word)) there in
    let is = sent-is c.rows o (events place.0) place.2.1 (x, word) place.3.picked in
    let now : List Event = events place.0 ++ place.2.1 ∷ [] in
    let young : IsYoungInTime c.rows x ((get_or c.ages x 0 + 1) * c.clock.longest) place.0 place.2 =
    from_some (λ x. IsYoungInTime c.rows x ((get_or c.ages x 0 + 1) * c.clock.longest) place.0 place.2) (emission c.rows (events place.0) place.2.1) x is.label (claims place.0 place.1 place.2 place.3.cut).young in
    elim young [
      | inl fallback ↦ inl (is.word ∙ fallback)
      | inr (d, came, copies) ↦
          let more = timed-beginning (brought c.rows (stream_row c.rows d.0).bus) place.0 (place.2 ∷ place.1) in
          let whole : timed (brought c.rows (stream_row c.rows d.0).bus) place.0 ++ more.0 ≡ arrivals_at c (stream_row c.rows d.0).bus = sym (ap (timed (brought c.rows (stream_row c.rows d.0).bus)) place.3.cut ∙ more.1) in
          let P : List (ℕ × (ℕ × ℕ)) → Type 0 = λ z. Contains z (came, d) in
          inr (
            d.0,
            d.1,
            came,
            record {
              arrived = subst P whole (Contains-append_left (timed (brought c.rows (stream_row c.rows d.0).bus) place.0) more.0 (came, d) copies.arrived);
              copied = is.word ∙ ap (word_for c.rows x) copies.copied;
              before = omega (arith, copies.before, place.3.time);
              aged = omega (arith, copies.aged, place.3.time);
            },
          )
    ]

-- ---- two in a row

-- with one thing more known of what is copied
copy-or : (c : Concentrator) (time x word : ℕ) (Of : (s v came : ℕ) → Type 0) → ((s v came : ℕ) → Copies c time x word s v came → Of s v came)
    → (word ≡ fallback_for c.rows x) ⊎ ((s : ℕ) × (v : ℕ) × (came : ℕ) × Copies c time x word s v came) → IsCopyOr c time x word Of
copy-or c time x word Of h (inl fallback) = inl fallback
copy-or c time x word Of h (inr (s, v, came, k)) = inr (s, v, came, k, h s v came k)

pub two-in_a_row : (from to : Concentrator) (link : Link) → KeepsClaims from → KeepsClaims to → IsLinked from link to → (o time x word : ℕ) → Contains (sends_of to o) (time, (x, word))
    → IsCopyOr to time x word (λ s v came. ((stream_row to.rows s).bus ≡ link.bus → ⊥) ⊎ CameThrough from link time (stay_of to x) v came)
two-in_a_row from to link first second carried o time x word there =
    copy-or to time x word (λ s v came. ((stream_row to.rows s).bus ≡ link.bus → ⊥) ⊎ CameThrough from link time (stay_of to x) v came) (λ s v came k.
    elim (cases_eq (stream_row to.rows s).bus link.bus) [
      | inr other ↦ inl other
      | inl own ↦
          let P : ℕ → Type 0 = λ b. Contains (arrivals_at to b) (came, (s, v)) in
          let e = carried-from link.least link.most (sends_of from link.output) (arrivals_at to link.bus) carried (came, (s, v)) (subst P own k.arrived) in
          let Q : ℕ → Type 0 = λ w. Contains (sends_of from link.output) (e.0.0, (e.0.1.0, w)) in
          let leaves : Contains (sends_of from link.output) (e.0.0, (e.0.1.0, v)) = subst Q e.2.same e.1 in
          inr (record {
            label = e.0.1.0;
            sent = e.0.0;
            leaves = leaves;
            no_sooner = e.2.no_sooner;
            no_later = e.2.no_later;
            origin = copy-or from e.0.0 e.0.1.0 v (λ r u start. time < start + stay_of from e.0.1.0 + link.most + stay_of to x) (λ r u start j. omega (arith, j.aged, k.aged, e.2.no_later)) (origin from first link.output e.0.0 e.0.1.0 v leaves);
          })
    ]) (origin to second o time x word there)

-- an age is at most the greatest
age-le : (ages : List ℕ) (x : ℕ) → get_or ages x 0 ≤ greatest ages
age-le [] x = omega arith
age-le (a ∷ ages) zero = omega arith
age-le (a ∷ ages) (suc x) = omega (arith, age-le ages x)

stay : (c : Concentrator) (x : ℕ) → (get_or c.ages x 0 + 1) * c.clock.longest ≤ longest_stay c
stay c x = let h : get_or c.ages x 0 + 1 ≤ greatest c.ages + 1 = omega (arith, age-le c.ages x) in mul-le-mul_right c.clock.longest h

-- ---- the data and the SSM of what is sent

pub fallback-none : (c : Concentrator) → RunsInTime c → (o time x word : ℕ) → Contains (sends_of c o) (time, (x, word)) → word ≡ fallback_for c.rows x → IsNoData word
fallback-none c runs o time x word there is =
    let by = sent-by c runs o (time, (x, word)) there in
    let fit = runs.valid.labels_fit x by.there in
    let f = fallback-fields (label_row c.rows x).label (label_row c.rows x).sdi fit.0 fit.1 in
    (ap data_of is ∙ f.data_is, ap ssm_of is ∙ f.ssm_is)

pub copied-same : (c : Concentrator) → RunsInTime c → (o time x word v : ℕ) → Contains (sends_of c o) (time, (x, word)) → word ≡ copied_word (label_row c.rows x).label (label_row c.rows x).sdi v → (data_of word ≡ data_of v) × (ssm_of word ≡ ssm_of v)
copied-same c runs o time x word v there is =
    let by = sent-by c runs o (time, (x, word)) there in
    let fit = runs.valid.labels_fit x by.there in
    let f = copied-fields (label_row c.rows x).label (label_row c.rows x).sdi v fit.0 fit.1 in
    (ap data_of is ∙ f.data_is, ap ssm_of is ∙ f.ssm_is)

-- ---- a chain

further : (c : Concentrator) (l : Stage) (stages : List Stage) (time word limit sent v : ℕ) → data_of word ≡ data_of v → ssm_of word ≡ ssm_of v → sent ≤ time → time < sent + longest_stay c + l.link.most
    → IsFresh l.from stages sent v limit → IsFresh c (l ∷ stages) time word (longest_stay c + l.link.most + limit)
further c l stages time word limit sent v alike ssm before soon (inl none) = inl (alike ∙ none.0, ssm ∙ none.1)
further c l stages time word limit sent v alike ssm before soon (inr (came, origin, h)) = inr (
  came,
  origin,
  record {
    comes = inr h.comes;
    same_data = alike ∙ h.same_data;
    same_ssm = ssm ∙ h.same_ssm;
    before = omega (arith, h.before);
    young = omega (arith, h.young);
  },
)

pub words-come_from : (c : Concentrator) (stages : List Stage) → IsChain c stages → (o time x word : ℕ) → Contains (sends_of c o) (time, (x, word)) → IsFresh c stages time word (longest_way c stages)
words-come_from c [] chain o time x word there =
    elim (origin c chain.1 o time x word there) [
      | inl fallback ↦ inl (fallback-none c chain.0 o time x word there fallback)
      | inr (s, v, came, k) ↦
          let same = copied-same c chain.0 o time x word v there k.copied in
          inr (came, v, record { comes = (s, k.arrived); same_data = same.0; same_ssm = same.1; before = k.before; young = omega (arith, k.aged, stay c x) })
    ]
words-come_from c (l ∷ stages) chain o time x word there =
    elim (origin c chain.1 o time x word there) [
      | inl fallback ↦ inl (fallback-none c chain.0 o time x word there fallback)
      | inr (s, v, came, k) ↦
          let same = copied-same c chain.0 o time x word v there k.copied in
          elim (cases_eq (stream_row c.rows s).bus l.link.bus) [
            | inr other ↦ inr (came, v, record { comes = inl (s, other, k.arrived); same_data = same.0; same_ssm = same.1; before = k.before; young = omega (arith, k.aged, stay c x) })
            | inl own ↦
                let P : ℕ → Type 0 = λ b. Contains (arrivals_at c b) (came, (s, v)) in
                let e = carried-from l.link.least l.link.most (sends_of l.from l.link.output) (arrivals_at c l.link.bus) chain.2 (came, (s, v)) (subst P own k.arrived) in
                let rec = words-come_from l.from stages chain.3 l.link.output e.0.0 e.0.1.0 e.0.1.1 e.1 in
                further c l stages time word (longest_way l.from stages) e.0.0 e.0.1.1 (same.0 ∙ sym (ap data_of e.2.same)) (same.1 ∙ sym (ap ssm_of e.2.same)) (omega (arith, e.2.no_sooner, k.before)) (omega (arith, e.2.no_later, k.aged, stay c x)) rec
          ]
    ]
