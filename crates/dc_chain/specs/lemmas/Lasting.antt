-- Words that stay usable over a link.
use Rattle.std.proofs.Common.{◌≡◌, ℕ, ◌+◌, ◌-◌, ◌<◌, ◌≤◌, true, Some, List, [], ◌∷◌, ◌++◌, length, get_or, sym, ap, ◌∙◌, subst, arith}
use Rattle.std.specs.List.{Contains}
use Rattle.std.proofs.lemmas.List.Elements.{Contains-append_left}
use Rattle.dc_word.specs.Word.{label_of, sdi_of, copied_word}
use Rattle.dc_word.specs.Format.{is_usable}
use Rattle.dc_word.specs.declared.format.Format.{Format}
use Rattle.dc_chain.specs.lemmas.Carried.{carried-from}
use Rattle.dc_tables.specs.TableRows.{stream_row, label_row}
use Rattle.dc_event.specs.Choice.{chosen}
use Rattle.dc_event.specs.Emissions.{emission}
use Rattle.dc_event.specs.declared.event.Event.{Event}
use Rattle.dc_time.specs.Timed.{events, timed}
use Rattle.dc_time.specs.Sources.{brought}
use Rattle.dc_time.specs.Claims.{stale_time, AreUsableInTime, UsesFirstInTime, UsesAnyInTime}
use Rattle.dc_time.specs.lemmas.TimedRuns.{timed-place}
use Rattle.dc_time.specs.lemmas.Claiming.{from_some}
use Rattle.dc_chain.specs.Concentrators.{Concentrator, Link, RunsInTime, KeepsClaims, IsLinked, Feeds, LinkFits, Delivers, FeedsAll, sent_word, sends_of, arrivals_at}
use Rattle.dc_chain.specs.Laws.{SendsUsable}
use Rattle.dc_chain.specs.lemmas.Fields.{copied-fields}
use Rattle.dc_chain.specs.lemmas.Feeding.{sent-is, sent-by, came-by}
use Rattle.dc_chain.specs.lemmas.Tracing.{timed-beginning}
use Rattle.dc_chain.specs.lemmas.Living.{sources-stay_alive}

module _ (from to : Concentrator) (link : Link) (x s : ℕ) (sender : RunsInTime from) (carried : IsLinked from link to) (fits : LinkFits from link to) (feeds : FeedsAll from.rows to.rows link x s) where
  -- the label feeds the stream, by some word
  own : Feeds from.rows to.rows link x s (copied_word (label_row from.rows x).label (label_row from.rows x).sdi 0)
  own =
      let fit = sender.valid.labels_fit x feeds.there in
      let f = copied-fields (label_row from.rows x).label (label_row from.rows x).sdi 0 fit.0 fit.1 in
      record {
        there = feeds.there;
        on_output = feeds.on_output;
        labelled = f.label_is;
        by_sdi = f.sdi_is;
        declared = feeds.declared (copied_word (label_row from.rows x).label (label_row from.rows x).sdi 0) f.label_is f.sdi_is;
      }

  -- what came of the stream is usable, where what was sent of the label is
  came-usable : (y : ℕ) (past rest : List (ℕ × Event)) (e : ℕ × Event) → to.run ≡ past ++ (e ∷ rest) → (label_row to.rows y).format ≡ (label_row from.rows x).format
      → SendsUsable from x (e.0 - (link.most + stale_time to.rows to.clock y)) → AreUsableInTime to.rows to.clock y s past e
  came-usable y past rest e cut alike usable came w there recent =
      let more = timed-beginning (brought to.rows (stream_row to.rows s).bus) past (e ∷ rest) in
      let P : List (ℕ × (ℕ × ℕ)) → Type 0 = λ z. Contains z (came, (s, w)) in
      let arrived : Contains (arrivals_at to (stream_row to.rows s).bus) (came, (s, w)) =
      subst P (sym (ap (timed (brought to.rows (stream_row to.rows s).bus)) cut ∙ more.1)) (Contains-append_left (timed (brought to.rows (stream_row to.rows s).bus) past) more.0 (came, (s, w)) there) in
      let Q : ℕ → Type 0 = λ b. Contains (arrivals_at to b) (came, (s, w)) in
      let on_link : Contains (arrivals_at to link.bus) (came, (s, w)) = subst Q feeds.on_bus arrived in
      let v = carried-from link.least link.most (sends_of from link.output) (arrivals_at to link.bus) carried (came, (s, w)) on_link in
      let by = sent-by from sender link.output v.0 v.1 in
      let other : Feeds from.rows to.rows link v.0.1.0 s w = record {
        there = by.there;
        on_output = by.on_output;
        labelled = sym (ap label_of v.2.same) ∙ by.labelled;
        by_sdi = sym (ap sdi_of v.2.same) ∙ by.by_sdi;
        declared = came-by to link.bus (came, (s, w)) on_link;
      } in
      let label : v.0.1.0 ≡ x = fits.alone v.0.1.0 x s w (copied_word (label_row from.rows x).label (label_row from.rows x).sdi 0) other own in
      let place = timed-place (sent_word from.rows link.output) from.run v.0 v.1 in
      let is = sent-is from.rows link.output (events place.0) place.2.1 v.0.1 place.3.picked in
      let good = usable place.0 place.1 place.2 place.3.cut (is.label ∙ ap (λ z. Some z) label) (omega (arith, recent, v.2.no_later, place.3.time)) in
      let word : w ≡ chosen from.rows x (events place.0 ++ place.2.1 ∷ []) = sym v.2.same ∙ is.word ∙ ap (λ z. chosen from.rows z (events place.0 ++ place.2.1 ∷ [])) label in
      ap (λ (f : Format). is_usable f w) alike ∙ ap (λ z. is_usable (label_row from.rows x).format z) word ∙ good

pub usable-through : (from to : Concentrator) (link : Link) (x y k : ℕ) → RunsInTime from → KeepsClaims from → RunsInTime to → KeepsClaims to → IsLinked from link to → LinkFits from link to → Delivers from link to
    → k < length (label_row to.rows y).sources → FeedsAll from.rows to.rows link x (get_or (label_row to.rows y).sources k 0) → (label_row to.rows y).format ≡ (label_row from.rows x).format
    → from.us.label_most x + (link.most - link.least) ≤ to.us.stream_most (get_or (label_row to.rows y).sources k 0)
    → (past rest : List (ℕ × Event)) (e later : ℕ × Event) → to.run ≡ past ++ (e ∷ rest) → Contains from.run later → e.0 ≤ later.0
    → to.clock.begins (label_row to.rows y).stale ≤ e.0 → from.clock.begins 0 + link.least + stale_time to.rows to.clock y < e.0
    → emission to.rows (events past) e.1 ≡ Some y → SendsUsable from x (e.0 - (link.most + stale_time to.rows to.clock y))
    → is_usable (label_row to.rows y).format (chosen to.rows y (events past ++ e.1 ∷ [])) ≡ true
usable-through from to link x y k sender first receiver second carried fits delivers there feeds alike fit past rest e later cut reach far old warm leaves usable =
    let s : ℕ = get_or (label_row to.rows y).sources k 0 in
    let alive = sources-stay_alive from to link x (get_or (label_row to.rows y).sources k 0) sender first receiver delivers feeds fit y past rest e later cut reach far old warm in
    let good = came-usable from to link x (get_or (label_row to.rows y).sources k 0) sender carried fits feeds y past rest e cut alike usable in
    let live = from_some (λ y. UsesFirstInTime to.rows to.us to.clock y past e × UsesAnyInTime to.rows to.us to.clock y past e) (emission to.rows (events past) e.1) y leaves (second past rest e cut).live in
    live.1 k there alive good
