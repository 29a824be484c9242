use Rattle.std.proofs.Common.{◌≡◌, ◌≤◌, ◌<◌, ◌∙◌, ℕ, Option, [], length, get_or, sym, subst, arith}
use Rattle.std.specs.Prelude.{MatchOption}
use Rattle.std.proofs.lemmas.List.{get_or_read}
use Rattle.dc_event.specs.Buses.{moves, room}
use Rattle.dc_oracle.specs.BusData.{BusData}
use Rattle.dc_oracle.specs.BusLog.{IsLog}
use Rattle.dc_observe.proofs.Visiting.{none-waits, some-wait}
use Rattle.dc_observe.proofs.waits.WaitGauge.greatest.Goals as goal

pub returns-in-Some : goal.returns-in-Some
returns-in-Some c = λ run h holds.
    let t = c.args.tables.now in
    let b : ℕ = c.args.bus in
    let d : BusData = c.log.result.now in
    let there : c.args.bus < length c.args.self.now.longest.items = omega (arith, c.requires.there, c.requires.sized) in
    let read = get_or_read c.args.self.now.longest.items c.args.bus c.index-longest.result.now there c.index-longest.ensures 0 in
    let Q : BusData → Type 0 = λ d. IsLog (room t b) d (moves t b run) in
    let log : IsLog (room t b) d (moves t b run) = subst Q (sym c.log.ensures) (holds.logs b c.requires.there) in
    let P : Option ℕ → Type 0 = λ o. MatchOption o (d.words ≡ []) (λ tick. (1 ≤ length d.words) × (tick ≡ (get_or d.words 0 (0, (0, 0))).0)) in
    let first = subst P c.in-Some.is c.oldest.ensures in
    omega (arith, some-wait t b run d log c.in-Some.came first.0 first.1, read, h b c.requires.there, c.max.ensures, c.saturating_sub.ensures, c.tick.ensures, holds.clock)

pub returns-in-None : goal.returns-in-None
returns-in-None c = λ run h holds.
    let t = c.args.tables.now in
    let b : ℕ = c.args.bus in
    let d : BusData = c.log.result.now in
    let there : c.args.bus < length c.args.self.now.longest.items = omega (arith, c.requires.there, c.requires.sized) in
    let read = get_or_read c.args.self.now.longest.items c.args.bus c.index-longest.result.now there c.index-longest.ensures 0 in
    let Q : BusData → Type 0 = λ d. IsLog (room t b) d (moves t b run) in
    let log : IsLog (room t b) d (moves t b run) = subst Q (sym c.log.ensures) (holds.logs b c.requires.there) in
    let P : Option ℕ → Type 0 = λ o. MatchOption o (d.words ≡ []) (λ tick. (1 ≤ length d.words) × (tick ≡ (get_or d.words 0 (0, (0, 0))).0)) in
    read ∙ h b c.requires.there ∙ sym (none-waits t b run d log (subst P c.in-None.is c.oldest.ensures))
