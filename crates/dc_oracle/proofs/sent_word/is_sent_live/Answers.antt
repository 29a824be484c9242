use Rattle.std.proofs.Common.{ℕ, ◌≡◌, ◌<◌, ◌∙◌, Bool, Option, length, sym, subst}
use Rattle.std.specs.Prelude.{IfSome, MatchBool}
use Rattle.dc_event.specs.Choice.{choice, chosen_source}
use Rattle.dc_event.specs.Claims.{UsesFirst, UsesAny}
use Rattle.dc_event.specs.Time.{tick_after}
use Rattle.dc_oracle.specs.Replies.{fresh_sources}
use Rattle.dc_oracle.proofs.Choosing.{choice-is}
use Rattle.dc_oracle.proofs.Judging.{second-reported}
use Rattle.dc_oracle.proofs.sent_word.is_sent_live.Goals as goal

pub returns-then-not-uses_first : goal.returns-then-not-uses_first
returns-then-not-uses_first c = λ now h f.
    let R : Option ℕ → Type 0 = λ o. IfSome o (λ x. x < length c.args.tables.now.labels) in
    let there : c.in-Some.label < length c.args.tables.now.labels = subst R c.in-Some.is c.requires.there in
    let S : Option ℕ → Type 0 = λ o. IfSome o (λ x. c.args.chosen.now ≡ choice c.args.tables.now x (fresh_sources c.args.tables.now c.args.replies.now x)) in
    let is : c.args.chosen.now ≡ chosen_source c.args.tables.now c.in-Some.label now = subst S c.in-Some.is c.requires.chosen ∙ choice-is c.args.tables.now c.args.replies.now now c.in-Some.label c.valid.ensures there h in
    let clock : c.tick-tick.result ≡ tick_after now = c.tick-tick.ensures ∙ h.clock in
    let Q : Bool → Type 0 = λ b. MatchBool b (UsesFirst c.args.tables.now c.in-Some.label now) (UsesFirst c.args.tables.now c.in-Some.label now → ⊥) in
    let none : UsesFirst c.args.tables.now c.in-Some.label now → ⊥ = subst Q c.if-not-uses_first.true (c.uses_first.ensures now f clock is) in
    let P : Option ℕ → Type 0 = λ o. IfSome o (λ x. UsesFirst c.args.tables.now x now × UsesAny c.args.tables.now x now) → ⊥ in
    subst P (sym c.in-Some.is) (λ z. none z.0)

pub returns : goal.returns
returns c = λ now h f.
    let R : Option ℕ → Type 0 = λ o. IfSome o (λ x. x < length c.args.tables.now.labels) in
    let there : c.in-Some.label < length c.args.tables.now.labels = subst R c.in-Some.is c.requires.there in
    let S : Option ℕ → Type 0 = λ o. IfSome o (λ x. c.args.chosen.now ≡ choice c.args.tables.now x (fresh_sources c.args.tables.now c.args.replies.now x)) in
    let is : c.args.chosen.now ≡ chosen_source c.args.tables.now c.in-Some.label now = subst S c.in-Some.is c.requires.chosen ∙ choice-is c.args.tables.now c.args.replies.now now c.in-Some.label c.valid.ensures there h in
    let clock : c.tick-tick.result ≡ tick_after now = c.tick-tick.ensures ∙ h.clock in
    let Q : Bool → Type 0 = λ b. MatchBool b (UsesFirst c.args.tables.now c.in-Some.label now) (UsesFirst c.args.tables.now c.in-Some.label now → ⊥) in
    let first : UsesFirst c.args.tables.now c.in-Some.label now = subst Q c.if-not-uses_first.false (c.uses_first.ensures now f clock is) in
    let P : Option ℕ → Type 0 = λ o. MatchBool c.uses_any.result (IfSome o (λ x. UsesFirst c.args.tables.now x now × UsesAny c.args.tables.now x now)) (IfSome o (λ x. UsesFirst c.args.tables.now x now × UsesAny c.args.tables.now x now) → ⊥) in
    subst P (sym c.in-Some.is) (second-reported c.uses_any.result (UsesFirst c.args.tables.now c.in-Some.label now) (UsesAny c.args.tables.now c.in-Some.label now) first (c.uses_any.ensures now f clock is))
