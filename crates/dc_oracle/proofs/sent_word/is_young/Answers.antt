use Rattle.std.proofs.Common.{ℕ, ◌≡◌, ◌≤◌, ◌+◌, ◌∙◌, Bool, Option, Some, None, get_or, rules, refl, sym, subst, arith}
use Rattle.dc_event.specs.Choice.{word_for}
use Rattle.dc_oracle.specs.Claims.{IsWhether}
use Rattle.dc_oracle.proofs.Choosing.{choice-is}
use Rattle.dc_oracle.proofs.Judging.{young-fallback, young-yes, young-else}
use Rattle.dc_oracle.proofs.sent_word.is_young.Goals as goal

pub returns-in_default : goal.returns-in_default
returns-in_default c = λ now h f.
    young-fallback c.args.tables.now c.args.label _ now None (sym c.in_default.is ∙ c.requires.chosen ∙ choice-is c.args.tables.now c.args.replies.now now c.args.label c.valid.ensures c.requires.label h) refl

pub returns-then-came_within : goal.returns-then-came_within
returns-then-came_within c = λ now h f.
    let Q : Bool → Type 0 = λ b. IsWhether ((came : ℕ) × (get_or c.args.arrivals.now.latest.items c.in-Some.stream None ≡ Some came) × (c.args.replies.now.tick ≤ came + c.age_of.result)) b in
    let z = subst Q c.if-came_within.true c.came_within.ensures in
    young-yes c.args.tables.now c.valid.ensures c.args.arrivals.now c.args.label _ now c.requires.label f (c.in-Some.stream, c.in-Some.word) (sym c.in-Some.is ∙ c.requires.chosen ∙ choice-is c.args.tables.now c.args.replies.now now c.args.label c.valid.ensures c.requires.label h)
    z.0 z.1 (omega (arith, z.2, c.age_of.ensures, h.clock))

pub returns : goal.returns
returns c = λ now h f.
    let reported : c.word_for-sent.result ≡ word_for c.args.tables.now c.args.label (Some (c.in-Some.stream, c.in-Some.word)) = search rules in
    let Q : Bool → Type 0 = λ b. IsWhether ((came : ℕ) × (get_or c.args.arrivals.now.latest.items c.in-Some.stream None ≡ Some came) × (c.args.replies.now.tick ≤ came + c.age_of.result)) b in
    let none = subst Q c.if-came_within.false c.came_within.ensures in
    young-else c.args.tables.now c.valid.ensures c.args.arrivals.now c.args.label _ now c.requires.label f (c.in-Some.stream, c.in-Some.word) (sym c.in-Some.is ∙ c.requires.chosen ∙ choice-is c.args.tables.now c.args.replies.now now c.args.label c.valid.ensures c.requires.label h)
    c.eq.result c.word_for-sent.result c.word_for-fallback.result c.eq.ensures reported c.word_for-fallback.ensures (λ z. none (z.0, z.1, omega (arith, z.2, c.age_of.ensures, h.clock)))
