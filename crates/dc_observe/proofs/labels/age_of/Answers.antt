use Rattle.std.proofs.Common.{◌-◌, ◌∙◌, Some, None, [], ◌∷◌, ◌++◌, sym, ap}
use Rattle.dc_oracle.proofs.Choosing.{choice-is}
use Rattle.dc_observe.proofs.Sending.{age-none, age-some}
use Rattle.dc_observe.proofs.labels.age_of.Goals as goal

pub returns-in_default : goal.returns-in_default
returns-in_default c = λ run e clock holds follows.
    age-none c.args.tables.now c.args.label run e (sym c.in_default.is ∙ c.choice.ensures ∙ choice-is c.args.tables.now c.args.replies.now (run ++ e ∷ []) c.args.label c.valid.ensures c.requires.label holds)

pub returns-in-Some-latest_came : goal.returns-in-Some-latest_came
returns-in-Some-latest_came c = λ run e clock holds follows.
    let chosen = sym c.in-Some.is ∙ c.choice.ensures ∙ choice-is c.args.tables.now c.args.replies.now (run ++ e ∷ []) c.args.label c.valid.ensures c.requires.label holds in
    ap (λ n. Some n) (c.saturating_sub.ensures ∙ ap (λ k. k - c.in-Some-latest_came.came) clock)
    ∙ age-some c.args.tables.now c.valid.ensures c.args.arrivals.now c.args.label run e c.requires.label follows (c.in-Some.stream, c.in-Some.field-0-1) chosen (Some c.in-Some-latest_came.came) (sym c.latest_came.ensures ∙ c.in-Some-latest_came.is)

pub returns-in-None : goal.returns-in-None
returns-in-None c = λ run e clock holds follows.
    let chosen = sym c.in-Some.is ∙ c.choice.ensures ∙ choice-is c.args.tables.now c.args.replies.now (run ++ e ∷ []) c.args.label c.valid.ensures c.requires.label holds in
    age-some c.args.tables.now c.valid.ensures c.args.arrivals.now c.args.label run e c.requires.label follows (c.in-Some.stream, c.in-Some.field-0-1) chosen None (sym c.latest_came.ensures ∙ c.in-None.is)
