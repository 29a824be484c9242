use Rattle.std.proofs.Common.{ℕ, ◌↔◌, sym, subst}
use Rattle.dc_bound.specs.Window.{HoldAtMost, ticks_of}
use Rattle.dc_bound.specs.Early.{jitter_cap, HoldsCap}
use Rattle.dc_bound.specs.lemmas.Caps.{holds_cap-none}
use Rattle.dc_bound.proofs.jitter.Jittered.new.Goals as goal

pub returns-clause-none : goal.returns-clause-none
returns-clause-none c = λ none xs.
    let P : ℕ → Type 0 = λ j. HoldsCap (jitter_cap c.args.minimum j) (ticks_of xs) ↔ HoldAtMost 1 c.args.minimum (ticks_of xs) in
    subst P (sym none) (holds_cap-none c.args.minimum c.requires.positive xs)
