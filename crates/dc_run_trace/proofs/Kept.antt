-- Names kept one after another.
use Rattle.std.proofs.Common.{◌≡◌, ◌≢◌, ℕ, ◌+◌, ◌-◌, ◌<◌, ◌≤◌, List, length, get_or, get_or-set_other, get_or-set_same, below_more, arith, subst, sym}
use Rattle.std.proofs.Math.ListN.{set}
use Rattle.dc_event.specs.ReplyText.{name_at}
use Rattle.dc_run_trace.specs.Names.{Keeps, KeepsFirst}
use Rattle.dc_run_trace.specs.declared.texts.NameText.{NameText}

-- one name more
pub keeps_more : (texts : List NameText) (names : List (List ℕ)) (count : ℕ) (kept : NameText) → count < length texts → KeepsFirst texts names count → Keeps kept (name_at names count)
    → KeepsFirst (set texts count kept) names (count + 1)
keeps_more texts names count kept room before one = λ n none below.
    below_more (λ (k : ℕ). Keeps (get_or (set texts count kept) k none) (name_at names k)) count
    (λ k h. let other : k ≢ count = omega arith in rw get_or-set_other (before k none h))
    (rw get_or-set_same one) n below
