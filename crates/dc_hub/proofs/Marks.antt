-- What a wire has noted after one more receipt.
use Rattle.std.proofs.Common.{◌≡◌, ◌≢◌, ℕ, ◌<◌, ◌≤◌, ◌==◌, if◌then◌else◌, max, List, [], ◌∷◌, ◌++◌, length, refl, sym, ap, subst, ◌∙◌, arith, slice_index, eq-eqb, ne_eqb}
use Rattle.std.proofs.lemmas.List.{length-replicate, get_or-replicate, get_or-set_same, get_or-set_other}
use mathlib.Core.Logic.{dite}
use native.Mathlib.Decide.{ℕ_discrete}
use Rattle.atomic_table.specs.Seated.{TableId}
use Rattle.dc_board.specs.Marks.{raised, IsSeatOf}
use Rattle.dc_board.specs.declared.view.View.{View}
use Rattle.dc_event.specs.declared.event.Actor.{Actor}
use Rattle.dc_event.specs.declared.event.Actor.TheVariants.{Wire, Router, Output, Clock}
use Rattle.dc_hub.specs.Entries.{backlog_of}
use Rattle.dc_hub.specs.Views.{board_caps, greatest, IsNotedAt}
use Rattle.dc_hub.specs.declared.entry.Receipt.{Receipt}

pub greatest-push : (rs : List Receipt) (r : Receipt) → greatest (rs ++ r ∷ []) ≡ max (greatest rs) (backlog_of r.reply)
greatest-push [] r = omega arith
greatest-push (x ∷ rs) r = omega (arith, greatest-push rs r)

-- a raised mark is the greatest with one more
pub noted_after : (rs : List Receipt) (r : Receipt) (bus : ℕ) (noted : List ℕ) → bus < length noted → IsNotedAt bus (greatest rs) noted → IsNotedAt bus (greatest (rs ++ r ∷ [])) (raised noted bus (backlog_of r.reply))
noted_after rs r bus noted inside before i =
    dite (ℕ_discrete i bus)
    (λ e. subst (λ k. slice_index (raised noted bus (backlog_of r.reply)) k ≡ (if k == bus then greatest (rs ++ r ∷ []) else 0)) (sym e)
    (get_or-set_same noted bus _ 0 inside ∙ ap (λ m. max m (backlog_of r.reply)) (before bus ∙ here) ∙ sym (greatest-push rs r) ∙ sym there))
    (λ ne. get_or-set_other noted bus i _ 0 ne ∙ before i ∙ off ne)
  where
    here : (if bus == bus then greatest rs else 0) ≡ greatest rs
    here = ap (λ b. if b then greatest rs else 0) (eq-eqb bus bus refl)

    there : (if bus == bus then greatest (rs ++ r ∷ []) else 0) ≡ greatest (rs ++ r ∷ [])
    there = ap (λ b. if b then greatest (rs ++ r ∷ []) else 0) (eq-eqb bus bus refl)

    off : i ≢ bus → (if i == bus then greatest rs else 0) ≡ (if i == bus then greatest (rs ++ r ∷ []) else 0)
    off ne = ap (λ b. if b then greatest rs else 0) (ne_eqb i bus ne) ∙ sym (ap (λ b. if b then greatest (rs ++ r ∷ []) else 0) (ne_eqb i bus ne))

cap_at : (caps : List ℕ) (bus : ℕ) → caps ≡ board_caps → bus < 64 → slice_index caps bus ≡ 4096
cap_at caps bus is below = ap (λ (l : List ℕ). slice_index l bus) is ∙ get_or-replicate 64 bus 4096 0 below

-- a mark of the board is within its cap, and what is within it is within the board's
pub at_most_cap : (caps : List ℕ) (bus n : ℕ) → caps ≡ board_caps → bus < 64 → n ≤ slice_index caps bus → n ≤ 4096
at_most_cap caps bus n is below h = subst (λ k. n ≤ k) (cap_at caps bus is below) h

pub within_cap : (caps : List ℕ) (bus n : ℕ) → caps ≡ board_caps → bus < 64 → n ≤ 4096 → n ≤ slice_index caps bus
within_cap caps bus n is below h = subst (λ k. n ≤ k) (sym (cap_at caps bus is below)) h

-- what a wire of the board has noted after one more receipt
pub noted_next : (board : TableId × List ℕ) (marks : TableId × View) (rs : List Receipt) (r : Receipt) (bus : ℕ) (after : List Receipt) (noted : List ℕ) → board.1 ≡ board_caps → IsSeatOf board marks → bus < 64
    → IsNotedAt bus (greatest rs) marks.1.noted → after ≡ rs ++ r ∷ [] → noted ≡ raised marks.1.noted bus (backlog_of r.reply) → IsNotedAt bus (greatest after) noted
noted_next board marks rs r bus after noted caps seat below before more is =
    let all : length marks.1.noted ≡ 64 = seat.2 ∙ ap length caps ∙ length-replicate {A = ℕ} 64 4096 in
    subst (λ l. IsNotedAt bus (greatest l) noted) (sym more)
    (subst (λ l. IsNotedAt bus (greatest (rs ++ r ∷ [])) l) (sym is) (noted_after rs r bus marks.1.noted (omega (arith, below, all)) before))

number : Actor → ℕ
number (Wire b) = b
number (Router q) = q
number (Output p) = p
number Clock = 0

pub wire-same : (a b : ℕ) → Wire a ≡ Wire b → a ≡ b
unfolding number
wire-same a b e = ap number e
