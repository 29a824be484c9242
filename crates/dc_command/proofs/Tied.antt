-- An argument on which clap has a rule by others is no free one, and else what it was.
use Rattle.std.proofs.Common.{◌≡◌, ◌⊎◌, ◌∙◌, ◌&&◌, ap, inl, inr, refl, Bool, true, false, true≢false, not, [], ◌∷◌}
use Rattle.std.specs.Borrow.{Bor}
use Rattle.clap.specs.Walk.{Rule, Text, is_empty, is_free_arg, rule_of}
use Rattle.clap.specs.Adds.{AddsConflicts, AddsRequiredUnless, AddsRequirements}
use Rattle.clap.specs.declared.builder.arg.Arg.{Arg}
use Rattle.clap.specs.declared.builder.arg.ArgPredicate.TheVariants.{IsPresent}
use Rattle.clap.proofs.SimpleLemmas.{not_empty}
use Rattle.dc_command.specs.Program.{IsReadOf, tied_rule}

-- where one of seven is false
some_false : (a b c d e f g : Bool) → (b ≡ false) ⊎ ((c ≡ false) ⊎ (f ≡ false)) → a && (b && (c && (d && (e && (f && g))))) ≡ false
some_false false b c d e f g is = refl
some_false true false c d e f g is = refl
some_false true true false d e f g is = refl
some_false true true true d e f g (inl is) = absurd (true≢false is)
some_false true true true d e f g (inr (inl is)) = absurd (true≢false is)
some_false true true true false e f g (inr (inr is)) = refl
some_false true true true true false f g (inr (inr is)) = refl
some_false true true true true true false g (inr (inr is)) = refl
some_false true true true true true true g (inr (inr is)) = absurd (true≢false is)

-- an argument with a rule by another is no free one
not_free : (a : Arg) → (is_empty a.conflicts.items ≡ false) ⊎ ((is_empty a.needs.items ≡ false) ⊎ (is_empty a.r_unless.items ≡ false)) → is_free_arg a ≡ false
not_free a = some_false (not a.exclusive) (is_empty a.conflicts.items) (is_empty a.needs.items) (is_empty a.r_ifs.items) (is_empty a.r_ifs_all.items)
    (is_empty a.r_unless.items) (is_empty a.r_unless_all.items)

-- one that is wanted unless another is said
pub unless_tied : (old new : Arg) (rule : Rule) (other : Bor Text) → AddsRequiredUnless old new (other ∷ []) → rule_of old ≡ rule → old.global ≡ false
    → IsReadOf (tied_rule rule) new
unless_tied old new rule other adds is local =
    let free = not_free (record old { r_unless = new.r_unless }) (inr (inr (ap is_empty adds.1 ∙ not_empty old.r_unless.items other))) in
    (ap rule_of adds.0 ∙ ap (λ (b : Bool). record (rule_of old) { is_free = b }) free ∙ ap tied_rule is, ap (λ (a : Arg). a.global) adds.0 ∙ local)

-- one beside which another can't stand
pub conflict_tied : (old new : Arg) (rule : Rule) (other : Bor Text) → AddsConflicts old new (other ∷ []) → rule_of old ≡ rule → old.global ≡ false
    → IsReadOf (tied_rule rule) new
conflict_tied old new rule other adds is local =
    let free = not_free (record old { conflicts = new.conflicts }) (inl (ap is_empty adds.1 ∙ not_empty old.conflicts.items other)) in
    (ap rule_of adds.0 ∙ ap (λ (b : Bool). record (rule_of old) { is_free = b }) free ∙ ap tied_rule is, ap (λ (a : Arg). a.global) adds.0 ∙ local)

-- one that wants another beside it
pub needs_tied : (old new : Arg) (rule : Rule) (other : Bor Text) → AddsRequirements old new ((IsPresent, other) ∷ []) → rule_of old ≡ rule → old.global ≡ false
    → IsReadOf (tied_rule rule) new
needs_tied old new rule other adds is local =
    let free = not_free (record old { needs = new.needs }) (inr (inl (ap is_empty adds.1 ∙ not_empty old.needs.items (IsPresent, other)))) in
    (ap rule_of adds.0 ∙ ap (λ (b : Bool). record (rule_of old) { is_free = b }) free ∙ ap tied_rule is, ap (λ (a : Arg). a.global) adds.0 ∙ local)
