-- Legal entries with one more.
use Rattle.std.proofs.Common.{◌≡◌, List, [], ◌∷◌, ◌++◌, subst, sym, ap, ◌∙◌, refl}
use Rattle.std.proofs.lemmas.List.{map-append}
use Rattle.std.proofs.lemmas.List.Elements.{All-nil, All-push}
use Rattle.dc_bound.specs.Places.{each_place}
use Rattle.dc_core.specs.Standing.{MayFollow}
use Rattle.dc_core.specs.Steps.{StandsFor}
use Rattle.dc_core.specs.declared.machine.State.{State}
use Rattle.dc_event.specs.Admissible.{IsNumbered, IsRun, KeepsBudgets}
use Rattle.dc_event.specs.Replies.{reply, outputs_of}
use Rattle.dc_event.specs.lemmas.Beginnings.{outputs_of-append}
use Rattle.dc_event.specs.declared.event.Event.{Event}
use Rattle.dc_event.specs.declared.event.Reply.{Reply}
use Rattle.dc_hub.specs.Entries.{entry, events, replies, IsLegal}
use Rattle.dc_hub.specs.declared.entry.Entry.{Entry}
use Rattle.dc_tables.specs.TableRows.{TableRows}

events-push : (es : List Entry) (e : Event) (r : Reply) → events (es ++ entry e r ∷ []) ≡ events es ++ e ∷ []
events-push es e r = map-append (λ (x : Entry). x.event) es (entry e r ∷ [])

replies-push : (es : List Entry) (e : Event) (r : Reply) → replies (es ++ entry e r ∷ []) ≡ replies es ++ r ∷ []
replies-push es e r = map-append (λ (x : Entry). x.reply) es (entry e r ∷ [])

-- no entries are legal where a state stands for no events
pub legal_none : (t : TableRows) (s : State) → StandsFor t s [] → IsLegal t []
unfolding outputs_of each_place
legal_none t s h = record { numbers = All-nil (IsNumbered t); budgets = h.0.kept; answers = refl }

-- where the event may follow, and the reply is the one that the run calls for, the entries with theirs are legal
pub legal_after : (t : TableRows) (es : List Entry) (e : Event) (r : Reply) → IsLegal t es → MayFollow t (events es) e → r ≡ reply t (events es) e → IsLegal t (es ++ entry e r ∷ [])
legal_after t es e r legal may is = record {
  numbers = subst (IsRun t) (sym (events-push es e r)) (All-push (IsNumbered t) (events es) e legal.numbers may.numbered);
  budgets = subst (KeepsBudgets t) (sym (events-push es e r)) may.keeps;
  answers =
      replies-push es e r
      ∙ ap (λ rs. rs ++ r ∷ []) legal.answers
      ∙ ap (λ x. outputs_of t (events es) ++ x ∷ []) is
      ∙ sym (outputs_of-append t (events es) (e ∷ []))
      ∙ ap (outputs_of t) (sym (events-push es e r));
}

-- and the state stands for their run
pub stands_after : (t : TableRows) (s : State) (es : List Entry) (e : Event) (r : Reply) → StandsFor t s (events es ++ e ∷ []) → StandsFor t s (events (es ++ entry e r ∷ []))
stands_after t s es e r h = subst (StandsFor t s) (sym (events-push es e r)) h
