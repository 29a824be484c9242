-- The entries of an output, and the replies of a run, place by place.
use Rattle.std.proofs.Common.{◌≡◌, ℕ, ◌+◌, ◌≤◌, ◌<◌, List, [], ◌∷◌, ◌++◌, length, take, get_or, refl, sym, ap, ◌∙◌, subst, arith}
use Rattle.std.specs.Prelude.{IfOk, Ok, Err}
use Rattle.std.specs.declared.result.Result.{Result}
use Rattle.std.proofs.lemmas.List.{take_more}
use Rattle.dc_bound.specs.lemmas.Dues.{ascending_ge}
use Rattle.dc_bound.specs.Frame.{due}
use Rattle.dc_bound.specs.lemmas.Due.{due_ascend}
use Rattle.dc_bound.specs.Places.{each_place}
use Rattle.dc_tables.specs.TableRows.{TableRows, AreValid, output_row, offsets}
use Rattle.dc_event.specs.Outputs.{due_tick}
use Rattle.dc_event.specs.lemmas.OutputMoves.{due_tick-is, offsets_fit}
use Rattle.dc_event.specs.Replies.{reply, outputs_of}
use Rattle.dc_event.specs.lemmas.RunPush.{outputs_of-push}
use Rattle.dc_event.specs.declared.event.Event.{Event}
use Rattle.dc_event.specs.declared.event.Reply.{Reply}

pub due-late : (t : TableRows) → AreValid t → (o : ℕ) → o < length t.outputs → (n : ℕ) → n ≤ due_tick t o n
due-late t v o there n = omega (arith, ascending_ge (due (output_row t o).frame (offsets t o)) (due_ascend (output_row t o).frame (offsets t o) (offsets_fit t v o there)) n, due_tick-is t v o there n)

-- ---- results

pub map_ok : {E : Type 0} (r : Result Reply E) (P Q : Reply → Type 0) → ((x : Reply) → P x → Q x) → IfOk r P → IfOk r Q
map_ok (Ok x) P Q f h = f x h
map_ok (Err e) P Q f h = h

-- ---- one more place

pub none-reported : (t : TableRows) → [] ≡ outputs_of t []
unfolding outputs_of each_place
none-reported t = refl

up_to : (run : List Event) (i : ℕ) (e : Event) → i < length run → e ≡ get_or run i e → take (i + 1) run ≡ take i run ++ e ∷ []
up_to run i e l is = take_more run i e l ∙ ap (λ x. take i run ++ x ∷ []) (sym is)

pub holds-more : (P : List Event → Type 0) (run : List Event) (i : ℕ) (e : Event) → i < length run → e ≡ get_or run i e → P (take i run ++ e ∷ []) → P (take (i + 1) run)
holds-more P run i e l is h = subst P (sym (up_to run i e l is)) h

pub reported-more : (t : TableRows) (run : List Event) (i : ℕ) (e : Event) (reported : List Reply) (r : Reply) → i < length run → e ≡ get_or run i e → reported ≡ outputs_of t (take i run) → r ≡ reply t (take i run) e → reported ++ r ∷ [] ≡ outputs_of t (take (i + 1) run)
reported-more t run i e reported r l is so_far next =
    ap (λ xs. xs ++ r ∷ []) so_far ∙ ap (λ x. outputs_of t (take i run) ++ x ∷ []) next ∙ sym (outputs_of-push t (take i run) e) ∙ ap (outputs_of t) (sym (up_to run i e l is))
