-- The text of steps, piece by piece.
use Rattle.std.proofs.Common.{◌≡◌, ℕ, zero, suc, ◌+◌, ◌%◌, ◌==◌, Bool, true, false, cond, List, [], ◌∷◌, ◌++◌, length, map, replicate, codes, refl, sym, ap, ◌∙◌, append_assoc, append-nil, arith}
use Rattle.std.proofs.lemmas.List.{map-append, replicate_more}
use Rattle.dc_device.specs.Lines.{spelled}
use Rattle.dc_device.specs.lemmas.LineLemmas.{spelled-append}
use Rattle.dc_event.specs.ReplyText.{name_at}
use Rattle.dc_event.specs.Steady.{each_below, output_steps, router_steps, steady_tick}
use Rattle.dc_event.specs.declared.event.Event.{Event}
use Rattle.dc_event.specs.declared.event.Event.TheVariants.{Tick, Arrive, Route, Send}
use Rattle.dc_run_trace.specs.Lines.{event_text, run_text}
use Rattle.dc_tables.specs.TableRows.{TableRows, output_row, router_row}

pub lines-append : (t : TableRows) (a b : List Event) → run_text t (a ++ b) ≡ run_text t a ++ run_text t b
lines-append t a b = map-append (event_text t) a b

pub text-append : (t : TableRows) (a b : List Event) → spelled (run_text t (a ++ b)) ≡ spelled (run_text t a) ++ spelled (run_text t b)
text-append t a b = ap spelled (map-append (event_text t) a b) ∙ spelled-append (run_text t a) (run_text t b)

one_more : {X : Type 0} (f : ℕ → List X) (n : ℕ) → each_below f (n + 1) ≡ each_below f n ++ f n
one_more f n = ap (each_below f) (next n) where
  next : (n : ℕ) → n + 1 ≡ suc n
  next n = omega arith

-- ---- routers

-- one step more
pub step_more : (n : ℕ) (line : List ℕ) → spelled (replicate (n + 1) line) ≡ spelled (replicate n line) ++ (line ++ 10 ∷ [])
step_more n line = ap spelled (sym (replicate_more n line)) ∙ spelled-append (replicate n line) (line ∷ [])

steps_of : (t : TableRows) (n r : ℕ) → run_text t (replicate n (Route r)) ≡ replicate n (event_text t (Route r))
steps_of t zero r = refl
steps_of t (suc n) r = ap (λ l. event_text t (Route r) ∷ l) (steps_of t n r)

-- one router more
pub router_more : (t : TableRows) (r : ℕ) → spelled (run_text t (each_below (router_steps t) (r + 1)))
    ≡ spelled (run_text t (each_below (router_steps t) r)) ++ spelled (replicate (router_row t r).most (codes "R " ++ name_at t.names.routers r))
router_more t r =
    ap (λ run. spelled (run_text t run)) (one_more (router_steps t) r) ∙ text-append t (each_below (router_steps t) r) (router_steps t r)
    ∙ ap (λ l. spelled (run_text t (each_below (router_steps t) r)) ++ l) (ap spelled (steps_of t (router_row t r).most r))

-- ---- outputs

-- an output that sends
pub send_more : (t : TableRows) (tick o : ℕ) → (tick % (output_row t o).gap == 0) ≡ true → spelled (run_text t (each_below (output_steps t tick) (o + 1)))
    ≡ spelled (run_text t (each_below (output_steps t tick) o)) ++ (event_text t (Send o) ++ 10 ∷ [])
send_more t tick o due =
    ap (λ run. spelled (run_text t run)) (one_more (output_steps t tick) o) ∙ text-append t (each_below (output_steps t tick) o) (output_steps t tick o)
    ∙ ap (λ b. spelled (run_text t (each_below (output_steps t tick) o)) ++ spelled (run_text t (cond b (Send o ∷ []) []))) due

-- an output that does not
pub send_none : (t : TableRows) (tick o : ℕ) → (tick % (output_row t o).gap == 0) ≡ false → spelled (run_text t (each_below (output_steps t tick) (o + 1)))
    ≡ spelled (run_text t (each_below (output_steps t tick) o))
send_none t tick o late =
    ap (λ run. spelled (run_text t run)) (one_more (output_steps t tick) o) ∙ text-append t (each_below (output_steps t tick) o) (output_steps t tick o)
    ∙ ap (λ b. spelled (run_text t (each_below (output_steps t tick) o)) ++ spelled (run_text t (cond b (Send o ∷ []) []))) late
    ∙ append-nil _

-- ---- a tick

pub tick_text : (t : TableRows) (tick : ℕ) (routers sends : List ℕ) → routers ≡ spelled (run_text t (each_below (router_steps t) (length t.routers)))
    → sends ≡ spelled (run_text t (each_below (output_steps t tick) (length t.outputs))) ++ codes "T"
    → routers ++ (sends ++ 10 ∷ []) ≡ spelled (run_text t (steady_tick t tick))
tick_text t tick routers sends first second =
    rw (first, second)
    (sym (text-append t (each_below (router_steps t) (length t.routers)) (each_below (output_steps t tick) (length t.outputs) ++ Tick ∷ [])
    ∙ ap (λ l. spelled (run_text t (each_below (router_steps t) (length t.routers))) ++ l)
    (text-append t (each_below (output_steps t tick) (length t.outputs)) (Tick ∷ [])
    ∙ sym (append_assoc (spelled (run_text t (each_below (output_steps t tick) (length t.outputs)))) (codes "T") (10 ∷ [])))))
