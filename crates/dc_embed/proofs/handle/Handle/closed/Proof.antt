-- `closed` owns nothing.
use Rattle.std.proofs.Common.{◌≡◌, [], ◌∷◌, refl}
use Rattle.std.specs.Prelude.{None}
use mir.Syntax.{Fn}
use mir.Val.{Val}
use base.Logic.{SProp, emp}
use base.Fml.{ftrue}
use contract.Monad.{fact, fact_i}
use contract.Running.{tables}
use types.Kit.{‵, raw, ◌⊛◌, ◌$◌, ◌∵◌, !, qed, by, move, drop, use0, split, fjoin}
use types.Part.{agg}
use types.Run.{lit, no_more, and_then, returns, enter}
use types.ByLocal.{alloc_all, pass_all, free_all, look_at, sets}
use denote.RattleType.{RattleType, owns}
use denote.RawPtr.{null_ptr}
use denote.Signature.{types_at}
use denote.Steps.{nothing}
use denote.Triple.Entry.{alive}
use denote.Triple.Walked.{Stays, walk_of}
use Rattle.std.proofs.raw_atomic.Walks.{proved_at, leaves}
use Rattle.std.specs.contracts.alloc.Global as heap
use Rattle.std.proofs.alloc.Global.TheLaws as heap_laws
use Rattle.dc_embed.proofs.Values.{list_val, list_own, list_made, list_typed}
use Rattle.dc_engine.specs.contracts.engine.Engine as core
use Rattle.dc_embed.specs.contracts.handle.Handle.closed.{ended, clauses}
use Rattle.dc_embed.specs.contracts.handle.Handle.closed.Key.{name as #self}
use Rattle.dc_embed.proofs.handle.Handle.closed.Statement.{statement}
use Rattle.dc_embed.proofs.handle.Handle.closed.Code as compiled

pub closed_spec : {M : Type 1} → statement M
closed_spec 𝓤 𝓛 𝓜 𝓡 wired =
    let H = 𝓛.H in let En = ended in let c = clauses 𝓛 𝓜.mem 𝓡.returns in let fn : Fn = compiled.function in
    let R : RattleType = core.the_row in let Z : RattleType = heap.the_row in let LZ = heap_laws.the_row_laws in
    let hs : Stays En.signature.params En.kept = tt in
    let C = (tables 𝓤 H 𝓜 𝓡 𝓡.env).C in let Λ = (tables 𝓤 H 𝓜 𝓡 𝓡.env).Λ in
    proved_at 𝓛 En hs c 𝓜 𝓡 tt #self fn (compiled.unfolded 𝓤 H 𝓜 𝓡 wired) (λ z are.
    let Post : Val → SProp 𝓤 = (walk_of 𝓛 En hs c).post z in
    qed 𝓛 ((raw (alive 𝓛 En.signature z.0.0 z.0.1) ⊛ ‵ (owns (types_at En.signature.params z.0.0) z.0.3 z.0.4)) ∷ ‵ ftrue ∷ []) ∵ move ! (1 ∷ []) $ drop ! $ split ! $ move ! (1 ∷ []) $ drop ! $
    enter ! C Λ fn [] Post $ alloc_all ! (λ l. pass_all ! refl tt $
    sets ! (agg ! (and_then ! (lit ! tt) (no_more !))) refl (list_typed null_ptr tt) $
    returns ! (look_at ! 0 refl) $ free_all ! refl $
    nothing ! $ use0 𝓛 (‵ (list_own null_ptr (list_val null_ptr ∷ []))) (list_made 𝓛 null_ptr tt) $ fjoin ! $
    use0 𝓛 (raw (fact 𝓤 (None ≡ None))) (fact_i 𝓤 (None ≡ None) (emp 𝓤) refl) $ nothing ! $ move ! (3 ∷ 0 ∷ 2 ∷ 1 ∷ []) $
    by ! (leaves 𝓛 En hs c z (list_val null_ptr) (record { at = null_ptr; engine = None }) tt tt)))
