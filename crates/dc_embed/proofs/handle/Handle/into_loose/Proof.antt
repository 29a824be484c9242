-- `into_loose` hands over what an open handle owns.
use Rattle.std.proofs.Common.{◌≡◌, ◌≢◌, List, [], ◌∷◌, ◌++◌, refl, ap, ◌∙◌}
use Rattle.std.specs.Prelude.{Some, None}
use mir.Syntax.{Fn}
use mir.Raw.{raw as bare}
use mir.Val.{Val, vptr}
use base.Logic.{SProp, emp, fst∗, never}
use prog.Wp.{WpFn}
use types.Logic.{sem}
use contract.Monad.{fact, fact_i}
use contract.Running.{tables}
use types.Kit.{‵, raw, ◌⊛◌, prop, ◌$◌, ◌∵◌, !, qed, by, move, keep, drop, use0, use1, split, regoal, rewrite, fsplit, fsplit3, fjoin, fpick, feq_l}
use types.Part.{whole, sub, agg}
use types.Run.{stop, fld, of_opd, no_more, and_then, returns, enter}
use types.ByLocal.{alloc_all, pass_all, free_all, look_at, get, get_in, sets}
use denote.RattleType.{RattleType, owns}
use denote.Memory.{lone}
use denote.Param.{layout}
use denote.RawPtr.{Ptr, block_ptr, null_ptr, in_a_block}
use denote.Signature.{types_at}
use denote.Steps.{nothing, heard}
use denote.Triple.Entry.{alive}
use denote.Triple.Walked.{Stays, stay_dropped, walk_of, Goes-dropped}
use Rattle.std.proofs.alloc.Calls.{Goes-blank}
use Rattle.std.proofs.cell.Inside.{one}
use Rattle.std.proofs.raw_atomic.Walks.{proved_at, leaves}
use Rattle.std.specs.contracts.alloc.Global as heap
use Rattle.std.specs.contracts.impls.GlobalAllocator.TheImpl.{ghosts}
use Rattle.std.proofs.alloc.Global.TheLaws as heap_laws
use Rattle.dc_loose.specs.lemmas.Values.{both, loose_good, loose_in}
use Rattle.dc_embed.proofs.Values.{slot_at, list_val, list_told, list_typed, inside, opened}
use Rattle.dc_embed.specs.Held.{chunk}
use Rattle.dc_engine.specs.contracts.engine.Engine as core
use Rattle.std.specs.Box.Ownership.{box_owns}
use Rattle.dc_embed.specs.contracts.handle.Handle.into_loose.{ended, clauses}
use Rattle.dc_embed.specs.contracts.handle.Handle.into_loose.Key.{name as #self}
use Rattle.dc_embed.proofs.handle.Handle.into_loose.Statement.{statement}
use Rattle.dc_embed.proofs.handle.Handle.into_loose.Code as compiled

pub into_loose_spec : {M : Type 1} → statement M
into_loose_spec 𝓤 𝓛 𝓜 𝓡 wired =
    let H = 𝓛.H in let En = ended in let c = clauses 𝓛 𝓜.mem 𝓡.returns in let fn : Fn = compiled.function in
    let R : RattleType = core.the_row in let Z : RattleType = heap.the_row in let LZ = heap_laws.the_row_laws in
    let hs : Stays En.signature.params En.kept = (stay_dropped (slot_at 0 En.signature.params) En.kept.0, (stay_dropped (slot_at 1 En.signature.params) En.kept.1.0, tt)) in
    let C = (tables 𝓤 H 𝓜 𝓡 𝓡.env).C in let Λ = (tables 𝓤 H 𝓜 𝓡 𝓡.env).Λ in
    proved_at 𝓛 En hs c 𝓜 𝓡 (Goes-blank 𝓛 0 (slot_at 0 En.signature.params) En.kept.0 (λ κs x f. tt), (Goes-dropped 𝓛 0 (slot_at 1 En.signature.params) En.kept.1.0 (λ κs x f. refl), tt)) #self fn (compiled.unfolded 𝓤 H 𝓜 𝓡 wired) (λ z are.
    let Post : Val → SProp 𝓤 = (walk_of 𝓛 En hs c).post z in
    let x = z.0.3.0 in let a = z.0.3.1.0 in let told = list_told x.at z.0.4.0 are.0.0 in
    let h = one (layout Z) z.0.4.1.0 ((LZ.lawful 𝓛).typed a z.0.4.1.0 are.1.0) in
    qed 𝓛 ((raw (alive 𝓛 En.signature z.0.0 z.0.1) ⊛ ‵ (owns (types_at En.signature.params z.0.0) z.0.3 z.0.4)) ∷ raw (fact 𝓤 (x.engine ≢ None)) ∷ []) ∵ move ! (1 ∷ []) $ heard ! (x.engine ≢ None) (λ ne. split ! $ move ! (1 ∷ []) $ fsplit3 ! $
    rewrite ! 1 (λ (us : List Val). ‵ (Z.own_val a us)) h.1 refl $ fsplit ! $ drop ! $
    use1 𝓛 (‵ (inside R x.at x.engine)) (opened 𝓛 R x.at x.engine ne) $ fpick ! (λ y. fsplit ! $ feq_l ! (λ e.
    in_a_block ! x.at (λ p. box_owns chunk R p y) (fst∗ 𝓤 (never 𝓤) (sem 𝓛 (chunk (bare (lone R.mir)) null_ptr))) (λ b o e'.
    regoal ! (λ (us : List Val). prop (WpFn 𝓤 H C Λ fn us Post)) (λ i. (told.0 ∙ ap (λ (p : Ptr). list_val p ∷ []) e') i ++ (h.1 i ++ [])) refl $
    enter ! C Λ fn (list_val (block_ptr b o) ∷ h.0 ∷ []) Post $ alloc_all ! (λ l. pass_all ! refl (list_typed (block_ptr b o) tt, (h.2, tt)) $
    sets ! (of_opd ! (get_in ! (fld ! refl (stop !)) (sub ! 0 refl (whole !)))) refl (tt, tt) $
    sets ! (of_opd ! (get ! refl)) refl (tt, tt) $
    sets ! (agg ! (and_then ! (get ! refl) (and_then ! (get ! refl) (no_more !)))) refl (loose_good R Z LZ ghosts b o h.0 h.2) $
    returns ! (look_at ! 0 refl) $ free_all ! refl $ loose_in R Z LZ ghosts ! b o h.0 a y $
    use0 𝓛 (raw (fact 𝓤 (x.engine ≡ Some y))) (fact_i 𝓤 (x.engine ≡ Some y) (emp 𝓤) e) $ nothing ! $ nothing ! $ fjoin ! $ nothing ! $ fjoin ! $ keep ! (4 ∷ 0 ∷ 2 ∷ 1 ∷ []) $
    by ! (leaves 𝓛 En hs c z (both (vptr b o) h.0) (record { at = block_ptr b o; alloc = a; value = y }) (tt, (tt, tt)) (tt, (tt, tt)))))))))
