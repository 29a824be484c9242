-- A handle may cross threads: what it owns says the same to every thread.
use base.Fraction.{full_share}
use base.Shift.{Keyless}
use mir.Raw.{raw}
use denote.Memory.{lone}
use denote.RattleType.{RattleType}
use denote.RawPtr.{Ptr, block_ptr, null_ptr}
use denote.Param.Send.{IsSend, part_keyless}
use Rattle.std.specs.Prelude.{Option, Some, None}
use Rattle.std.proofs.Crossing.{frees}
use Rattle.dc_embed.specs.Held.{held}
use Rattle.dc_engine.specs.contracts.engine.Engine as engine
use Rattle.dc_engine.proofs.engine.Engine.TheSendSync.{the_send as engine_send}
use Rattle.dc_embed.specs.contracts.handle.Handle.{the_row}

held_keyless : (R : RattleType) → IsSend R → (p : Ptr) (c : Option R.Denot) → Keyless (held R p c)
held_keyless R s p None = tt
held_keyless R s null_ptr (Some x) = (tt, frees.frees (record { memory = record { seal = tt } }) (raw (lone R.mir)) null_ptr)
held_keyless R s (block_ptr b o) (Some x) = (part_keyless R s full_share x b o, frees.frees (record { memory = record { seal = tt } }) (raw (lone R.mir)) (block_ptr b o))

pub send : IsSend the_row
send = record { owned = λ h vs. ((λ vss. (tt, (tt, tt))), held_keyless engine.the_row engine_send h.at h.engine); leaving = λ k d w. tt }
