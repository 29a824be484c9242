-- What a handle owns.
use Rattle.std.specs.Prelude.{Option, Some, None, Bool, true, false}
use base.Fml.{Fml, ftrue}
use denote.RattleType.{RattleType}
use denote.RawPtr.{Ptr}
use mir.Syntax.{Ty}
use Rattle.std.specs.contracts.impls.GlobalAllocator.TheImpl.{ghosts}
use Rattle.std.specs.Box.Ownership.{box_owns}

-- the right to free a block of the heap
abbrev pub chunk : Ty → Ptr → Fml
chunk = ghosts.dealloc_token (record { memory = record { seal = tt } })

-- nothing of a closed handle; of an open one its block, with the value in it
abbrev pub held : (R : RattleType) → Ptr → Option R.Denot → Fml
held R p None = ftrue
held R p (Some x) = box_owns chunk R p x

-- whether a handle is open
abbrev pub has : {A : Type 0} → Option A → Bool
has None = false
has (Some _) = true
