-- A text read whole.
use Rattle.std.specs.Prelude.{◌≡◌, ℕ, ◌<◌, List, length, Result, Ok, Err}
use Rattle.std.specs.Global.{Vec}
use Rattle.dc_device.specs.declared.whole.Unread.{Unread}
use Rattle.dc_device.specs.declared.whole.Unread.TheVariants.{Device, Memory, TooLong}

-- the whole text within its limit, or that it is longer; the two other failures may come with any text
abbrev pub ReadsWhole : List ℕ → ℕ → Result (Vec ℕ) Unread → Type 0
ReadsWhole text limit (Ok bytes) = bytes.items ≡ text
ReadsWhole text limit (Err TooLong) = limit < length text
ReadsWhole text limit (Err Device) = Unit {0}
ReadsWhole text limit (Err Memory) = Unit {0}

-- only a failure of the device is one of the source's
abbrev pub failed_in : {T : Type 0} → Result T Unread → ℕ
failed_in (Ok x) = 0
failed_in (Err Device) = 1
failed_in (Err Memory) = 0
failed_in (Err TooLong) = 0
