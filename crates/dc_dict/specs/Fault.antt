-- The numbers of the faults.
use Rattle.std.specs.Prelude.{ℕ}
use Rattle.dc_dict.specs.declared.fault.DictFault.{DictFault}
use Rattle.dc_dict.specs.declared.fault.DictFault.TheVariants.{Doubled, MinOverMax, Zero, NoTicks, Memory}

-- the number of a dictionary's fault: 1 to 5
abbrev pub code_of : DictFault → ℕ
code_of Doubled = 1
code_of MinOverMax = 2
code_of Zero = 3
code_of NoTicks = 4
code_of Memory = 5
