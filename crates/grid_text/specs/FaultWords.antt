-- The words for faults.
--     fault_word f    the word for a fault in a refusal: its name
use Rattle.std.specs.Prelude.{codes}
use Rattle.grid_text.specs.Words.{Word}
use Rattle.grid_text.specs.declared.faults.TextFault.{TextFault}
use Rattle.grid_text.specs.declared.faults.TextFault.TheVariants as fault

abbrev pub fault_word : TextFault → Word
fault_word fault.BadWord = codes "BadWord"
fault_word fault.BadCount = codes "BadCount"
fault_word fault.BadChoice = codes "BadChoice"
fault_word fault.BadNumber = codes "BadNumber"
fault_word fault.NotPermutation = codes "NotPermutation"
fault_word fault.SameSquare = codes "SameSquare"
fault_word fault.BadState = codes "BadState"
fault_word fault.RepeatedState = codes "RepeatedState"
fault_word fault.NotCommuting = codes "NotCommuting"
fault_word fault.NotBlock = codes "NotBlock"
fault_word fault.SizeLimit = codes "SizeLimit"
fault_word fault.TooMany = codes "TooMany"
fault_word fault.NoEnd = codes "NoEnd"
fault_word fault.AfterEnd = codes "AfterEnd"
