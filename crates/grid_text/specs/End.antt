-- Why a text has no script.
--     IsTextEnd text e     the text has the first fault that e names, at the line that it names; or e is that memory
--                          ran out, which may be so of any text
use Rattle.std.specs.Prelude.{ℕ, List}
use Rattle.grid_text.specs.Faults.{IsFirstFault}
use Rattle.grid_text.specs.declared.judgement.TextEnd.{TextEnd}
use Rattle.grid_text.specs.declared.judgement.TextEnd.TheVariants.{Refused, NoMemory}

abbrev pub IsTextEnd : List ℕ → TextEnd → Type 0
IsTextEnd text (Refused f line) = IsFirstFault text f line
IsTextEnd text NoMemory = Unit {0}
