-- Where a line leads, as the reader of documents sees it.
--     place_of p         the place that a value of the reader is
--     is_head p          the place is at the head
--     IsNextOn p words r   where the form of a line with these words leads, or which fault the table gives
--     IsNext p words r   where a line with these words leads, or which fault it has
use Rattle.std.specs.Prelude.{◌≡◌, Bool, true, false, List, length}
use Rattle.std.specs.declared.option.Option.TheVariants.{Some}
use Rattle.std.specs.declared.result.Result.{Result}
use Rattle.std.specs.declared.result.Result.TheVariants.{Ok, Err}
use Rattle.grid_text.specs.Words.{Word}
use Rattle.grid_text.specs.Document.{Place, head, o_line, x_line, picture, body, ended, LeadsOn, Leads}
use Rattle.grid_text.specs.Faults.{fault_in_table, line_fault}
use Rattle.grid_text.specs.Inner.Reading.{IsPlace}
use Rattle.grid_text.specs.declared.faults.TextFault.{TextFault}
use Rattle.grid_text.specs.declared.places.Place.{Place as StoredPlace}
use Rattle.grid_text.specs.declared.places.Place.TheVariants as stored

abbrev pub place_of : StoredPlace → Place
place_of stored.Head = head
place_of (stored.OLine v n) = o_line v n
place_of (stored.XLine v o) = x_line v (length o) o
place_of (stored.Picture p) = picture p.size p.o.items p.x.items
place_of (stored.Body s) = body s
place_of (stored.Ended s) = ended s

abbrev pub is_head : Place → Bool
is_head head = true
is_head p = false

abbrev pub IsNextOn : Place → List Word → Result StoredPlace TextFault → Type 0
IsNextOn p words (Ok q) = LeadsOn p words (place_of q) × IsPlace (place_of q)
IsNextOn p words (Err f) = fault_in_table p words ≡ Some f

abbrev pub IsNext : Place → List Word → Result StoredPlace TextFault → Type 0
IsNext p words (Ok q) = Leads p words (place_of q) × IsPlace (place_of q)
IsNext p words (Err f) = line_fault p words ≡ Some f
