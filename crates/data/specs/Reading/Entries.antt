-- A portion's entries as a list.
use Rattle.std.specs.Prelude.{Bool, false, List, ℕ, eqb, map}
use Rattle.language.specs.Data.{Entry, fixed, marked}
use Rattle.store.specs.Few.{items_of}
use Rattle.data.specs.declared.reading.entries.Entry.{Entry as Held}
use Rattle.data.specs.declared.reading.entries.Entry.TheVariants.{Fixed, Marked}
use Rattle.data.specs.declared.reading.entries.Entries.{Entries}

abbrev pub entry_of : Held → Entry
entry_of (Fixed k) = fixed k
entry_of (Marked i) = marked i

unfoldable pub entries_of : Entries → List Entry
entries_of e = map entry_of (items_of e.entries)

abbrev pub marks_index : ℕ → Entry → Bool
marks_index i (fixed k) = false
marks_index i (marked j) = eqb i j
