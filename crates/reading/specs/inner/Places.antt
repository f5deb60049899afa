-- Both readers look at the offset alike; they differ only in x, which they answer before a record behind the KA.
use Rattle.std.specs.Prelude.{ℕ, List, Result, Ok, Err, eqb, ltb, length}
use Rattle.lists.specs.Choice.{pick}
use Rattle.paging.specs.Numbers.{number_of}
use Rattle.paging.specs.declared.reasons.Refusal.{Refusal}
use Rattle.records.specs.Marks.{mark_at}
use Rattle.reading.specs.Reading.{Answer, refused, ended, sizes, ka_read}
use Rattle.reading.specs.declared.Place.{Place}
use Rattle.reading.specs.declared.Place.TheVariants as place

abbrev pub read_at : List ℕ → ℕ → Answer → Answer
read_at s at x = pick (ltb (length s) at) (refused 9) (pick (eqb at 0) (ka_read (mark_at s) s) (pick (eqb at (length s)) ended x))

abbrev pub place_answer : Result Place Refusal → Answer → Answer
place_answer (Ok (place.Start found)) x = sizes found.k found.a 6
place_answer (Ok place.Inside) x = x
place_answer (Ok place.End) x = ended
place_answer (Err reason) x = refused (number_of reason)
