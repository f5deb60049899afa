-- The records whose fields a caller hands over one by one.
use Rattle.std.specs.Prelude.{ℕ}
use Rattle.queue.specs.declared.Run.{Run}
use Rattle.layers.specs.declared.LayersRun.{LayersRun}
use Rattle.mark.specs.declared.MarkRun.{MarkRun}

abbrev pub queue_run : (k a requests loads evictions : ℕ) → Run
queue_run k a requests loads evictions =
    record { k = k; a = a; requests = requests; loads = loads; evictions = evictions }

abbrev pub layers_run : (k a requests evictions s appends joins lifts : ℕ) → LayersRun
layers_run k a requests evictions s appends joins lifts =
    record { k = k; a = a; requests = requests; evictions = evictions; s = s; appends = appends; joins = joins; lifts = lifts }

-- the record of marking, with the layers' record in it
abbrev pub mark_run : (k a requests loads evictions t : ℕ) → LayersRun → MarkRun
mark_run k a requests loads evictions t layers =
    record { k = k; a = a; requests = requests; loads = loads; evictions = evictions; t = t; layers = layers }
