-- What the inner functions of src/lib.rt ask of a record, so that its counters rise by one.
use Rattle.std.specs.Prelude.{◌≤◌, ◌<◌}
use Rattle.paging.specs.Refusals.{full_counter}
use Rattle.layers.specs.declared.LayersRun.{LayersRun}

pub record CountersFit (run : LayersRun) : Type 0 where
  pub more : run.requests < full_counter
  pub evictions_low : run.evictions ≤ run.requests
  pub appends_low : run.appends ≤ run.requests
  pub joins_low : run.joins ≤ run.requests
  pub lifts_low : run.lifts ≤ run.requests
