-- One pass over a trace: what it is handed, and where it stands.
use Rattle.std.specs.Prelude.{ℕ, ◌+◌, ◌≤◌, ◌<◌, List, [], ◌≡◌, length, take, drop}
use Rattle.lists.specs.Pages.{count}
use Rattle.paging.specs.Policy.{Kind, is_bundled, is_load}
use Rattle.paging.specs.Refusals.{SizesRight, largest_k, longest_trace}
use Rattle.wire.specs.Numbers.{placed}
use Rattle.records.specs.Bytes.{ev_length, entry_bytes, joined}
use Rattle.next_use.specs.Left.{lefts_of}
use Rattle.keys.specs.Keys.{kinds_of, bundle_of, bundles_of, Room}

-- sizes and a trace that are not refused, with a place for each request's left
pub record Accepted (k a : ℕ) (trace lefts : List ℕ) : Type 0 where
  pub sizes : SizesRight k a
  pub short : length trace ≤ longest_trace
  pub room : length trace ≤ length lefts

-- the same, with the lefts in their places
pub record PassReady (k a : ℕ) (trace lefts : List ℕ) : Type 0 where
  pub sizes : SizesRight k a
  pub short : length trace ≤ longest_trace
  pub filled : take (length trace) lefts ≡ lefts_of trace

-- before request t, with these keys
pub record Standing (k t : ℕ) (trace keys : List ℕ) : Type 0 where
  pub within : t ≤ length trace
  pub held : length keys ≤ k

-- before request t, with the bundles and loads so far: what is to come makes up the whole
pub record Counting (k a t bundles loads : ℕ) (trace keys : List ℕ) : Type 0 where
  pub stands : Standing k t trace keys
  pub bundled : bundles + count is_bundled (kinds_of k a (drop t trace) keys) ≡ count is_bundled (kinds_of k a trace [])
  pub loaded : loads + count is_load (kinds_of k a (drop t trace) keys) ≡ count is_load (kinds_of k a trace [])

-- Writing

-- an EV of the pages of a bundle's keys fits into the rest of the bytes
pub record EvRoom (bundle rest : List ℕ) : Type 0 where
  pub some : 0 < length bundle
  pub small : length bundle ≤ largest_k
  pub room : ev_length (length bundle) ≤ length rest

-- what a request of this kind writes fits from the offset on
pub record BundleRoom (kind : Kind) (a t at : ℕ) (keys out : List ℕ) : Type 0 where
  pub small : length keys ≤ largest_k
  pub asked : Room kind a largest_k keys
  pub early : t < longest_trace
  pub room : at + length (joined entry_bytes (bundle_of kind a t keys [])) ≤ length out

-- before request t, with `at` bytes written: what is to come, put behind them, makes the whole
pub record Writing (k a t at from : ℕ) (trace keys out₀ out : List ℕ) : Type 0 where
  pub stands : Standing k t trace keys
  pub room : at + length (joined entry_bytes (bundles_of k a t (drop t trace) keys)) ≤ length out
  pub same : length out ≡ length out₀
  pub whole : placed out at (joined entry_bytes (bundles_of k a t (drop t trace) keys))
      ≡ placed out₀ from (joined entry_bytes (bundles_of k a 0 trace []))
