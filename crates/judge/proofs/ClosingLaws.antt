-- Laws behind the loop that closes requests.
use Prim.Native.Nat.{ℕ, zero, suc, ◌+◌, ◌-◌, ◌≤◌, ◌<◌}
use native.Mathlib.Omega.{arith}
use mathlib.Core.Bool.{true, false}
use mathlib.Core.List.{List, [], ◌∷◌, ◌++◌}
use mathlib.Core.Path.{◌≡◌, sym, ap, ◌∙◌}
use lib.Dec.{leb}
use lib.ListN.{length, length-append}
use borrow.Author.Tests.{leb-true}
use Rattle.lists.specs.Pages.{mem}
use Rattle.lists.proofs.Choice.{cases, tests}
use Rattle.paging.specs.Schedule.{with_page}
use Rattle.reading.specs.Files.{File, before}
use Rattle.cursor.specs.Cursor.{requests_left}
use Rattle.cursor.specs.declared.Rest.{Rest}
use Rattle.judging.specs.Judging.{overfull, closing}
use Rattle.judge.specs.inner.Fetches.{fetched_pages}
use Rattle.judge.proofs.FetchLaws.{length_fetched}

-- One request

close_next : (k left p : ℕ) (ps held : List ℕ) → 0 < left → leb (length (with_page p held)) k ≡ true
    → closing k left (p ∷ ps) held ≡ closing k (left - 1) ps (with_page p held)
close_next k zero p ps held h l = absurd (omega arith)
close_next k (suc left) p ps held h l = let e : suc left - 1 ≡ left = omega arith in rw (l, e)

close_over : (k left p : ℕ) (ps held : List ℕ) → 0 < left → leb (length (with_page p held)) k ≡ false → closing k left (p ∷ ps) held ≡ overfull
close_over k zero p ps held h l = absurd (omega arith)
close_over k (suc left) p ps held h l = rw l

-- The loop: what is left to close, from the cursor and the pages held, gives what the whole gives

pub record Closes (trace : List ℕ) (k : ℕ) (first : Rest) (count done : ℕ) (held₀ : List ℕ) (rest : Rest) (held : List ℕ) : Type 0 where
  pub started : 0 < rest.from
  pub room : length held ≤ k
  pub enough : count - done ≤ length (requests_left trace rest).held
  pub damage : (requests_left trace rest).damage ≡ (requests_left trace first).damage
  pub same : closing k (count - done) (requests_left trace rest).held held ≡ closing k count (requests_left trace first).held held₀

module _ (trace : List ℕ) (k : ℕ) (first : Rest) (count : ℕ) (held₀ : List ℕ) (rest : Rest) (held : List ℕ) where
  module _ (done page : ℕ) (next : Rest) (c : Closes trace k first count done held₀ rest held) (h : done < count)
      (e : requests_left trace rest ≡ before (page ∷ []) (requests_left trace next)) where
    pages : (requests_left trace rest).held ≡ page ∷ (requests_left trace next).held
    pages = ap (λ (f : File ℕ). f.held) e

    pub closes_next : (held' : List ℕ) → 0 < next.from → true ≡ leb (length (with_page page held)) k → held' ≡ with_page page held
        → Closes trace k first count (done + 1) held₀ next held'
    closes_next held' s l w =
        let d = c.enough in
        let size = ap length pages in
        let b : count - done - 1 ≡ count - (done + 1) = omega arith in
        record {
          started = s;
          room = rw w (leb-true _ _ (sym l));
          enough = omega arith;
          damage = sym (ap (λ (f : File ℕ). f.damage) e) ∙ c.damage;
          same = rw (w, ← b) (sym (close_next k (count - done) page (requests_left trace next).held held (omega arith) (sym l)) ∙ (rw pages at c.same));
        }

-- Where the open request's PFs alone are too many

longer : (p : ℕ) (held : List ℕ) → length held ≤ length (with_page p held)
longer p held = cases (mem p held) (λ m. rw m (omega arith)) (λ m. rw m (rw length-append (omega arith)))

pub too_many : (k count : ℕ) (trace held : List ℕ) → 0 < count → count ≤ length trace → k < length held → overfull ≡ closing k count trace held
too_many k zero trace held h e l = absurd (omega arith)
too_many k (suc count) [] held h e l = absurd (omega arith)
too_many k (suc count) (p ∷ ps) held h e l =
    let m = longer p held in
    let q : leb (length (with_page p held)) k ≡ false = omega tests in
    sym (close_over k (suc count) p ps held h q)

pub open_over : (schedule held : List ℕ) (from fetches k count : ℕ) (trace : List ℕ) → length held ≤ k → k - length held < fetches → 0 < count → count ≤ length trace
    → overfull ≡ closing k count trace (held ++ fetched_pages schedule from fetches)
open_over schedule held from fetches k count trace h l z e =
    let size : length (held ++ fetched_pages schedule from fetches) ≡ length held + fetches = simp (length-append, length_fetched) in
    too_many k count trace _ z e (omega arith)
