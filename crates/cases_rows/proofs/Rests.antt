-- The rest of a rest of a text.
use Rattle.std.proofs.Common.{ℕ, ◌+◌, ◌-◌, ◌≡◌, ◌∙◌, List, length, drop, ap, arith}
use Rattle.std.proofs.lemmas.List.{drop-drop}
use Rattle.cases_rows.specs.Rest.{IsRest}

pub rest_again : (last behind text : List ℕ) → IsRest last behind → IsRest behind text → IsRest last text
rest_again last behind text a b =
    let sum : length text - length behind + (length behind - length last) ≡ length text - length last = omega arith in
    record {
      within = omega arith;
      to_end = a.to_end
          ∙ ap (drop (length behind - length last)) b.to_end
          ∙ drop-drop (length behind - length last) (length text - length behind) text
          ∙ ap (λ (n : ℕ). drop n text) sum;
    }
