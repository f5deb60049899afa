-- The one argument of every call: the fields of an answer are stored, and the answer is what the definition says.
use Prim.Native.Nat.{ℕ}
use mathlib.Core.Path.{◌≡◌, ap, ◌∙◌}
use mathlib.Core.List.{List}
use Rattle.lists.specs.Places.{pasted}

pub stored : {A : Type 0} {answer told : A} {fields after : List ℕ} (fields_of : A → List ℕ) (before : List ℕ)
    → after ≡ pasted fields before → fields ≡ fields_of answer → answer ≡ told → after ≡ pasted (fields_of told) before
stored fields_of before put laid e = put ∙ ap (λ (x : List ℕ). pasted x before) (laid ∙ ap fields_of e)
