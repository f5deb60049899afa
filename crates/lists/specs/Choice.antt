-- Choosing by a test, and joining tests.
use Rattle.std.specs.Prelude.{Bool, true, false}

-- the first where the test holds, else the second
abbrev pub pick {ℓ} : {A : Type ℓ} → Bool → A → A → A
pick true x y = x
pick false x y = y

infixr 35 ◌and◌
unfoldable pub ◌and◌ : Bool → Bool → Bool
true and y = y
false and y = false

infixr 30 ◌or◌
unfoldable pub ◌or◌ : Bool → Bool → Bool
true or y = true
false or y = y
