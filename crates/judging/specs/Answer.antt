-- The judge's answer, and the number that its caller receives for it (document 01: "the cost, or the refusal number made negative").
use Rattle.std.specs.Prelude.{ℕ, ℤ, pos, neg_ℤ}

pub data Answer : Type 0 where
  cost : (bundles : ℕ) → Answer
  refused : (number : ℕ) → Answer

abbrev pub answer_number : Answer → ℤ
answer_number (cost bundles) = pos bundles
answer_number (refused number) = neg_ℤ (pos number)
