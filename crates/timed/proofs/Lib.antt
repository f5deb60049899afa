mod Follow
mod JoiningLaws
mod Rising
mod LiftingLaws
mod Together
